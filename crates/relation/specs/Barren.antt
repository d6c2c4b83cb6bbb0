-- The rule of the rows that no document fits, and that it is lawful. Assumes nothing.
use Rattle.std.specs.Prelude.{◌≡◌, ℕ, Bool, true, false, not, ◌&&◌, ◌||◌, List, length, Some, None, Option, ◌==◌, nat_lt}
use Rattle.std.proofs.Common.{⊎_elim}
use Rattle.std.specs.List.{slice_get}
use Rattle.std.proofs.lemmas.Bool.{and_parts, and_from, or_cases, or_left, or_right}
use Rattle.forms.specs.declared.Row.{Row}
use Rattle.forms.specs.declared.Row.TheVariants.{Void, Nothing, Channel, Element, Union}
use Rattle.narrowing.specs.Narrowing.{Within, Lawful}

-- k is the number of no row of n, or is taken to be barren
abbrev pub lacks : ℕ → (ℕ → Bool) → ℕ → Bool
lacks n S k = not (nat_lt k n) || S k

-- no document fits the row, if none fits the rows in S
abbrev pub barren_row : ℕ → (ℕ → Bool) → Row → Bool
barren_row n S Void = false
barren_row n S Nothing = true
barren_row n S (Channel k s) = false
barren_row n S (Element l i f) = l == 0 || (lacks n S i || lacks n S f)
barren_row n S (Union l r) = lacks n S l && lacks n S r

abbrev pub barren_at : ℕ → (ℕ → Bool) → Option Row → Bool
barren_at n S None = true
barren_at n S (Some row) = barren_row n S row

abbrev pub barren : List Row → (ℕ → Bool) → ℕ → Bool
barren rows S p = barren_at (length rows) S (slice_get rows p)

module _ (n : ℕ) (S T : ℕ → Bool) (within : Within S T) where
  lacks_more : (k : ℕ) → lacks n S k ≡ true → lacks n T k ≡ true
  lacks_more k h = ⊎_elim (λ out. or_left (not (nat_lt k n)) (T k) out) (λ e. or_right (not (nat_lt k n)) (T k) (within k e)) (or_cases (not (nat_lt k n)) (S k) h)

  row_more : (row : Row) → barren_row n S row ≡ true → barren_row n T row ≡ true
  row_more Void h = h
  row_more Nothing h = h
  row_more (Channel k s) h = h
  row_more (Element l i f) h = ⊎_elim
      (or_left (l == 0) (lacks n T i || lacks n T f))
      (λ more. or_right (l == 0) (lacks n T i || lacks n T f) (⊎_elim
      (λ e. or_left (lacks n T i) (lacks n T f) (lacks_more i e))
      (λ e. or_right (lacks n T i) (lacks n T f) (lacks_more f e))
      (or_cases (lacks n S i) (lacks n S f) more)))
      (or_cases (l == 0) (lacks n S i || lacks n S f) h)
  row_more (Union l r) h = let (a, b) = and_parts (lacks n S l) (lacks n S r) h in and_from (lacks n T l) (lacks n T r) (lacks_more l a) (lacks_more r b)

  at_more : (o : Option Row) → barren_at n S o ≡ true → barren_at n T o ≡ true
  at_more None h = h
  at_more (Some row) h = row_more row h

pub barren_lawful : (rows : List Row) → Lawful (barren rows)
barren_lawful rows S T within p h = at_more (length rows) S T within (slice_get rows p) h
