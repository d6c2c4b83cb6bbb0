-- Where a row of a joined or a turned table comes from. Assumes nothing.
use Rattle.std.proofs.Common.{◌≡◌, ℕ, ◌+◌, ◌-◌, ◌<◌, ◌≤◌, leb, List, [], map, length, get_or, Some, None, Option, sym, ap, ◌∙◌, ⊎_elim, arith}
use lib.ListN.{length-map}
use Rattle.std.specs.List.{slice_get}
use Rattle.std.proofs.lemmas.Bool.{cases_lt, cond-true, le-leb}
use Rattle.std.specs.Option.{option_map}
use Rattle.std.proofs.lemmas.Option.{slice_get-get_or, slice_get_past, slice_get_within, get_or_from_slice_get, slice_get-map}
use Rattle.forms.specs.declared.Row.{Row}
use Rattle.forms.specs.declared.Row.TheVariants.{Void}
use Rattle.forms.specs.Limits.{max_rows}
use Rattle.forms.specs.Rows.{sides, joined, shift, turn}
use Rattle.forms.specs.Laws.{length_sides}
use Rattle.forms.proofs.Findings.{never, nth_left, nth_right}

pub some_nth : (rows : List Row) (k : ℕ) (r : Row) → Some r ≡ slice_get rows k → (k < length rows) × (r ≡ get_or rows k Void)
some_nth rows k r e = (slice_get_within rows k r (sym e), sym (get_or_from_slice_get rows k r Void (sym e)))

pub row_there : (rows : List Row) (k : ℕ) (o : Option Row) → k < length rows → o ≡ slice_get rows k → o ≡ Some (get_or rows k Void)
row_there rows k o lt e = e ∙ slice_get-get_or rows k Void lt

pub none_nth : (rows : List Row) (k : ℕ) → None ≡ slice_get rows k → length rows ≤ k
none_nth rows k e = ⊎_elim
    (λ lt. let w : None ≡ Some (get_or rows k Void) = e ∙ slice_get-get_or rows k Void lt in never (cc))
    (λ le. le)
    (cases_lt k (length rows))

pub joined_fits : (a b : List Row) → length a + length b ≤ max_rows → joined a b ≡ sides a b
joined_fits a b h = cond-true (leb (length a + length b) max_rows) (sides a b) [] (le-leb (length a + length b) max_rows h)

pub length_joined : (a b : List Row) → length a + length b ≤ max_rows → length (joined a b) ≡ length a + length b
length_joined a b h = ap length (joined_fits a b h) ∙ length_sides a b

-- a row of a table whose rows were changed one by one
from_mapped : (f : Row → Row) (rows : List Row) (k : ℕ) (r : Row) → Some r ≡ slice_get rows k → slice_get (map f rows) k ≡ Some (f r)
from_mapped f rows k r e = slice_get-map f rows k ∙ ap (option_map f) (sym e)

-- the answers of a joined table, by those of its sides
module _ (a b : List Row) (k : ℕ) (h : length a + length b ≤ max_rows) where
  abbrev f : Row → Row
  f = shift 0 (length a)

  abbrev g : Row → Row
  g = shift (length a) (length b)

  there : {o : Option Row} → slice_get (sides a b) k ≡ o → o ≡ slice_get (joined a b) k
  there e = sym (ap (λ t. slice_get t k) (joined_fits a b h) ∙ e)

  pub from_first : (r : Row) → Some r ≡ slice_get a k → Some (shift 0 (length a) r) ≡ slice_get (joined a b) k
  from_first r e = there (nth_left (map f a) (map g b) k (from_mapped f a k r e))

  pub from_second : (r : Row) → length a ≤ k → Some r ≡ slice_get b (k - length a) → Some (shift (length a) (length b) r) ≡ slice_get (joined a b) k
  from_second r le e =
      let place : k ≡ length (map f a) + (k - length a) = omega (arith, length-map a f) in
      there (ap (slice_get (sides a b)) place ∙ nth_right (map f a) (map g b) (k - length a) ∙ from_mapped g b (k - length a) r e)

  pub from_neither : length a ≤ k → None ≡ slice_get b (k - length a) → None ≡ slice_get (joined a b) k
  from_neither le e = let past = none_nth b (k - length a) e in sym (slice_get_past (joined a b) k (omega (arith, length_joined a b h)))

pub from_turned : (a : List Row) (k : ℕ) (r : Row) → Some r ≡ slice_get a k → Some (turn r) ≡ slice_get (map turn a) k
from_turned a k r e = sym (from_mapped turn a k r e)
