-- The set of one row, as part of the sets of all rows, and going through its members. Assumes nothing.
use Rattle.std.proofs.Common.{◌≡◌, ℕ, ◌+◌, ◌-◌, ◌*◌, ◌/◌, ◌%◌, ◌<◌, ◌≤◌, Bool, true, false, ◌&&◌, ltb, ◌⊎◌, List, length, take, drop, sym, ap, ◌∙◌, inl, inr, ⊎_elim, mul_left_comm, arith, length-drop, length-take, get_or-drop, get_or-take, Option, Some, None, Bor, refl}
use Rattle.std.specs.Slice.{IsGetRangeResult}
use Rattle.std.proofs.lemmas.Bool.{cases_lt, lt-ltb, le-ltb, and_left, and_parts, ltb-true, both_ways}
use Rattle.sets.specs.Sets.{bit, member, word}
use Rattle.sets.proofs.Membership.{member_at, member_past}
use Rattle.forms.specs.Limits.{max_rows, numbers}
use Rattle.relation.specs.Cells.{cell}
use Rattle.verdicts.specs.Ready.{in_row}
use Rattle.verdicts.specs.RowSets.{WordsOf}

module _ (cells : List ℕ) (p : ℕ) where
  pub in_row_low : (o : ℕ) → o < max_rows → in_row cells p o ≡ cell cells p o
  in_row_low o h = ap (λ b. b && cell cells p o) (lt-ltb o max_rows h)

  pub in_row_past : (o : ℕ) → max_rows ≤ o → in_row cells p o ≡ false
  in_row_past o h = and_left (ltb o max_rows) (cell cells p o) (le-ltb o max_rows h)

  pub in_row_below : (o : ℕ) → in_row cells p o ≡ true → (o < max_rows) × (cell cells p o ≡ true)
  in_row_below o e = let (a, b) = and_parts (ltb o max_rows) (cell cells p o) e in (ltb-true o max_rows a, b)

  -- the words of row p start at p w
  words_of : (w : ℕ) → word * w ≡ max_rows → p * max_rows ≡ word * (p * w)
  words_of w room = ap (λ m. p * m) (sym room) ∙ mul_left_comm p word w

  -- where there are no words for row p, its set is empty
  pub in_row_none : (w j : ℕ) → word * w ≡ max_rows → length cells ≤ p * w → in_row cells p j ≡ false
  in_row_none w j e h = ⊎_elim
      (λ low. let m = words_of w e in in_row_low j low ∙ member_past cells (p * max_rows + j) (omega arith))
      (in_row_past j)
      (cases_lt j max_rows)

  module _ (w a b : ℕ) (room : word * w ≡ max_rows) (start : a ≡ p * w) (end : b ≡ a + w) (inside : b ≤ length cells) (small : p < numbers) where
    abbrev part : List ℕ
    part = take (b - a) (drop a cells)

    pub row_part : (o : ℕ) → member part o ≡ in_row cells p o
    row_part o = ⊎_elim
        (λ low. let m = words_of w room in
        member_at part (o / word) (o % word) o (omega arith) (omega arith) (omega arith)
        ∙ ap (λ x. bit x (o % word)) (get_or-take (b - a) (drop a cells) (o / word) 0 (omega arith) ∙ get_or-drop a cells (o / word) 0)
        ∙ sym (in_row_low o low ∙ member_at cells (a + o / word) (o % word) (p * max_rows + o) (omega arith) (omega arith) (omega arith)))
        (λ past. member_past part o (omega (arith, length-take (b - a) (drop a cells), length-drop a cells)) ∙ sym (in_row_past o past))
        (cases_lt o max_rows)

-- the words of row p, or none where there are none for it
pub words_found : (cells : List ℕ) (p : ℕ) → p < numbers → (r : Option (Bor (List ℕ))) → IsGetRangeResult cells (p * (max_rows / word)) (p * (max_rows / word) + max_rows / word) r → WordsOf (in_row cells p) r
words_found cells p small None (out, _) = λ o. in_row_none cells p (max_rows / word) o refl (⊎_elim (λ h. absurd (omega arith)) (λ h. omega arith) out)
words_found cells p small (Some words) (found, _) = λ o.
    let (_, inside, is, _) = found in
    let same = ap (λ ws. member ws o) is ∙ row_part cells p (max_rows / word) (p * (max_rows / word)) (p * (max_rows / word) + max_rows / word) refl refl refl inside small o in
    (same, λ on. (in_row_below cells p o on).0)

module _ (f : ℕ → Bool) where
  abbrev pub Found : ℕ → ℕ → Type 0
  Found from o = (from ≤ o) × (f o ≡ true) × ((j : ℕ) → from ≤ j → j < o → f j ≡ false)

  abbrev pub Missing : ℕ → Type 0
  Missing from = (j : ℕ) → from ≤ j → f j ≡ false

  -- a member before the place behind the one that was found is before the start, or is that one
  pub walk_split : (from o : ℕ) → Found from o → (e : ℕ) → e < o + 1 → f e ≡ true → (e < from) ⊎ (e ≡ o)
  walk_split from o (_, _, skip) e h m = ⊎_elim inl
      (λ ge. ⊎_elim (λ less. absurd (both_ways (f e) (skip e ge less) m)) (λ up. inr (omega arith)) (cases_lt e o))
      (cases_lt e from)

  pub walk_end : (from : ℕ) → Missing from → (e : ℕ) → f e ≡ true → e < from
  walk_end from none e m = ⊎_elim (λ h. h) (λ ge. absurd (both_ways (f e) (none e ge) m)) (cases_lt e from)
