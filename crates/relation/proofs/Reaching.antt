-- The sets of rows that are reached when nothing grows any more are what the rows offer. Assumes nothing.
use Rattle.std.proofs.Common.{◌≡◌, ℕ, ◌+◌, ◌-◌, ◌*◌, ◌<◌, ◌≤◌, Bool, true, false, ◌||◌, eqb, List, length, replicate, Some, Decides, sym, ◌∙◌, subst, inl, inr, ⊎_elim, arith}
use lib.ListN.{length-replicate}
use Rattle.std.specs.List.{slice_get}
use Rattle.std.proofs.lemmas.Bool.{cases_lt, both_ways, or_cases, or_left, or_right, eqb-true, eq-eqb}
use Rattle.sets.specs.Sets.{member, tally, word, top}
use Rattle.sets.proofs.Membership.{zeros_none}
use Rattle.sets.proofs.Tallies.{tally_le}
use Rattle.forms.specs.Limits.{max_rows}
use Rattle.forms.specs.declared.Row.{Row}
use Rattle.forms.specs.Schema.{Offers, NoUnion}
use Rattle.forms.specs.Schema.Offers.{itself, left, right}
use Rattle.forms.proofs.Findings.{nth_below}
use Rattle.relation.specs.Cells.{cell, Sound, HoldsLeaves, Spread}

less_left : (n a b : ℕ) → a < b → b ≤ n → n - b < n - a
less_left n a b h k = omega arith

module _ (rows : List Row) where
  -- the rows before i that are no unions are in their own sets
  pub record Leafing (cells : List ℕ) (i : ℕ) : Type 0 where
    pub room : word * length cells ≡ max_rows * max_rows
    pub sound : Sound rows cells
    pub leaves : (p : ℕ) (row : Row) → p < i → slice_get rows p ≡ Some row → NoUnion row → cell cells p p ≡ true

  pub leafing_none : (n : ℕ) → word * n ≡ max_rows * max_rows → Leafing (replicate n 0) 0
  leafing_none n e = record {
    room = omega (arith, length-replicate {A = ℕ} n 0);
    sound = λ p o p< o< h. absurd (both_ways _ (zeros_none n (p * max_rows + o)) h);
    leaves = λ p row h. absurd (omega arith);
  }

  module _ (cells : List ℕ) (i : ℕ) (few : i < max_rows) (l : Leafing cells i) (here : Row) (is : slice_get rows i ≡ Some here) where
    pub leafing_past : (NoUnion here → ⊥) → Leafing cells (i + 1)
    leafing_past union = record {
      room = l.room;
      sound = l.sound;
      leaves = λ p row h e nu. ⊎_elim
          (λ below. l.leaves p row below e nu)
          (λ above. let same : p ≡ i = omega arith in let e' = subst (λ z. slice_get rows z ≡ Some row) same e in let r : row ≡ here = cc in absurd (union (subst NoUnion r nu)))
          (cases_lt p i);
    }

    pub leafing_more : NoUnion here → (new : List ℕ) → length new ≡ length cells →
        (i * max_rows + i < word * length cells → i * max_rows + i < top → (j : ℕ) → member new j ≡ (eqb j (i * max_rows + i) || member cells j)) → Leafing new (i + 1)
    leafing_more nu new len put =
        let room = l.room in
        let put_is = put (omega arith) (omega arith) in
        record {
          room = omega arith;
          sound = λ p o p< o< h. ⊎_elim
              (λ e. let at = eqb-true (p * max_rows + o) (i * max_rows + i) e in let p-is : p ≡ i = omega arith in let o_is : o ≡ i = omega arith in rw (p-is, o_is) (itself is nu))
              (l.sound p o p< o<)
              (or_cases (eqb (p * max_rows + o) (i * max_rows + i)) (cell cells p o) (sym (put_is (p * max_rows + o)) ∙ h));
          leaves = λ p row h e n. put_is (p * max_rows + p) ∙ ⊎_elim
              (λ below. or_right (eqb (p * max_rows + p) (i * max_rows + i)) (cell cells p p) (l.leaves p row below e n))
              (λ above. let same : p ≡ i = omega arith in or_left (eqb (p * max_rows + p) (i * max_rows + i)) (cell cells p p) (eq-eqb (p * max_rows + p) (i * max_rows + i) (omega arith)))
              (cases_lt p i);
        }

  pub leafing_all : (cells : List ℕ) (i : ℕ) → length rows ≤ i → Leafing cells i → HoldsLeaves rows cells
  leafing_all cells i all l p row e nu = l.leaves p row (let h = nth_below rows p e in omega arith) e nu

  -- between two rounds
  pub record Reaching (cells : List ℕ) : Type 0 where
    pub room : word * length cells ≡ max_rows * max_rows
    pub sound : Sound rows cells
    pub leaves : HoldsLeaves rows cells

  pub unreached : List ℕ → ℕ
  unreached cells = word * length cells - tally (member cells) (word * length cells)

  module _ (old new : List ℕ) (grown : Bool) (r : Reaching old) (len : length new ≡ length old) (s : Spread rows old new grown) where
    pub reaching_more : Reaching new
    reaching_more = let room = r.room in record {
      room = omega arith;
      sound = s.sound r.sound;
      leaves = λ p row e nu. s.growth.more (p * max_rows + p) (r.leaves p row e nu);
    }

    pub reaching_less : grown ≡ true → unreached new < unreached old
    unfolding unreached
    reaching_less e =
        subst (λ m. word * m - tally (member new) (word * m) < word * length old - tally (member old) (word * length old)) (sym len)
        (less_left (word * length old) (tally (member old) (word * length old)) (tally (member new) (word * length old)) (s.growth.grows e) (tally_le (member new) (word * length old)))

    pub reaching_all : length rows ≤ max_rows → grown ≡ false → (p o : ℕ) → p < max_rows → o < max_rows → Decides (cell new p o) (Offers rows p o)
    reaching_all few e p o p< o< = (reaching_more.sound p o p< o<, complete p o o<)
      where
        complete : (p o : ℕ) → o < max_rows → Offers rows p o → cell new p o ≡ true
        complete p o o< (itself {row} is nu) = reaching_more.leaves p row is nu
        complete p o o< (left {l} {r} is h) = s.settled e p (nth_below rows p is) l r is o o< (inl (complete l o o< h))
        complete p o o< (right {l} {r} is h) = s.settled e p (nth_below rows p is) l r is o o< (inr (complete r o o< h))
