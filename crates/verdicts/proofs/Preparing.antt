-- That the sets of a prepared table are what they are meant to be. Assumes nothing.
use Rattle.std.proofs.Common.{◌≡◌, ℕ, ◌+◌, ◌*◌, ◌/◌, ◌%◌, ◌<◌, ◌≤◌, Bool, true, ◌&&◌, ltb, List, length, get_or, Decides, Option, sym, ap, ◌∙◌, arith}
use Rattle.std.specs.List.{slice_get}
use Rattle.std.proofs.lemmas.Nat.{div-mul-add, mod-mul-add}
use Rattle.std.proofs.lemmas.Bool.{and_parts, and_from, lt-ltb, ltb-true}
use Rattle.sets.specs.Sets.{member}
use Rattle.forms.specs.Limits.{max_rows}
use Rattle.forms.specs.declared.Row.{Row}
use Rattle.relation.specs.Admission.{Admitted}
use Rattle.relation.specs.Cells.{cell}
use Rattle.relation.specs.Judged.{Analyzed}
use Rattle.relation.specs.declared.analysis.Analysis.{Analysis}
use Rattle.relation.proofs.Offered.{offered_below, offering_below}
use Rattle.verdicts.specs.Kinds.{void_row, channel_row, element_row}
use Rattle.verdicts.proofs.Sorts.{void_tells, channel_tells, element_tells}
use Rattle.forms.specs.Schema.{IsChannel}
use Rattle.verdicts.specs.Ready.{in_row, IsVoid, IsElement, Sorted, Ready, Labelling}
use Rattle.verdicts.specs.Sorting.{of_sort, picked}
use Rattle.verdicts.proofs.Walks.{in_row_below}

-- what the rows offer, and is among the inhabited rows of a sort, is what is picked
pub picked_among : (rows : List Row) (a : Analysis) (test : Option Row → Bool) (offered sort left : List ℕ) → offered ≡ a.offered
    → ((o : ℕ) → member sort o ≡ (ltb o max_rows && of_sort rows a test o))
    → ((k : ℕ) → member left k ≡ (ltb k (max_rows * max_rows) && (member offered k && member sort (k % max_rows))))
    → (k : ℕ) → member left k ≡ (ltb k (max_rows * max_rows) && picked rows a test (k / max_rows) (k % max_rows))
picked_among rows a test offered sort left same is among k =
    among k
    ∙ ap (λ b. ltb k (max_rows * max_rows) && b) (ap (λ ws. member ws k && member sort o) same
    ∙ ap (λ b. member a.offered k && b) (is o)
    ∙ ap (λ b. member a.offered k && (b && of_sort rows a test o)) low
    ∙ ap (λ j. member a.offered j && of_sort rows a test o) place
    ∙ sym (ap (λ b. (b && cell a.offered (k / max_rows) o) && of_sort rows a test o) low))
  where
    o : ℕ
    o = k % max_rows

    low : ltb o max_rows ≡ true
    low = lt-ltb o max_rows (omega arith)

    place : k ≡ k / max_rows * max_rows + o
    place = omega arith

module _ (rows : List Row) (few : length rows ≤ max_rows) (a : Analysis) (analyzed : Analyzed rows a) where
  abbrev Picks : (Option Row → Bool) → List ℕ → Type 0
  Picks test cells = (k : ℕ) → member cells k ≡ (ltb k (max_rows * max_rows) && picked rows a test (k / max_rows) (k % max_rows))

  sorted : (test : Option Row → Bool) (Sort : ℕ → Type 0) → ((o : ℕ) → Decides (test (slice_get rows o)) (Sort o)) → (cells : List ℕ) → Picks test cells → Sorted rows Sort cells
  sorted test Sort tells cells picks p o = (
    λ h.
        let (low, there) = in_row_below cells p o h in
        let (inside, here) = and_parts _ _ (sym (cell_is low) ∙ there) in
        let (off, more) = and_parts (ltb o max_rows && cell a.offered p o) _ here in
        let (inh, of) = and_parts (member a.inhabited o) _ more in
        let p< : p < max_rows = narrow low (ltb-true _ _ inside) in
        ((analyzed.offers p o p< low).0 (and_parts (ltb o max_rows) _ off).1, (analyzed.inhabited o).0 inh, (tells o).0 of),
    λ (offers, inh, of).
        let p< : p < max_rows = omega (arith, offering_below rows offers) in
        let low : o < max_rows = omega (arith, offered_below rows offers) in
        and_from _ _ (lt-ltb o max_rows low) (cell_is low ∙ and_from _ _ (lt-ltb _ _ (omega arith))
        (and_from _ _ (and_from _ _ (lt-ltb o max_rows low) ((analyzed.offers p o p< low).1 offers)) (and_from _ _ ((analyzed.inhabited o).1 inh) ((tells o).1 of)))),
  )
    where
      cell_is : o < max_rows → cell cells p o ≡ (ltb (p * max_rows + o) (max_rows * max_rows) && picked rows a test p o)
      cell_is low =
          picks (p * max_rows + o)
          ∙ ap (λ x. ltb (p * max_rows + o) (max_rows * max_rows) && picked rows a test x ((p * max_rows + o) % max_rows)) (div-mul-add p max_rows o low)
          ∙ ap (λ x. ltb (p * max_rows + o) (max_rows * max_rows) && picked rows a test p x) (mod-mul-add p max_rows o low)

      narrow : o < max_rows → p * max_rows + o < max_rows * max_rows → p < max_rows
      narrow low h = omega arith

  pub made_ready : Admitted rows → (voids channels elements labels : List ℕ) → Picks void_row voids → Picks channel_row channels → Picks element_row elements →
      ((p : ℕ) → p < max_rows → Labelling rows (in_row elements p) (get_or labels p 0)) → Ready rows voids channels elements labels
  made_ready admitted voids channels elements labels v c e l =
      record {
        admitted = admitted;
        empties = sorted void_row (IsVoid rows) (void_tells rows) voids v;
        addresses = sorted channel_row (IsChannel rows) (channel_tells rows) channels c;
        parts = sorted element_row (IsElement rows) (element_tells rows) elements e;
        given = l;
      }
