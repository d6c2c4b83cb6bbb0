-- Rows with numbers outside, and why there is one fault at most. Assumes nothing.
use Rattle.std.proofs.Common.{◌≡◌, ℕ, ◌<◌, List, [], ◌∷◌, length, Some, Ok, Err, Result, refl, ap, inl, inr, ⊎_elim, arith}
use Rattle.std.specs.List.{slice_get}
use Rattle.forms.specs.Places.{Nowhere}
use Rattle.forms.specs.Refusals.{Refusal}
use Rattle.forms.specs.Refusals.Refusal.{refusal}
use Rattle.forms.specs.Rows.{NumbersBelow}
use Rattle.forms.specs.declared.Row.{Row}
use Rattle.forms.specs.declared.Row.TheVariants.{Void, Nothing, Channel, Element, Union}
use Rattle.relation.specs.declared.AdmissionFault.{AdmissionFault}
use Rattle.relation.specs.declared.analysis.Analysis.{Analysis}
use Rattle.relation.specs.Admission.{Outside, SharesLabel, Admitted, Finds, AdmittedOrOneFault}
use Rattle.relation.specs.Admission.Finds.{no_rows, number_outside, label_twice}
use Rattle.relation.specs.Faults.{admission_refusal}
use Rattle.relation.specs.Judged.{Judged}
use Rattle.forms.proofs.Findings.{Decided, nth_below, lowest_one, both_or_not, below_or_not}
use Rattle.relation.proofs.Offered.{offering_below}

pub outside_below : (rows : List Row) (p : ℕ) → Outside rows p → p < length rows
outside_below rows p (row, is, _) = nth_below rows p is

pub sharing_below : (rows : List Row) (p : ℕ) → SharesLabel rows p → p < length rows
sharing_below rows p h = offering_below rows h.first.offered

pub inside_or_not : (n : ℕ) (row : Row) → Decided (NumbersBelow n row)
inside_or_not n Void = inl tt
inside_or_not n Nothing = inl tt
inside_or_not n (Channel k s) = below_or_not s n
inside_or_not n (Element l i f) = both_or_not (below_or_not i n) (below_or_not f n)
inside_or_not n (Union l r) = both_or_not (below_or_not l n) (below_or_not r n)

module _ (rows : List Row) where
  -- in a table without rows with numbers outside, all numbers are inside
  pub all_inside : Nowhere (Outside rows) → (p : ℕ) (row : Row) → slice_get rows p ≡ Some row → NumbersBelow (length rows) row
  all_inside none p row is = ⊎_elim (λ i. i) (λ out. absurd (none p (row, is, out))) (inside_or_not (length rows) row)

  pub one_fault : (e f : Refusal) → Finds rows e → Finds rows f → f ≡ e
  one_fault e f (no_rows z) (no_rows y) = refl
  one_fault e f (no_rows z) (number_outside {p} (out, _)) = let h = outside_below rows p out in absurd (omega arith)
  one_fault e f (no_rows z) (label_twice {p} _ (twice, _)) = let h = sharing_below rows p twice in absurd (omega arith)
  one_fault e f (number_outside {p} (out, _)) (no_rows z) = let h = outside_below rows p out in absurd (omega arith)
  one_fault e f (number_outside {p} a) (number_outside {p = q} b) = ap (λ x. refusal 12 (x ∷ [])) (lowest_one (Outside rows) q p b a)
  one_fault e f (number_outside {p} (out, _)) (label_twice none _) = absurd (none p out)
  one_fault e f (label_twice {p} _ (twice, _)) (no_rows z) = let h = sharing_below rows p twice in absurd (omega arith)
  one_fault e f (label_twice none _) (number_outside {p} (out, _)) = absurd (none p out)
  one_fault e f (label_twice {p} _ a) (label_twice {p = q} _ b) = ap (λ x. refusal 13 (x ∷ [])) (lowest_one (SharesLabel rows) q p b a)

  pub no_fault : Admitted rows → (e : Refusal) → Finds rows e → ⊥
  no_fault a e (no_rows z) = let h = a.some in omega arith
  no_fault a e (number_outside {p} ((row, is, out), _)) = out (a.within p row is)
  no_fault a e (label_twice {p} _ (twice, _)) = a.determined p twice

  pub judged_once : (r : Result Analysis AdmissionFault) → Judged rows r → AdmittedOrOneFault rows
  judged_once (Ok a) (admitted, _) = inl (admitted, no_fault admitted)
  judged_once (Err e) found = inr (λ admitted. no_fault admitted (admission_refusal e) found, (admission_refusal e, found, λ f other. one_fault (admission_refusal e) f found other))
