-- Writing has one outcome, and writing and reading undo each other.
use Rattle.std.proofs.Common.{◌≡◌, ℕ, zero, suc, ◌≤◌, List, [], ◌∷◌, length, sym, refl, ap, subst, inl, ⊎_elim, arith}
use Rattle.std.specs.List.{AllByRecursion}
use Rattle.std.proofs.lemmas.Bool.{cases_lt}
use Rattle.forms.specs.declared.Row.{Row}
use Rattle.forms.specs.declared.Row.TheVariants.{Void, Nothing, Channel, Element, Union}
use Rattle.forms.specs.Limits.{max_rows}
use Rattle.forms.specs.Places.{Nowhere}
use Rattle.forms.specs.Refusals.{Outcome}
use Rattle.forms.specs.Refusals.Outcome.{refuses, gives}
use Rattle.forms.specs.Rows.{NumbersBelow, Labelled}
use Rattle.texts.specs.declared.RowsFault.TheVariants.{NumberOver as number_over, NoRoom}
use Rattle.texts.specs.Faults.{rows_refusal}
use Rattle.texts.specs.RowText.{spelled, Proper}
use Rattle.texts.specs.Writing.{NumberOver, WritesRows, WritingRowsIsOne, WrittenRowsAreRight, RightRowsAreWritten}
use Rattle.texts.specs.Writing.WritesRows.{is_over, is_long, is_written}
use Rattle.forms.proofs.Findings.{never, Decided, both_or_not, below_or_not, lowest_one, faulty}
use Rattle.texts.proofs.Judging.{right_is_spelled}

pub numbered_or_not : (r : Row) → Decided (NumbersBelow max_rows r)
numbered_or_not Void = inl tt
numbered_or_not Nothing = inl tt
numbered_or_not (Channel c s) = below_or_not s max_rows
numbered_or_not (Element l i n) = both_or_not (below_or_not i max_rows) (below_or_not n max_rows)
numbered_or_not (Union l r) = both_or_not (below_or_not l max_rows) (below_or_not r max_rows)

-- ROWS
module _ (room : ℕ) (rows : List Row) where
  writes_rows : (o : Outcome (List ℕ)) × WritesRows room rows o
  writes_rows = ⊎_elim
      (λ (k, lowest). (refuses (rows_refusal (number_over k)), is_over lowest))
      (λ all. let none = λ (k : ℕ) (f : NumberOver rows k). f.2 (all k f.0 f.1) in
      ⊎_elim (λ long. (refuses (rows_refusal NoRoom), is_long none long)) (λ fit. (gives (spelled rows), is_written none fit)) (cases_lt room (length (spelled rows))))
      (faulty rows (λ _. NumbersBelow max_rows) (λ _. numbered_or_not))

  same_rows : {o p : Outcome (List ℕ)} → WritesRows room rows o → WritesRows room rows p → p ≡ o
  same_rows (is_over {k} low) (is_over {k = j} low') = ap (λ n. refuses (rows_refusal (number_over n))) (lowest_one (NumberOver rows) j k low' low)
  same_rows (is_over {k} low) (is_long none l) = absurd (none k low.0)
  same_rows (is_over {k} low) (is_written none l) = absurd (none k low.0)
  same_rows (is_long none l) (is_over {k} low) = absurd (none k low.0)
  same_rows (is_long none l) (is_long none' l') = refl
  same_rows (is_long none l) (is_written none' l') = absurd (omega arith)
  same_rows (is_written none l) (is_over {k} low) = absurd (none k low.0)
  same_rows (is_written none l) (is_long none' l') = absurd (omega arith)
  same_rows (is_written none l) (is_written none' l') = refl

pub writing_rows_is_one : WritingRowsIsOne
writing_rows_is_one room rows = let (o, w) = writes_rows room rows in (o, w, λ p w'. same_rows room rows w w')

rows_proper : (rows : List Row) → Nowhere (NumberOver rows) → AllByRecursion Labelled rows → AllByRecursion Proper rows
rows_proper [] none all = tt
rows_proper (r ∷ rows) none all = ((⊎_elim (λ h. h) (λ np. absurd (none 0 (r, refl, np))) (numbered_or_not r), all.0), rows_proper rows (λ k (x, e, np). none (suc k) (x, e, np)) all.1)

pub written_rows_are_right : WrittenRowsAreRight
written_rows_are_right room rows text few labelled w = (right_is_spelled text rows).1 (written w)
  where
    written : {t : List ℕ} → WritesRows room rows (gives t) → (length rows ≤ max_rows) × AllByRecursion Proper rows × (t ≡ spelled rows)
    written (is_written none l) = (few, rows_proper rows none labelled, refl)

proper_rows : (rows : List Row) → AllByRecursion Proper rows → Nowhere (NumberOver rows)
proper_rows [] all k (r, e, over) = never (cc)
proper_rows (x ∷ rows) all zero (r, e, over) = let h : x ≡ r = cc in over (subst (NumbersBelow max_rows) h all.0.0)
proper_rows (x ∷ rows) all (suc k) over = proper_rows rows all.1 k over

pub right_rows_are_written : RightRowsAreWritten
right_rows_are_written room rows text right short =
    let (few, all, e) = (right_is_spelled text rows).0 right in
    subst (λ t. WritesRows room rows (gives t)) (sym e) (is_written (proper_rows rows all) (omega (arith, ap length e)))

-- what every call of writing brings
pub writing_laws : WritingRowsIsOne × WrittenRowsAreRight × RightRowsAreWritten
writing_laws = (writing_rows_is_one, written_rows_are_right, right_rows_are_written)
