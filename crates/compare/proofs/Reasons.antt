-- A question has one first fault at most, and none if it can be answered. Assumes nothing.
use Rattle.std.proofs.Common.{◌≡◌, ◌≢◌, ℕ, ◌+◌, ◌≤◌, List, length, sym, refl, ap, subst, arith}
use Rattle.forms.specs.Limits.{max_rows}
use Rattle.forms.specs.Refusals.{Refusal, number}
use Rattle.forms.specs.Refusals.Outcome.{refuses, gives}
use Rattle.forms.specs.declared.Row.{Row}
use Rattle.forms.proofs.Findings.{never}
use Rattle.texts.specs.Faults.{text_refusal}
use Rattle.texts.specs.RowText.{Judged}
use Rattle.texts.specs.declared.TextFault.{TextFault}
use Rattle.texts.specs.declared.TextFault.TheVariants.{TooLong, WrongLine, TooManyLines}
use Rattle.texts.proofs.Judging.{one_outcome}
use Rattle.relation.specs.Admission.{Admitted, Finds}
use Rattle.relation.specs.Faults.{admission_refusal}
use Rattle.relation.specs.declared.AdmissionFault.{AdmissionFault}
use Rattle.relation.specs.declared.AdmissionFault.TheVariants.{NoRows, NumberOutside, LabelTwice}
use Rattle.relation.proofs.Judging.{one_fault, no_fault}
use Rattle.compare.specs.Questions.{Asked}
use Rattle.compare.specs.Reasons.{Read, Refusable, Comparable, OneFault, FaultOrAnswer, OneMeaning}
use Rattle.compare.specs.Reasons.Refusable.{our_text, their_text, our_table, their_table, too_many, our_row, their_row}
use Rattle.compare.specs.Reports.{report}
use Rattle.compare.specs.declared.faults.CompareFault.{CompareFault}
use Rattle.compare.specs.declared.faults.CompareFault.TheVariants.{Text, Admission}
use Rattle.compare.specs.declared.faults.Side.TheVariants.{Ours, Theirs}

text_one : (e f : TextFault) → text_refusal f ≡ text_refusal e → f ≡ e
text_one TooLong TooLong h = refl
text_one (WrongLine n k) (WrongLine m j) h = cc
text_one TooManyLines TooManyLines h = refl
text_one _ _ h = let z = ap number h in absurd (omega arith)

admission_one : (e f : AdmissionFault) → admission_refusal f ≡ admission_refusal e → f ≡ e
admission_one NoRows NoRows h = refl
admission_one (NumberOutside n) (NumberOutside m) h = cc
admission_one (LabelTwice n) (LabelTwice m) h = cc
admission_one _ _ h = let z = ap number h in absurd (omega arith)

module _ {bytes : List ℕ} where
  read_or_not : {e : Refusal} {a : List Row} → Judged bytes (refuses e) → Judged bytes (gives a) → ⊥
  read_or_not j k = let z = one_outcome bytes j k in never (cc)

  one_refusal : {e f : TextFault} → Judged bytes (refuses (text_refusal e)) → Judged bytes (refuses (text_refusal f)) → f ≡ e
  one_refusal j k = let z = one_outcome bytes j k in text_one _ _ (cc)

  same_rows : {a b : List Row} → Judged bytes (gives a) → Judged bytes (gives b) → b ≡ a
  same_rows j k = let z = one_outcome bytes j k in cc

pub one_meaning : OneMeaning
one_meaning x a b c d r s = (same_rows r.ours_read s.ours_read, same_rows r.theirs_read s.theirs_read)

lengths : {x : Asked} {a b c d : List Row} → Read x a b → Read x c d → (length c ≡ length a) × (length d ≡ length b)
lengths {x} {a} {b} {c} {d} r s = let (first, second) = one_meaning x a b c d r s in (ap (λ y. length y) first, ap (λ y. length y) second)

-- what holds of the rows that the texts mean holds by any reading of them
pub by_reading : (P : List Row → List Row → Type 0) {x : Asked} {a b c d : List Row} → Read x a b → Read x c d → P a b → P c d
by_reading P {x} {a} {b} {c} {d} r s h = let (first, second) = one_meaning x a b c d r s in subst (λ y. P c y) (sym second) (subst (λ y. P y b) (sym first) h)

one_admission : {a b : List Row} {e f : AdmissionFault} → b ≡ a → Finds a (admission_refusal e) → Finds b (admission_refusal f) → f ≡ e
one_admission {a} {b} {e} {f} same h k = admission_one e f (one_fault b _ _ (subst (λ y. Finds y (admission_refusal e)) (sym same) h) k)

-- a layer refuses by one fault
same_layer : {x : Asked} {e f : CompareFault} → Refusable x e → Refusable x f → (report e).layer ≡ (report f).layer → f ≡ e
same_layer (our_text j) (our_text k) is = ap (Text Ours) (one_refusal j k)
same_layer (their_text j) (their_text k) is = ap (Text Theirs) (one_refusal j k)
same_layer (our_table j h) (our_table k i) is = ap (Admission Ours) (one_admission (same_rows j k) h i)
same_layer (their_table j h) (their_table k i) is = ap (Admission Theirs) (one_admission (same_rows j k) h i)
same_layer (too_many _ _) (too_many _ _) is = refl
same_layer (our_row _ _) (our_row _ _) is = refl
same_layer (our_row r out) (their_row s within _) is = let (same, _) = lengths r s in absurd (omega arith)
same_layer (their_row r within _) (our_row s out) is = let (same, _) = lengths r s in absurd (omega arith)
same_layer (their_row _ _ _) (their_row _ _ _) is = refl
same_layer _ _ is = absurd (omega arith)

pub one_first_fault : OneFault
one_first_fault x e f h k = same_layer h.refused k.refused (omega (arith, h.first f k.refused, k.first e h.refused))

-- a question is refused by one of the first six layers
layers : {x : Asked} {f : CompareFault} → Refusable x f → (1 ≤ (report f).layer) × ((report f).layer ≤ 6)
layers (our_text _) = (omega arith, omega arith)
layers _ = (omega arith, omega arith)

pub from_first : {x : Asked} {f : CompareFault} → Refusable x f → 1 ≤ (report f).layer
from_first h = (layers h).0

-- a layer whose part is in order does not refuse
pub not_first : {x : Asked} {a : List Row} {f : CompareFault} → Judged x.ours (gives a) → Refusable x f → (report f).layer ≢ 1
not_first j (our_text k) is = read_or_not k j
not_first j _ is = omega arith

pub not_second : {x : Asked} {b : List Row} {f : CompareFault} → Judged x.theirs (gives b) → Refusable x f → (report f).layer ≢ 2
not_second j (their_text k) is = read_or_not k j
not_second j _ is = omega arith

pub not_third : {x : Asked} {a : List Row} {f : CompareFault} → Judged x.ours (gives a) → Admitted a → Refusable x f → (report f).layer ≢ 3
not_third j good (our_table k h) is = no_fault _ (subst Admitted (same_rows k j) good) _ h
not_third j good _ is = omega arith

pub not_fourth : {x : Asked} {b : List Row} {f : CompareFault} → Judged x.theirs (gives b) → Admitted b → Refusable x f → (report f).layer ≢ 4
not_fourth j good (their_table k h) is = no_fault _ (subst Admitted (same_rows k j) good) _ h
not_fourth j good _ is = omega arith

pub not_fifth : {x : Asked} {a b : List Row} {f : CompareFault} → Read x a b → length a + length b ≤ max_rows → Refusable x f → (report f).layer ≢ 5
not_fifth r few (too_many s many) is = let (first, second) = lengths r s in omega arith
not_fifth r few _ is = omega arith

not_sixth : {x : Asked} {a b : List Row} {f : CompareFault} → Comparable x a b → Refusable x f → (report f).layer ≢ 6
not_sixth c (our_row s out) is = let (first, _) = lengths c.read s in let h = c.first in omega arith
not_sixth c (their_row s _ out) is = let (_, second) = lengths c.read s in let h = c.second in omega arith
not_sixth c _ is = omega arith

pub fault_or_answer : FaultOrAnswer
fault_or_answer x e a b h c =
    let f = h.refused in
    let r = c.read in
    omega (arith, layers f, not_first r.ours_read f, not_second r.theirs_read f, not_third r.ours_read c.ours_admitted f, not_fourth r.theirs_read c.theirs_admitted f, not_fifth r c.few f, not_sixth c f)
