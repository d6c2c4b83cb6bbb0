-- Which fault a question has, and what can be compared if it has none. Assumes nothing.
use Rattle.std.specs.Prelude.{◌≡◌, ℕ, ◌+◌, ◌<◌, ◌≤◌, cond, List, map, length, ◌==◌}
use Rattle.forms.specs.Limits.{max_rows}
use Rattle.forms.specs.Refusals.Outcome.{refuses, gives}
use Rattle.forms.specs.Rows.{joined, turn}
use Rattle.forms.specs.declared.Row.{Row}
use Rattle.texts.specs.Faults.{text_refusal}
use Rattle.texts.specs.RowText.{Judged}
use Rattle.texts.specs.declared.TextFault.{TextFault}
use Rattle.relation.specs.Admission.{Admitted, Finds}
use Rattle.relation.specs.Faults.{admission_refusal}
use Rattle.relation.specs.declared.AdmissionFault.{AdmissionFault}
use Rattle.verdicts.specs.declared.faults.RowFault.TheVariants.{Outside}
use Rattle.compare.specs.Questions.{Asked}
use Rattle.compare.specs.Reports.{report}
use Rattle.compare.specs.declared.faults.CompareFault.{CompareFault}
use Rattle.compare.specs.declared.faults.CompareFault.TheVariants.{Text, Admission, Joining, Row as NoRow}
use Rattle.compare.specs.declared.faults.JoinFault.TheVariants.{TooManyRows}
use Rattle.compare.specs.declared.faults.Side.TheVariants.{Ours, Theirs}

-- our text means the rows a, and theirs the rows b
pub record Read (x : Asked) (a b : List Row) : Type 0 where
  pub ours_read : Judged x.ours (gives a)
  pub theirs_read : Judged x.theirs (gives b)

-- What each of the layers 1 to 6 refuses, whatever the others do. Layer 7 is met only where the answer is no (Comparing).
pub data Refusable (x : Asked) : CompareFault → Type 0 where
  -- layers 1 and 2: a text is refused
  our_text : {e : TextFault} → Judged x.ours (refuses (text_refusal e)) → Refusable x (Text Ours e)
  their_text : {e : TextFault} → Judged x.theirs (refuses (text_refusal e)) → Refusable x (Text Theirs e)
  -- layers 3 and 4: a table is not admitted
  our_table : {a : List Row} {e : AdmissionFault} → Judged x.ours (gives a) → Finds a (admission_refusal e) → Refusable x (Admission Ours e)
  their_table : {b : List Row} {e : AdmissionFault} → Judged x.theirs (gives b) → Finds b (admission_refusal e) → Refusable x (Admission Theirs e)
  -- layer 5: the tables have too many rows together
  too_many : {a b : List Row} → Read x a b → max_rows < length a + length b → Refusable x (Joining TooManyRows)
  -- layer 6: p is no row of ours, or else q is none of theirs
  our_row : {a b : List Row} → Read x a b → length a ≤ x.p → Refusable x (NoRow Ours Outside)
  their_row : {a b : List Row} → Read x a b → x.p < length a → length b ≤ x.q → Refusable x (NoRow Theirs Outside)

-- The first fault: one of the first layer that refuses.
pub record Faulty (x : Asked) (e : CompareFault) : Type 0 where
  pub refused : Refusable x e
  pub first : (f : CompareFault) → Refusable x f → (report e).layer ≤ (report f).layer

-- No layer refuses: the texts mean admitted tables that can be joined, and p and q are rows of them.
pub record Comparable (x : Asked) (a b : List Row) : Type 0 where
  pub read : Read x a b
  pub ours_admitted : Admitted a
  pub theirs_admitted : Admitted b
  pub few : length a + length b ≤ max_rows
  pub first : x.p < length a
  pub second : x.q < length b

-- A question has one first fault at most, and none if it can be answered; and what the texts mean is one.
abbrev pub OneFault : Type 0
OneFault = (x : Asked) (e f : CompareFault) → Faulty x e → Faulty x f → f ≡ e

abbrev pub FaultOrAnswer : Type 0
FaultOrAnswer = (x : Asked) (e : CompareFault) (a b : List Row) → Faulty x e → Comparable x a b → ⊥

abbrev pub OneMeaning : Type 0
OneMeaning = (x : Asked) (a b c d : List Row) → Read x a b → Read x c d → (c ≡ a) × (d ≡ b)

-- theirs as they are if t is 0, and turned if not
abbrev pub facing : ℕ → List Row → List Row
facing t rows = cond (t == 0) rows (map turn rows)

-- the one table of ours and theirs
abbrev pub together : Asked → List Row → List Row → List Row
together x a b = joined a (facing x.t b)
