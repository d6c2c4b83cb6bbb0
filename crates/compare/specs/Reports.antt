-- What a caller is told of each fault: the layer that finds it, its number, and its place; and the one number that says all three. Assumes nothing.
use Rattle.std.specs.Prelude.{◌≡◌, ℕ, ◌+◌, ◌*◌, ◌/◌, ◌%◌, List, [], ◌∷◌}
use Rattle.forms.specs.Refusals.{Refusal, number, values}
use Rattle.forms.specs.Refusals.Refusal.{refusal}
use Rattle.texts.specs.Faults.{text_refusal}
use Rattle.relation.specs.Faults.{admission_refusal}
use Rattle.verdicts.specs.Faults.{row_refusal}
use Rattle.book.specs.Faults.{book_refusal}
use Rattle.documents.specs.Faults.{write_refusal}
use Rattle.compare.specs.declared.faults.Side.{Side}
use Rattle.compare.specs.declared.faults.Side.TheVariants.{Ours, Theirs}
use Rattle.compare.specs.declared.faults.JoinFault.{JoinFault}
use Rattle.compare.specs.declared.faults.JoinFault.TheVariants.{TooManyRows}
use Rattle.compare.specs.declared.faults.CompareFault.{CompareFault}
use Rattle.compare.specs.declared.faults.CompareFault.TheVariants.{Text, Admission, Joining, Row, Asking, Writing}

abbrev pub join_refusal : JoinFault → Refusal
join_refusal TooManyRows = refusal 10 []

pub record Report : Type 0 where
  pub layer : ℕ
  pub code : ℕ
  pub place : ℕ

-- 0 for ours, 1 for theirs
abbrev pub which : Side → ℕ
which Ours = 0
which Theirs = 1

-- a row is its own place; field f of line n is at 4 n + f
abbrev pub place_by : List ℕ → ℕ
place_by [] = 0
place_by (row ∷ []) = row
place_by (line ∷ (field ∷ more)) = 4 * line + field

abbrev pub told : ℕ → Refusal → Report
told layer e = record { layer = layer; code = number e; place = place_by (values e) }

-- A text's fault is at its line and field, admission's at its row; the book's is at 1 if it is by the row of theirs, else at 0.
abbrev pub report : CompareFault → Report
report (Text side e) = told (1 + which side) (text_refusal e)
report (Admission side e) = told (3 + which side) (admission_refusal e)
report (Joining e) = told 5 (join_refusal e)
report (Row side e) = record { layer = 6; code = number (row_refusal e); place = which side }
report (Asking e) = record { layer = 6; code = number (book_refusal e); place = 0 }
report (Writing e) = told 7 (write_refusal e)

-- no is told with the length of an order's text as its place
abbrev pub no_with : ℕ → Report
no_with n = record { layer = 0; code = 1; place = n }

-- code + 256 × layer + 65,536 × place
abbrev pub packed : Report → ℕ
packed r = r.code + 256 * r.layer + 65536 * r.place

-- the number says all three
pub record Says (n : ℕ) (r : Report) : Type 0 where
  pub is : n ≡ packed r
  pub code : n % 256 ≡ r.code
  pub layer : n / 256 % 256 ≡ r.layer
  pub place : n / 65536 ≡ r.place
