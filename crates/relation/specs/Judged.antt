-- What is worked out from the rows of a table, and what admission answers. Assumes nothing.
use Rattle.std.specs.Prelude.{ℕ, ◌<◌, List, Ok, Err, Decides, Result}
use Rattle.sets.specs.Sets.{member}
use Rattle.forms.specs.declared.Row.{Row}
use Rattle.forms.specs.Limits.{max_rows}
use Rattle.forms.specs.Schema.{Offers, Inhabited}
use Rattle.relation.specs.declared.AdmissionFault.{AdmissionFault}
use Rattle.relation.specs.declared.analysis.Analysis.{Analysis}
use Rattle.relation.specs.Cells.{cell}
use Rattle.relation.specs.Admission.{Admitted, Finds}
use Rattle.relation.specs.Faults.{admission_refusal}

-- The analysis tells which rows each row offers, and which rows are inhabited.
pub record Analyzed (rows : List Row) (a : Analysis) : Type 0 where
  pub offers : (p o : ℕ) → p < max_rows → o < max_rows → Decides (cell a.offered p o) (Offers rows p o)
  pub inhabited : (p : ℕ) → Decides (member a.inhabited p) (Inhabited rows p)

-- an admitted table with its analysis, or the fault that is found
abbrev pub Judged : List Row → Result Analysis AdmissionFault → Type 0
Judged rows (Ok a) = Admitted rows × Analyzed rows a
Judged rows (Err e) = Finds rows (admission_refusal e)
