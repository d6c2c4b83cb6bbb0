-- The number and values of the refusal of a row number. Assumes nothing.
use Rattle.std.specs.Prelude.{[]}
use Rattle.forms.specs.Refusals.{Refusal}
use Rattle.forms.specs.Refusals.Refusal.{refusal}
use Rattle.verdicts.specs.declared.faults.RowFault.{RowFault}
use Rattle.verdicts.specs.declared.faults.RowFault.TheVariants.{Outside}

abbrev pub row_refusal : RowFault → Refusal
row_refusal Outside = refusal 21 []
