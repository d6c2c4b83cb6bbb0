-- The numbers and values of the refusals of showing. Assumes nothing.
use Rattle.std.specs.Prelude.{[]}
use Rattle.forms.specs.Refusals.{Refusal}
use Rattle.forms.specs.Refusals.Refusal.{refusal}
use Rattle.verdicts.specs.Faults.{row_refusal}
use Rattle.showing.specs.declared.faults.ShowFault.{ShowFault}
use Rattle.showing.specs.declared.faults.ShowFault.TheVariants.{NoRow, NotNo, FewNodes}

abbrev pub show_refusal : ShowFault → Refusal
show_refusal (NoRow fault) = row_refusal fault
show_refusal NotNo = refusal 25 []
show_refusal FewNodes = refusal 26 []
