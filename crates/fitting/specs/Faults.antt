-- The numbers and values of the refusals of fitting. Assumes nothing.
use Rattle.std.specs.Prelude.{[], ◌∷◌}
use Rattle.forms.specs.Refusals.{Refusal}
use Rattle.forms.specs.Refusals.Refusal.{refusal}
use Rattle.verdicts.specs.Faults.{row_refusal}
use Rattle.fitting.specs.declared.faults.FitFault.{FitFault}
use Rattle.fitting.specs.declared.faults.FitFault.TheVariants.{NoRow, ManyNodes, Unsound, RootOutside, MarksLength}

abbrev pub fit_refusal : FitFault → Refusal
fit_refusal (NoRow fault) = row_refusal fault
fit_refusal ManyNodes = refusal 30 []
fit_refusal (Unsound node) = refusal 31 (node ∷ [])
fit_refusal RootOutside = refusal 32 []
fit_refusal MarksLength = refusal 33 []
