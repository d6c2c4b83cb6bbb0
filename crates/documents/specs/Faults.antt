-- The numbers and values of the refusals of document text. Assumes nothing.
use Rattle.std.specs.Prelude.{[], ◌∷◌}
use Rattle.forms.specs.Refusals.{Refusal}
use Rattle.forms.specs.Refusals.Refusal.{refusal}
use Rattle.documents.specs.declared.faults.ReadFault.{ReadFault}
use Rattle.documents.specs.declared.faults.ReadFault.TheVariants.{TooLong as read_too_long, Wrong, TooDeep, TooManyNodes}
use Rattle.documents.specs.declared.faults.WriteFault.{WriteFault}
use Rattle.documents.specs.declared.faults.WriteFault.TheVariants.{ManyNodes, Unsound, RootOutside, TooLong as write_too_long}

abbrev pub read_refusal : ReadFault → Refusal
read_refusal read_too_long = refusal 40 []
read_refusal (Wrong place) = refusal 41 (place ∷ [])
read_refusal (TooDeep place) = refusal 43 (place ∷ [])
read_refusal TooManyNodes = refusal 44 []

abbrev pub write_refusal : WriteFault → Refusal
write_refusal ManyNodes = refusal 30 []
write_refusal (Unsound node) = refusal 31 (node ∷ [])
write_refusal RootOutside = refusal 32 []
write_refusal write_too_long = refusal 45 []
