-- The faults of the text calls, each with its number and its values. Assumes nothing.
use Rattle.std.specs.Prelude.{[], ◌∷◌}
use Rattle.forms.specs.Refusals.{Refusal}
use Rattle.forms.specs.Refusals.Refusal.{refusal}
use Rattle.texts.specs.declared.TextFault.{TextFault}
use Rattle.texts.specs.declared.TextFault.TheVariants.{TooLong, WrongLine, TooManyLines}
use Rattle.texts.specs.declared.RowsFault.{RowsFault}
use Rattle.texts.specs.declared.RowsFault.TheVariants.{NumberOver, NoRoom}

abbrev pub text_refusal : TextFault → Refusal
text_refusal TooLong = refusal 1 []
text_refusal (WrongLine line field) = refusal 2 (line ∷ field ∷ [])
text_refusal TooManyLines = refusal 3 []

abbrev pub rows_refusal : RowsFault → Refusal
rows_refusal (NumberOver row) = refusal 4 (row ∷ [])
rows_refusal NoRoom = refusal 5 []
