use Rattle.std.proofs.Common.{take}
use Rattle.texts.specs.RowText.{spelled}
use Rattle.forms.specs.Splices.{Wrote}
use Rattle.texts.proofs.writing.write.Given as goal

abbrev pub invariant-loop-row : goal.invariant-loop-row
invariant-loop-row l = Wrote l.initial.out l.out 0 (spelled (take l.row-index l.rows)) l.place
