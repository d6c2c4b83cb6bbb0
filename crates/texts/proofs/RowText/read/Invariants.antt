use Rattle.std.proofs.Common.{length}
use Rattle.forms.specs.Buffers.{rows_of}
use Rattle.texts.proofs.TextSteps.{ReadTo}
use Rattle.texts.proofs.RowText.read.Given as goal

abbrev pub invariant-loop-rest : goal.invariant-loop-rest
invariant-loop-rest l = ReadTo l.text l.rest (rows_of l.table)

abbrev pub decreases-loop-rest : goal.decreases-loop-rest
decreases-loop-rest l = length l.rest
