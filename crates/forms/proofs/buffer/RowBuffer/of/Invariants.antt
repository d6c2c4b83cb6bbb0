use Rattle.std.proofs.Common.{◌≡◌, take}
use Rattle.forms.specs.Buffers.{rows_of}
use Rattle.forms.proofs.buffer.RowBuffer.of.Given as goal

abbrev pub invariant-loop-number : goal.invariant-loop-number
invariant-loop-number g l = rows_of l.buffer ≡ take l.number (g.S.FormSource.rows l.source)
