use Rattle.std.proofs.Common.{◌≡◌, take}
use Rattle.forms.specs.Buffers.{rows_of}
use Rattle.forms.proofs.buffer.RowBuffer.new.Given as goal

abbrev pub invariant-loop-row : goal.invariant-loop-row
invariant-loop-row l = rows_of l.buffer ≡ take l.row-index l.rows
