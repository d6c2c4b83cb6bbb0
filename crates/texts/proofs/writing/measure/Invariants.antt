use Rattle.forms.specs.Buffers.{rows_of}
use Rattle.texts.proofs.Measures.{MeasuredTo}
use Rattle.texts.proofs.writing.measure.Given as goal

abbrev pub invariant-loop-number : goal.invariant-loop-number
invariant-loop-number l = MeasuredTo (rows_of l.table) l.number l.total
