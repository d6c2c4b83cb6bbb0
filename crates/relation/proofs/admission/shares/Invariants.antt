use Rattle.forms.specs.Buffers.{rows_of}
use Rattle.relation.proofs.Labels.{Seen}
use Rattle.relation.proofs.admission.shares.Given as goal

abbrev pub invariant-loop-o : goal.invariant-loop-o
invariant-loop-o l = Seen (rows_of l.table) l.p l.seen l.o
