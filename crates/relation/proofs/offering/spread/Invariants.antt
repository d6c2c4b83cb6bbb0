use Rattle.forms.specs.Buffers.{rows_of}
use Rattle.relation.proofs.Growing.{Spreading}
use Rattle.relation.proofs.offering.spread.Given as goal

abbrev pub invariant-loop-p : goal.invariant-loop-p
invariant-loop-p l = Spreading (rows_of l.table) l.initial.cells l.cells l.grown l.p
