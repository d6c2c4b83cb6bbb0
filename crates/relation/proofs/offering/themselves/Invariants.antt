use Rattle.forms.specs.Buffers.{rows_of}
use Rattle.relation.proofs.Reaching.{Leafing}
use Rattle.relation.proofs.offering.themselves.Given as goal

abbrev pub invariant-loop-p : goal.invariant-loop-p
invariant-loop-p l = Leafing (rows_of l.table) l.cells l.p
