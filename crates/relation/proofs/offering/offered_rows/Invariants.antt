use Rattle.forms.specs.Buffers.{rows_of}
use Rattle.relation.proofs.Reaching.{Reaching, unreached}
use Rattle.relation.proofs.offering.offered_rows.Given as goal

abbrev pub invariant-loop : goal.invariant-loop
invariant-loop l = Reaching (rows_of l.table) l.cells

abbrev pub decreases-loop : goal.decreases-loop
decreases-loop l = unreached (rows_of l.table) l.cells
