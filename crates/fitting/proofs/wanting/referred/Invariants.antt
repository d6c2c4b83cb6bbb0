use Rattle.fitting.proofs.References.{Gone}
use Rattle.fitting.proofs.wanting.referred.Given as goal

abbrev pub invariant-loop-node : goal.invariant-loop-node
invariant-loop-node l = Gone l.nodes l.rows l.node-index
