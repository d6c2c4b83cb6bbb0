use Rattle.fitting.specs.Fittable.{row_words}
use Rattle.fitting.proofs.References.{gone_none, gone_more, gone_all}
use Rattle.fitting.proofs.wanting.referred.Goals as goal

pub loop-node-init : goal.loop-node-init
loop-node-init c = gone_none c.args.nodes.now row_words

pub loop-node-preserved : goal.loop-node-preserved
loop-node-preserved c = gone_more c.args.nodes.now c.loop-node.rows c.refer.new.rows c.loop-node.node-index c.loop-node-test.true c.loop-node.invariant c.refer.ensures

pub returns : goal.returns
returns c = gone_all c.args.nodes.now c.loop-node.rows c.loop-node.node-index c.loop-node-test.false c.loop-node.invariant
