use Rattle.sets.specs.Sets.{member}
use Rattle.narrowing.proofs.Rounds.{narrowing_more, narrowed}
use Rattle.narrowing.proofs.narrow.Goals as goal

pub loop-preserved : goal.loop-preserved
loop-preserved g c = narrowing_more (g.R.Rule.says c.args.rule.now) (member c.args.set.now) c.loop.set c.round.new.set c.round.result c.loop.invariant c.round.ensures

pub returns : goal.returns
returns g c = narrowed (g.R.Rule.says c.args.rule.now) (member c.args.set.now) c.loop.set c.round.new.set c.round.result c.loop.invariant c.round.ensures c.loop-test.false
