use Rattle.std.proofs.Common.{◌-◌, ◌*◌, length}
use Rattle.sets.specs.Sets.{word}
use Rattle.narrowing.proofs.Rounds.{Going}
use Rattle.narrowing.proofs.round.Given as goal

abbrev pub invariant-loop-place : goal.invariant-loop-place
invariant-loop-place g l = Going (g.R.Rule.says l.rule) l.initial.set l.set l.struck l.from

abbrev pub decreases-loop-place : goal.decreases-loop-place
decreases-loop-place g l = word * length l.initial.set - l.from
