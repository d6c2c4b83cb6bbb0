use Rattle.std.proofs.Common.{◌*◌, length}
use Rattle.sets.specs.Sets.{member, tally, word}
use Rattle.narrowing.proofs.Rounds.{Narrowing}
use Rattle.narrowing.proofs.narrow.Given as goal

abbrev pub invariant-loop : goal.invariant-loop
invariant-loop g l = Narrowing (g.R.Rule.says l.rule) (member l.initial.set) (member l.set)

abbrev pub decreases-loop : goal.decreases-loop
decreases-loop g l = tally (member l.set) (word * length l.initial.set)
