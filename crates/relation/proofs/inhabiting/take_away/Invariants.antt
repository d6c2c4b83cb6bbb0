use Rattle.std.proofs.Common.{◌≡◌, ℕ}
use Rattle.sets.specs.Sets.{member}
use Rattle.relation.proofs.Inhabitants.{Rest}
use Rattle.relation.proofs.inhabiting.take_away.Given as goal

abbrev pub invariant-loop-p : goal.invariant-loop-p
invariant-loop-p l = record { set : (j : ℕ) → member l.p-iterator.words.now j ≡ member l.set j; rest : Rest (member l.initial.rest) l.set l.rest l.p-iterator.start }
