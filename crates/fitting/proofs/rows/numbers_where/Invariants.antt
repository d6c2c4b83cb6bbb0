use Rattle.std.proofs.Common.{◌≡◌, true, false, length}
use Rattle.sets.proofs.Picking.{Picked}
use Rattle.fitting.proofs.rows.numbers_where.Given as goal

abbrev pub invariant-loop-k : goal.invariant-loop-k
invariant-loop-k g l = (length l.numbers ≡ length l.initial.numbers) × Picked (λ k. goal.F-post g l.passes k true) (λ k. goal.F-post g l.passes k false) l.numbers l.k
