use Rattle.std.proofs.Common.{ap}
use Rattle.book.specs.Calls.Answer.{fitted}
use Rattle.book.proofs.Meeting.{passed, over_then, open_met, shut_met}
use Rattle.book.proofs.Book.fit.Goals as goal

pub invariant_of-self-2 : goal.invariant_of-self-2
invariant_of-self-2 g c = record { over = over_then _ c.args.self.now.pages c.args.self.now.over _ c.fit.new.self c.in_ok-open_mut.ensures.value c.fit.ensures.table }

pub returns-in_err-open_mut-clause-meets : goal.returns-in_err-open_mut-clause-meets
returns-in_err-open_mut-clause-meets g c = shut_met _ c.args.self.now.pages c.args.self.now.over _ _ c.in_err-open_mut.field-0.0 c.in_err-open_mut.ensures.value (ap (λ o. fitted o c.args.marks.now) (passed c.from_residual.result _ c.from_residual.ensures.1))

pub returns-clause-meets : goal.returns-clause-meets
returns-clause-meets g c = open_met _ c.args.self.now.pages c.args.self.now.over _ _ _ _ c.in_ok-open_mut.ensures.value c.fit.ensures
