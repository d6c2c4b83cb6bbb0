use Rattle.std.proofs.Common.{ap}
use Rattle.book.specs.Calls.Answer.{counted}
use Rattle.book.proofs.Meeting.{passed, open_stays, shut_met}
use Rattle.book.proofs.Book.held.Goals as goal

pub returns-in_err-open : goal.returns-in_err-open
returns-in_err-open g c = shut_met _ c.args.self.now.pages c.args.self.now.over _ _ c.in_err-open.field-0.0 c.in_err-open.ensures (ap counted (passed c.from_residual.result _ c.from_residual.ensures.1))

pub returns : goal.returns
returns g c = open_stays _ c.args.self.now.pages c.args.self.now.over _ _ _ c.in_ok-open.ensures c.count.ensures
