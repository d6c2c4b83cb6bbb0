use Rattle.std.proofs.Common.{arith}
use Rattle.book.proofs.Telling.{looked_held}
use Rattle.book.proofs.ledger.Ledger.look_up.Goals as goal

pub returns-then-relates : goal.returns-then-relates
returns-then-relates c = looked_held c.args.self.now c.args.pair.0 c.args.pair.1 c.verdict.result (omega arith) (omega arith) c.if-relates.ensures c.verdict.ensures
