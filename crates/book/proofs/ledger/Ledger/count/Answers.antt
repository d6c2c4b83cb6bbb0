use Rattle.book.proofs.Telling.{counted_held}
use Rattle.book.proofs.ledger.Ledger.count.Goals as goal

pub returns : goal.returns
returns c = counted_held c.args.self.now c.count.result c.count.ensures
