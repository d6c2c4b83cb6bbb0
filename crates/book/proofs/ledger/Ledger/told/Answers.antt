use Rattle.std.proofs.Common.{ap, ◌∙◌}
use Rattle.book.specs.Relations.{words_for}
use Rattle.book.proofs.Telling.{yes_told}
use Rattle.book.proofs.ledger.Ledger.told.Goals as goal

pub returns : goal.returns
returns c = yes_told c.args.self.now c.numbers_for.result (c.numbers_for.ensures.is ∙ ap words_for c.count.ensures.is) c.numbers_for.ensures.few
