use Rattle.compare.proofs.Answering.{zero_is_yes}
use Rattle.compare.proofs.compare.Goals as goal

pub returns : goal.returns
returns c = record { compares = (c.question.result, c.question.ensures.answers, c.number.ensures); laws = (zero_is_yes, c.question.ensures.laws) }
