use Rattle.std.proofs.Common.{ap, ◌∙◌}
use Rattle.texts.specs.Calls.{spelled_by}
use Rattle.texts.proofs.Judging.{one_outcome}
use Rattle.texts.proofs.RowText.new.Goals as goal

pub returns-in-Ok : goal.returns-in-Ok
returns-in-Ok c = λ o judged. ap spelled_by (one_outcome c.args.text.now judged c.in-Ok.ensures.judged)

pub returns-in-Err : goal.returns-in-Err
returns-in-Err c = λ o judged. c.empty.ensures ∙ ap spelled_by (one_outcome c.args.text.now judged c.in-Err.ensures.judged)
