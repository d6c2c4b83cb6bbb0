use Rattle.std.proofs.Common.{sym, ◌∙◌, arith}
use Rattle.showing.proofs.Lowest.{next_below, next_lowest}
use Rattle.showing.proofs.drawn.drafts.lowest.Goals as goal

pub returns-in_err-next : goal.returns-in_err-next
returns-in_err-next c = c.from_residual.ensures ∙ (sym c.in_err-next.was ∙ next_lowest c.args.labels (omega arith) c.next.result c.next.ensures)

pub overflow_cast-result : goal.overflow_cast-result
overflow_cast-result c = let (_, on, _) = c.in_ok-next.ensures in omega (arith, next_below c.args.labels (omega arith) c.in_ok-next.field-0 on)

pub returns : goal.returns
returns c = sym c.in_ok-next.was ∙ next_lowest c.args.labels (omega arith) c.next.result c.next.ensures
