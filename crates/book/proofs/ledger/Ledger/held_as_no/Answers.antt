use Rattle.std.proofs.Common.{refl, ap, ◌∙◌, Some}
use Rattle.std.proofs.lemmas.Result.{err_from_is_err_and}
use Rattle.forms.specs.Refusals.Outcome.{refuses, gives}
use Rattle.book.specs.Faults.{book_refusal}
use Rattle.book.proofs.Telling.{looked_no, shown_refused}
use Rattle.book.proofs.ledger.Ledger.held_as_no.Goals as goal

pub returns-in_err-look_up : goal.returns-in_err-look_up
returns-in_err-look_up c =
    let e = c.in_err-look_up.field-0.0 in
    let p = err_from_is_err_and c.from_residual.result c.from_residual.ensures.1 in
    rw (p.1, p.2) (shown_refused c.args.self.now c.args.pair.0 c.args.pair.1 (refuses (book_refusal e)) c.in_err-look_up.ensures.answered (book_refusal e) refl)

pub returns-in-Some-No : goal.returns-in-Some-No
returns-in-Some-No c = looked_no c.args.self.now c.args.pair.0 c.args.pair.1 (gives c.in_ok-look_up.field-0) c.in_ok-look_up.ensures.answered (ap gives (c.in-Some-No.is ∙ ap Some c.in-Some-No.field-0-is))
