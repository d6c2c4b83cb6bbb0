use Rattle.std.proofs.lemmas.Result.{err_from_is_err_and}
use Rattle.showing.specs.Faults.{show_refusal}
use Rattle.book.proofs.Telling.{shown_few}
use Rattle.book.proofs.ledger.Ledger.show.Goals as goal

pub returns-in_err-held_as_no : goal.returns-in_err-held_as_no
returns-in_err-held_as_no c = let p = err_from_is_err_and c.from_residual.result c.from_residual.ensures.1 in rw (p.1, p.2) (c.in_err-held_as_no.ensures c.args.nodes.now)

pub returns-in_err-show : goal.returns-in_err-show
returns-in_err-show c =
    let p = err_from_is_err_and c.from_residual-in_err-show.result c.from_residual-in_err-show.ensures.1 in
    let (why, same) = c.in_err-show.ensures in
    rw (p.1, p.2) (shown_few c.args.self.now c.args.pair.0 c.args.pair.1 c.args.nodes.now c.show.new.nodes (show_refusal c.in_err-show.field-0.0) c.in_ok-held_as_no.ensures why same)
