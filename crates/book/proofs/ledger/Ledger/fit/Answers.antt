use Rattle.std.proofs.Common.{length, subst}
use Rattle.std.proofs.lemmas.Result.{err_from_is_err_and}
use Rattle.forms.specs.Buffers.{rows_of}
use Rattle.fitting.specs.Faults.{fit_refusal}
use Rattle.fitting.specs.Fittable.{Unfit}
use Rattle.book.specs.Ledgers.{ledger_rows}
use Rattle.book.proofs.Fitting.{fit_or_fault, fit_refused, fit_done}
use Rattle.book.proofs.ledger.Ledger.fit.Goals as goal

pub returns-in_err-fittable : goal.returns-in_err-fittable
returns-in_err-fittable c =
    let p = err_from_is_err_and c.from_residual.result c.from_residual.ensures.1 in
    rw (p.1, p.2) (fit_refused c.args.self.now c.args.order.now.nodes.now c.args.order.now.root c.args.row c.args.marks.now (fit_refusal c.in_err-fittable.field-0.0) c.in_err-fittable.ensures)

pub returns-in_err-fits : goal.returns-in_err-fits
returns-in_err-fits c =
    let nodes = c.args.order.now.nodes.now in
    let root = c.args.order.now.root in
    let m = length c.args.marks.now in
    let e = fit_refusal c.in_err-fits.field-0.0 in
    absurd (fit_or_fault (ledger_rows c.args.self.now) nodes root c.args.row m c.in_ok-fittable.ensures e
    (subst (λ t. Unfit (rows_of t.table) nodes root c.args.row m e) c.settle_all-new.ensures.table c.in_err-fits.ensures.checked))

pub returns : goal.returns
returns c =
    fit_done c.args.self.now c.args.order.now.nodes.now c.args.order.now.root c.args.row c.args.marks.now _ c.settle_all-new.ensures.table c.in_ok-fittable.ensures
    c.wanted-pairs.result c.wanted-pairs.ensures.wanted c.settle_all-new.result c.settle_all-new.ensures.grew c.in_ok-fits.fits c.mark.new.marks
    c.in_ok-fits.ensures.marked c.in_ok-fits.ensures.told c.mark.auto.marks
