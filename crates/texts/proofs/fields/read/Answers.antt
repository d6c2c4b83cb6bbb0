use Rattle.std.proofs.Common.{◌≡◌, Some, None, arith}
use Rattle.std.specs.List.{position}
use Rattle.std.proofs.lemmas.Grind.{common_steps}
use Rattle.std.proofs.lemmas.Result.{err_from_is_err_and}
use Rattle.texts.specs.RowText.{stops}
use Rattle.texts.proofs.Stops.{no_field, other_end, no_value, value_read}
use Rattle.texts.proofs.fields.read.Goals as goal

pub returns-in_err-end : goal.returns-in_err-end
returns-in_err-end g c =
    let none : position stops c.args.text.now ≡ None = grind (arith, common_steps) in
    let p = err_from_is_err_and c.from_residual.result c.from_residual.ensures.1 in
    rw (p.1, p.2) (no_field g.T.Value.spells c.args.text.now c.args.number none c.in_err-end.field-0.0 (grind (arith, common_steps)))

pub returns-then-text-end : goal.returns-then-text-end
returns-then-text-end g c =
    let at : position stops c.args.text.now ≡ Some c.in_ok-end.end = grind (arith, common_steps) in
    other_end g.T.Value.spells c.args.text.now c.args.number c.in_ok-end.end at (λ e. c.if-text-end.true (cc))

pub returns-in_err-value : goal.returns-in_err-value
returns-in_err-value g c =
    let at : position stops c.args.text.now ≡ Some c.in_ok-end.end = grind (arith, common_steps) in
    let gone : c.parse.result ≡ None = grind (arith, common_steps) in
    let p = err_from_is_err_and c.from_residual-in_err-value.result c.from_residual-in_err-value.ensures.1 in
    rw (p.1, p.2) (no_value g.T.Value.spells c.args.text.now c.args.number c.in_ok-end.end at (rw gone at c.parse.ensures) c.in_err-value.field-0.0 (grind (arith, common_steps)))

pub returns : goal.returns
returns g c =
    let at : position stops c.args.text.now ≡ Some c.in_ok-end.end = grind (arith, common_steps) in
    let parsed : c.parse.result ≡ Some c.in_ok-value.value = grind (arith, common_steps) in
    value_read g.T.Value.spells c.args.text.now c.args.number c.in_ok-end.end at (grind (arith, common_steps)) c.in_ok-value.value (rw parsed at c.parse.ensures)
