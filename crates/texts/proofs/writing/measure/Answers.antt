use Rattle.std.proofs.Common.{◌+◌, length, get_or, ap, refl, subst, arith}
use Rattle.forms.specs.Buffers.{rows_of}
use Rattle.forms.specs.declared.Row.TheVariants.{Void}
use Rattle.texts.proofs.Measures.{MeasuredTo, measured_more, measured_all}
use Rattle.texts.proofs.writing.measure.Goals as goal

pub loop-number-preserved : goal.loop-number-preserved
loop-number-preserved c =
    let items = c.rows-row-items.result.now in
    let number = c.loop-number.number in
    let total = c.loop-number.total in
    let length_is = c.line_length-total.ensures in
    subst (λ rows. MeasuredTo rows number total → MeasuredTo rows (number + 1) (total + c.line_length-total.result)) c.rows-row-items.ensures.is
    (λ so_far. measured_more items number total c.line_length-total.result (get_or items number Void) c.loop-number-test.true refl so_far (c.numbers_below.ensures.0 c.if-not-numbers_below.false) length_is.few length_is.value)
    c.loop-number.invariant

pub returns : goal.returns
returns c = measured_all (rows_of c.args.table.now) c.loop-number.number c.loop-number.total (omega (arith, ap length c.rows-row-items.ensures.is)) c.loop-number.invariant
