use Rattle.std.proofs.Common.{arith}
use Rattle.texts.proofs.Digits.{so_far_none, so_far_more, so_far_fits, labels_long, labels_digit}
use Rattle.texts.proofs.values.labels.Goals as goal

pub returns-then-field-ne-LABEL_DIGITS : goal.returns-then-field-ne-LABEL_DIGITS
returns-then-field-ne-LABEL_DIGITS c = λ v h. c.if-field-ne-LABEL_DIGITS.true (labels_long c.args.field.now v h)

pub loop-byte-init : goal.loop-byte-init
loop-byte-init c = so_far_none c.args.field.now

pub returns-in_err-digit : goal.returns-in_err-digit
returns-in_err-digit c = rw c.from_residual.ensures (λ v h. labels_digit c.args.field.now c.loop-byte.byte-index v (omega arith) h c.in_err-digit.ensures)

pub overflow_mul-value : goal.overflow_mul-value
overflow_mul-value c = let h = so_far_fits c.args.field.now c.loop-byte.byte-index c.loop-byte.value c.in_ok-digit.digit c.if-field-ne-LABEL_DIGITS.false (omega arith) c.loop-byte.invariant c.in_ok-digit.ensures.0 in omega arith

pub overflow_add-value : goal.overflow_add-value
overflow_add-value c = let h = so_far_fits c.args.field.now c.loop-byte.byte-index c.loop-byte.value c.in_ok-digit.digit c.if-field-ne-LABEL_DIGITS.false (omega arith) c.loop-byte.invariant c.in_ok-digit.ensures.0 in omega arith

pub loop-byte-preserved : goal.loop-byte-preserved
loop-byte-preserved c = let (h, e) = c.in_ok-digit.ensures in so_far_more c.args.field.now c.loop-byte.byte-index c.loop-byte.value c.in_ok-digit.digit (omega arith) c.loop-byte.invariant h e
