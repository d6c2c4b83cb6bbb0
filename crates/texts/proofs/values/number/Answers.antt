use Rattle.std.proofs.Common.{◌/◌, ◌%◌, ⊎_elim, arith}
use Rattle.texts.proofs.Digits.{number_shape, number_two, told_one, not_two}
use Rattle.texts.proofs.values.number.Goals as goal
use Rattle.texts.proofs.values.number.Goals.{else-tens-gt0-via-then-tens-gt0+else-value-lt-MAX_ROWS, else-tens-gt0-via-else-tens-gt0}

pub returns-in_err-tens-in-len2 : goal.returns-in_err-tens-in-len2
returns-in_err-tens-in-len2 c = rw c.from_residual.ensures (not_two c.args.field.now (omega arith) (λ v h (_, _, d, e, _). c.in_err-tens-in-len2.ensures (v / 10) (d, e)))

pub returns-in_err-ones-in-len2 : goal.returns-in_err-ones-in-len2
returns-in_err-ones-in-len2 c = rw c.from_residual-in_err-ones-in-len2.ensures (not_two c.args.field.now (omega arith) (λ v h (_, _, _, _, e). c.in_err-ones-in-len2.ensures (v % 10) (omega arith, e)))

pub returns-in-len1 : goal.returns-in-len1
returns-in-len1 c = told_one c.args.field.now c.digit.result (omega arith) c.digit.ensures

pub returns-then-value-lt-MAX_ROWS : goal.returns-then-value-lt-MAX_ROWS
returns-then-value-lt-MAX_ROWS c =
    let (t, et) = c.in_ok-tens-in-len2.ensures in
    let (o, eo) = c.in_ok-ones-in-len2.ensures in
    number_two c.args.field.now c.in_ok-tens-in-len2.tens c.in_ok-ones-in-len2.ones (omega arith) c.if-tens-gt0.true t o c.if-value-lt-MAX_ROWS.true et eo

pub returns-else-tens-gt0 : goal.returns-else-tens-gt0
returns-else-tens-gt0 c = not_two c.args.field.now (omega arith) (λ v h (_, pos, d, e, e').
    let (t, et) = c.in_ok-tens-in-len2.ensures in
    let (o, eo) = c.in_ok-ones-in-len2.ensures in
    elim c.else-tens-gt0.branch [
      | else-tens-gt0-via-then-tens-gt0+else-value-lt-MAX_ROWS w ↦ omega (arith, w.if-value-lt-MAX_ROWS.false)
      | else-tens-gt0-via-else-tens-gt0 w ↦ omega (arith, w.if-tens-gt0.false)
    ])

pub returns-in_default-2 : goal.returns-in_default-2
returns-in_default-2 c = λ v h. ⊎_elim (λ (l, _, _). omega arith) (λ (l, _, _, _, _). omega arith) (number_shape c.args.field.now v h)

pub returns-in_default : goal.returns-in_default
returns-in_default c = λ v h. ⊎_elim (λ (l, _, _). omega arith) (λ (l, _, _, _, _). omega arith) (number_shape c.args.field.now v h)
