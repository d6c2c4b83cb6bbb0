use Rattle.std.proofs.Common.{refl}
use Rattle.std.proofs.lemmas.Result.{err_from_is_err_and}
use Rattle.texts.specs.RowText.{field}
use Rattle.texts.proofs.LineSteps.{wrong_1, wrong_2, wrong_3, three_fields}
use Rattle.texts.proofs.lines.three.Goals as goal

pub returns-in_err-first : goal.returns-in_err-first
returns-in_err-first g c = let p = err_from_is_err_and c.from_residual.result c.from_residual.ensures.1 in rw (p.1, p.2) (λ k line a b d right. wrong_1 k line c.args.text.now right a c.in_err-first.field-0.0 c.in_err-first.ensures)

pub returns-in_err-second : goal.returns-in_err-second
returns-in_err-second g c = let p = err_from_is_err_and c.from_residual-in_err-second.result c.from_residual-in_err-second.ensures.1 in rw (p.1, p.2) (λ k line a b d right. wrong_2 k line c.args.text.now right a c.in_ok-first.first c.in_ok-first.after_first.now c.in_ok-first.ensures b c.in_err-second.field-0.0 c.in_err-second.ensures)

pub returns-in_err-third : goal.returns-in_err-third
returns-in_err-third g c = let p = err_from_is_err_and c.from_residual-in_err-third.result c.from_residual-in_err-third.ensures.1 in rw (p.1, p.2) (λ k line a b d right. wrong_3 k line c.args.text.now right a c.in_ok-first.first c.in_ok-first.after_first.now c.in_ok-first.ensures b c.in_ok-second.second c.in_ok-second.after_second.now c.in_ok-second.ensures d c.in_err-third.field-0.0 c.in_err-third.ensures)

pub returns : goal.returns
returns g c =
    let (s0, t0) = c.in_ok-first.ensures in
    let (s1, t1) = c.in_ok-second.ensures in
    let (s2, t2) = c.in_ok-third.ensures in
    (field c.args.text.now, field c.in_ok-first.after_first.now, field c.in_ok-second.after_second.now, s0, s1, s2, three_fields c.args.text.now c.in_ok-first.after_first.now c.in_ok-second.after_second.now c.in_ok-third.next.now _ _ _ refl t0 refl t1 refl t2)
