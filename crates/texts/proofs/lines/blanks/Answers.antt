use Rattle.std.proofs.Common.{arith}
use Rattle.std.proofs.lemmas.Result.{err_from_is_err_and}
use Rattle.texts.specs.RowText.{contents}
use Rattle.texts.specs.RowText.Content.{the_letter}
use Rattle.texts.proofs.LineSteps.{blank_suits_at, three_are}
use Rattle.texts.proofs.lines.blanks.Goals as goal

pub returns-in_err-next : goal.returns-in_err-next
returns-in_err-next c =
    let p = err_from_is_err_and c.from_residual.result c.from_residual.ensures.1 in
    rw (p.1, p.2) (λ k line blank. c.in_err-next.ensures k line (blank_suits_at (contents k) (the_letter k) 1 blank (omega arith)) (blank_suits_at (contents k) (the_letter k) 2 blank (omega arith)) (blank_suits_at (contents k) (the_letter k) 3 blank (omega arith)))

pub returns : goal.returns
returns c =
    let (f₁, f₂, f₃, s₁, s₂, s₃, e) = c.in_ok-next.ensures in
    three_are c.args.text.now c.in_ok-next.next.now f₁ f₂ f₃ _ _ _ e s₁ s₂ s₃
