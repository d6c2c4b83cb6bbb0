use Rattle.std.proofs.Common.{refl}
use Rattle.std.proofs.lemmas.Result.{err_from_is_err_and}
use Rattle.texts.specs.declared.kinds.Kind.TheVariants.{Union as union}
use Rattle.texts.proofs.LineSteps.{blank_suits, number_suits, three_are}
use Rattle.texts.proofs.lines.union_fields.Goals as goal

pub returns-in_err-left : goal.returns-in_err-left
returns-in_err-left c =
    let p = err_from_is_err_and c.from_residual.result c.from_residual.ensures.1 in
    rw (p.1, p.2) (λ line. c.in_err-left.ensures union line blank_suits number_suits number_suits)

pub returns : goal.returns
returns c =
    let (f₁, f₂, f₃, s₁, s₂, s₃, e) = c.in_ok-left.ensures in
    (((s₂.0, s₃.0), tt), refl, three_are c.args.text.now c.in_ok-left.next.now f₁ f₂ f₃ _ _ _ e s₁ s₂.1 s₃.1)
