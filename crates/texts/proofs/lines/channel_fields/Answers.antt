use Rattle.std.proofs.Common.{refl}
use Rattle.std.proofs.lemmas.Result.{err_from_is_err_and}
use Rattle.texts.specs.declared.kinds.Kind.TheVariants.{Channel as channel}
use Rattle.texts.proofs.LineSteps.{blank_suits, capability_suits, number_suits, three_are}
use Rattle.texts.proofs.lines.channel_fields.Goals as goal

pub returns-in_err-capability : goal.returns-in_err-capability
returns-in_err-capability c =
    let p = err_from_is_err_and c.from_residual.result c.from_residual.ensures.1 in
    rw (p.1, p.2) (λ line. c.in_err-capability.ensures channel line capability_suits number_suits blank_suits)

pub returns : goal.returns
returns c =
    let (f₁, f₂, f₃, s₁, s₂, s₃, e) = c.in_ok-capability.ensures in
    ((s₂.0, tt), refl, three_are c.args.text.now c.in_ok-capability.next.now f₁ f₂ f₃ _ _ _ e s₁ s₂.1 s₃)
