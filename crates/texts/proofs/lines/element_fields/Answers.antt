use Rattle.std.proofs.Common.{refl}
use Rattle.std.proofs.lemmas.Result.{err_from_is_err_and}
use Rattle.texts.specs.declared.kinds.Kind.TheVariants.{Element as element}
use Rattle.texts.proofs.LineSteps.{labels_suits, number_suits, three_are}
use Rattle.texts.proofs.lines.element_fields.Goals as goal

pub returns-in_err-labels : goal.returns-in_err-labels
returns-in_err-labels c =
    let p = err_from_is_err_and c.from_residual.result c.from_residual.ensures.1 in
    rw (p.1, p.2) (λ line. c.in_err-labels.ensures element line labels_suits number_suits number_suits)

pub returns : goal.returns
returns c =
    let (f₁, f₂, f₃, s₁, s₂, s₃, e) = c.in_ok-labels.ensures in
    (((s₂.0, s₃.0), s₁.0), refl, three_are c.args.text.now c.in_ok-labels.next.now f₁ f₂ f₃ _ _ _ e s₁.1 s₂.1 s₃.1)
