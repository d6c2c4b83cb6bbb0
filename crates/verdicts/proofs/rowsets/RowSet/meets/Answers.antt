use Rattle.std.proofs.Common.{false, sym, refl, ◌∙◌}
use Rattle.std.proofs.lemmas.Bool.{both_ways}
use Rattle.verdicts.proofs.rowsets.RowSet.meets.Goals as goal

pub returns-in-Some : goal.returns-in-Some
returns-in-Some c =
    let is = c.in-Some.ensures in (
      λ e. let (o, own, other) = c.meet.ensures.0 e in (o, sym (is o).0 ∙ own, other),
      λ (o, own, other). c.meet.ensures.1 (o, (is o).0 ∙ own, other),
    )

pub returns-in-None : goal.returns-in-None
returns-in-None c = (λ e. absurd (both_ways false refl e), λ (o, own, other). absurd (both_ways _ (c.in-None.ensures o) own))
