use Rattle.verdicts.proofs.prepared.Prepared.offers_kept.Goals as goal

pub returns-then-voids_kept : goal.returns-then-voids_kept
returns-then-voids_kept c =
    let theirs = c.labels.ensures in
    let ours = c.labels-then-voids_kept.ensures in (
      λ e. (c.voids_kept.ensures.0 c.if-voids_kept.true, λ x l. (theirs x).0 (c.covers.ensures.0 e x ((ours x).1 l))),
      λ (_, covers). c.covers.ensures.1 (λ x b. (theirs x).1 (covers x ((ours x).0 b))),
    )
