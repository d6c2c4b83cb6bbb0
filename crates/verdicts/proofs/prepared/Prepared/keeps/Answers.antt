use Rattle.std.proofs.Common.{length}
use Rattle.std.proofs.lemmas.Bool.{both_ways}
use Rattle.forms.specs.Buffers.{rows_of}
use Rattle.verdicts.specs.Pairs.{related}
use Rattle.verdicts.proofs.Keeping.{keeps_from, keeps_covers, keeps_taken, keeps_agree}
use Rattle.verdicts.proofs.prepared.Prepared.keeps.Goals as goal

pub returns-then-offers_kept : goal.returns-then-offers_kept
returns-then-offers_kept c =
    let t = c.args.self.now in
    let R = related (length (rows_of t.table)) c.args.pairs.now in
    let p = c.args.pair.0 in
    let q = c.args.pair.1 in
    let (voids, covers) = c.offers_kept.ensures.0 c.if-offers_kept.true in (
      λ e. let (taken, agree) = c.parts_kept.ensures.0 e in keeps_from t R p q voids covers taken agree,
      λ k. c.parts_kept.ensures.1 (keeps_taken t R p q k, keeps_agree t R p q k),
    )

pub returns-else-offers_kept : goal.returns-else-offers_kept
returns-else-offers_kept c =
    let t = c.args.self.now in
    let R = related (length (rows_of t.table)) c.args.pairs.now in
    let p = c.args.pair.0 in
    let q = c.args.pair.1 in (
      λ e. absurd (both_ways c.offers_kept.result c.if-offers_kept.false e),
      λ k. c.offers_kept.ensures.1 (k.voids, keeps_covers t R p q k),
    )
