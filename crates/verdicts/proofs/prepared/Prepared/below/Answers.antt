use Rattle.std.proofs.Common.{Decides}
use Rattle.std.proofs.lemmas.Bool.Decides.{Decides-at, Decides-like}
use Rattle.forms.specs.Buffers.{rows_of}
use Rattle.schema.specs.Rules.{Below}
use Rattle.schema.specs.Rules.Leans.{on_itself}
use Rattle.schema.proofs.Inclusion.{below_is_inclusion}
use Rattle.schema.proofs.Published.{published_is_below}
use Rattle.verdicts.specs.Facts.{bounded_of, determined_of}
use Rattle.verdicts.proofs.prepared.Prepared.below.Goals as goal

pub returns : goal.returns
returns c =
    let t = c.args.self.now in
    let rows = rows_of t.table in
    let p = c.args.pair.0 in
    let q = c.args.pair.1 in
    let (h, g) = c.in_ok-in_table.ensures in
    let tells : Decides c.relates.result (Below rows p q) = Decides-at _ _ c.relates.ensures (c.narrow.ensures.confined c.leaned-pairs.ensures.confined p q ((c.leaned-pairs.ensures.leans h g p q).1 on_itself)) in
    let (to, from) = below_is_inclusion rows (bounded_of t) (determined_of t) p q h g in
    let (back, forth) = published_is_below rows (determined_of t) p q in
    record { rows = (h, g); below = tells; included = Decides-like _ to from tells; published = Decides-like _ forth back tells }
