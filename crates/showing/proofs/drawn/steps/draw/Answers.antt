use Rattle.std.proofs.Common.{◌<◌, length, sym, refl, subst}
use Rattle.forms.specs.Buffers.{rows_of}
use Rattle.documents.specs.Limits.{max_nodes}
use Rattle.verdicts.specs.Facts.{bounded_of}
use Rattle.verdicts.specs.Pairs.{related}
use Rattle.showing.specs.Showing.{places}
use Rattle.showing.proofs.Complete.{pair_place_low}
use Rattle.showing.proofs.Drawing.{waits_none, waits_again, waits_less, ends_shown, ends_grown, used_low}
use Rattle.showing.proofs.Questions.{asked_of}
use Rattle.showing.proofs.drawn.steps.draw.Goals as goal

pub loop-drawn-init : goal.loop-drawn-init
loop-drawn-init c =
    let rows = rows_of c.args.question.now.prepared.now.table in
    let d = c.none-drawn.result in
    waits_none rows (related (length rows) c.args.question.now.below.now) c.pair_place-asked.result c.args.nodes.now d.used d.numbers max_nodes refl c.none-drawn.ensures.used c.none-drawn.ensures.numbers c.requires.room

pub visit-requires : goal.visit-requires
visit-requires c =
    let rows = rows_of c.args.question.now.prepared.now.table in
    let p = c.args.pair.0 in
    let q = c.args.pair.1 in
    let (p<, q<) = (asked_of c.args.question.now).of_rows p q c.requires.leans in
    record {
      holds = c.loop-drawn.invariant.holds;
      within = subst (λ k. k < places rows) (sym c.pair_place-asked.ensures) (pair_place_low (length rows) p q p< q<);
    }

pub loop-drawn-smaller : goal.loop-drawn-smaller
loop-drawn-smaller c =
    let t = c.args.question.now.prepared.now in
    let rows = rows_of t.table in
    let d = c.loop-drawn.drawn in
    let v = c.visit.new.self in
    let w = c.round.new.self in
    let p = c.args.pair.0 in
    let q = c.args.pair.1 in
    waits_less rows (related (length rows) c.args.question.now.leaned.now) (related (length rows) c.args.question.now.below.now) c.pair_place-asked.result
    c.args.nodes.now c.loop-drawn.nodes c.visit.new.nodes d.used v.used d.numbers v.numbers c.visit.result
    c.loop-drawn.invariant c.visit.ensures c.loop-drawn-test.true c.round.new.nodes w.used w.numbers c.round.ensures
    (bounded_of t) (asked_of c.args.question.now) p q c.pair_place-asked.ensures c.requires.leans c.requires.apart

pub loop-drawn-preserved : goal.loop-drawn-preserved
loop-drawn-preserved c =
    let rows = rows_of c.args.question.now.prepared.now.table in
    let d = c.loop-drawn.drawn in
    let v = c.visit.new.self in
    let w = c.round.new.self in
    waits_again rows (related (length rows) c.args.question.now.leaned.now) (related (length rows) c.args.question.now.below.now) c.pair_place-asked.result
    c.args.nodes.now c.loop-drawn.nodes c.visit.new.nodes d.used v.used d.numbers v.numbers c.visit.result
    c.loop-drawn.invariant c.visit.ensures c.loop-drawn-test.true c.round.new.nodes w.used w.numbers c.round.ensures

pub returns : goal.returns
returns c =
    let rows = rows_of c.args.question.now.prepared.now.table in
    let leaned = related (length rows) c.args.question.now.leaned.now in
    let below = related (length rows) c.args.question.now.below.now in
    let d = c.loop-drawn.drawn in
    let v = c.visit.new.self in
    let p = c.args.pair.0 in
    let q = c.args.pair.1 in
    let asked = c.pair_place-asked.result in
    let (p<, q<) = (asked_of c.args.question.now).of_rows p q c.requires.leans in
    let grown = ends_grown rows leaned below asked c.args.nodes.now c.loop-drawn.nodes c.visit.new.nodes d.used v.used d.numbers v.numbers c.visit.result c.loop-drawn.invariant c.visit.ensures c.loop-drawn-test.false in
    record {
      few = used_low rows below c.visit.new.nodes v.used v.numbers c.visit.ensures.holds;
      shows = ends_shown rows leaned below asked c.args.nodes.now c.loop-drawn.nodes c.visit.new.nodes d.used v.used d.numbers v.numbers c.visit.result c.loop-drawn.invariant c.visit.ensures c.loop-drawn-test.false p q c.pair_place-asked.ensures p< q<;
      rest = grown.rest;
      same = grown.same;
    }
