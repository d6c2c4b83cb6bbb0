use Rattle.std.proofs.Common.{arith}
use Rattle.std.proofs.lemmas.Bool.{both_ways}
use Rattle.forms.specs.Buffers.{rows_of}
use Rattle.verdicts.specs.Facts.{bounded_of}
use Rattle.verdicts.specs.RowSets.{row_set}
use Rattle.showing.specs.Drafts.Lights.{by_void, by_channel}
use Rattle.showing.proofs.Made.{lights_or_not}
use Rattle.showing.proofs.drawn.Drawn.light.Goals as goal

pub returns-then-gives_void : goal.returns-then-gives_void
returns-then-gives_void c = by_void (c.gives_void.ensures.0 c.if-gives_void.true)

pub returns-in-Some : goal.returns-in-Some
returns-in-Some c = by_channel ((c.channels_of.ensures.set c.in-Some.c).0 c.in-Some.ensures.steps.next.1)

pub returns : goal.returns
returns c =
    let t = c.args.prepared.now in
    lights_or_not (rows_of t.table) (bounded_of t) c.args.self.now.numbers c.args.r c.lit_element.result
    (λ v. both_ways c.gives_void.result c.if-gives_void.false (c.gives_void.ensures.1 v))
    (λ o h. both_ways (row_set c.channels_of.result o) (c.in_default.ensures.steps.next o (omega (arith, c.channels_of.ensures.start))) ((c.channels_of.ensures.set o).1 h))
    c.lit_element.ensures
