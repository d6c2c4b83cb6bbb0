use Rattle.std.proofs.Common.{length}
use Rattle.forms.specs.Buffers.{rows_of}
use Rattle.verdicts.specs.Facts.{bounded_of}
use Rattle.verdicts.specs.Pairs.{related}
use Rattle.showing.specs.Drafts.Tells.{without_void, lacks_channel}
use Rattle.showing.proofs.Made.{tells_or_not}
use Rattle.showing.proofs.drawn.Drawn.tell.Goals as goal

pub returns-then-lacks_void : goal.returns-then-lacks_void
returns-then-lacks_void c = let (has, none) = c.lacks_void.ensures.lacks c.if-lacks_void.true in without_void has none

pub returns-in-Some : goal.returns-in-Some
returns-in-Some c = lacks_channel c.in-Some.ensures.0 c.in-Some.ensures.1

pub returns : goal.returns
returns c =
    let t = c.args.question.now.prepared.now in
    let rows = rows_of t.table in
    tells_or_not rows (bounded_of t) c.args.self.now.numbers (related (length rows) c.args.question.now.below.now) c.args.pair.0 c.args.pair.1 c.tell_element.result
    (c.lacks_void.ensures.keeps c.if-lacks_void.false)
    c.in_default.ensures
    c.tell_element.ensures
