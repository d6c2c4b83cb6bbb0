use Rattle.std.proofs.Common.{◌≡◌, length, None, sym, ◌∙◌, arith}
use Rattle.forms.specs.Buffers.{rows_of}
use Rattle.forms.specs.Laws.{buffer_laws}
use Rattle.verdicts.specs.Facts.{bounded_of, determined_of}
use Rattle.verdicts.specs.Pairs.{related}
use Rattle.showing.specs.Drafts.{noted}
use Rattle.showing.proofs.Drawing.{places_few, used_less, visited_by}
use Rattle.showing.proofs.Noting.{not_some}
use Rattle.showing.proofs.Questions.{asked_of}
use Rattle.showing.proofs.drawn.Drawn.visit.Goals as goal

pub add-requires : goal.add-requires
add-requires c =
    let rows = rows_of c.args.question.now.prepared.now.table in
    let none : noted c.args.self.now.numbers c.args.place ≡ None = sym c.node.ensures ∙ not_some c.node.result c.is_some.result c.is_some.ensures c.if-is_some.false in
    let less = used_less rows (related (length rows) c.args.question.now.below.now) c.args.nodes.now c.args.self.now.used c.args.self.now.numbers c.requires.holds c.args.place c.requires.within none in
    let few = places_few (length rows) (buffer_laws c.args.question.now.prepared.now.table).few in
    let room = c.requires.holds.room in
    let within = c.requires.within in
    record { number = omega arith; room = omega arith; within = omega arith }

pub returns : goal.returns
returns c =
    let t = c.args.question.now.prepared.now in
    let rows = rows_of t.table in
    let none : noted c.args.self.now.numbers c.args.place ≡ None = sym c.node.ensures ∙ not_some c.node.result c.is_some.result c.is_some.ensures c.if-is_some.false in
    visited_by rows (related (length rows) c.args.question.now.below.now) c.args.nodes.now c.args.self.now.used c.args.self.now.numbers c.requires.holds (bounded_of t) (determined_of t) (buffer_laws t.table).few
    (related (length rows) c.args.question.now.leaned.now) (asked_of c.args.question.now) c.args.place c.requires.within none c.in-Some.node c.in-Some.ensures
    c.add.new.nodes c.add.new.self.used c.add.new.self.numbers c.add.ensures.nodes c.add.ensures.used c.add.ensures.numbers
