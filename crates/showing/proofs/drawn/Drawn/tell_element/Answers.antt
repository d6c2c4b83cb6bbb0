use Rattle.std.proofs.Common.{rules}
use Rattle.std.specs.List.{slice_get}
use Rattle.forms.specs.Buffers.{rows_of}
use Rattle.showing.specs.Drafts.{ElementOf, ToldBy}
use Rattle.showing.proofs.Walks.{through}
use Rattle.showing.proofs.drawn.Drawn.tell_element.Goals as goal
use borrow.Author.Tests.{tests}

pub returns : goal.returns
returns c =
    let rows = rows_of c.args.prepared.now.table in
    through (ElementOf rows c.args.pair.0) c.elements_of.ensures.set c.elements_of.ensures.start (λ e v. ToldBy rows c.args.self.now.numbers c.args.pair.1 (slice_get rows e) v) c.find_map.ensures.ran c.find_map.ensures.runs
    (search (rules, tests)) (λ x v q k. search (rules, tests)) (λ x q k. search (rules, tests))
