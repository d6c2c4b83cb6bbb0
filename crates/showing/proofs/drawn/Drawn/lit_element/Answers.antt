use Rattle.std.proofs.Common.{rules, ◌≡◌}
use Rattle.std.specs.List.{slice_get}
use Rattle.forms.specs.Buffers.{rows_of}
use Rattle.showing.specs.Drafts.{ElementOf, lacking_row}
use Rattle.showing.proofs.Walks.{through}
use Rattle.showing.proofs.drawn.Drawn.lit_element.Goals as goal
use borrow.Author.Tests.{tests}

pub returns : goal.returns
returns c =
    let rows = rows_of c.args.prepared.now.table in
    through (ElementOf rows c.args.r) c.elements_of.ensures.set c.elements_of.ensures.start (λ e v. v ≡ lacking_row c.args.self.now.numbers 0 (slice_get rows e)) c.find_map.ensures.ran c.find_map.ensures.runs
    (search (rules, tests)) (λ x v q k. search (rules, tests)) (λ x q k. search (rules, tests))
