use Rattle.std.proofs.Common.{rules, ℕ, length}
use Rattle.forms.specs.Buffers.{rows_of}
use Rattle.verdicts.specs.Pairs.{related}
use Rattle.verdicts.specs.Reading.{ChannelTaken}
use Rattle.showing.specs.Drafts.{ChannelOf}
use Rattle.showing.proofs.Walks.{through_item}
use Rattle.showing.proofs.drawn.drafts.untaken.Goals as goal
use borrow.Author.Tests.{tests}

pub returns : goal.returns
returns c =
    let rows = rows_of c.args.question.now.prepared.now.table in
    let Taken : ℕ → Type 0 = λ o. ChannelTaken rows (related (length rows) c.args.question.now.below.now) o c.args.pair.1 in
    through_item (ChannelOf rows c.args.pair.0) c.channels_of.ensures.set c.channels_of.ensures.start (λ o. Taken o → ⊥) Taken c.find.ensures.ran (λ x q k. search (rules, tests)) (λ x q k. search (rules, tests))
