use Rattle.std.proofs.Common.{rules, ℕ, length}
use Rattle.sets.proofs.Going.{decides_all}
use Rattle.forms.specs.Buffers.{rows_of}
use Rattle.verdicts.specs.Pairs.{related}
use Rattle.verdicts.specs.Reading.{ChannelTaken}
use Rattle.verdicts.specs.Ready.{in_row}
use Rattle.verdicts.specs.RowSets.{row_set}
use Rattle.verdicts.proofs.prepared.keeping.Within.rows_taken.Goals as goal
use borrow.Author.Tests.{tests}

pub returns : goal.returns
returns c =
    let t = c.args.self.now.prepared.now in
    let rows = rows_of t.table in
    let Yes : ℕ → Type 0 = λ d. ChannelTaken rows (related (length rows) c.args.self.now.pairs.now) d c.args.pair.1 in
    decides_all row_set (λ s. s.start) (in_row t.channels c.args.pair.0) c.of.ensures.start c.of.ensures.set Yes c.all.ensures.ran (λ x q k. search (rules, tests)) (λ x q k. search (rules, tests))
