use Rattle.std.proofs.Common.{rules, ◌≡◌, ℕ, true, length}
use Rattle.std.specs.List.{slice_get}
use Rattle.sets.proofs.Going.{decides_any}
use Rattle.forms.specs.Buffers.{rows_of}
use Rattle.verdicts.specs.Pairs.{related}
use Rattle.verdicts.specs.Ready.{in_row}
use Rattle.verdicts.specs.RowSets.{row_set}
use Rattle.verdicts.specs.Tests.{takes}
use Rattle.verdicts.proofs.prepared.keeping.Within.taken.Goals as goal
use borrow.Author.Tests.{tests}

pub returns : goal.returns
returns c =
    let t = c.args.self.now.prepared.now in
    let rows = rows_of t.table in
    let Yes : ℕ → Type 0 = λ d. takes (related (length rows) c.args.self.now.pairs.now) c.args.c.0 c.args.c.1 (slice_get rows d) ≡ true in
    decides_any row_set (λ s. s.start) (in_row t.channels c.args.pair.1) c.of.ensures.start c.of.ensures.set Yes c.any.ensures.ran (λ x q k. search (rules, tests)) (λ x q k. search (rules, tests))
