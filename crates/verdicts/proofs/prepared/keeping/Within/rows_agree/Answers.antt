use Rattle.std.proofs.Common.{rules, ◌≡◌, ℕ, true, length}
use Rattle.std.specs.List.{slice_get}
use Rattle.sets.proofs.Going.{decides_all}
use Rattle.forms.specs.Buffers.{rows_of}
use Rattle.verdicts.specs.Pairs.{related}
use Rattle.verdicts.specs.Ready.{in_row}
use Rattle.verdicts.specs.RowSets.{row_set}
use Rattle.verdicts.specs.Tests.{agrees}
use Rattle.verdicts.proofs.prepared.keeping.Within.rows_agree.Goals as goal
use borrow.Author.Tests.{tests}

pub returns : goal.returns
returns c =
    let t = c.args.self.now.prepared.now in
    let rows = rows_of t.table in
    let Yes : ℕ → Type 0 = λ e. (f : ℕ) → in_row t.elements c.args.pair.1 f ≡ true → agrees (related (length rows) c.args.self.now.pairs.now) (slice_get rows e) (slice_get rows f) ≡ true in
    decides_all row_set (λ s. s.start) (in_row t.elements c.args.pair.0) c.of.ensures.start c.of.ensures.set Yes c.all.ensures.ran (λ x q k. search (rules, tests)) (λ x q k. search (rules, tests))
