use Rattle.std.proofs.Common.{rules, ℕ, ◌/◌}
use Rattle.sets.specs.Sets.{word}
use Rattle.forms.specs.Limits.{max_rows}
use Rattle.verdicts.proofs.Gathering.{overlaid, overlaid_all}
use Rattle.verdicts.proofs.Labelling.{made_of}
use Rattle.verdicts.proofs.prepared.sorting.among.Goals as goal
use borrow.Author.Tests.{tests}

pub returns : goal.returns
returns c =
    let made = c.from_fn.ensures.items in
    let P : ℕ → ℕ → Type 0 = overlaid c.args.cells.now c.args.rows.now (max_rows / word) in
    overlaid_all c.args.cells.now c.args.rows.now c.from_fn.result
    (λ i low. made_of P made (λ x y q k. search (rules, tests)) 0 i low) made.long
