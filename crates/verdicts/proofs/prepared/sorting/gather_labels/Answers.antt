use Rattle.std.proofs.Common.{rules, ℕ}
use Rattle.forms.specs.Buffers.{rows_of}
use Rattle.verdicts.specs.Ready.{in_row, Labelling}
use Rattle.verdicts.proofs.Labelling.{made_of}
use Rattle.verdicts.proofs.prepared.sorting.gather_labels.Goals as goal
use borrow.Author.Tests.{tests}

pub returns : goal.returns
returns c =
    let P : ℕ → ℕ → Type 0 = λ p v. Labelling (rows_of c.args.table.now) (in_row c.args.elements.now p) v in
    λ p low. made_of P c.from_fn.ensures.items (λ x y q k. search (rules, tests)) 0 p low
