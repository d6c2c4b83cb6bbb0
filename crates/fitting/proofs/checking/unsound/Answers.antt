use Rattle.std.proofs.Common.{rules, ℕ, get_or, length}
use Rattle.std.proofs.lemmas.Iterator.{first_from_Range}
use Rattle.forms.specs.Buffers.{rows_of}
use Rattle.forms.specs.Schema.{IsChannel}
use Rattle.documents.specs.Nodes.{SoundWith, SoundOver}
use Rattle.documents.specs.declared.nodes.Node.TheVariants.{Void}
use Rattle.documents.proofs.Shapes.{sound_or_lowest}
use Rattle.fitting.proofs.checking.unsound.Goals as goal
use borrow.Author.Tests.{tests}

pub returns : goal.returns
returns c =
    let rows = rows_of c.args.prepared.now.table in
    let nodes = c.args.nodes.now in
    let Sound : ℕ → Type 0 = λ k. SoundWith (IsChannel rows) k (get_or nodes k Void) in
    sound_or_lowest (SoundWith (IsChannel rows)) nodes (SoundOver rows nodes) (λ each. record { each = λ k {m} e. each k m e }) c.find.result
    (first_from_Range (record { start = 0; end = length nodes }) _ _ c.find.result (λ k. Sound k → ⊥) Sound c.find.ensures.ran (λ x q k. search (rules, tests)) (λ x q k. search (rules, tests)))
