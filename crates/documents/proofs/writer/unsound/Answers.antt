use Rattle.std.proofs.Common.{rules, length, get_or}
use Rattle.std.proofs.lemmas.Iterator.{first_from_Range}
use Rattle.documents.specs.declared.nodes.Node.TheVariants.{Void}
use Rattle.documents.specs.Nodes.{SoundAt, Sound}
use Rattle.documents.proofs.Shapes.{sound_or_lowest}
use Rattle.documents.proofs.writer.unsound.Goals as goal
use borrow.Author.Tests.{tests}

pub returns : goal.returns
returns c =
    let nodes = c.args.nodes.now in
    sound_or_lowest SoundAt nodes (Sound nodes) (λ each. record { each = λ k {m} e. each k m e }) c.find.result
    (first_from_Range (record { start = 0; end = length nodes }) _ _ c.find.result (λ k. SoundAt k (get_or nodes k Void) → ⊥) (λ k. SoundAt k (get_or nodes k Void)) c.find.ensures.ran (λ x q k. search (rules, tests)) (λ x q k. search (rules, tests)))
