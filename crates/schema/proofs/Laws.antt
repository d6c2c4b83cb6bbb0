-- What holds of every table. Assumes nothing.
use Rattle.schema.specs.Theorems.{BelowLaws}
use Rattle.schema.proofs.Inclusion.{below_is_sound, below_or_witness, below_is_inclusion}
use Rattle.schema.proofs.Leaning.{leans_is_decided, leaned_tells_below}
use Rattle.schema.proofs.Order.{reflexive, transitive}
use Rattle.schema.proofs.Published.{published_is_below}

pub below_laws : BelowLaws
below_laws = record {
  sound = below_is_sound;
  inclusion = below_is_inclusion;
  witness = below_or_witness;
  published = published_is_below;
  reflexive = reflexive;
  transitive = transitive;
  leans = leans_is_decided;
  told = leaned_tells_below;
}
