-- That a table is sound is a fact: it says no more than that it holds. Assumes nothing.
use Rattle.std.specs.Prelude.{ℕ, List}
use Rattle.std.proofs.Props.{props}
use Rattle.documents.specs.declared.nodes.Node.{Node}
use Rattle.documents.specs.declared.nodes.Node.TheVariants.{Void, Reference, Element}
use Rattle.documents.specs.Nodes.{SoundAt, Sound}

sound_at_is_fact : (k : ℕ) (m : Node) → IsProp (SoundAt k m)
sound_at_is_fact k Void = Prim.hlevel props
sound_at_is_fact k (Reference c) = Prim.hlevel props
sound_at_is_fact k (Element x i f) = Prim.hlevel props

pub sound_is_fact : (nodes : List Node) → IsProp (Sound nodes)
sound_is_fact nodes = Prim.hlevel (props, sound_at_is_fact)
