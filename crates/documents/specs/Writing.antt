-- Writing documents as text into a buffer of bytes: every call has one outcome. Assumes nothing.
use Rattle.std.specs.Prelude.{◌≡◌, ℕ, ◌-◌, ◌<◌, ◌≤◌, min, List, length, Some}
use Rattle.std.specs.List.{slice_get}
use Rattle.forms.specs.Places.{Lowest}
use Rattle.forms.specs.Refusals.{Outcome}
use Rattle.forms.specs.Refusals.Outcome.{refuses, gives}
use Rattle.forms.specs.Documents.{Document}
use Rattle.documents.specs.declared.nodes.Node.{Node}
use Rattle.documents.specs.Limits.{max_nodes, max_document}
use Rattle.documents.specs.Grammar.{spelled_document}
use Rattle.documents.specs.Nodes.{SoundAt, Sound, StandsFor, nodes_for}
use Rattle.documents.specs.declared.faults.WriteFault.TheVariants.{ManyNodes, Unsound as unsound_node, RootOutside, TooLong}
use Rattle.documents.specs.Faults.{write_refusal}
use Rattle.documents.specs.Reading.{Reads}

-- node k is unsound
abbrev pub Unsound : List Node → ℕ → Type 0
Unsound nodes k = (m : Node) × (slice_get nodes k ≡ Some m) × (SoundAt k m → ⊥)

-- What writing the document of a node into so much room gives: a fault, or the text.
pub data WritesDocument (room : ℕ) (nodes : List Node) (root : ℕ) : Outcome (List ℕ) → Type 0 where
  -- more than 4,160 nodes
  is_many : max_nodes < length nodes → WritesDocument room nodes root (refuses (write_refusal ManyNodes))
  is_unsound : {k : ℕ} → length nodes ≤ max_nodes → Lowest (Unsound nodes) k → WritesDocument room nodes root (refuses (write_refusal (unsound_node k)))
  -- the root is not in the table
  is_outside : length nodes ≤ max_nodes → Sound nodes → length nodes ≤ root → WritesDocument room nodes root (refuses (write_refusal RootOutside))
  -- a text longer than the buffer, or than 32,768 bytes
  is_long : (d : Document) → length nodes ≤ max_nodes → Sound nodes → StandsFor nodes root d → min room max_document < length (spelled_document d) → WritesDocument room nodes root (refuses (write_refusal TooLong))
  is_written : (d : Document) → length nodes ≤ max_nodes → Sound nodes → StandsFor nodes root d → length (spelled_document d) ≤ min room max_document → WritesDocument room nodes root (gives (spelled_document d))

-- Every call has exactly one outcome.
abbrev pub WritingDocumentsIsOne : Type 0
WritingDocumentsIsOne = (room : ℕ) (nodes : List Node) (root : ℕ) → (o : Outcome (List ℕ)) × WritesDocument room nodes root o × ((p : Outcome (List ℕ)) → WritesDocument room nodes root p → p ≡ o)

-- The nodes that reading makes are written as the text that was read.
abbrev pub ReadIsWrittenBack : Type 0
ReadIsWrittenBack = (buffer room : ℕ) (bytes : List ℕ) (d : Document) → Reads buffer bytes (gives d) → length bytes ≤ room →
    WritesDocument room (nodes_for d) (length (nodes_for d) - 1) (gives bytes)
