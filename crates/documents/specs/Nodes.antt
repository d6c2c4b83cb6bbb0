-- Documents as tables of nodes. Assumes nothing.
use Rattle.std.specs.Prelude.{◌≡◌, ℕ, ◌+◌, ◌-◌, ◌<◌, List, [], ◌∷◌, ◌++◌, length, Some}
use Rattle.std.specs.List.{slice_get}
use Rattle.documents.specs.declared.nodes.Node.{Node}
use Rattle.documents.specs.declared.nodes.Node.TheVariants.{Void, Reference, Element}
use Rattle.forms.specs.Documents.{Document}
use Rattle.forms.specs.Limits.{max_rows, label_count}
use Rattle.forms.specs.Schema.{IsChannel}
use Rattle.forms.specs.declared.Row.{Row}
use Rattle.documents.specs.Grammar.{Small}
use Rattle.forms.specs.Documents.Document.{void, reference, element}

-- A node stands for a document. (`slice_get nodes k` is the node with number k, or none.)
pub data StandsFor (nodes : List Node) : ℕ → Document → Type 0 where
  for_void : {k : ℕ} → slice_get nodes k ≡ Some Void → StandsFor nodes k void
  for_reference : {k c : ℕ} → slice_get nodes k ≡ Some (Reference c) → StandsFor nodes k (reference c)
  for_element : {k x i f : ℕ} {a b : Document} → slice_get nodes k ≡ Some (Element x i f) → StandsFor nodes i a → StandsFor nodes f b → StandsFor nodes k (element x a b)

-- The node with number k has a label and a row number that text can spell, and points at lower nodes.
abbrev pub SoundAt : ℕ → Node → Type 0
SoundAt k Void = Unit {0}
SoundAt k (Reference c) = c < max_rows
SoundAt k (Element x i f) = (x < label_count) × (i < k) × (f < k)

-- The node with number k has a label that there is and points at lower nodes; a reference is to a row that may be referred to.
abbrev pub SoundWith : (ℕ → Type 0) → ℕ → Node → Type 0
SoundWith May k Void = Unit {0}
SoundWith May k (Reference c) = May c
SoundWith May k (Element x i f) = (x < label_count) × (i < k) × (f < k)

-- The table is sound over rows: its references are to channel rows.
pub record SoundOver (rows : List Row) (nodes : List Node) : Type 0 where
  pub each : (k : ℕ) {m : Node} → slice_get nodes k ≡ Some m → SoundWith (IsChannel rows) k m

pub record Sound (nodes : List Node) : Type 0 where
  pub each : (k : ℕ) {m : Node} → slice_get nodes k ≡ Some m → SoundAt k m

-- how many nodes a document takes, its void parts apart
abbrev pub size : Document → ℕ
size void = 0
size (reference c) = 1
size (element x a b) = size a + size b + 1

-- the number of the node that stands for a document whose nodes begin at n: its last one, or node 0 for void
abbrev pub root : ℕ → Document → ℕ
root n void = 0
root n (reference c) = n
root n (element x a b) = n + size a + size b

-- the nodes of a document, numbered from n on: first those of its inside, then those of what follows, then its own
abbrev pub nodes_from : ℕ → Document → List Node
nodes_from n void = []
nodes_from n (reference c) = Reference c ∷ []
nodes_from n (element x a b) = nodes_from n a ++ (nodes_from (n + size a) b ++ (Element x (root n a) (root (n + size a) b) ∷ []))

-- the table that reading makes: node 0 is void
abbrev pub nodes_for : Document → List Node
nodes_for d = Void ∷ nodes_from 1 d

-- It is sound, its last node stands for the document, and it has one node for void and one for each reference and element.
abbrev pub NodesStandForDocuments : Type 0
NodesStandForDocuments = (d : Document) → Small d → Sound (nodes_for d) × StandsFor (nodes_for d) (length (nodes_for d) - 1) d × (length (nodes_for d) ≡ size d + 1)

-- In a sound table each node stands for exactly one document.
abbrev pub NodesStandForOne : Type 0
NodesStandForOne = (nodes : List Node) → Sound nodes → (k : ℕ) → k < length nodes → (d : Document) × Small d × StandsFor nodes k d × ((e : Document) → StandsFor nodes k e → e ≡ d)
