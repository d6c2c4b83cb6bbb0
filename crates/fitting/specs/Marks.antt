-- What the nodes of a table refer to, and which rows they fit. Assumes nothing.
use Rattle.std.specs.Prelude.{◌≡◌, ℕ, ◌<◌, Bool, true, false, ◌&&◌, List, length, Some, None, Decides, Option}
use Rattle.std.specs.List.{slice_get}
use Rattle.forms.specs.Documents.{Document}
use Rattle.forms.specs.Limits.{max_rows}
use Rattle.forms.specs.Rows.{belongs}
use Rattle.forms.specs.Schema.{Offers, Inhabited, IsChannel}
use Rattle.forms.specs.declared.Row.{Row}
use Rattle.forms.specs.declared.Row.TheVariants.{Void as void_row, Nothing, Channel, Element as element_row, Union}
use Rattle.documents.specs.Nodes.{StandsFor}
use Rattle.documents.specs.declared.nodes.Node.{Node}
use Rattle.documents.specs.declared.nodes.Node.TheVariants.{Void, Reference, Element}
use Rattle.relation.specs.Cells.{cell}
use Rattle.schema.specs.Rules.{OffersVoid}
use Rattle.schema.specs.Fitting.{FitsBy}
use Rattle.verdicts.specs.Pairs.{related}
use Rattle.verdicts.specs.Ready.{IsElement}

-- a node refers to row c
abbrev pub Referred : List Node → ℕ → Type 0
Referred nodes c = (i : ℕ) × (slice_get nodes i ≡ Some (Reference c))

-- the pair of n rows is among the pairs that words hold
abbrev pub Among : ℕ → List ℕ → ℕ → ℕ → Type 0
Among n words c d = related n words c d ≡ true

-- Node i stands for a document, for one and exactly one, and P holds of that.
pub record ItsDocument (nodes : List Node) (i : ℕ) (P : Document → Type 0) : Type 0 where
  pub document : Document
  pub stands : StandsFor nodes i document
  pub only : (e : Document) → StandsFor nodes i e → e ≡ document
  pub told : P document

-- The marks of node i are the rows that its document fits.
abbrev pub MarkedAt : List Row → (ℕ → ℕ → Type 0) → List Node → List ℕ → ℕ → Type 0
MarkedAt rows B nodes marks i = ItsDocument nodes i (λ d. (r : ℕ) → r < max_rows → Decides (cell marks i r) ((r < length rows) × FitsBy rows B d r))

-- The marks of each node are.
abbrev pub Marked : List Row → (ℕ → ℕ → Type 0) → List Node → List ℕ → Type 0
Marked rows B nodes marks = (i : ℕ) → i < length nodes → MarkedAt rows B nodes marks i

-- b tells whether the document of the root fits the row.
abbrev pub TellsRoot : List Row → (ℕ → ℕ → Type 0) → List Node → ℕ → ℕ → Bool → Type 0
TellsRoot rows B nodes root row b = ItsDocument nodes root (λ d. Decides b (FitsBy rows B d row))

-- an element row has the label, its inside is marked for node a, and its following for node b
abbrev pub holds : (ℕ → ℕ → Bool) → ℕ → ℕ → ℕ → Option Row → Bool
holds M x a b None = false
holds M x a b (Some void_row) = false
holds M x a b (Some Nothing) = false
holds M x a b (Some (Channel k s)) = false
holds M x a b (Some (element_row l i n)) = belongs x l && (M a i && M b n)
holds M x a b (Some (Union l r)) = false

-- what a node says fits row r, if the marks M tell it of lower nodes
abbrev pub FitsNode : List Row → (ℕ → ℕ → Type 0) → (ℕ → ℕ → Bool) → Node → ℕ → Type 0
FitsNode rows B M Void r = OffersVoid rows r
FitsNode rows B M (Reference c) r = (d : ℕ) × Offers rows r d × IsChannel rows d × B c d
FitsNode rows B M (Element x a b) r = (e : ℕ) × Offers rows r e × Inhabited rows e × IsElement rows e × (holds M x a b (slice_get rows e) ≡ true)
