-- The text of a node, part by part. Assumes nothing.
use Rattle.std.specs.Prelude.{◌≡◌, ℕ, ◌-◌, ◌<◌, cond, List, [], ◌∷◌, Some, None, Option, nat_le}
use Rattle.forms.specs.Limits.{max_rows, label_count}
use Rattle.forms.specs.Documents.{Document}
use Rattle.forms.specs.Documents.Document.{void, reference, element}
use Rattle.documents.specs.declared.nodes.Node.{Node}
use Rattle.documents.specs.declared.writer.Shape.{Shape}
use Rattle.documents.specs.declared.writer.Shape.TheVariants.{Empty, Address, Branch}
use Rattle.documents.specs.Grammar.{comma_before}
use Rattle.documents.specs.Nodes.{StandsFor}

-- the room that n bytes leave
abbrev pub rest : ℕ → ℕ → Option ℕ
rest room n = cond (nat_le n room) (Some (room - n)) None

-- what a node is, and what follows for the document that it stands for
abbrev pub Shaped : List Node → ℕ → Shape → Type 0
Shaped nodes k Empty = (x : Document) → StandsFor nodes k x → x ≡ void
Shaped nodes k (Address c) = (c < max_rows) × ((x : Document) → StandsFor nodes k x → x ≡ reference c)
Shaped nodes k (Branch l i None) = (l < label_count) × (i < k) × ((x : Document) → StandsFor nodes k x → (a : Document) × (x ≡ element l a void) × StandsFor nodes i a)
Shaped nodes k (Branch l i (Some f)) =
    (l < label_count) × (i < k) × (f < k) × ((x : Document) → StandsFor nodes k x → (a b : Document) × (x ≡ element l a b) × (comma_before b ≡ 44 ∷ []) × StandsFor nodes i a × StandsFor nodes f b)
