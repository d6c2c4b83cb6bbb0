-- What it means to show that a row is not below another: by an order that fits the one and not the other. Assumes nothing.
use Rattle.std.specs.Prelude.{◌≡◌, ℕ, ◌+◌, ◌*◌, ◌<◌, ◌≤◌, List, length, take, drop, Result, MatchResult}
use Rattle.forms.specs.Refusals.{Refusal}
use Rattle.forms.specs.declared.Row.{Row}
use Rattle.forms.specs.Documents.{Document}
use Rattle.documents.specs.Nodes.{SoundOver, StandsFor}
use Rattle.documents.specs.declared.nodes.Node.{Node}
use Rattle.schema.specs.Rules.{Below, Fits}
use Rattle.verdicts.specs.Pairs.{InTable}
use Rattle.verdicts.specs.declared.faults.RowFault.TheVariants.{Outside}
use Rattle.showing.specs.Faults.{show_refusal}
use Rattle.showing.specs.declared.faults.ShowFault.{ShowFault}
use Rattle.showing.specs.declared.faults.ShowFault.TheVariants.{NoRow, NotNo, FewNodes}

-- The nodes are a sound table over the rows, and the last of them stands for a document that fits p and not q.
-- Many tables are such. Which of them is shown is left to the program: no promise says which document it is, nor by which
-- nodes, in which order, it is written. All that callers may build on are these properties.
pub record Witnesses (rows : List Row) (p q : ℕ) (nodes : List Node) : Type 0 where
  pub sound : SoundOver rows nodes
  pub last : ℕ
  pub is_last : last + 1 ≡ length nodes
  pub order : Document
  pub stands : StandsFor nodes last order
  pub fits : Fits rows order p
  pub fits_not : Fits rows order q → ⊥

-- one node a row, and one a pair of rows
abbrev pub places : List Row → ℕ
places rows = length rows * (length rows + 1)

-- An order can be shown: (p, q) is a pair of rows, p is not below q, and the room is enough.
pub record Showable (rows : List Row) (p q room : ℕ) : Type 0 where
  pub pair : InTable rows p q
  pub not_below : Below rows p q → ⊥
  pub enough : places rows ≤ room

-- Why none can: the earlier case first.
pub data Unshowable (rows : List Row) (p q room : ℕ) : Refusal → Type 0 where
  no_row : (InTable rows p q → ⊥) → Unshowable rows p q room (show_refusal (NoRow Outside))
  is_below : InTable rows p q → Below rows p q → Unshowable rows p q room (show_refusal NotNo)
  is_few : InTable rows p q → (Below rows p q → ⊥) → room < places rows → Unshowable rows p q room (show_refusal FewNodes)

-- Where an order can be shown, the first k nodes show it and the others stay; where none can, all stay.
abbrev pub Shown : List Row → ℕ → ℕ → List Node → List Node → Result ℕ ShowFault → Type 0
Shown rows p q before after r = MatchResult r
    (λ k. Showable rows p q (length before) × (k ≤ places rows) × Witnesses rows p q (take k after) × (drop k after ≡ drop k before) × (length after ≡ length before))
    (λ e. Unshowable rows p q (length before) (show_refusal e) × (after ≡ before))
