-- Which tables of nodes can be fitted to the rows of a table, and which fault is found in the others. Assumes nothing.
use Rattle.std.specs.Prelude.{◌≡◌, ℕ, ◌*◌, ◌/◌, ◌<◌, ◌≤◌, ◌⊎◌, List, length, Some, ◌≢◌}
use Rattle.std.specs.List.{slice_get}
use Rattle.sets.specs.Sets.{word}
use Rattle.forms.specs.Limits.{max_rows}
use Rattle.forms.specs.Places.{Lowest}
use Rattle.forms.specs.Refusals.{Refusal}
use Rattle.forms.specs.Schema.{IsChannel}
use Rattle.forms.specs.declared.Row.{Row}
use Rattle.documents.specs.Limits.{max_nodes}
use Rattle.documents.specs.Nodes.{SoundWith, SoundOver}
use Rattle.documents.specs.declared.nodes.Node.{Node}
use Rattle.fitting.specs.Faults.{fit_refusal}
use Rattle.verdicts.specs.declared.faults.RowFault.TheVariants.{Outside}
use Rattle.fitting.specs.declared.faults.FitFault.TheVariants.{NoRow, ManyNodes, Unsound, RootOutside, MarksLength}

-- so many words have a bit for each row
abbrev pub row_words : ℕ
row_words = max_rows / word

-- node k is not sound over the rows
abbrev pub UnsoundOver : List Row → List Node → ℕ → Type 0
UnsoundOver rows nodes k = (m : Node) × (slice_get nodes k ≡ Some m) × (SoundWith (IsChannel rows) k m → ⊥)

-- The row is one of the table, the nodes are few and sound, the root is one of them, and there is a mark for each node and row.
pub record Fittable (rows : List Row) (nodes : List Node) (root row marks : ℕ) : Type 0 where
  pub row_within : row < length rows
  pub few : length nodes ≤ max_nodes
  pub sound : SoundOver rows nodes
  pub root_within : root < length nodes
  pub one_each : marks ≡ length nodes * row_words

-- The fault that is found: the earlier case first, and the lowest node that is not sound.
pub data Unfit (rows : List Row) (nodes : List Node) (root row marks : ℕ) : Refusal → Type 0 where
  no_row : length rows ≤ row → Unfit rows nodes root row marks (fit_refusal (NoRow Outside))
  is_many : row < length rows → max_nodes < length nodes → Unfit rows nodes root row marks (fit_refusal ManyNodes)
  is_unsound : {k : ℕ} → row < length rows → length nodes ≤ max_nodes → Lowest (UnsoundOver rows nodes) k → Unfit rows nodes root row marks (fit_refusal (Unsound k))
  is_outside : row < length rows → length nodes ≤ max_nodes → SoundOver rows nodes → length nodes ≤ root → Unfit rows nodes root row marks (fit_refusal RootOutside)
  is_unequal : row < length rows → length nodes ≤ max_nodes → SoundOver rows nodes → root < length nodes → (marks ≢ length nodes * row_words) → Unfit rows nodes root row marks (fit_refusal MarksLength)

-- An order can be fitted and has no fault, or cannot and has exactly one.
abbrev pub FittableOrOneFault : Type 0
FittableOrOneFault =
    (rows : List Row) (nodes : List Node) (root row marks : ℕ)
    → (Fittable rows nodes root row marks × ((e : Refusal) → Unfit rows nodes root row marks e → ⊥))
    ⊎ ((Fittable rows nodes root row marks → ⊥) × ((e : Refusal) × Unfit rows nodes root row marks e × ((f : Refusal) → Unfit rows nodes root row marks f → f ≡ e)))
