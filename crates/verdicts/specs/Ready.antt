-- What is kept of an admitted table, so that its rules can be decided fast. Assumes nothing.
use Rattle.std.specs.Prelude.{◌≡◌, ℕ, ◌<◌, Bool, true, ◌&&◌, List, Some, None, Decides, Option, nat_lt, slice_index}
use Rattle.std.specs.List.{slice_get}
use Rattle.forms.specs.Limits.{max_rows}
use Rattle.forms.specs.Rows.{belongs}
use Rattle.forms.specs.Schema.{Offers, Inhabited}
pub use Rattle.forms.specs.Schema.{IsChannel}
use Rattle.forms.specs.declared.Row.{Row}
use Rattle.forms.specs.declared.Row.TheVariants.{Void, Element}
use Rattle.relation.specs.Admission.{Admitted}
use Rattle.relation.specs.Cells.{cell}
use Rattle.relation.specs.Faults.{label_set_of}

-- o belongs to the set of row p
abbrev pub in_row : List ℕ → ℕ → ℕ → Bool
in_row cells p o = nat_lt o max_rows && cell cells p o

abbrev pub IsVoid : List Row → ℕ → Type 0
IsVoid rows o = slice_get rows o ≡ Some Void

abbrev pub IsElement : List Row → ℕ → Type 0
IsElement rows o = (l i n : ℕ) × (slice_get rows o ≡ Some (Element l i n))

-- the sets hold, for each row, the inhabited rows of a sort that it offers
abbrev pub Sorted : List Row → (ℕ → Type 0) → List ℕ → Type 0
Sorted rows Sort cells = (p o : ℕ) → Decides (in_row cells p o) (Offers rows p o × Inhabited rows o × Sort o)

-- the label set of an element row; of another row, or none, the empty one
abbrev pub labels_in : Option Row → ℕ
labels_in None = 0
labels_in (Some row) = label_set_of row

-- the label set has the labels of the rows in the set, and no other
abbrev pub Labelling : List Row → (ℕ → Bool) → ℕ → Type 0
Labelling rows f labels = (x : ℕ) → Decides (belongs x labels) ((e : ℕ) × (f e ≡ true) × (belongs x (labels_in (slice_get rows e)) ≡ true))

-- for each row of an admitted table: the void rows, the channel rows and the inhabited element rows that it offers, and the labels of the latter
pub record Ready (rows : List Row) (voids channels elements labels : List ℕ) : Type 0 where
  pub admitted : Admitted rows
  pub empties : Sorted rows (IsVoid rows) voids
  pub addresses : Sorted rows (IsChannel rows) channels
  pub parts : Sorted rows (IsElement rows) elements
  pub given : (p : ℕ) → p < max_rows → Labelling rows (in_row elements p) (slice_index labels p)
