-- Which tables are admitted, and which fault is found in the others. Assumes nothing.
use Rattle.std.specs.Prelude.{◌≡◌, ℕ, ◌<◌, true, ◌⊎◌, List, [], ◌∷◌, length, Some}
use Rattle.std.specs.List.{slice_get}
use Rattle.forms.specs.declared.Row.{Row}
use Rattle.forms.specs.declared.Row.TheVariants.{Element}
use Rattle.forms.specs.Places.{Nowhere, Lowest}
use Rattle.forms.specs.Refusals.{Refusal}
use Rattle.forms.specs.Refusals.Refusal.{refusal}
use Rattle.forms.specs.Rows.{belongs, NumbersBelow}
use Rattle.forms.specs.Schema.{Offers, Inhabited}

-- A number of row p lies outside the table.
abbrev pub Outside : List Row → ℕ → Type 0
Outside rows p = (row : Row) × (slice_get rows p ≡ Some row) × (NumbersBelow (length rows) row → ⊥)

-- Row p offers e, an inhabited element row to which label x belongs.
pub record Gives (rows : List Row) (p e x : ℕ) : Type 0 where
  pub labels : ℕ
  pub inside : ℕ
  pub following : ℕ
  pub offered : Offers rows p e
  pub is : slice_get rows e ≡ Some (Element labels inside following)
  pub inhabited : Inhabited rows e
  pub has : belongs x labels ≡ true

-- Row p offers two different inhabited element rows with a common label.
pub record SharesLabel (rows : List Row) (p : ℕ) : Type 0 where
  pub one : ℕ
  pub other : ℕ
  pub label : ℕ
  pub first : Gives rows p one label
  pub second : Gives rows p other label
  pub different : one ≡ other → ⊥

-- No fault: there are rows, their numbers stay in the table, and no row offers a label twice.
pub record Admitted (rows : List Row) : Type 0 where
  pub some : 0 < length rows
  pub within : (p : ℕ) (row : Row) → slice_get rows p ≡ Some row → NumbersBelow (length rows) row
  pub determined : Nowhere (SharesLabel rows)

-- The fault that is found: the earlier case first, and the lowest row of its sort.
pub data Finds (rows : List Row) : Refusal → Type 0 where
  no_rows : length rows ≡ 0 → Finds rows (refusal 11 [])
  number_outside : {p : ℕ} → Lowest (Outside rows) p → Finds rows (refusal 12 (p ∷ []))
  label_twice : {p : ℕ} → Nowhere (Outside rows) → Lowest (SharesLabel rows) p → Finds rows (refusal 13 (p ∷ []))

-- A table is admitted and has no fault, or is not admitted and has exactly one.
abbrev pub AdmittedOrOneFault : List Row → Type 0
AdmittedOrOneFault rows =
    (Admitted rows × ((e : Refusal) → Finds rows e → ⊥))
    ⊎ ((Admitted rows → ⊥) × ((e : Refusal) × Finds rows e × ((f : Refusal) → Finds rows f → f ≡ e)))
