-- Writing rows as text into a buffer of bytes: every call has one outcome. Assumes nothing.
use Rattle.std.specs.Prelude.{◌≡◌, ℕ, ◌<◌, ◌≤◌, List, length, Some}
use Rattle.std.specs.List.{AllByRecursion, slice_get}
use Rattle.forms.specs.declared.Row.{Row}
use Rattle.forms.specs.Limits.{max_rows}
use Rattle.forms.specs.Places.{Nowhere, Lowest}
use Rattle.forms.specs.Refusals.{Outcome}
use Rattle.forms.specs.Refusals.Outcome.{refuses, gives}
use Rattle.forms.specs.Rows.{NumbersBelow, Labelled}
use Rattle.texts.specs.declared.RowsFault.TheVariants.{NumberOver as number_over, NoRoom}
use Rattle.texts.specs.Faults.{rows_refusal}
use Rattle.texts.specs.RowText.{spelled, Judged}

-- row k has a number over 63
abbrev pub NumberOver : List Row → ℕ → Type 0
NumberOver rows k = (r : Row) × (slice_get rows k ≡ Some r) × (NumbersBelow max_rows r → ⊥)

-- What writing rows into so much room gives: a fault, or the text, which then fills the front of the buffer.
pub data WritesRows (room : ℕ) (rows : List Row) : Outcome (List ℕ) → Type 0 where
  -- k is the lowest row with a number over 63
  is_over : {k : ℕ} → Lowest (NumberOver rows) k → WritesRows room rows (refuses (rows_refusal (number_over k)))
  -- a text longer than the buffer
  is_long : Nowhere (NumberOver rows) → room < length (spelled rows) → WritesRows room rows (refuses (rows_refusal NoRoom))
  is_written : Nowhere (NumberOver rows) → length (spelled rows) ≤ room → WritesRows room rows (gives (spelled rows))

-- Every call has exactly one outcome.
abbrev pub WritingRowsIsOne : Type 0
WritingRowsIsOne = (room : ℕ) (rows : List Row) → (o : Outcome (List ℕ)) × WritesRows room rows o × ((p : Outcome (List ℕ)) → WritesRows room rows p → p ≡ o)

-- What is written of a source is a right text, and means its rows.
abbrev pub WrittenRowsAreRight : Type 0
WrittenRowsAreRight = (room : ℕ) (rows : List Row) (text : List ℕ) → length rows ≤ max_rows → AllByRecursion Labelled rows → WritesRows room rows (gives text) → Judged text (gives rows)

-- What a right text means is written as the same text, into any buffer with room for it.
abbrev pub RightRowsAreWritten : Type 0
RightRowsAreWritten = (room : ℕ) (rows : List Row) (text : List ℕ) → Judged text (gives rows) → length text ≤ room → WritesRows room rows (gives text)
