-- What the text calls answer, and what they leave in a buffer. Assumes nothing.
use Rattle.std.specs.Prelude.{◌≡◌, ℕ, ◌≤◌, List, [], length, take, drop, Ok, Err, Result}
use Rattle.forms.specs.declared.Row.{Row}
use Rattle.forms.specs.Buffers.{rows_of}
use Rattle.forms.specs.Places.{Nowhere, Lowest}
use Rattle.forms.specs.Refusals.{Outcome}
use Rattle.forms.specs.Refusals.Outcome.{refuses, gives}
use Rattle.texts.specs.declared.RowText.{RowText}
use Rattle.texts.specs.declared.TextFault.{TextFault}
use Rattle.texts.specs.declared.RowsFault.{RowsFault}
use Rattle.texts.specs.declared.RowsFault.TheVariants.{NumberOver}
use Rattle.texts.specs.Faults.{text_refusal, rows_refusal}
use Rattle.texts.specs.RowText.{spelled, Judged}
use Rattle.texts.specs.Writing.{NumberOver as over, WritesRows}

-- the rows that a text source has
abbrev pub text_rows : RowText → List Row
text_rows t = rows_of t.table

-- what checking a text answers
abbrev pub checked : Result RowText TextFault → Outcome (List Row)
checked (Ok t) = gives (text_rows t)
checked (Err e) = refuses (text_refusal e)

-- what is read is written as the same bytes, into any buffer with room for them
abbrev pub WritesBack : List ℕ → Result RowText TextFault → Type 0
WritesBack bytes (Ok t) = (room : ℕ) → length bytes ≤ room → WritesRows room (text_rows t) (gives bytes)
WritesBack bytes (Err e) = Unit {0}

-- the rows that a text is taken to mean: none where checking refuses it
abbrev pub spelled_by : Outcome (List Row) → List Row
spelled_by (refuses f) = []
spelled_by (gives rows) = rows

-- the length of the rows' text, or the lowest row with a number over 63
abbrev pub TotalFound : List Row → Result ℕ RowsFault → Type 0
TotalFound rows (Ok n) = Nowhere (over rows) × (n ≡ length (spelled rows))
TotalFound rows (Err e) = (k : ℕ) × (e ≡ NumberOver k) × Lowest (over rows) k

-- what writing rows answers, and what the buffer then holds: the text and the rest as it was, or all as it was
abbrev pub RowsWritten : List Row → List ℕ → List ℕ → Result ℕ RowsFault → Type 0
RowsWritten rows before after (Ok n) = WritesRows (length before) rows (gives (take n after)) × (n ≡ length (take n after)) × (drop n after ≡ drop n before)
RowsWritten rows before after (Err e) = WritesRows (length before) rows (refuses (rows_refusal e)) × (after ≡ before)

-- what is written means the rows
abbrev pub ReadsBack : List Row → List ℕ → Result ℕ RowsFault → Type 0
ReadsBack rows after (Ok n) = Judged (take n after) (gives rows)
ReadsBack rows after (Err e) = Unit {0}
