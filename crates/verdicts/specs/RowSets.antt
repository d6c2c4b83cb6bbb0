-- The set of one row, as it is gone through. Assumes nothing.
use Rattle.std.specs.Prelude.{◌≡◌, ℕ, ◌<◌, Bool, true, false, List, Option, MatchOption}
use denote.Ref.{Bor}
use Rattle.sets.specs.Sets.{member}
use Rattle.forms.specs.Limits.{max_rows}
use Rattle.verdicts.specs.Ready.{in_row}
use Rattle.verdicts.specs.declared.rowsets.RowSet.{RowSet}

-- o belongs to the set
abbrev pub row_set : RowSet → ℕ → Bool
row_set s o = in_row s.cells.now s.row o

-- words that hold the set of rows of which f is the test; where there are none, it is empty
abbrev pub WordsOf : (ℕ → Bool) → Option (Bor (List ℕ)) → Type 0
WordsOf f r = MatchOption r ((o : ℕ) → f o ≡ false) (λ words. (o : ℕ) → (member words.now o ≡ f o) × (f o ≡ true → o < max_rows))
