-- Which rows are put into the sets of a prepared table. Assumes nothing.
use Rattle.std.specs.Prelude.{ℕ, Bool, ◌&&◌, List, Option, nat_lt}
use Rattle.std.specs.List.{slice_get}
use Rattle.sets.specs.Sets.{member}
use Rattle.forms.specs.Limits.{max_rows}
use Rattle.forms.specs.declared.Row.{Row}
use Rattle.relation.specs.Cells.{cell}
use Rattle.relation.specs.declared.analysis.Analysis.{Analysis}

-- row o is inhabited and passes the test of a sort
abbrev pub of_sort : List Row → Analysis → (Option Row → Bool) → ℕ → Bool
of_sort rows a test o = member a.inhabited o && test (slice_get rows o)

-- row p offers row o, which is inhabited and passes the test
abbrev pub picked : List Row → Analysis → (Option Row → Bool) → ℕ → ℕ → Bool
picked rows a test p o = (nat_lt o max_rows && cell a.offered p o) && (member a.inhabited o && test (slice_get rows o))
