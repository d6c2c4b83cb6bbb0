-- The rows of a table, and the pairs of them by which references fit. Assumes nothing.
use Rattle.std.specs.Prelude.{ℕ, List}
use Rattle.forms.specs.declared.Row.{Row}
use Rattle.verdicts.specs.Tables.{rows_in, count_in}
use Rattle.fitting.specs.Marks.{Among}
use Rattle.fitting.specs.declared.rows.Fitting.{Fitting}

abbrev pub rows_fitted : Fitting → List Row
rows_fitted f = rows_in f.prepared.now

abbrev pub Paired : Fitting → ℕ → ℕ → Type 0
Paired f = Among (count_in f.prepared.now) f.pairs.now
