-- A prepared table: its rows, how many they are, and the relation between them that a set of places means. Assumes nothing.
use Rattle.std.specs.Prelude.{ℕ, List, length}
use Rattle.forms.specs.Buffers.{rows_of}
use Rattle.forms.specs.declared.Row.{Row}
use Rattle.schema.specs.Rules.{Relation}
use Rattle.verdicts.specs.Pairs.{related}
use Rattle.verdicts.specs.declared.prepared.Prepared.{Prepared}

abbrev pub rows_in : Prepared → List Row
rows_in t = rows_of t.table

abbrev pub count_in : Prepared → ℕ
count_in t = length (rows_in t)

abbrev pub related_in : Prepared → List ℕ → Relation
related_in t words = related (count_in t) words
