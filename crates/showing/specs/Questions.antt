-- A question about a table: its rows, the pairs that the asked one leans on, and those of them that are below. Assumes nothing.
use Rattle.std.specs.Prelude.{List}
use Rattle.forms.specs.declared.Row.{Row}
use Rattle.schema.specs.Rules.{Relation}
use Rattle.verdicts.specs.Tables.{rows_in, related_in}
use Rattle.showing.specs.declared.drawn.Question.{Question}

abbrev pub rows_asked : Question → List Row
rows_asked q = rows_in q.prepared.now

abbrev pub leaned_in : Question → Relation
leaned_in q = related_in q.prepared.now q.leaned.now

abbrev pub below_in : Question → Relation
below_in q = related_in q.prepared.now q.below.now
