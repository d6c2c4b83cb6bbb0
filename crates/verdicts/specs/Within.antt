-- The rows and the relation within which the rules are asked. Assumes nothing.
use Rattle.std.specs.Prelude.{List}
use Rattle.forms.specs.declared.Row.{Row}
use Rattle.schema.specs.Rules.{Relation}
use Rattle.verdicts.specs.Tables.{rows_in, related_in}
use Rattle.verdicts.specs.declared.prepared.keeping.Within.{Within}

abbrev pub rows_within : Within → List Row
rows_within w = rows_in w.prepared.now

abbrev pub relation_of : Within → Relation
relation_of w = related_in w.prepared.now w.pairs.now
