-- Tables made of admitted tables are admitted. Assumes nothing.
use Rattle.std.specs.Prelude.{◌+◌, ◌≤◌, List, map, length}
use Rattle.forms.specs.Limits.{max_rows}
use Rattle.forms.specs.Rows.{joined, turn}
use Rattle.forms.specs.declared.Row.{Row}
use Rattle.relation.specs.Admission.{Admitted}

-- two that are joined, if they have few enough rows together
abbrev pub JoinedIsAdmitted : Type 0
JoinedIsAdmitted = (a b : List Row) → Admitted a → Admitted b → length a + length b ≤ max_rows → Admitted (joined a b)

-- one that is turned
abbrev pub TurnedIsAdmitted : Type 0
TurnedIsAdmitted = (rows : List Row) → Admitted rows → Admitted (map turn rows)
