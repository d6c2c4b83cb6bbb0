-- Their rows as they face ours, and that they keep to the laws of sources. Assumes nothing.
use Rattle.std.specs.Prelude.{List, map}
use Rattle.forms.specs.Laws.{buffer_laws, turned_laws}
use Rattle.forms.specs.Rows.{Lawful, turn}
use Rattle.forms.specs.declared.Row.{Row}
use Rattle.texts.specs.Calls.{text_rows}
use Rattle.compare.specs.declared.facing.Facing.{Facing}
use Rattle.compare.specs.declared.facing.Facing.TheVariants.{Straight, Swapped}

abbrev pub faced : Facing → List Row
faced (Straight s) = text_rows s
faced (Swapped s) = map turn (text_rows s.source)

pub faced_laws : (s : Facing) → Lawful (faced s)
faced_laws (Straight s) = buffer_laws s.table
faced_laws (Swapped s) = turned_laws (text_rows s.source) (buffer_laws s.source.table)
