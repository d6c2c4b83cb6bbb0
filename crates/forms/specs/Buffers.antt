-- What a row buffer holds. Assumes nothing.
use Rattle.std.specs.Prelude.{cond, List, [], ◌∷◌, ◌++◌, length, take, nat_lt}
use Rattle.forms.specs.declared.Row.{Row}
use Rattle.forms.specs.declared.buffer.RowBuffer.{RowBuffer}
use Rattle.forms.specs.Limits.{max_rows}

abbrev pub rows_of : RowBuffer → List Row
rows_of b = take b.count b.table

-- one row more, if there is a place for it
abbrev pub pushed : List Row → Row → List Row
pushed rows row = cond (nat_lt (length rows) max_rows) (rows ++ (row ∷ [])) rows
