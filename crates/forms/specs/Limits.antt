-- The limits of tables, each in one place. Assumes nothing.
use Rattle.std.specs.Prelude.{ℕ}

-- a table has at most so many rows
abbrev pub max_rows : ℕ
max_rows = 64

-- row numbers lie below this: a number is a byte
abbrev pub numbers : ℕ
numbers = 256

-- in a joined table this stands for a number that lay past its own table
abbrev pub past_table : ℕ
past_table = 255

-- labels are numbered from 0 to one less than this, and a label set is a number of so many bits
abbrev pub label_count : ℕ
label_count = 64
