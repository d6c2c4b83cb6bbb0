-- The limits of document tables and texts, each in one place. Assumes nothing.
use Rattle.std.specs.Prelude.{ℕ, ◌+◌, ◌*◌}
use Rattle.forms.specs.Limits.{max_rows}

-- a table has at most so many nodes: 4,160, one for each row and one for each pair of rows
abbrev pub max_nodes : ℕ
max_nodes = max_rows * (max_rows + 1)

-- a text has at most so many bytes
abbrev pub max_document : ℕ
max_document = 32768

-- and opens brackets in brackets at most so deep
abbrev pub max_levels : ℕ
max_levels = 64
