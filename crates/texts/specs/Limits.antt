-- The limits of row text, each in one place. Assumes nothing.
use Rattle.std.specs.Prelude.{ℕ}

-- a text has at most so many bytes
abbrev pub max_text : ℕ
max_text = 1600

-- a label set is written with so many hexadecimal digits
abbrev pub label_digits : ℕ
label_digits = 16
