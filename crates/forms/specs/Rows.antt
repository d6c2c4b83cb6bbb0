-- What rows are, and what the sources above other sources mean. Assumes nothing.
use Rattle.std.specs.Prelude.{ℕ, ◌+◌, ◌^◌, ◌<◌, ◌≤◌, Bool, true, cond, ◌&&◌, List, [], ◌++◌, map, length, nat_le, nat_lt}
use Rattle.std.specs.List.{AllByRecursion}
use Rattle.sets.specs.Sets.{bit}
use Rattle.forms.specs.declared.Row.{Row}
use Rattle.forms.specs.declared.Row.TheVariants.{Void, Nothing, Channel, Element, Union}
use Rattle.forms.specs.declared.Capability.{Capability}
use Rattle.forms.specs.declared.Capability.TheVariants.{In, Out, Both}
use Rattle.forms.specs.Limits.{max_rows, numbers, past_table, label_count}

-- label k belongs to the label set s: bit k of s is set
abbrev pub belongs : ℕ → ℕ → Bool
belongs k s = bit s k

-- the row's numbers are below n
abbrev pub NumbersBelow : ℕ → Row → Type 0
NumbersBelow n Void = Unit {0}
NumbersBelow n Nothing = Unit {0}
NumbersBelow n (Channel k s) = s < n
NumbersBelow n (Element l i f) = (i < n) × (f < n)
NumbersBelow n (Union l r) = (l < n) × (r < n)

-- the row's label set has no other labels than those that there are
abbrev pub Labelled : Row → Type 0
Labelled Void = Unit {0}
Labelled Nothing = Unit {0}
Labelled (Channel k s) = Unit {0}
Labelled (Element l i f) = l < 2 ^ label_count
Labelled (Union l r) = Unit {0}

-- the row is as a row in memory is: its numbers are bytes, and its label set has 64 bits
abbrev pub Fit : Row → Type 0
Fit row = NumbersBelow numbers row × Labelled row

-- whether it is, as a test
abbrev pub fits : Row → Bool
fits Void = true
fits Nothing = true
fits (Channel k s) = nat_lt s numbers
fits (Element l i f) = nat_lt i numbers && (nat_lt f numbers && nat_lt l (2 ^ label_count))
fits (Union l r) = nat_lt l numbers && nat_lt r numbers

-- what every source keeps to
pub record Lawful (rows : List Row) : Type 0 where
  pub few : length rows ≤ max_rows
  pub fit : AllByRecursion Fit rows

-- the rows, or none if there are too many
abbrev pub few : List Row → List Row
few rows = cond (nat_le (length rows) max_rows) rows []

-- the number k of a table with m rows, raised by n; 255 where it lies past that table
abbrev pub raised : ℕ → ℕ → ℕ → ℕ
raised n m k = cond (nat_lt k m) (k + n) past_table

-- a row of a table with m rows, its numbers raised by n
abbrev pub shift : ℕ → ℕ → Row → Row
shift n m Void = Void
shift n m Nothing = Nothing
shift n m (Channel k p) = Channel k (raised n m p)
shift n m (Element l i f) = Element l (raised n m i) (raised n m f)
shift n m (Union p q) = Union (raised n m p) (raised n m q)

-- the rows of two tables side by side
abbrev pub sides : List Row → List Row → List Row
sides a b = map (shift 0 (length a)) a ++ map (shift (length a) (length b)) b

-- they, or no rows if there are too many together
abbrev pub joined : List Row → List Row → List Row
joined a b = cond (nat_le (length a + length b) max_rows) (sides a b) []

abbrev pub swap : Capability → Capability
swap In = Out
swap Out = In
swap Both = Both

abbrev pub turn : Row → Row
turn Void = Void
turn Nothing = Nothing
turn (Channel k p) = Channel (swap k) p
turn (Element l i f) = Element l i f
turn (Union p q) = Union p q
