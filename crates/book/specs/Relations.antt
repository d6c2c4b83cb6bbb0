-- Relations between the rows of a table, as a caller hands them over in 64-bit numbers. Assumes nothing.
use Rattle.std.specs.Prelude.{◌≡◌, ℕ, ◌+◌, ◌-◌, ◌*◌, ◌/◌, ◌%◌, ◌<◌, ◌≤◌, true, false, List, length}
use Rattle.sets.specs.Sets.{member, word}
use Rattle.forms.specs.declared.Row.{Row}
use Rattle.schema.specs.Rules.{Keeps, Closed}
use Rattle.verdicts.specs.Pairs.{related}

-- how many numbers a relation over n rows fills: its n² bits, rounded up to whole numbers
abbrev pub words_for : ℕ → ℕ
words_for n = (n * n + (word - 1)) / word

-- it has that length, and no bit that is no pair's
pub record WellShaped (n : ℕ) (words : List ℕ) : Type 0 where
  pub long : length words ≡ words_for n
  pub clear : (k : ℕ) → n * n ≤ k → member words k ≡ false

-- it is well shaped, and all its pairs keep the rules within it
pub record Consistent (rows : List Row) (words : List ℕ) : Type 0 where
  pub shaped : WellShaped (length rows) words
  pub closed : Closed rows (related (length rows) words)

-- (p, q) is the lowest pair, as a bit, that breaks the rules within the relation
pub record Breaks (rows : List Row) (words : List ℕ) (p q : ℕ) : Type 0 where
  pub has : related (length rows) words p q ≡ true
  pub broken : Keeps rows (related (length rows) words) p q → ⊥
  pub lowest : (a b : ℕ) → a * length rows + b < p * length rows + q → related (length rows) words a b ≡ true → Keeps rows (related (length rows) words) a b

-- the pair at place k, if there is one, keeps the rules within the relation
pub record Stands (rows : List Row) (words : List ℕ) (k : ℕ) : Type 0 where
  pub keeps : k < length rows * length rows → Keeps rows (related (length rows) words) (k / length rows) (k % length rows)
