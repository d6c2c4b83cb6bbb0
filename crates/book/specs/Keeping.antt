-- What is kept of the calls on a book: the pairs held, those of them that are yes, and those of which all that they lean on is held. Assumes nothing.
use Rattle.std.specs.Prelude.{◌≡◌, ℕ, ◌*◌, ◌≤◌, true, false, ◌⊎◌, List, length, Decides, ◌≢◌}
use Rattle.sets.specs.Sets.{member, word}
use Rattle.forms.specs.Limits.{max_rows}
use Rattle.forms.specs.declared.Row.{Row}
use Rattle.schema.specs.Worked.{Counts}
use Rattle.schema.specs.Rules.{Closed, Below}
use Rattle.schema.specs.Theorems.{Part, Confined}
use Rattle.verdicts.specs.Pairs.{related}

-- a set of pairs over n rows: it has room for the most pairs that there are, and no place that is no pair's
pub record PairSet (n : ℕ) (words : List ℕ) : Type 0 where
  pub room : word * length words ≡ max_rows * max_rows
  pub clear : (k : ℕ) → n * n ≤ k → member words k ≡ false

pub record Kept (rows : List Row) (held yes settled : List ℕ) : Type 0 where
  pub held_set : PairSet (length rows) held
  pub yes_set : PairSet (length rows) yes
  pub settled_set : PairSet (length rows) settled
  -- yes is what is held and below
  pub yes_held : Part (related (length rows) yes) (related (length rows) held)
  pub tells : (a b : ℕ) → related (length rows) held a b ≡ true → Decides (related (length rows) yes a b) (Below rows a b)
  -- the pairs that are yes keep the rules within them
  pub closed : Closed rows (related (length rows) yes)
  -- what a settled pair leans on is settled
  pub settled_held : Part (related (length rows) settled) (related (length rows) held)
  pub confined : Confined rows (related (length rows) settled)

-- the pairs of A are held now besides those that were held, and so many of them were not
pub record Grew (rows : List Row) (A : ℕ → ℕ → Type 0) (old new : List ℕ) (many : ℕ) : Type 0 where
  pub holds : (a b : ℕ) → Decides (related (length rows) new a b) (A a b ⊎ (related (length rows) old a b ≡ true))
  pub count : Counts (length rows) (λ a b. A a b × (related (length rows) old a b ≢ true)) many
