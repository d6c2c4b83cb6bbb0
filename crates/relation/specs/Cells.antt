-- A set of rows for each row of a table, kept as bits, and how it grows to what the rows offer. Assumes nothing.
use Rattle.std.specs.Prelude.{◌≡◌, ℕ, ◌+◌, ◌*◌, ◌<◌, Bool, true, false, ◌⊎◌, List, length, Some}
use Rattle.std.specs.List.{slice_get}
use Rattle.sets.specs.Sets.{member, tally, word}
use Rattle.forms.specs.Limits.{max_rows}
use Rattle.forms.specs.declared.Row.{Row}
use Rattle.forms.specs.declared.Row.TheVariants.{Union}
use Rattle.forms.specs.Schema.{Offers, NoUnion}

-- o belongs to the set of row p
abbrev pub cell : List ℕ → ℕ → ℕ → Bool
cell words p o = member words (p * max_rows + o)

-- no set has a row that is not offered
abbrev pub Sound : List Row → List ℕ → Type 0
Sound rows cells = (p o : ℕ) → p < max_rows → o < max_rows → cell cells p o ≡ true → Offers rows p o

-- each row that is no union is in its own set
abbrev pub HoldsLeaves : List Row → List ℕ → Type 0
HoldsLeaves rows cells = (p : ℕ) (row : Row) → slice_get rows p ≡ Some row → NoUnion row → cell cells p p ≡ true

-- the set of row p has those of its sides, if it is a union
abbrev pub Settled : List Row → List ℕ → ℕ → Type 0
Settled rows cells p = (l r : ℕ) → slice_get rows p ≡ Some (Union l r) → (o : ℕ) → o < max_rows → (cell cells l o ≡ true) ⊎ (cell cells r o ≡ true) → cell cells p o ≡ true

-- every set has what it had, and no more unless one grew: then there are more members
pub record Grown (old new : List ℕ) (grown : Bool) : Type 0 where
  pub more : (k : ℕ) → member old k ≡ true → member new k ≡ true
  pub same : grown ≡ false → (k : ℕ) → member new k ≡ member old k
  pub grows : grown ≡ true → tally (member old) (word * length old) < tally (member new) (word * length old)

-- the set of row k is added to that of row p
pub record RowAdded (p k : ℕ) (old new : List ℕ) (grown : Bool) : Type 0 where
  pub growth : Grown old new grown
  pub from : (q o : ℕ) → q < max_rows → o < max_rows → cell new q o ≡ true → (cell old q o ≡ true) ⊎ ((q ≡ p) × (cell old k o ≡ true))
  pub has : (o : ℕ) → o < max_rows → cell old k o ≡ true → cell new p o ≡ true

-- the sets of its sides are added to that of each union
pub record Spread (rows : List Row) (old new : List ℕ) (grown : Bool) : Type 0 where
  pub growth : Grown old new grown
  pub sound : Sound rows old → Sound rows new
  pub settled : grown ≡ false → (p : ℕ) → p < length rows → Settled rows new p
