-- Rules over sets of places, and the largest set that a rule lets stand. Assumes nothing.
use Rattle.std.specs.Prelude.{◌≡◌, ℕ, ◌*◌, ◌<◌, Bool, true, false, List, length}
use Rattle.sets.specs.Sets.{member, tally, word}

abbrev pub Within : (ℕ → Bool) → (ℕ → Bool) → Type 0
Within f g = (k : ℕ) → f k ≡ true → g k ≡ true

-- a larger set never turns a yes into a no
abbrev pub Lawful : ((ℕ → Bool) → ℕ → Bool) → Type 0
Lawful says = (f g : ℕ → Bool) → Within f g → (k : ℕ) → says f k ≡ true → says g k ≡ true

-- each member gets a yes from the set
abbrev pub Stands : ((ℕ → Bool) → ℕ → Bool) → (ℕ → Bool) → Type 0
Stands says f = (k : ℕ) → f k ≡ true → says f k ≡ true

-- the largest set within the start whose members all get a yes
pub record Narrowed (says : (ℕ → Bool) → ℕ → Bool) (start f : ℕ → Bool) : Type 0 where
  pub within : Within f start
  pub stands : Stands says f
  pub largest : (h : ℕ → Bool) → Within h start → Stands says h → Within h f

-- one round over the members of a set: it keeps every part that stands, and strikes a member or leaves a set that stands
pub record Round (says : (ℕ → Bool) → ℕ → Bool) (old new : List ℕ) (struck : Bool) : Type 0 where
  pub within : Within (member new) (member old)
  pub largest : (h : ℕ → Bool) → Within h (member old) → Stands says h → Within h (member new)
  pub clean : struck ≡ false → Stands says (member new)
  pub fewer : struck ≡ true → tally (member new) (word * length old) < tally (member old) (word * length old)
