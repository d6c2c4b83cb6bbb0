-- The walk from pairs to the pairs that the rules name for them, and its steps. Assumes nothing.
use Rattle.std.specs.Prelude.{◌≡◌, ℕ, ◌*◌, ◌<◌, true, false, cond, ◌||◌, ◌==◌, List, Some}
use Rattle.sets.specs.Sets.{member}
use Rattle.forms.specs.declared.Row.{Row}
use Rattle.verdicts.specs.Naming.{Pended, Noted}
use Rattle.verdicts.specs.Pairs.{pair_of}
use Rattle.verdicts.specs.declared.prepared.leaning.Met.{Met}
use Rattle.verdicts.specs.declared.prepared.leaning.Walk.{Walk}

-- the places that P names are pending now, but for those that are done; what is done stays
pub record Notes (P : ℕ → Type 0) (old new : Walk) : Type 0 where
  pub done : new.done ≡ old.done
  pub pended : Pended P old.done old.pending new.pending

-- of the rows and sets that were met, the pairs that are named are done or pending
abbrev pub MetBy : List Row → Met → Walk → Type 0
MetBy rows met walk = Noted rows met.cells.now met.met walk.done walk.pending

-- a pair of n rows was pending and is done
pub record Takes (n : ℕ) (pair : ℕ × ℕ) (old new : Walk) : Type 0 where
  pub place : ℕ
  pub is : pair_of n place ≡ Some pair
  pub there : member old.pending place ≡ true
  pub rest : (j : ℕ) → member new.pending j ≡ cond (j == place) false (member old.pending j)
  pub put : (j : ℕ) → member new.done j ≡ (j == place || member old.done j)

-- no pair of n rows is pending, and the walk stays as it was
pub record IsAtRest (n : ℕ) (old new : Walk) : Type 0 where
  pub none : (j : ℕ) → j < n * n → member old.pending j ≡ false
  pub same : new ≡ old
