-- Going through the rows that a row of a prepared table offers. Assumes nothing.
use Rattle.std.proofs.Common.{◌≡◌, ℕ, ◌+◌, ◌<◌, Bool, true, false, Option, Some, None, MatchOption, IsTrue, Bor, Decides, refl}
use Rattle.std.specs.Fn.{Called, CalledAt}
use Rattle.std.specs.Iterator.{FindsItem, FindsMapped}
use Rattle.std.specs.Iterator.Runs.{SomeRun, AllItemsGive, IsFirstToGive, CallKeepsClosure}
use denote.Param.Members.{Mut}
use Rattle.sets.specs.Sets.{GoesOn}
use Rattle.sets.proofs.Going.{lowest_found, found_of}
use Rattle.verdicts.specs.RowSets.{row_set}
use Rattle.verdicts.specs.declared.rowsets.RowSet.{RowSet}

-- a set of the rows of which W holds
module _ (W : ℕ → Type 0) {s : RowSet} (is : (o : ℕ) → Decides (row_set s o) (W o)) (zero : s.start ≡ 0) where
  -- P holds of each of them with none, or of one with what is found
  pub through : {F B : Type 0} {g : Mut F (ℕ × Unit {0}) (Option B)} {u : RowSet} {c : F} {r : Option B} (P : ℕ → Option B → Type 0) → FindsMapped (GoesOn row_set (λ s. s.start)) g s c r u
      → SomeRun (GoesOn row_set (λ s. s.start)) s (λ p. MatchOption r (IsTrue p.whole × AllItemsGive p g c None) (λ y. (i : ℕ) × (i < p.len) × (p.len ≡ i + 1) × IsFirstToGive p g c (Some y) None i))
      → CallKeepsClosure g c
      → ((x : ℕ) (v : B) (q : F) → Called g c (x, tt) (Some v) q → P x (Some v)) → ((x : ℕ) (q : F) → Called g c (x, tt) None q → (q ≡ c) × P x None)
      → MatchOption r ((e : ℕ) → W e → P e None) (λ v. (e : ℕ) × W e × P e (Some v))
  through {B = B} {g = g} {c = c} {r = r} P ran runs keeps hit miss = go r (found_of row_set (λ s. s.start) (row_set s) zero (λ _. refl) (λ x v. P x (Some v)) (λ x. P x None) ran runs keeps hit miss)
    where
      go : (r : Option B) → MatchOption r ((k : ℕ) → row_set s k ≡ true → P k None) (λ v. (k : ℕ) × (row_set s k ≡ true) × P k (Some v)) → MatchOption r ((e : ℕ) → W e → P e None) (λ v. (e : ℕ) × W e × P e (Some v))
      go None none = λ e w. none e ((is e).1 w)
      go (Some v) (k, there, p) = (k, (is k).0 there, p)

  -- one that passes, if there is one
  pub through_item : {F : Type 0} {g : Mut F (Bor ℕ × Unit {0}) Bool} {u : RowSet} {c : F} {r : Option ℕ} (Yes No : ℕ → Type 0) → FindsItem (GoesOn row_set (λ s. s.start)) g s c r u
      → ((x : ℕ) (q : F) → CalledAt g c x true q → Yes x) → ((x : ℕ) (q : F) → CalledAt g c x false q → (q ≡ c) × No x)
      → MatchOption r ((e : ℕ) → W e → No e) (λ x. W x × Yes x)
  through_item {g = g} {c = c} {r = r} Yes No ran hit miss = go r (lowest_found row_set (λ s. s.start) (row_set s) zero (λ _. refl) Yes No ran hit miss)
    where
      go : (r : Option ℕ) → MatchOption r ((k : ℕ) → row_set s k ≡ true → No k) (λ x. (row_set s x ≡ true) × Yes x × ((k : ℕ) → k < x → row_set s k ≡ true → No k)) → MatchOption r ((e : ℕ) → W e → No e) (λ x. W x × Yes x)
      go None none = λ e w. none e ((is e).1 w)
      go (Some x) (there, yes', _) = ((is x).0 there, yes')
