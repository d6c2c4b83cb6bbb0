-- Pairs and their places are counted alike. Assumes nothing.
use Rattle.std.proofs.Common.{◌≡◌, ℕ, zero, suc, ◌+◌, ◌*◌, ◌/◌, ◌%◌, ◌<◌, ◌≤◌, Bool, true, false, cond, ◌||◌, ◌⊎◌, sym, refl, ap, ◌∙◌, ap₂, inl, inr, ⊎_elim, add_comm, arith}
use Rattle.std.proofs.lemmas.Bool.{both_ways, or_cases, or_left, or_right}
use Rattle.std.proofs.lemmas.Bool.Decides.{same_from_decides}
use Rattle.sets.specs.Sets.{tally}
use Rattle.sets.proofs.Tallies.{tally_past}
use Rattle.schema.specs.Worked.{Counts, tally as tally_pairs}
use Rattle.schema.specs.Rules.{Relation}

module _ (n : ℕ) (f : ℕ → Bool) (R : Relation) where
  same_below : (m : ℕ) → ((k : ℕ) → k < m → R (k / n) (k % n) ≡ f k) → tally_pairs n R m ≡ tally f m
  same_below zero e = refl
  same_below (suc m) e =
      ap (λ b. cond b 1 0 + tally_pairs n R m) (e m (omega arith)) ∙ ap (λ x. cond (f m) 1 0 + x) (same_below m (λ k h. e k (omega arith))) ∙ add_comm (cond (f m) 1 0) (tally f m)

  pub count_places : (m : ℕ) → n * n ≤ m → ((k : ℕ) → k < n * n → R (k / n) (k % n) ≡ f k) → ((k : ℕ) → n * n ≤ k → f k ≡ false) → tally f m ≡ tally_pairs n R (n * n)
  count_places m le inside outside = tally_past f (n * n) m le (λ k h _. outside k h) ∙ sym (same_below (n * n) inside)

-- what holds of the same pairs has the same count
pub counts_same : {n k : ℕ} (P Q : ℕ → ℕ → Type 0) → ((a b : ℕ) → P a b → Q a b) → ((a b : ℕ) → Q a b → P a b) → Counts n P k → Counts n Q k
counts_same P Q to from c = record { R = c.R; sound = λ a b h. to a b (c.sound a b h); complete = λ a b h. c.complete a b (from a b h); many = c.many }

-- what holds of no pair
pub counts_none : (n : ℕ) (P : ℕ → ℕ → Type 0) → ((a b : ℕ) → P a b → ⊥) → Counts n P 0
counts_none n P none = record { R = λ a b. false; sound = λ a b h. absurd (both_ways false refl h); complete = λ a b h. absurd (none a b h); many = sym (zero_pairs (n * n)) }
  where
    zero_pairs : (m : ℕ) → tally_pairs n (λ a b. false) m ≡ 0
    zero_pairs zero = refl
    zero_pairs (suc m) = let h = zero_pairs m in omega arith

-- pairs of two sorts, none of both
pub counts_plus : (n k j : ℕ) (P Q : ℕ → ℕ → Type 0) → ((a b : ℕ) → P a b → Q a b → ⊥) → Counts n P k → Counts n Q j → Counts n (λ a b. P a b ⊎ Q a b) (k + j)
counts_plus n k j P Q apart c d = record {
  R = λ a b. c.R a b || d.R a b;
  sound = λ a b h. ⊎_elim (λ e. inl (c.sound a b e)) (λ e. inr (d.sound a b e)) (or_cases (c.R a b) (d.R a b) h);
  complete = λ a b. ⊎_elim (λ p. or_left (c.R a b) (d.R a b) (c.complete a b p)) (λ q. or_right (c.R a b) (d.R a b) (d.complete a b q));
  many = ap₂ (λ x y. x + y) c.many d.many ∙ sym (both (n * n));
}
  where
    one : (x y : Bool) → (x ≡ true → y ≡ true → ⊥) → cond (x || y) 1 0 ≡ cond x 1 0 + cond y 1 0
    one true true h = absurd (h refl refl)
    one true false h = refl
    one false y h = omega arith

    both : (m : ℕ) → tally_pairs n (λ a b. c.R a b || d.R a b) m ≡ tally_pairs n c.R m + tally_pairs n d.R m
    both zero = refl
    both (suc m) =
        let h = both m in
        let e = one (c.R (m / n) (m % n)) (d.R (m / n) (m % n)) (λ x y. apart _ _ (c.sound _ _ x) (d.sound _ _ y)) in
        omega arith

-- a count is one
pub counts_one : (n k j : ℕ) (P : ℕ → ℕ → Type 0) → Counts n P k → Counts n P j → k ≡ j
counts_one n k j P c d = c.many ∙ same (n * n) ∙ sym d.many
  where
    same : (m : ℕ) → tally_pairs n c.R m ≡ tally_pairs n d.R m
    same zero = refl
    same (suc m) = ap₂ (λ x y. cond x 1 0 + y)
        (same_from_decides _ _ ((λ h. d.complete _ _ (c.sound _ _ h)), (λ h. c.complete _ _ (d.sound _ _ h))) ((λ h. h), (λ h. h))) (same m)

-- and at most the number of pairs
pub counts_most : (n k : ℕ) (P : ℕ → ℕ → Type 0) → Counts n P k → k ≤ n * n
counts_most n k P c = let h = most (n * n) in let e = c.many in omega arith
  where
    most : (m : ℕ) → tally_pairs n c.R m ≤ m
    most zero = omega arith
    most (suc m) = let h = most m in grind arith
