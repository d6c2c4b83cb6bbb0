-- Decisions, the lowest number of its sort, and the faults of a list. Assumes nothing.
use Rattle.std.proofs.Common.{◌≡◌, ℕ, zero, suc, ◌+◌, ◌<◌, Bool, ltb, ◌⊎◌, List, [], ◌∷◌, ◌++◌, length, Some, Decides, ap, subst, inl, inr, ⊎_elim, arith}
use Rattle.std.specs.Str.{bytes_eq}
use Rattle.std.specs.List.{AllByRecursion, slice_get}
use Rattle.std.proofs.lemmas.Bool.{cases_Bool, cases_eq, cases_order, both_ways}
use Rattle.std.proofs.lemmas.Bool.Decides.{Decides-ltb}
use Rattle.std.proofs.lemmas.Slice.Eq.{bytes_eq-Decides}
use Rattle.std.proofs.lemmas.Option.{slice_get_within, slice_get_cases}
use Rattle.forms.specs.Places.{NoneBelow, Lowest}

-- for a case that two equations rule out: `never (cc)`
pub never : {A : Type 0} → ◌≡◌ {A = ℕ} 0 1 → A
never z = absurd (omega arith)

-- A holds, or it does not
abbrev pub Decided : Type 0 → Type 0
Decided A = A ⊎ (A → ⊥)

-- what a test tells
pub decided : {P : Type 0} (b : Bool) → Decides b P → Decided P
decided b (to, from) = ⊎_elim (λ e. inl (to e)) (λ ne. inr (λ p. both_ways b ne (from p))) (cases_Bool b)

pub both_or_not : {A B : Type 0} → Decided A → Decided B → Decided (A × B)
both_or_not a b = ⊎_elim (λ x. ⊎_elim (λ y. inl (x, y)) (λ ny. inr (λ p. ny p.1)) b) (λ nx. inr (λ p. nx p.0)) a

pub below_or_not : (m n : ℕ) → Decided (m < n)
below_or_not m n = decided (ltb m n) (Decides-ltb m n)

pub same_or_not : (xs ys : List ℕ) → Decided (xs ≡ ys)
same_or_not xs ys = decided (bytes_eq xs ys) (bytes_eq-Decides xs ys)

pub all_or_not : {P : ℕ → Type 0} → ((x : ℕ) → Decided (P x)) → (xs : List ℕ) → Decided (AllByRecursion P xs)
all_or_not test [] = inl tt
all_or_not test (x ∷ xs) = both_or_not (test x) (all_or_not test xs)

-- some number below N has it, and here is the lowest; or none has
pub least_below : {P : ℕ → Type 0} → ((k : ℕ) → Decided (P k)) → (N : ℕ) → ((k : ℕ) × (k < N) × Lowest P k) ⊎ NoneBelow P N
least_below test zero = inr (λ k h. absurd (omega arith))
least_below {P} test (suc N) = ⊎_elim
    (λ (k, h, lowest). inl (k, omega arith, lowest))
    (λ none. ⊎_elim (λ here. inl (N, omega arith, (here, none))) (λ not-here. inr (λ k h p. ⊎_elim (λ e. not-here (subst P e p)) (λ ne. none k (omega arith) p) (cases_eq k N))) (test N))
    (least_below test N)

pub lowest_one : (P : ℕ → Type 0) (j k : ℕ) → Lowest P j → Lowest P k → j ≡ k
lowest_one P j k (p, none) (q, none') = ⊎_elim (λ e. e) (⊎_elim (λ l. absurd (none' j l p)) (λ l. absurd (none k l q))) (cases_order j k)

-- WHERE an element of a list stands
module _ {X : Type 0} where
  pub nth_below : (xs : List X) (k : ℕ) {x : X} → slice_get xs k ≡ Some x → k < length xs
  nth_below xs k {x} e = slice_get_within xs k x e

  pub nth_some : (xs : List X) (k : ℕ) → k < length xs → (x : X) × (slice_get xs k ≡ Some x)
  nth_some xs k h = ⊎_elim (λ (x, _, e, _). (x, e)) (λ (past, _). absurd (omega arith)) (slice_get_cases xs k).1

  -- in two lists, one behind the other
  pub nth_append : (xs ys : List X) (k : ℕ) {x : X} → slice_get (xs ++ ys) k ≡ Some x → (slice_get xs k ≡ Some x) ⊎ ((j : ℕ) × (k ≡ length xs + j) × (slice_get ys j ≡ Some x))
  nth_append [] ys k e = inr (k, omega arith, e)
  nth_append (x ∷ xs) ys zero e = inl e
  nth_append (x ∷ xs) ys (suc k) e = ⊎_elim inl (λ (j, ek, h). inr (j, omega arith, h)) (nth_append xs ys k e)

  pub nth_left : (xs ys : List X) (k : ℕ) {x : X} → slice_get xs k ≡ Some x → slice_get (xs ++ ys) k ≡ Some x
  nth_left [] ys k e = never (cc)
  nth_left (x ∷ xs) ys zero e = e
  nth_left (x ∷ xs) ys (suc k) e = nth_left xs ys k e

  pub nth_right : (xs ys : List X) (k : ℕ) → slice_get (xs ++ ys) (length xs + k) ≡ slice_get ys k
  nth_right [] ys k = ap (slice_get ys) (omega arith)
  nth_right (x ∷ xs) ys k = let e : suc (length xs) + k ≡ suc (length xs + k) = omega arith in rw e (nth_right xs ys k)

-- the k-th of a list has a fault, or it has none
abbrev pub Fault : {X : Type 0} → List X → (ℕ → X → Type 0) → ℕ → Type 0
Fault {X} xs P k = (x : X) × (slice_get xs k ≡ Some x) × (P k x → ⊥)

pub fault_or_not : {X : Type 0} (xs : List X) (P : ℕ → X → Type 0) → ((k : ℕ) (x : X) → Decided (P k x)) → (k : ℕ) → Decided (Fault xs P k)
fault_or_not {X} xs P test k = ⊎_elim
    (λ (x, _, e, _). ⊎_elim (λ h. inr (λ (y, e', np). let ey : x ≡ y = cc in np (subst (P k) ey h))) (λ np. inl (x, e, np)) (test k x))
    (λ (_, none). inr (λ (y, e, np). never (cc)))
    (slice_get_cases xs k).1

pub faulty : {X : Type 0} (xs : List X) (P : ℕ → X → Type 0) → ((k : ℕ) (x : X) → Decided (P k x)) → ((k : ℕ) × Lowest (Fault xs P) k) ⊎ ((k : ℕ) (x : X) → slice_get xs k ≡ Some x → P k x)
faulty xs P test = ⊎_elim
    (λ (k, h, lowest). inl (k, lowest))
    (λ none. inr (λ k x e. ⊎_elim (λ h. h) (λ np. absurd (none k (nth_below xs k e) (x, e, np))) (test k x)))
    (least_below (fault_or_not xs P test) (length xs))
