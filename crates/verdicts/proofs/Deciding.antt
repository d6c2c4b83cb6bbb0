-- Narrowing a set of places gives the largest part of a relation all pairs of which keep the rules. Assumes nothing.
use Rattle.forms.proofs.Findings.{never}
use Rattle.std.proofs.Common.{◌≡◌, ℕ, ◌+◌, ◌*◌, ◌/◌, ◌%◌, ◌<◌, ◌≤◌, Bool, true, not, ◌&&◌, ◌||◌, eqb, ltb, List, length, Decides, sym, refl, ap, ◌∙◌, subst, subst₂, ⊎_elim, Some, None, arith}
use Rattle.std.proofs.lemmas.Nat.{mul-add-lt, div-mul-add, mod-mul-add, mul-le, div-add-mod'}
use Rattle.std.proofs.lemmas.Bool.{both_ways, cases_Bool, and_parts, and_from, cases_lt, cond-true, cond-false, lt-ltb, le-ltb, ltb-true, eqb-true, eq-eqb}
use Rattle.std.proofs.lemmas.Bool.Decides.{same_from_decides}
use Rattle.sets.specs.Sets.{member}
use Rattle.forms.specs.Limits.{max_rows}
use Rattle.forms.specs.declared.Row.{Row}
use Rattle.narrowing.specs.Narrowing.{Within, Narrowed}
use Rattle.schema.specs.Rules.{Bounded, Relation, Keeps, Closed}
use Rattle.schema.specs.Theorems.{Part, LargestWithin}
use Rattle.schema.proofs.Order.{keeps_more}
use Rattle.verdicts.specs.Asking.{kept, kept_decides, asks}
use Rattle.verdicts.specs.Pairs.{between, related, pair_of}

-- what it takes to be a pair of the relation
pub between_parts : (n : ℕ) (S : ℕ → Bool) (p q : ℕ) → between n S p q ≡ true → (p < n) × (q < n) × (S (p * n + q) ≡ true)
between_parts n S p q h =
    let (a, more) = and_parts (ltb p n) (ltb q n && S (p * n + q)) h in
    let (b, c) = and_parts (ltb q n) (S (p * n + q)) more in
    (ltb-true p n a, ltb-true q n b, c)

pub between_from : (n : ℕ) (S : ℕ → Bool) (p q : ℕ) → p < n → q < n → S (p * n + q) ≡ true → between n S p q ≡ true
between_from n S p q a b c = and_from (ltb p n) (ltb q n && S (p * n + q)) (lt-ltb p n a) (and_from (ltb q n) (S (p * n + q)) (lt-ltb q n b) c)

-- the place of a pair, and the pair of a place
pub place_div : (n p q : ℕ) → q < n → (p * n + q) / n ≡ p
place_div n p q h = div-mul-add p n q h

pub place_mod : (n p q : ℕ) → q < n → (p * n + q) % n ≡ q
place_mod n p q h = mod-mul-add p n q h

pub pair_parts : (n k : ℕ) (pair : ℕ × ℕ) → pair_of n k ≡ Some pair → (k < n * n) × (pair.0 ≡ k / n) × (pair.1 ≡ k % n)
pair_parts n k pair e = ⊎_elim
    (λ h.
    let found : Some (k / n, k % n) ≡ Some pair = sym (cond-true (ltb k (n * n)) (Some (k / n, k % n)) None (lt-ltb k (n * n) h)) ∙ e in
    let same : ◌≡◌ {A = ℕ × ℕ} (k / n, k % n) pair = cc in
    (h, ap (λ x. x.0) (sym same), ap (λ x. x.1) (sym same)))
    (λ h. let none = sym (cond-false (ltb k (n * n)) (Some (k / n, k % n)) None (le-ltb k (n * n) h)) ∙ e in never (cc))
    (cases_lt k (n * n))

-- where a place has no pair, it is not below n²
pub pair_none : (n k : ℕ) → pair_of n k ≡ None → k < n * n → ⊥
pair_none n k e h = let found = sym (cond-true (ltb k (n * n)) (Some (k / n, k % n)) None (lt-ltb k (n * n) h)) ∙ e in never (cc)

abbrev alone : (ℕ → Bool) → ℕ → ℕ → Bool
alone S k j = eqb j k && S j

module _ (rows : List Row) (bounded : Bounded rows) where
  abbrev n : ℕ
  n = length rows

  abbrev yes : (ℕ → Bool) → ℕ → Bool
  yes = asks rows bounded

  asks_in : (S : ℕ → Bool) (k : ℕ) → k < n * n → yes S k ≡ kept rows bounded (between n S) (k / n) (k % n)
  asks_in S k h = ap (λ b. not b || kept rows bounded (between n S) (k / n) (k % n)) (lt-ltb k (n * n) h)

  asks_out : (S : ℕ → Bool) (k : ℕ) → n * n ≤ k → yes S k ≡ true
  asks_out S k h = ap (λ b. not b || kept rows bounded (between n S) (k / n) (k % n)) (le-ltb k (n * n) h)

  pub ask_is : (set : List ℕ) (place : ℕ) (pair : ℕ × ℕ) (r : Bool) → pair_of (length rows) place ≡ Some pair → Decides r (Keeps rows (related (length rows) set) pair.0 pair.1) → r ≡ asks rows bounded (member set) place
  ask_is set place pair r is d =
      let (low, first, second) = pair_parts n place pair is in
      let told : Decides r (Keeps rows (related n set) (place / n) (place % n)) = subst₂ (λ x y. Decides r (Keeps rows (related n set) x y)) first second d in
      same_from_decides r (kept rows bounded (related n set) (place / n) (place % n)) told (kept_decides rows bounded (related n set) (place / n) (place % n)) ∙ sym (asks_in (member set) place low)

  module _ (S T : ℕ → Bool) (narrowed : Narrowed (asks rows bounded) S T) where
    part : Part (between n T) (between n S)
    part p q h = let (a, b, c) = between_parts n T p q h in between_from n S p q a b (narrowed.within (p * n + q) c)

    closed : Closed rows (between n T)
    closed p q h =
        let (a, b, c) = between_parts n T p q h in
        let k = p * n + q in
        let low : k < n * n = mul-add-lt p n q n a b in
        let keeps = (kept_decides rows bounded (between n T) (k / n) (k % n)).0 (sym (asks_in T k low) ∙ narrowed.stands k c) in
        subst (λ x. Keeps rows (between n T) x q) (place_div n p q b) (subst (λ y. Keeps rows (between n T) (k / n) y) (place_mod n p q b) keeps)

    -- a relation as a set of places
    module _ (R : Relation) (inside : Part R (between n S)) (keeps : Closed rows R) where
      places : ℕ → Bool
      places k = ltb k (n * n) && R (k / n) (k % n)

      places_in : (p q : ℕ) → R p q ≡ true → places (p * n + q) ≡ true
      unfolding places
      places_in p q h =
          let (a, b, _) = between_parts n S p q (inside p q h) in
          and_from _ _ (lt-ltb (p * n + q) (n * n) (mul-add-lt p n q n a b))
          (subst (λ x. R x ((p * n + q) % n) ≡ true) (sym (place_div n p q b)) (subst (λ y. R p y ≡ true) (sym (place_mod n p q b)) h))

      places_within : Within places S
      unfolding places
      places_within k h =
          let (low, r) = and_parts (ltb k (n * n)) (R (k / n) (k % n)) h in
          let (_, _, s) = between_parts n S (k / n) (k % n) (inside (k / n) (k % n) r) in
          subst (λ x. S x ≡ true) (div-add-mod' k n) s

      part_places : Part R (between n places)
      part_places p q h = let (a, b, _) = between_parts n S p q (inside p q h) in between_from n places p q a b (places_in p q h)

      places_stand : (k : ℕ) → places k ≡ true → yes places k ≡ true
      unfolding places
      places_stand k h =
          let (low, r) = and_parts (ltb k (n * n)) (R (k / n) (k % n)) h in
          asks_in places k (ltb-true k (n * n) low) ∙ (kept_decides rows bounded (between n places) (k / n) (k % n)).1 (keeps_more part_places (keeps (k / n) (k % n) r))

      largest : Part R (between n T)
      largest p q h = let (a, b, _) = between_parts n S p q (inside p q h) in between_from n T p q a b (narrowed.largest places places_within places_stand (p * n + q) (places_in p q h))

    pub largest_within : LargestWithin rows (between (length rows) S) (between (length rows) T)
    largest_within = record { part = part; closed = closed; largest = largest }

    -- a place that is no pair's stays
    pub rest_stays : (k : ℕ) → length rows * length rows ≤ k → T k ≡ S k
    rest_stays k h = ⊎_elim
        (λ e. e ∙ sym (narrowed.within k e))
        (λ ne. ⊎_elim (λ on. absurd (both_ways (T k) ne (narrowed.largest (alone S k) (λ j m. (and_parts (eqb j k) (S j) m).1) (λ j m. let same = eqb-true j k (and_parts (eqb j k) (S j) m).0 in asks_out (alone S k) j (omega arith)) k (and_from _ _ (eq-eqb k k refl) on)))) (λ off. ne ∙ sym off) (cases_Bool (S k)))
        (cases_Bool (T k))

pub square_small : (n : ℕ) → n ≤ max_rows → n * n ≤ max_rows * max_rows
square_small n few = mul-le n n max_rows max_rows few few
