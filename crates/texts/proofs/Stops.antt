-- Where a field ends.
use Rattle.std.proofs.Common.{◌≡◌, ℕ, zero, suc, ◌+◌, ◌-◌, ◌<◌, true, false, List, [], ◌∷◌, length, get_or, take, drop, Some, None, Err, sym, refl, ap, subst, add-one, arith}
use Rattle.std.specs.List.{position}
use Rattle.std.proofs.lemmas.Bool.Decides.{nat_tests}
use Rattle.std.proofs.lemmas.List.Sums.{fails_before_first}
use Rattle.std.proofs.lemmas.List.{length-drop}
use Rattle.std.proofs.lemmas.List.Quantifiers.{position-Some}
use Rattle.texts.specs.RowText.{stops, field, from_stop, end_of}
use Rattle.texts.specs.Reading.{FieldRead}
use Rattle.std.proofs.lemmas.List.{take_all, length-drop}
use Rattle.forms.proofs.Findings.{never}

-- the first stop is the byte i
stop_at : (f : List ℕ) (i : ℕ) → i < length f → stops (get_or f i 0) ≡ true → ((k : ℕ) → k < i → stops (get_or f k 0) ≡ false) → (field f ≡ take i f) × (from_stop f ≡ get_or f i 0 ∷ drop (suc i) f)
stop_at [] i l s none = absurd (omega arith)
stop_at (b ∷ f) zero l s none = rw s (refl, refl)
stop_at (b ∷ f) (suc i) l s none =
    let (front, rest) = stop_at f i (omega arith) s (λ k h. none (suc k) (omega arith)) in
    rw (none 0 (omega arith)) (ap (λ t. b ∷ t) front, rest)

stop_never : (f : List ℕ) → ((k : ℕ) → k < length f → stops (get_or f k 0) ≡ false) → from_stop f ≡ []
stop_never [] none = refl
stop_never (b ∷ f) none = let e = none 0 (omega arith) in rw e (stop_never f (λ k h. none (suc k) (omega arith)))

-- a field without a stop has no end
pub no_end : (f : List ℕ) → position stops f ≡ None → from_stop f ≡ []
no_end f e = stop_never f (λ k h. grind (arith, nat_tests, fails_before_first))

-- the first stop is where a field ends
pub end_at : (f : List ℕ) (i : ℕ) → position stops f ≡ Some i → (i < length f) × (field f ≡ take i f) × (from_stop f ≡ get_or f i 0 ∷ drop (i + 1) f)
end_at f i e =
    let (l, s, none) = position-Some stops f i 0 e in
    let (front, rest) = stop_at f i l s none in
    (l, front, rw add-one rest)

-- WHAT A FIELD SAYS
module _ {V : Type 0} (spells : List ℕ → V → Type 0) (bytes : List ℕ) (f : ℕ) where
  pub no_field : position stops bytes ≡ None → (e : ℕ) → e ≡ f → FieldRead spells bytes f (Err e)
  no_field none e is = (is, λ v rest s stop. let z = no_end bytes none in never (cc))

  module _ (i : ℕ) (at : position stops bytes ≡ Some i) where
    pub other_end : (get_or bytes i 0 ≡ end_of f → ⊥) → FieldRead spells bytes f (Err f)
    other_end other = let (l, front, rest) = end_at bytes i at in (refl, λ v rest' s stop. other (cc))

    pub no_value : ((v : V) → spells (take i bytes) v → ⊥) → (e : ℕ) → e ≡ f → FieldRead spells bytes f (Err e)
    no_value none e is = let (l, front, rest) = end_at bytes i at in (is, λ v rest' s stop. none v (subst (λ t. spells t v) front s))

    pub value_read : get_or bytes i 0 ≡ end_of f → (v : V) → spells (take i bytes) v → spells (field bytes) v × (from_stop bytes ≡ end_of f ∷ take (length bytes - (i + 1)) (drop (i + 1) bytes))
    value_read right v s =
        let (l, front, rest) = end_at bytes i at in
        let all : take (length bytes - (i + 1)) (drop (i + 1) bytes) ≡ drop (i + 1) bytes = take_all (length bytes - (i + 1)) (drop (i + 1) bytes) (omega (arith, length-drop (i + 1) bytes)) in
        (subst (λ t. spells t v) (sym front) s, cc)
