-- The values of fields, digit by digit.
use Rattle.std.proofs.Common.{◌≡◌, ℕ, zero, suc, ◌+◌, ◌*◌, ◌/◌, ◌%◌, ◌^◌, ◌<◌, ◌⊎◌, List, [], ◌∷◌, ◌++◌, length, get_or, take, Some, None, decimal, Option, sym, refl, ap, ◌∙◌, subst, inl, inr, ⊎_elim, mod-lt, mul_assoc, pow-suc, div-add-mod', div-one, add-one, arith}
use native.Mathlib.Nat.{pow-le-pow_right}
use Rattle.std.specs.List.{AllByRecursion}
use Rattle.std.specs.Option.{MatchOption}
use Rattle.std.proofs.lemmas.Bool.{cases_lt, lt-ltb, le-ltb}
use Rattle.std.proofs.lemmas.Fmt.{decimal_digit, decimal_step}
use Rattle.std.proofs.lemmas.List.{take_more, nil_from_length}
use Rattle.std.proofs.ByRecursion.{All-get_or}
use Rattle.forms.specs.Limits.{max_rows}
use Rattle.texts.specs.Limits.{label_digits}
use Rattle.texts.specs.RowText.{HexDigit, digit_in_hex, hexadecimal}
use Rattle.texts.specs.Reading.{Told, OfNumber, OfLabels}
use Rattle.forms.proofs.Decimals.{Figures, figures}
use Rattle.texts.proofs.Numbers.{length_hexadecimal, hexadecimal_is, hex_digit_value, sixteen}
use Rattle.std.proofs.lemmas.Nat.{div-mul-add, mod-mul-add}
use Rattle.forms.proofs.Decimals.Figures.{one, two}

-- a list of one, and of two
pub list_of_one : (f : List ℕ) → length f ≡ 1 → f ≡ get_or f 0 0 ∷ []
list_of_one [] h = absurd (omega arith)
list_of_one (x ∷ xs) h = ap (λ t. x ∷ t) (nil_from_length xs (omega arith))

pub list_of_two : (f : List ℕ) → length f ≡ 2 → f ≡ get_or f 0 0 ∷ get_or f 1 0 ∷ []
list_of_two [] h = absurd (omega arith)
list_of_two (x ∷ xs) h = ap (λ t. x ∷ t) (list_of_one xs (omega arith))

-- NUMBERS
abbrev pub One : List ℕ → ℕ → Type 0
One f n = (length f ≡ 1) × (n < 10) × (get_or f 0 0 ≡ 48 + n)

abbrev pub Two : List ℕ → ℕ → Type 0
Two f n = (length f ≡ 2) × (0 < n / 10) × (n / 10 < 10) × (get_or f 0 0 ≡ 48 + n / 10) × (get_or f 1 0 ≡ 48 + n % 10)

figures_shape : {n : ℕ} {f : List ℕ} → Figures n f → One f n ⊎ Two f n
figures_shape (one h) = inl (refl, h, refl)
figures_shape (two h g) = inr (refl, h, g, refl, refl)

pub number_shape : (f : List ℕ) (n : ℕ) → OfNumber f n → One f n ⊎ Two f n
number_shape f n (h, e) = rw e (figures_shape (figures n h))

pub number_one : (f : List ℕ) (d : ℕ) → length f ≡ 1 → d < 10 → get_or f 0 0 ≡ 48 + d → OfNumber f d
number_one f d l h e = (omega arith, list_of_one f l ∙ (ap (λ x. x ∷ []) e ∙ sym (decimal_digit d h)))

pub number_two : (f : List ℕ) (t o : ℕ) → length f ≡ 2 → 0 < t → t < 10 → o < 10 → t * 10 + o < max_rows → get_or f 0 0 ≡ 48 + t → get_or f 1 0 ≡ 48 + o → OfNumber f (t * 10 + o)
number_two f t o l pos ht ho h et eo =
    let q : (t * 10 + o) / 10 ≡ t = omega arith in
    let r : (t * 10 + o) % 10 ≡ o = omega arith in
    let d = decimal_step (t * 10 + o) (omega arith) (omega arith) in
    let s : decimal (t * 10 + o) ≡ (48 + t) ∷ (48 + o) ∷ [] = d ∙ (rw (q, r, decimal_digit t ht) refl) in
    (h, list_of_two f l ∙ (ap (λ x. x ∷ get_or f 1 0 ∷ []) et ∙ (ap (λ x. (48 + t) ∷ x ∷ []) eo ∙ sym s)))

pub told_one : (f : List ℕ) (r : Option ℕ) → length f ≡ 1 → MatchOption r ((d : ℕ) → (d < 10) × (get_or f 0 0 ≡ 48 + d) → ⊥) (λ d. (d < 10) × (get_or f 0 0 ≡ 48 + d)) → Told (OfNumber f) r
told_one f None l none = λ v h. ⊎_elim (λ (_, small, e). none v (small, e)) (λ (long, _, _, _, _). absurd (omega arith)) (number_shape f v h)
told_one f (Some d) l (h, e) = number_one f d l h e

-- two bytes are no number, if they are not as two digits are
pub not_two : (f : List ℕ) → length f ≡ 2 → ((v : ℕ) → v < max_rows → Two f v → ⊥) → (v : ℕ) → OfNumber f v → ⊥
not_two f l none v h = ⊎_elim (λ (short, _, _). absurd (omega arith)) (none v h.0) (number_shape f v h)

-- LABEL SETS
-- a byte other than a to f is a digit as it is in decimal
pub told_hex : (b : ℕ) (r : Option ℕ) → (b < 97) ⊎ (102 < b) → MatchOption r ((d : ℕ) → (d < 10) × (b ≡ 48 + d) → ⊥) (λ d. (d < 10) × (b ≡ 48 + d)) → Told (λ d. (d < 16) × (b ≡ digit_in_hex d)) r
told_hex b None out none = λ d (h, e). ⊎_elim (λ s. none d (s, (rw (lt-ltb d 10 s) at e))) (λ l. let is : b ≡ 87 + d = (rw (le-ltb d 10 l) at e) in ⊎_elim (λ below. omega arith) (λ above. omega arith) out) (cases_lt d 10)
told_hex b (Some d) out (h, e) = (omega arith, rw (lt-ltb d 10 h) e)

-- one digit more behind
hexadecimal_push : (k n d : ℕ) → n < 16 ^ k → d < 16 → hexadecimal (suc k) (n * 16 + d) ≡ hexadecimal k n ++ (digit_in_hex d ∷ [])
unfolding hexadecimal
hexadecimal_push zero n d small h = let e : n * 16 + d ≡ d = omega arith in rw (e, div-one) refl
hexadecimal_push (suc k) n d small h =
    let p = 16 ^ k in
    let q = n / p in
    let r = n % p in
    let r< : r < p = mod-lt n (sixteen k) in
    let e : 16 ^ suc k ≡ p * 16 = pow-suc 16 k in
    let l : r * 16 + d < p * 16 = omega arith in
    let m : n * 16 + d ≡ q * (p * 16) + (r * 16 + d) = omega (arith, div-add-mod' n p, mul_assoc q p 16) in
    let a : (n * 16 + d) / 16 ^ suc k ≡ q = rw (m, e) (div-mul-add q (p * 16) (r * 16 + d) l) in
    let b : (n * 16 + d) % 16 ^ suc k ≡ r * 16 + d = rw (m, e) (mod-mul-add q (p * 16) (r * 16 + d) l) in
    rw (a, b) (ap (λ t. digit_in_hex q ∷ t) (hexadecimal_push k r d r< h))

-- the value of the first i digits
pub record ReadSoFar (f : List ℕ) (i v : ℕ) : Type 0 where
  pub small : v < 16 ^ i
  pub digits : take i f ≡ hexadecimal i v

pub so_far_none : (f : List ℕ) → ReadSoFar f 0 0
unfolding hexadecimal
so_far_none f = record { small = omega arith; digits = refl }

pub so_far_more : (f : List ℕ) (i v d : ℕ) → i < length f → ReadSoFar f i v → d < 16 → get_or f i 0 ≡ digit_in_hex d → ReadSoFar f (i + 1) (v * 16 + d)
so_far_more f i v d l going h e = record {
  small = rw add-one (omega (arith, going.small, pow-suc 16 i));
  digits = take_more f i 0 l ∙ (ap (λ t. t ++ (get_or f i 0 ∷ [])) going.digits ∙ (ap (λ b. hexadecimal i v ++ (b ∷ [])) e ∙ rw add-one (sym (hexadecimal_push i v d going.small h))));
}

pub so_far_fits : (f : List ℕ) (i v d : ℕ) → length f ≡ label_digits → i < length f → ReadSoFar f i v → d < 16 → v * 16 + d < 2 ^ 64
so_far_fits f i v d e l going h = omega (arith, going.small, pow-le-pow_right {n = 16} (omega arith) {i = i} {j = 15} (omega arith))

pub labels_long : (f : List ℕ) (v : ℕ) → OfLabels f v → length f ≡ label_digits
labels_long f v (h, e) = ap length e ∙ length_hexadecimal label_digits v

-- a byte that is no digit
pub labels_digit : (f : List ℕ) (i v : ℕ) → i < length f → OfLabels f v → ((d : ℕ) → (d < 16) × (get_or f i 0 ≡ digit_in_hex d) → ⊥) → ⊥
labels_digit f i v l (h, e) none =
    let (d, d<, is) = hex_digit_value (get_or f i 0) (All-get_or HexDigit f i 0 l (subst (AllByRecursion HexDigit) (sym e) (hexadecimal_is label_digits v h))) in
    none d (d<, is)
