-- Which bytes are a row number, and numbers of 64 bits in hexadecimal.
use Rattle.std.proofs.Common.{◌≡◌, ℕ, zero, suc, ◌+◌, ◌-◌, ◌*◌, ◌/◌, ◌%◌, ◌^◌, ◌<◌, ◌≤◌, List, [], ◌∷◌, length, decimal, refl, ap, inl, inr, ⊎_elim, mod-lt, pow-suc, div-add-mod', arith}
use Rattle.std.specs.List.{AllByRecursion}
use Rattle.std.proofs.lemmas.Nat.{mul-add-lt, div-mul-add, mod-mul-add, div_below}
use Rattle.std.proofs.lemmas.Bool.{cases_lt, lt-ltb, le-ltb}
use Rattle.std.proofs.lemmas.Bool.Decides.{nat_tests}
use Rattle.forms.specs.Limits.{max_rows}
use Rattle.texts.specs.RowText.{HexDigit, digit_in_hex, hexadecimal}
use Rattle.forms.proofs.Findings.{Decided, least_below, same_or_not}

pub number_or_not : (f : List ℕ) → Decided ((n : ℕ) × (n < max_rows) × (f ≡ decimal n))
number_or_not f = ⊎_elim
    (λ (n, h, (e, _)). inl (n, omega arith, e))
    (λ none. inr (λ (n, h, e). none n (omega arith) e))
    (least_below (λ n. same_or_not f (decimal n)) max_rows)

-- HEXADECIMAL
pub hex_digit_is : (d : ℕ) → d < 16 → HexDigit (digit_in_hex d)
hex_digit_is d h = ⊎_elim (λ s. rw (lt-ltb d 10 s) (inl (omega arith, omega arith))) (λ l. rw (le-ltb d 10 l) (inr (omega arith, omega arith))) (cases_lt d 10)

pub hex_digit_one : (c d : ℕ) → c < 16 → d < 16 → digit_in_hex c ≡ digit_in_hex d → c ≡ d
hex_digit_one c d h g e = grind (arith, nat_tests)

pub hex_digit_value : (b : ℕ) → HexDigit b → (d : ℕ) × (d < 16) × (b ≡ digit_in_hex d)
hex_digit_value b (inl (l, h)) = (b - 48, omega arith, let s : b - 48 < 10 = omega arith in rw (lt-ltb (b - 48) 10 s) (omega arith))
hex_digit_value b (inr (l, h)) = (b - 87, omega arith, let s : 10 ≤ b - 87 = omega arith in rw (le-ltb (b - 87) 10 s) (omega arith))

pub length_hexadecimal : (k n : ℕ) → length (hexadecimal k n) ≡ k
unfolding hexadecimal
length_hexadecimal zero n = refl
length_hexadecimal (suc k) n = ap suc (length_hexadecimal k (n % 16 ^ k))

pub sixteen : (k : ℕ) → 0 < 16 ^ k
sixteen zero = omega arith
sixteen (suc k) = let h = sixteen k in rw pow-suc (omega arith)

-- the first digit
first_digit : (k n : ℕ) → n < 16 ^ suc k → n / 16 ^ k < 16
first_digit k n h = div_below n (16 ^ k) 16 (sixteen k) (omega (arith, pow-suc 16 k))

pub hexadecimal_is : (k n : ℕ) → n < 16 ^ k → AllByRecursion HexDigit (hexadecimal k n)
unfolding hexadecimal
hexadecimal_is zero n h = tt
hexadecimal_is (suc k) n h = (hex_digit_is (n / 16 ^ k) (first_digit k n h), hexadecimal_is k (n % 16 ^ k) (mod-lt n (sixteen k)))

pub hexadecimal_one : (k m n : ℕ) → m < 16 ^ k → n < 16 ^ k → hexadecimal k m ≡ hexadecimal k n → m ≡ n
unfolding hexadecimal
hexadecimal_one zero m n h g e = omega arith
hexadecimal_one (suc k) m n h g e =
    let d : m / 16 ^ k ≡ n / 16 ^ k = hex_digit_one (m / 16 ^ k) (n / 16 ^ k) (first_digit k m h) (first_digit k n g) (cc) in
    let r : m % 16 ^ k ≡ n % 16 ^ k = hexadecimal_one k (m % 16 ^ k) (n % 16 ^ k) (mod-lt m (sixteen k)) (mod-lt n (sixteen k)) (cc) in
    cc (div-add-mod' m (16 ^ k), div-add-mod' n (16 ^ k))

-- every text of k hexadecimal digits is that of a number
pub hexadecimal_value : (f : List ℕ) → AllByRecursion HexDigit f → (n : ℕ) × (n < 16 ^ length f) × (f ≡ hexadecimal (length f) n)
unfolding hexadecimal
hexadecimal_value [] all = (0, omega arith, refl)
hexadecimal_value (b ∷ f) all =
    let (d, d<, e) = hex_digit_value b all.0 in
    let (n, n<, es) = hexadecimal_value f all.1 in
    let p = 16 ^ length f in
    (d * p + n, omega (arith, mul-add-lt d p n 16 d< n<, pow-suc 16 (length f)), rw (div-mul-add d p n n<, mod-mul-add d p n n<) (cc))
