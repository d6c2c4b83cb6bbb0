-- The digits of small numbers in decimal. Assumes nothing.
use Rattle.std.proofs.Common.{◌≡◌, ℕ, ◌+◌, ◌/◌, ◌%◌, ◌^◌, ◌<◌, ◌≤◌, List, [], ◌∷◌, length, decimal, ap, ⊎_elim, arith, length-append}
use Rattle.std.proofs.lemmas.Bool.{cases_lt}
use Rattle.std.proofs.lemmas.Fmt.{decimal_digit, decimal_step, decimal_injective}
use Rattle.forms.specs.Limits.{max_rows, numbers}

-- HOW MANY a byte has

pub one_digit : (n : ℕ) → n < 10 → 1 ≡ length (decimal n)
one_digit n h = omega (arith, ap length (decimal_digit n h))

digit_more : (n d : ℕ) → 10 ≤ n → n < numbers → d ≡ length (decimal (n / 10)) → d + 1 ≡ length (decimal n)
digit_more n d large small is = let s : n < 2 ^ 64 = omega arith in omega (arith, ap length (decimal_step n large s), length-append (decimal (n / 10)) ((48 + n % 10) ∷ []))

pub two_digits : (n : ℕ) → 10 ≤ n → n < 100 → 2 ≡ length (decimal n)
two_digits n large small = digit_more n 1 large (omega arith) (one_digit (n / 10) (omega arith))

pub three_digits : (n : ℕ) → 100 ≤ n → n < numbers → 3 ≡ length (decimal n)
three_digits n large small = digit_more n 2 (omega arith) small (two_digits (n / 10) (omega arith) (omega arith))

-- WHICH a row number or a label has: one, or two of which the first is not 0
pub data Figures (n : ℕ) : List ℕ → Type 0 where
  one : n < 10 → Figures n ((48 + n) ∷ [])
  two : 1 ≤ n / 10 → n / 10 < 10 → Figures n ((48 + n / 10) ∷ (48 + n % 10) ∷ [])

pub figures : (n : ℕ) → n < max_rows → Figures n (decimal n)
figures n h = ⊎_elim
    (λ small. rw (decimal_digit n small) (one small))
    (λ large. let s : n < 2 ^ 64 = omega arith in let t : n / 10 < 10 = omega arith in let u : 1 ≤ n / 10 = omega arith in rw (decimal_step n large s, decimal_digit (n / 10) t) (two u t))
    (cases_lt n 10)

pub decimal_one : {m n : ℕ} → m < max_rows → n < max_rows → decimal m ≡ decimal n → m ≡ n
decimal_one {m} {n} h g e = decimal_injective m n (omega arith) (omega arith) e
