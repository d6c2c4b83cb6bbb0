-- Sets of numbers, kept as bits of 64-bit words. Assumes nothing.
use Rattle.std.specs.Prelude.{◌≡◌, ℕ, zero, suc, ◌+◌, ◌/◌, ◌%◌, ◌^◌, ◌<◌, ◌≤◌, Bool, true, false, cond, ◌&&◌, List, Option, MatchOption, ◌==◌, nat_lt, slice_index}
use Rattle.std.specs.Int.{bit_at}

-- a word has so many bits
abbrev pub word : ℕ
word = 64

-- bit k of n is set
abbrev pub bit : ℕ → ℕ → Bool
bit n k = bit_at n k == 1

-- members are below this, so that each and the next number can be named in a machine word
abbrev pub top : ℕ
top = 2 ^ 63

-- bit k mod 64 of word k div 64 is set; past the last word none is
abbrev pub held : List ℕ → ℕ → Bool
held words k = bit (slice_index words (k / word)) (k % word)

-- k belongs to the set that the words hold
unfoldable pub member : List ℕ → ℕ → Bool
member words k = nat_lt k top && held words k

-- how many numbers below n pass the test
abbrev pub tally : (ℕ → Bool) → ℕ → ℕ
tally f zero = 0
tally f (suc n) = tally f n + cond (f n) 1 0

-- the lowest number not before the start that passes the test, or none if none does
abbrev pub Next : (ℕ → Bool) → ℕ → Option ℕ → Type 0
Next f start r =
    MatchOption r ((j : ℕ) → start ≤ j → f j ≡ false)
    (λ k. (start ≤ k) × (f k ≡ true) × ((j : ℕ) → start ≤ j → j < k → f j ≡ false))

-- what goes through a set of numbers gave the lowest member not before its start, and starts behind it then; of a state, `has` says which numbers are members, and `start` where it is
pub record GoesOn {S : Type 0} (has : S → ℕ → Bool) (start : S → ℕ) (s : S) (r : Option ℕ) (t : S) : Type 0 where
  pub next : Next (has s) (start s) r
  pub same : (j : ℕ) → has t j ≡ has s j
  pub behind : MatchOption r (start t ≡ start s) (λ k. start t ≡ k + 1)
