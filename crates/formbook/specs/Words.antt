-- The words of a text, and the numbers that words write. Assumes nothing.
use Rattle.std.specs.Prelude.{◌≡◌, ℕ, ◌^◌, ◌<◌, ◌==◌, List, [], ◌∷◌, ◌++◌, length, slice_index_or}
use Rattle.std.specs.Borrow.{Bor}
use Rattle.std.specs.Char.{is_whitespace, is_not_whitespace}
use Rattle.std.specs.List.{before_first, after_first}
use Rattle.std.specs.Str.{NoCharPasses, EmptyOrStartsWithPassing}
use Rattle.std.specs.Str.Parse.{IsNumeral, digits_value, without_leading_plus}

-- words, as a program holds them
abbrev pub Words : Type 0
Words = List (Bor (List ℕ))

-- These are the words of the text, in their order: none is empty or has white space in it, and nothing but white space stands around and between them.
abbrev pub AreWords : List ℕ → Words → Type 0
AreWords text [] = NoCharPasses is_not_whitespace text
AreWords text (w ∷ words) = (gap : List ℕ) × (rest : List ℕ) × (text ≡ gap ++ (w.now ++ rest)) × (0 < length w.now)
    × NoCharPasses is_not_whitespace gap × NoCharPasses is_whitespace w.now × ((more : List ℕ) × EmptyOrStartsWithPassing is_whitespace rest more) × AreWords rest words

-- word k, which is empty past the last
abbrev pub word : Words → ℕ → List ℕ
word words k = (slice_index_or words k (record { ref_ptr = (0, 0); now = [] })).now

-- so many words, of which the first is the name of a call
abbrev pub HasForm : Words → List ℕ → ℕ → Type 0
HasForm words name count = (length words ≡ count) × (word words 0 ≡ name)

-- the number that digits of a radix write, where a plus may stand before them
abbrev pub number : ℕ → List ℕ → ℕ
number radix text = digits_value radix (without_leading_plus text)

-- a word is such a number of at most so many bits
abbrev pub IsNumber : ℕ → ℕ → List ℕ → Type 0
IsNumber bits radix text = IsNumeral radix (without_leading_plus text) × (number radix text < 2 ^ bits)

-- what stands before the first of a byte, and behind it
abbrev pub before : ℕ → List ℕ → List ℕ
before byte text = before_first (λ b. b == byte) text

abbrev pub behind : ℕ → List ℕ → List ℕ
behind byte text = after_first (λ b. b == byte) text
