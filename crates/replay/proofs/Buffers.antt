-- A vector whose slice was lent and written holds what was written. Assumes nothing.
use Rattle.std.proofs.Common.{◌≡◌, ℕ, List, ◌++◌, length, take, drop, ◌∙◌, arith}
use Rattle.std.proofs.lemmas.List.{take_all, take-append-le}

-- the items of a vector of that length, after the written ones came in the place of the first
abbrev pub refill : {A : Type 0} → List A → List A → ℕ → List A
refill after items len = take len (after ++ drop (length after) items)

pub refilled : {A : Type 0} (after items : List A) (len : ℕ) → length after ≡ len → refill after items len ≡ after
refilled after items len e = take-append-le len after (drop (length after) items) (omega arith) ∙ take_all len after (omega arith)
