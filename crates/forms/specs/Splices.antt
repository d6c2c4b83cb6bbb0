-- What a buffer holds after something was written into it. Assumes nothing.
use Rattle.std.specs.Prelude.{◌≡◌, ℕ, ◌+◌, ◌<◌, ◌≤◌, List, ◌++◌, length, take, drop}

-- the list, with s in the place of its elements from p on
abbrev pub spliced : {A : Type 0} → List A → ℕ → List A → List A
spliced old p s = take p old ++ (s ++ drop (p + length s) old)

-- s was written from p on, if there was room for it, and r is the place behind it
abbrev pub Wrote : {A : Type 0} → List A → List A → ℕ → List A → ℕ → Type 0
Wrote old new p s r = p + length s ≤ length old → (r ≡ p + length s) × (new ≡ spliced old p s)

-- s was written, or where there was no room for it nothing changed, and r is p
abbrev pub Puts : {A : Type 0} → List A → List A → ℕ → List A → ℕ → Type 0
Puts old new p s r = Wrote old new p s r × (length old < p + length s → (r ≡ p) × (new ≡ old))
