-- Sets of rows, filled place by place. Assumes nothing.
use Rattle.std.proofs.Common.{◌≡◌, ℕ, ◌*◌, ◌/◌, ◌%◌, ◌<◌, ◌&&◌, ltb, List, length, get_or, sym, ap, ◌∙◌, ⊎_elim, arith}
use lib.Bits.{bit_and}
use Rattle.std.proofs.lemmas.Bool.{cases_lt, lt-ltb, le-ltb, and_left}
use Rattle.sets.specs.Sets.{bit, member, word}
use Rattle.sets.proofs.Membership.{member_at, member_past}
use Rattle.sets.proofs.Words.{bit_of_and}
use Rattle.forms.specs.Limits.{max_rows}

-- what is in the first i words of one set and among the rows, where each row has so many words
abbrev pub overlaid : List ℕ → List ℕ → ℕ → ℕ → ℕ → Type 0
overlaid cells rows wide i v = v ≡ bit_and (get_or cells i 0) (get_or rows (i % wide) 0)

module _ (cells rows left : List ℕ) where
  abbrev wide : ℕ
  wide = max_rows / word

  pub overlaid_all : ((i : ℕ) → i < max_rows * wide → overlaid cells rows wide i (get_or left i 0)) → length left ≡ max_rows * wide → (k : ℕ) → member left k ≡ (ltb k (max_rows * max_rows) && (member cells k && member rows (k % max_rows)))
  overlaid_all made long k = ⊎_elim
      (λ h. member_at left (k / word) (k % word) k (omega arith) (omega arith) (omega arith)
      ∙ ap (λ w. bit w (k % word)) (made (k / word) (omega arith))
      ∙ bit_of_and (get_or cells (k / word) 0) (get_or rows (k / word % wide) 0) (k % word)
      ∙ ap (λ b. b && bit (get_or rows (k / word % wide) 0) (k % word)) (sym (member_at cells (k / word) (k % word) k (omega arith) (omega arith) (omega arith)))
      ∙ ap (λ b. member cells k && b) (sym (member_at rows (k / word % wide) (k % word) (k % max_rows) (omega arith) (omega arith) (omega arith)))
      ∙ sym (ap (λ b. b && (member cells k && member rows (k % max_rows))) (lt-ltb k (max_rows * max_rows) h)))
      (λ h. member_past left k (omega (arith, long)) ∙ sym (and_left (ltb k (max_rows * max_rows)) (member cells k && member rows (k % max_rows)) (le-ltb k (max_rows * max_rows) h)))
      (cases_lt k (max_rows * max_rows))
