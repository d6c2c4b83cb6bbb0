-- The parts of a line, written one after another.
use Rattle.std.proofs.Common.{◌≡◌, ℕ, zero, suc, ◌+◌, ◌-◌, ◌*◌, ◌/◌, ◌%◌, ◌^◌, ◌<◌, ◌≤◌, List, [], ◌∷◌, ◌++◌, sym, refl, ap, ◌∙◌, subst, pow-suc, arith}
use Rattle.std.proofs.lemmas.Nat.{pow_pos, pow-add, field_of, mod-pow-add, mod-mul-add, mod_below}
use Rattle.forms.specs.declared.Row.{Row}
use Rattle.forms.specs.Splices.{Wrote}
use Rattle.forms.proofs.Splices.{wrote_none, wrote_both}
use Rattle.texts.specs.Limits.{label_digits}
use Rattle.texts.specs.RowText.{letter, kind, digit_in_hex, hexadecimal, field_1, field_2, field_3, spelled_row}

-- LABEL SETS. So many digits are left to write: once they are written, the whole is.
pub record Left (labels : ℕ) (old now : List ℕ) (place next left : ℕ) : Type 0 where
  pub few : left ≤ label_digits
  pub rest : (new : List ℕ) (end : ℕ) → Wrote now new next (hexadecimal left (labels % 16 ^ left)) end → Wrote old new place (hexadecimal label_digits labels) end

sixteen_is : (k : ℕ) → 16 ^ k ≡ 2 ^ (4 * k)
sixteen_is zero = refl
sixteen_is (suc k) =
    let e : 4 * suc k ≡ 4 * k + 4 = omega arith in
    let h = sixteen_is k in
    pow-suc 16 k ∙ (ap (λ x. x * 16) h ∙ (sym (pow-add 2 (4 * k) 4) ∙ ap (λ x. 2 ^ x) (sym e)))

-- the digit that comes next, and what is left then
next_digit : (n k : ℕ) → n % 16 ^ suc k / 16 ^ k ≡ n / 2 ^ (4 * k) % 16
next_digit n k = let e : 4 * suc k ≡ 4 + 4 * k = omega arith in rw (sixteen_is (suc k), sixteen_is k, e) (field_of n 4 (4 * k))

next_left : (n k : ℕ) → n % 16 ^ suc k % 16 ^ k ≡ n % 16 ^ k
next_left n k =
    let e : 4 * suc k ≡ 4 + 4 * k = omega arith in
    rw (sixteen_is (suc k), sixteen_is k, e) (ap (λ x. x % 2 ^ (4 * k)) (mod-pow-add n 4 (4 * k)) ∙ mod-mul-add (n / 2 ^ (4 * k) % 16) (2 ^ (4 * k)) (n % 2 ^ (4 * k)) (mod_below n (2 ^ (4 * k)) (pow_pos (4 * k))))

pub left_more : (labels : ℕ) (old now after : List ℕ) (place next next' left : ℕ) → Left labels old now place next left → 0 < left → Wrote now after next (digit_in_hex (labels / 2 ^ (4 * (left - 1)) % 16) ∷ []) next' → Left labels old after place next' (left - 1)
unfolding hexadecimal
left_more labels old now after place next next' zero going pos wrote = absurd (omega arith)
left_more labels old now after place next next' (suc k) going pos wrote =
    let e : suc k - 1 ≡ k = omega arith in
    let digit : labels / 2 ^ (4 * (suc k - 1)) % 16 ≡ labels % 16 ^ suc k / 16 ^ k = ap (λ x. labels / 2 ^ (4 * x) % 16) e ∙ sym (next_digit labels k) in
    let here : Wrote now after next (digit_in_hex (labels % 16 ^ suc k / 16 ^ k) ∷ []) next' = subst (λ d. Wrote now after next (digit_in_hex d ∷ []) next') digit wrote in
    subst (Left labels old after place next') (sym e) (record {
      few = omega (arith, going.few);
      rest = λ new end more. going.rest new end (wrote_both now after new next next' end (digit_in_hex (labels % 16 ^ suc k / 16 ^ k) ∷ []) (hexadecimal k (labels % 16 ^ suc k % 16 ^ k)) here (subst (λ m. Wrote after new next' (hexadecimal k m) end) (sym (next_left labels k)) more));
    })

pub left_all : (labels : ℕ) (old now : List ℕ) (place next left : ℕ) → Left labels old now place next left → left ≤ 0 → Wrote old now place (hexadecimal label_digits labels) next
unfolding hexadecimal
left_all labels old now place next zero going h = going.rest now next (wrote_none now next)
left_all labels old now place next (suc k) going h = absurd (omega arith)

-- LINES
pub wrote_line : (row : Row) (o₀ o₁ o₂ o₃ o₄ o₅ o₆ o₇ o₈ : List ℕ) (p₀ p₁ p₂ p₃ p₄ p₅ p₆ p₇ p₈ : ℕ)
    → Wrote o₀ o₁ p₀ (letter (kind row) ∷ []) p₁ → Wrote o₁ o₂ p₁ (44 ∷ []) p₂ → Wrote o₂ o₃ p₂ (field_1 row) p₃ → Wrote o₃ o₄ p₃ (44 ∷ []) p₄ → Wrote o₄ o₅ p₄ (field_2 row) p₅ → Wrote o₅ o₆ p₅ (44 ∷ []) p₆ → Wrote o₆ o₇ p₆ (field_3 row) p₇ → Wrote o₇ o₈ p₇ (10 ∷ []) p₈
    → Wrote o₀ o₈ p₀ (spelled_row row) p₈
wrote_line row o₀ o₁ o₂ o₃ o₄ o₅ o₆ o₇ o₈ p₀ p₁ p₂ p₃ p₄ p₅ p₆ p₇ p₈ a b c d e f g h =
    let s₆ = field_3 row ++ (10 ∷ []) in
    let s₄ = field_2 row ++ (44 ∷ s₆) in
    let s₂ = field_1 row ++ (44 ∷ s₄) in
    wrote_both o₀ o₁ o₈ p₀ p₁ p₈ (letter (kind row) ∷ []) (44 ∷ s₂) a
    (wrote_both o₁ o₂ o₈ p₁ p₂ p₈ (44 ∷ []) s₂ b
    (wrote_both o₂ o₃ o₈ p₂ p₃ p₈ (field_1 row) (44 ∷ s₄) c
    (wrote_both o₃ o₄ o₈ p₃ p₄ p₈ (44 ∷ []) s₄ d
    (wrote_both o₄ o₅ o₈ p₄ p₅ p₈ (field_2 row) (44 ∷ s₆) e
    (wrote_both o₅ o₆ o₈ p₅ p₆ p₈ (44 ∷ []) s₆ f
    (wrote_both o₆ o₇ o₈ p₆ p₇ p₈ (field_3 row) (10 ∷ []) g h))))))
