-- Reading a line field by field.
use Rattle.std.proofs.Common.{◌≡◌, ℕ, zero, suc, ◌<◌, List, [], ◌∷◌, ◌++◌, length, get_or, Ok, Err, Result, Bor, sym, refl, ap, ◌∙◌, subst, arith}
use Rattle.std.specs.List.{AllByRecursion}
use Rattle.forms.specs.declared.Row.{Row}
use Rattle.texts.specs.declared.kinds.Kind.{Kind}
use Rattle.texts.specs.declared.kinds.Kind.TheVariants.{Void as void}
use Rattle.texts.specs.Limits.{label_digits}
use Rattle.texts.specs.RowText.{letter, HexDigit, kind, field_1, field_2, field_3, spelled_row, Content, Allowed, contents, field, from_stop, end_of, RightFields, FirstWrong}
use Rattle.texts.specs.RowText.Content.{the_letter, a_capability, a_label_set, a_number, no_bytes}
use Rattle.texts.specs.Reading.{OfKind, OfCapability, OfLabels, OfNumber, OfBlank, Suits, BlanksRead, FieldsRead, LineRead}
use Rattle.texts.proofs.Numbers.{length_hexadecimal, hexadecimal_is, hexadecimal_value}
use Rattle.texts.proofs.RightLines.{parted, spelled_line, letter_first, first_wrong}

pub capability_suits : Suits OfCapability a_capability
capability_suits = record { allows = λ f c e. (c, e); tells = λ f (c, e). (c, e) }

pub number_suits : Suits OfNumber a_number
number_suits = record { allows = λ f n (h, e). (n, h, e); tells = λ f (n, h, e). (n, (h, e)) }

pub blank_suits : Suits OfBlank no_bytes
blank_suits = record { allows = λ f v e. e; tells = λ f e. (tt, e) }

pub labels_suits : Suits OfLabels a_label_set
labels_suits = record {
  allows = λ f n (h, e). (ap length e ∙ length_hexadecimal label_digits n, subst (AllByRecursion HexDigit) (sym e) (hexadecimal_is label_digits n h));
  tells = λ f (l, all). let (n, h, e) = hexadecimal_value f all in (n, (rw l at h, rw l at e));
}

pub blank_suits_at : (cs : List Content) (c : Content) (f : ℕ) → cs ≡ c ∷ no_bytes ∷ no_bytes ∷ no_bytes ∷ [] → 0 < f → Suits OfBlank (get_or cs f no_bytes)
blank_suits_at cs c f e h = rw e (at f h)
  where
    at : (f : ℕ) → 0 < f → Suits OfBlank (get_or (c ∷ no_bytes ∷ no_bytes ∷ no_bytes ∷ []) f no_bytes)
    at zero h = absurd (omega arith)
    at (suc zero) h = blank_suits
    at (suc (suc zero)) h = blank_suits
    at (suc (suc (suc zero))) h = blank_suits
    at (suc (suc (suc (suc f)))) h = blank_suits

-- one right field more
pub step_right : {V : Type 0} {spells : List ℕ → V → Type 0} {c : Content} → Suits spells c → (k : Kind) (f : ℕ) → get_or (contents k) f no_bytes ≡ c → (line bytes rest : List ℕ) → RightFields k f line bytes → (v : V) → spells (field bytes) v → from_stop bytes ≡ end_of f ∷ rest → RightFields k (suc f) line rest
step_right fits k f e line bytes rest right v s stop = (bytes, right, (subst (λ x. Allowed x (field bytes)) (sym e) (fits.allows (field bytes) v s), stop))

-- the next field is wrong
pub step_wrong : {V : Type 0} {spells : List ℕ → V → Type 0} {c : Content} → Suits spells c → (k : Kind) (f : ℕ) → get_or (contents k) (suc f) no_bytes ≡ c → suc f < 4 → (line bytes : List ℕ) → RightFields k (suc f) line bytes → (g : ℕ) → (g ≡ suc f) × ((v : V) (rest : List ℕ) → spells (field bytes) v → from_stop bytes ≡ end_of (suc f) ∷ rest → ⊥) → FirstWrong g line
step_wrong fits k f e h line bytes right g (eg, none) = subst (λ x. FirstWrong x line) (sym eg)
    (first_wrong k f h line bytes right (λ rest (a, stop). let (v, s) = fits.tells (field bytes) (subst (λ x. Allowed x (field bytes)) e a) in none v rest s stop))

-- field 1, 2 or 3 of a line is the first wrong one
abbrev Wrong : {V : Type 0} → (List ℕ → V → Type 0) → ℕ → List ℕ → ℕ → Type 0
Wrong {V} spells f bytes g = (g ≡ f) × ((v : V) (rest : List ℕ) → spells (field bytes) v → from_stop bytes ≡ end_of f ∷ rest → ⊥)

module _ (k : Kind) (line b₁ : List ℕ) (right : RightFields k 1 line b₁) {V₁ : Type 0} {s₁ : List ℕ → V₁ → Type 0} (fits₁ : Suits s₁ (get_or (contents k) 1 no_bytes)) where
  pub wrong_1 : (g : ℕ) → Wrong s₁ 1 b₁ g → FirstWrong g line
  wrong_1 g w = step_wrong fits₁ k 0 refl (omega arith) line b₁ right g w

  module _ (v₁ : V₁) (b₂ : List ℕ) (read₁ : s₁ (field b₁) v₁ × (from_stop b₁ ≡ 44 ∷ b₂)) {V₂ : Type 0} {s₂ : List ℕ → V₂ → Type 0} (fits₂ : Suits s₂ (get_or (contents k) 2 no_bytes)) where
    right₂ : RightFields k 2 line b₂
    right₂ = step_right fits₁ k 1 refl line b₁ b₂ right v₁ read₁.0 read₁.1

    pub wrong_2 : (g : ℕ) → Wrong s₂ 2 b₂ g → FirstWrong g line
    wrong_2 g w = step_wrong fits₂ k 1 refl (omega arith) line b₂ right₂ g w

    pub wrong_3 : (v₂ : V₂) (b₃ : List ℕ) → s₂ (field b₂) v₂ × (from_stop b₂ ≡ 44 ∷ b₃) → {V₃ : Type 0} {s₃ : List ℕ → V₃ → Type 0} → Suits s₃ (get_or (contents k) 3 no_bytes) → (g : ℕ) → Wrong s₃ 3 b₃ g → FirstWrong g line
    wrong_3 v₂ b₃ read₂ fits₃ g w = step_wrong fits₃ k 2 refl (omega arith) line b₃ (step_right fits₂ k 2 refl line b₂ b₃ right₂ v₂ read₂.0 read₂.1) g w

-- the bytes of three fields
field_bytes : (bytes f rest : List ℕ) (e : ℕ) → field bytes ≡ f → from_stop bytes ≡ e ∷ rest → bytes ≡ f ++ (e ∷ rest)
field_bytes bytes f rest e is stop = cc (parted bytes)

pub three_fields : (b₁ b₂ b₃ rest f₁ f₂ f₃ : List ℕ) → field b₁ ≡ f₁ → from_stop b₁ ≡ 44 ∷ b₂ → field b₂ ≡ f₂ → from_stop b₂ ≡ 44 ∷ b₃ → field b₃ ≡ f₃ → from_stop b₃ ≡ 10 ∷ rest → b₁ ≡ f₁ ++ (44 ∷ (f₂ ++ (44 ∷ (f₃ ++ (10 ∷ rest)))))
three_fields b₁ b₂ b₃ rest f₁ f₂ f₃ i₁ s₁ i₂ s₂ i₃ s₃ = field_bytes b₁ f₁ b₂ 44 i₁ s₁ ∙ ap (λ t. f₁ ++ (44 ∷ t)) (field_bytes b₂ f₂ b₃ 44 i₂ s₂ ∙ ap (λ t. f₂ ++ (44 ∷ t)) (field_bytes b₃ f₃ rest 10 i₃ s₃))

pub three_are : (bytes rest f₁ f₂ f₃ g₁ g₂ g₃ : List ℕ) → bytes ≡ f₁ ++ (44 ∷ (f₂ ++ (44 ∷ (f₃ ++ (10 ∷ rest))))) → f₁ ≡ g₁ → f₂ ≡ g₂ → f₃ ≡ g₃ → bytes ≡ g₁ ++ (44 ∷ (g₂ ++ (44 ∷ (g₃ ++ (10 ∷ rest)))))
three_are bytes rest f₁ f₂ f₃ g₁ g₂ g₃ e i j k = cc

-- FIELD 0
pub kind_right : (k : Kind) (bytes rest : List ℕ) → OfKind (field bytes) k → from_stop bytes ≡ 44 ∷ rest → RightFields k 1 bytes rest
kind_right k bytes rest e stop = (bytes, refl, (subst (λ x. Allowed x (field bytes)) (sym (letter_first k)) e, stop))

pub kind_wrong : (bytes : List ℕ) (g : ℕ) → (g ≡ 0) × ((k : Kind) (rest : List ℕ) → OfKind (field bytes) k → from_stop bytes ≡ end_of 0 ∷ rest → ⊥) → FirstWrong g bytes
kind_wrong bytes g (eg, none) = subst (λ x. FirstWrong x bytes) (sym eg) (
  omega arith,
  (void, bytes, refl),
  λ (k, rest, (b, e, (a, stop))).
      let l : field b ≡ letter k ∷ [] = subst (λ x. Allowed x (field b)) (letter_first k) a in
      none k rest (cc) (cc),
)

pub whole_line : (r : Row) (k : Kind) (bytes first rest : List ℕ) → OfKind (field bytes) k → from_stop bytes ≡ 44 ∷ first → kind r ≡ k → first ≡ field_1 r ++ (44 ∷ (field_2 r ++ (44 ∷ (field_3 r ++ (10 ∷ rest))))) → bytes ≡ spelled_row r ++ rest
whole_line r k bytes first rest e stop is fields = field_bytes bytes (letter k ∷ []) first 44 e stop ∙ cc (spelled_line r rest)

-- a line by its kind and its other fields
abbrev KindRead : List ℕ → List ℕ → Kind → Type 0
KindRead bytes first k = OfKind (field bytes) k × (from_stop bytes ≡ 44 ∷ first)

pub line_fields : (bytes first : List ℕ) (k' k : Kind) → k' ≡ k → KindRead bytes first k' → (r : Result (Row × Bor (List ℕ)) ℕ) → FieldsRead k first r → LineRead bytes r
line_fields bytes first k' k e read (Ok p) (proper, is, fields) = (proper, whole_line p.0 k' bytes first p.1.now read.0 read.1 (cc) fields)
line_fields bytes first k' k e read (Err f) wrong = wrong bytes (subst (λ x. RightFields x 1 bytes first) e (kind_right k' bytes first read.0 read.1))

-- a row without other fields
pub line_blanks : (bytes first : List ℕ) (k' k : Kind) → k' ≡ k → KindRead bytes first k' → contents k ≡ the_letter k ∷ no_bytes ∷ no_bytes ∷ no_bytes ∷ [] → (f : ℕ) → BlanksRead first (Err f) → FirstWrong f bytes
line_blanks bytes first k' k e read blank f wrong = wrong k bytes blank (subst (λ x. RightFields x 1 bytes first) e (kind_right k' bytes first read.0 read.1))
