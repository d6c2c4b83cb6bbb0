-- What the parts of the reader give: the value of a field, a field with its end, a line. Assumes nothing.
use Rattle.std.specs.Prelude.{◌≡◌, ℕ, ◌^◌, ◌<◌, List, [], ◌∷◌, ◌++◌, get_or, Some, None, Ok, Err, decimal, Option, Result, ◌≢◌}
use Rattle.std.specs.Borrow.{Bor}
use Rattle.forms.specs.declared.Row.{Row}
use Rattle.forms.specs.declared.Capability.{Capability}
use Rattle.forms.specs.Limits.{max_rows, label_count}
use Rattle.texts.specs.declared.kinds.Kind.{Kind}
use Rattle.texts.specs.Limits.{label_digits}
use Rattle.texts.specs.RowText.{letter, letter_of_capability, hexadecimal, kind, field_1, field_2, field_3, spelled_row, Proper, Content, Allowed, contents, field, from_stop, end_of, RightFields, FirstWrong}
use Rattle.texts.specs.RowText.Content.{the_letter, no_bytes}

-- a value that has the property, or none has it
abbrev pub Told : {V : Type 0} → (V → Type 0) → Option V → Type 0
Told {V} means None = (v : V) → means v → ⊥
Told means (Some v) = means v

-- which bytes spell which value
abbrev pub OfKind : List ℕ → Kind → Type 0
OfKind f k = f ≡ letter k ∷ []

abbrev pub OfCapability : List ℕ → Capability → Type 0
OfCapability f c = f ≡ letter_of_capability c ∷ []

abbrev pub OfLabels : List ℕ → ℕ → Type 0
OfLabels f n = (n < 2 ^ label_count) × (f ≡ hexadecimal label_digits n)

abbrev pub OfNumber : List ℕ → ℕ → Type 0
OfNumber f n = (n < max_rows) × (f ≡ decimal n)

abbrev pub OfBlank : List ℕ → Unit {0} → Type 0
OfBlank f v = f ≡ []

-- field f of a line, with which the bytes begin: its value and the bytes behind its end, or its number if it is wrong
abbrev pub FieldRead : {V : Type 0} → (List ℕ → V → Type 0) → List ℕ → ℕ → Result (V × Bor (List ℕ)) ℕ → Type 0
FieldRead spells bytes f (Ok p) = spells (field bytes) p.0 × (from_stop bytes ≡ end_of f ∷ p.1.now)
FieldRead {V} spells bytes f (Err e) = (e ≡ f) × ((v : V) (rest : List ℕ) → spells (field bytes) v → from_stop bytes ≢ end_of f ∷ rest)

-- the values of one sort are what the content allows
pub record Suits {V : Type 0} (spells : List ℕ → V → Type 0) (c : Content) : Type 0 where
  pub allows : (f : List ℕ) (v : V) → spells f v → Allowed c f
  pub tells : (f : List ℕ) → Allowed c f → (v : V) × spells f v

-- fields 1 to 3 with values of three sorts: the values and the bytes behind the line; or the first wrong field of a line whose contents are of those sorts
abbrev pub ThreeRead : {A B C : Type 0} → (List ℕ → A → Type 0) → (List ℕ → B → Type 0) → (List ℕ → C → Type 0) → List ℕ → Result ((A × B × C) × Bor (List ℕ)) ℕ → Type 0
ThreeRead first second third bytes (Ok p) = (f₁ f₂ f₃ : List ℕ) × first f₁ p.0.0 × second f₂ p.0.1 × third f₃ p.0.2 × (bytes ≡ f₁ ++ (44 ∷ (f₂ ++ (44 ∷ (f₃ ++ (10 ∷ p.1.now))))))
ThreeRead first second third bytes (Err f) = (k : Kind) (line : List ℕ) → Suits first (get_or (contents k) 1 no_bytes) → Suits second (get_or (contents k) 2 no_bytes) → Suits third (get_or (contents k) 3 no_bytes) → RightFields k 1 line bytes → FirstWrong f line

-- fields 1 to 3 without bytes: the bytes behind them, or the first wrong field of the line
abbrev pub BlanksRead : List ℕ → Result (Bor (List ℕ)) ℕ → Type 0
BlanksRead bytes (Ok next) = bytes ≡ 44 ∷ 44 ∷ 10 ∷ next.now
BlanksRead bytes (Err f) = (k : Kind) (line : List ℕ) → contents k ≡ the_letter k ∷ no_bytes ∷ no_bytes ∷ no_bytes ∷ [] → RightFields k 1 line bytes → FirstWrong f line

-- fields 1 to 3 of a row of this kind: the row and the bytes behind its line, or the first wrong field of the line
abbrev pub FieldsRead : Kind → List ℕ → Result (Row × Bor (List ℕ)) ℕ → Type 0
FieldsRead k bytes (Ok p) = Proper p.0 × (kind p.0 ≡ k) × (bytes ≡ field_1 p.0 ++ (44 ∷ (field_2 p.0 ++ (44 ∷ (field_3 p.0 ++ (10 ∷ p.1.now))))))
FieldsRead k bytes (Err f) = (line : List ℕ) → RightFields k 1 line bytes → FirstWrong f line

-- a line: its row and the bytes behind it, or its first wrong field
abbrev pub LineRead : List ℕ → Result (Row × Bor (List ℕ)) ℕ → Type 0
LineRead bytes (Ok p) = Proper p.0 × (bytes ≡ spelled_row p.0 ++ p.1.now)
LineRead bytes (Err f) = FirstWrong f bytes
