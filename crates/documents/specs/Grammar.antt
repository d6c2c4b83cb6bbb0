-- Document text: the grammar, how documents are spelled, and where a text is wrong. Assumes nothing.
use Rattle.std.specs.Prelude.{◌≡◌, ℕ, suc, ◌-◌, ◌<◌, max, ◌⊎◌, ◌↔◌, List, [], ◌∷◌, ◌++◌, length, take, decimal, count_by, nat_eq, slice_index}
use Rattle.forms.specs.Limits.{max_rows, label_count}
use Rattle.forms.specs.Documents.{Document}
use Rattle.forms.specs.Documents.Document.{void, reference, element}
use Rattle.documents.specs.Limits.{max_levels}

-- THE GRAMMAR. The bytes are @ (64), [ (91), ] (93) and the comma (44); row numbers and labels are decimal, from 0 to 63, without leading zeros.
mutual
  -- The empty text is void. Otherwise the text is a list.
  pub data Text : List ℕ → Document → Type 0 where
    empty : Text [] void
    a_list : {s : List ℕ} {d : Document} → Listed s d → Text s d

  -- A list is one item, or an element, a comma and a list. An item is @ and a row number, or an element.
  pub data Listed : List ℕ → Document → Type 0 where
    a_reference : {n : ℕ} → n < max_rows → Listed (64 ∷ decimal n) (reference n)
    an_element : {s : List ℕ} {x : ℕ} {a : Document} → Bracketed s x a → Listed s (element x a void)
    and_more : {s t : List ℕ} {x : ℕ} {a b : Document} → Bracketed s x a → Listed t b → Listed (s ++ (44 ∷ t)) (element x a b)

  -- An element is a label and brackets, which hold a list or nothing.
  pub data Bracketed : List ℕ → ℕ → Document → Type 0 where
    brackets : {s : List ℕ} {x : ℕ} {a : Document} → x < label_count → Text s a → Bracketed (decimal x ++ (91 ∷ (s ++ (93 ∷ [])))) x a

-- WRITING. A comma comes between an element and what follows it, if that is not void.
abbrev pub comma_before : Document → List ℕ
comma_before void = []
comma_before (reference n) = 44 ∷ []
comma_before (element x a b) = 44 ∷ []

abbrev pub spelled_document : Document → List ℕ
spelled_document void = []
spelled_document (reference n) = 64 ∷ decimal n
spelled_document (element x a b) = decimal x ++ (91 ∷ (spelled_document a ++ (93 ∷ (comma_before b ++ spelled_document b))))

-- the documents that text can spell: row numbers and labels up to 63
abbrev pub Small : Document → Type 0
Small void = Unit {0}
Small (reference n) = n < max_rows
Small (element x a b) = (x < label_count) × Small a × Small b

-- Writing and the grammar agree, and no two documents share a text.
abbrev pub TextsAreSpelled : Type 0
TextsAreSpelled = (bytes : List ℕ) (d : Document) → Text bytes d ↔ (Small d × (bytes ≡ spelled_document d))

abbrev pub TextsAreUnambiguous : Type 0
TextsAreUnambiguous = (bytes : List ℕ) (d e : Document) → Text bytes d → Text bytes e → d ≡ e

-- READING. The bytes go on: some text of the grammar begins with them.
abbrev pub GoesOn : List ℕ → Type 0
GoesOn bytes = (rest : List ℕ) × (d : Document) × Text (bytes ++ rest) d

-- The text is wrong at k: the first byte, or the end, where no text of the grammar goes on so
pub data WrongAt (bytes : List ℕ) (k : ℕ) : Type 0 where
  at_byte : k < length bytes → GoesOn (take k bytes) → (GoesOn (take (suc k) bytes) → ⊥) → WrongAt bytes k
  at_end : k ≡ length bytes → GoesOn bytes → ((d : Document) → Text bytes d → ⊥) → WrongAt bytes k

-- A text, or else one place where it is wrong.
abbrev pub WrongAtOnePlace : Type 0
WrongAtOnePlace = (bytes : List ℕ) →
    ((d : Document) × Text bytes d × ((k : ℕ) → WrongAt bytes k → ⊥)) ⊎
    ((k : ℕ) × WrongAt bytes k × ((j : ℕ) → WrongAt bytes j → j ≡ k) × ((d : Document) → Text bytes d → ⊥))

-- how many brackets are opened in the bytes and not closed
abbrev pub level : List ℕ → ℕ
level bytes = count_by (λ b. nat_eq b 91) bytes - count_by (λ b. nat_eq b 93) bytes

-- The bracket at k opens a level more than there may be.
abbrev pub OpensTooMany : List ℕ → ℕ → Type 0
OpensTooMany bytes k = (k < length bytes) × (slice_index bytes k ≡ 91) × (level (take k bytes) ≡ max_levels)

-- how many levels of brackets a document's text has
abbrev pub levels : Document → ℕ
levels void = 0
levels (reference n) = 0
levels (element x a b) = max (suc (levels a)) (levels b)
