-- Row text: how rows are spelled, which texts are right, and how a text is judged. Assumes nothing.
use Rattle.std.specs.Prelude.{◌≡◌, ℕ, zero, suc, ◌+◌, ◌/◌, ◌%◌, ◌^◌, ◌<◌, ◌≤◌, Bool, cond, ◌||◌, ◌⊎◌, ◌↔◌, List, [], ◌∷◌, ◌++◌, length, decimal, ◌==◌, nat_lt, slice_index_or}
use Rattle.std.specs.List.{flat_map, AllByRecursion}
use Rattle.forms.specs.declared.Row.{Row}
use Rattle.forms.specs.declared.Row.TheVariants.{Void, Nothing, Channel, Element, Union}
use Rattle.forms.specs.declared.Capability.{Capability}
use Rattle.forms.specs.declared.Capability.TheVariants.{In, Out, Both}
use Rattle.forms.specs.Limits.{max_rows}
use Rattle.forms.specs.Refusals.{Outcome}
use Rattle.forms.specs.Refusals.Outcome.{refuses, gives}
use Rattle.forms.specs.Rows.{NumbersBelow, Labelled}
use Rattle.texts.specs.declared.TextFault.TheVariants.{TooLong, WrongLine, TooManyLines}
use Rattle.texts.specs.declared.kinds.Kind.{Kind}
use Rattle.texts.specs.declared.kinds.Kind.TheVariants.{Void as void, Nothing as nothing, Channel as channel, Element as element, Union as union}
use Rattle.texts.specs.Faults.{text_refusal}
use Rattle.texts.specs.Limits.{max_text, label_digits}

-- the letters of the kinds: V, N, C, E, U
abbrev pub letter : Kind → ℕ
letter void = 86
letter nothing = 78
letter channel = 67
letter element = 69
letter union = 85

-- i, o, b
abbrev pub letter_of_capability : Capability → ℕ
letter_of_capability In = 105
letter_of_capability Out = 111
letter_of_capability Both = 98

-- the hexadecimal digits 0 to 9 and a to f
abbrev pub digit_in_hex : ℕ → ℕ
digit_in_hex d = cond (nat_lt d 10) (48 + d) (87 + d)

-- the k hexadecimal digits of a number below 16 ^ k
unfoldable pub hexadecimal : ℕ → ℕ → List ℕ
hexadecimal zero n = []
hexadecimal (suc k) n = digit_in_hex (n / 16 ^ k) ∷ hexadecimal k (n % 16 ^ k)

-- WRITING. A row has four fields.
abbrev pub kind : Row → Kind
kind Void = void
kind Nothing = nothing
kind (Channel c s) = channel
kind (Element l i n) = element
kind (Union l r) = union

abbrev pub field_1 : Row → List ℕ
field_1 Void = []
field_1 Nothing = []
field_1 (Channel c s) = letter_of_capability c ∷ []
field_1 (Element l i n) = hexadecimal label_digits l
field_1 (Union l r) = []

abbrev pub field_2 : Row → List ℕ
field_2 Void = []
field_2 Nothing = []
field_2 (Channel c s) = decimal s
field_2 (Element l i n) = decimal i
field_2 (Union l r) = decimal l

abbrev pub field_3 : Row → List ℕ
field_3 Void = []
field_3 Nothing = []
field_3 (Channel c s) = []
field_3 (Element l i n) = decimal n
field_3 (Union l r) = decimal r

-- They are parted by commas (44), and byte 10 ends the line.
abbrev pub spelled_row : Row → List ℕ
spelled_row r = letter (kind r) ∷ 44 ∷ (field_1 r ++ (44 ∷ (field_2 r ++ (44 ∷ (field_3 r ++ (10 ∷ []))))))

abbrev pub spelled : List Row → List ℕ
spelled rows = flat_map spelled_row rows

-- The rows that text can spell have row numbers below the limit, and label sets of 64 bits, as every row in memory has.
abbrev pub Proper : Row → Type 0
Proper r = NumbersBelow max_rows r × Labelled r

-- CHECKING. What a field may hold, and which bytes are that.
pub data Content : Type 0 where
  the_letter : Kind → Content
  a_capability : Content
  a_label_set : Content
  a_number : Content
  no_bytes : Content

abbrev pub HexDigit : ℕ → Type 0
HexDigit b = ((48 ≤ b) × (b ≤ 57)) ⊎ ((97 ≤ b) × (b ≤ 102))

abbrev pub Allowed : Content → List ℕ → Type 0
Allowed (the_letter k) f = f ≡ letter k ∷ []
Allowed a_capability f = (c : Capability) × (f ≡ letter_of_capability c ∷ [])
Allowed a_label_set f = (length f ≡ label_digits) × AllByRecursion HexDigit f
Allowed a_number f = (n : ℕ) × (n < max_rows) × (f ≡ decimal n)
Allowed no_bytes f = f ≡ []

-- the fields 0 to 3 of a row of each kind
abbrev pub contents : Kind → List Content
contents void = the_letter void ∷ no_bytes ∷ no_bytes ∷ no_bytes ∷ []
contents nothing = the_letter nothing ∷ no_bytes ∷ no_bytes ∷ no_bytes ∷ []
contents channel = the_letter channel ∷ a_capability ∷ a_number ∷ no_bytes ∷ []
contents element = the_letter element ∷ a_label_set ∷ a_number ∷ a_number ∷ []
contents union = the_letter union ∷ no_bytes ∷ a_number ∷ a_number ∷ []

-- A field runs to the next comma, byte 10 or end.
abbrev pub stops : ℕ → Bool
stops b = b == 44 || b == 10

abbrev pub field : List ℕ → List ℕ
field [] = []
field (b ∷ bs) = cond (stops b) [] (b ∷ field bs)

-- what is left from there on
abbrev pub from_stop : List ℕ → List ℕ
from_stop [] = []
from_stop (b ∷ bs) = cond (stops b) (b ∷ bs) (from_stop bs)

-- Fields 0 to 2 end at a comma, and field 3 at byte 10.
abbrev pub end_of : ℕ → ℕ
end_of f = cond (f == 3) 10 44

-- The bytes begin with a right field f of a row of this kind, and with its end; rest is what follows.
abbrev pub RightField : Kind → ℕ → List ℕ → List ℕ → Type 0
RightField k f bytes rest = Allowed (slice_index_or (contents k) f no_bytes) (field bytes) × (from_stop bytes ≡ end_of f ∷ rest)

-- The bytes begin with the right fields 0 to n - 1 of a row of this kind.
abbrev pub RightFields : Kind → ℕ → List ℕ → List ℕ → Type 0
RightFields k zero bytes rest = bytes ≡ rest
RightFields k (suc f) bytes rest = (between : List ℕ) × RightFields k f bytes between × RightField k f between rest

abbrev pub RightUpTo : ℕ → List ℕ → Type 0
RightUpTo f bytes = (k : Kind) × (rest : List ℕ) × RightFields k f bytes rest

-- field f of the line is wrong, and the fields before it are right
abbrev pub FirstWrong : ℕ → List ℕ → Type 0
FirstWrong f bytes = (f < 4) × RightUpTo f bytes × (RightUpTo (suc f) bytes → ⊥)

-- The bytes begin with n right lines.
abbrev pub RightLines : ℕ → List ℕ → List ℕ → Type 0
RightLines zero bytes rest = bytes ≡ rest
RightLines (suc n) bytes rest = (between : List ℕ) × (k : Kind) × RightLines n bytes between × RightFields k 4 between rest

-- How a text is judged: a fault, or the rows that it means.
pub data Judged (bytes : List ℕ) : Outcome (List Row) → Type 0 where
  -- more than 1,600 bytes
  is_long : max_text < length bytes → Judged bytes (refuses (text_refusal TooLong))
  -- after n right lines a line begins, and f is its first wrong field
  is_wrong : {n f : ℕ} (b : ℕ) (rest : List ℕ) → length bytes ≤ max_text → n < max_rows → RightLines n bytes (b ∷ rest) → FirstWrong f (b ∷ rest) → Judged bytes (refuses (text_refusal (WrongLine n f)))
  -- after 64 right lines a line begins
  is_more : (b : ℕ) (rest : List ℕ) → length bytes ≤ max_text → RightLines max_rows bytes (b ∷ rest) → Judged bytes (refuses (text_refusal TooManyLines))
  -- at most 64 lines, all of them right: the text means the rows that it spells
  is_right : {rows : List Row} → length bytes ≤ max_text → length rows ≤ max_rows → RightLines (length rows) bytes [] → AllByRecursion Proper rows → bytes ≡ spelled rows → Judged bytes (gives rows)

-- Every text has exactly one outcome.
abbrev pub JudgementIsOne : Type 0
JudgementIsOne = (bytes : List ℕ) → (o : Outcome (List Row)) × Judged bytes o × ((p : Outcome (List Row)) → Judged bytes p → p ≡ o)

-- A text is right and means rows just where it is how these rows are spelled.
abbrev pub RightIsSpelled : Type 0
RightIsSpelled = (bytes : List ℕ) (rows : List Row) → Judged bytes (gives rows) ↔ ((length rows ≤ max_rows) × AllByRecursion Proper rows × (bytes ≡ spelled rows))

-- What can be spelled is never too long.
abbrev pub SpelledIsShort : Type 0
SpelledIsShort = (rows : List Row) → length rows ≤ max_rows → AllByRecursion (NumbersBelow max_rows) rows → length (spelled rows) ≤ max_text
