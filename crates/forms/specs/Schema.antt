-- What a table of forms means: what a row offers, and which rows some document fits. Assumes nothing.
use Rattle.std.specs.Prelude.{◌≡◌, ℕ, true, List, Some}
use Rattle.std.specs.List.{slice_get}
use Rattle.forms.specs.declared.Row.{Row}
use Rattle.forms.specs.declared.Row.TheVariants.{Void, Nothing, Channel, Element, Union}
use Rattle.forms.specs.declared.Capability.{Capability}
use Rattle.forms.specs.Rows.{belongs}

abbrev pub NoUnion : Row → Type 0
NoUnion Void = Unit {0}
NoUnion Nothing = Unit {0}
NoUnion (Channel k s) = Unit {0}
NoUnion (Element l i n) = Unit {0}
NoUnion (Union l r) = ⊥

-- Row p offers row o. A row that is no union offers itself alone; a union offers what its sides offer, and nothing more.
pub data Offers (rows : List Row) : ℕ → ℕ → Type 0 where
  itself : {p : ℕ} {row : Row} → slice_get rows p ≡ Some row → NoUnion row → Offers rows p p
  left : {p o l r : ℕ} → slice_get rows p ≡ Some (Union l r) → Offers rows l o → Offers rows p o
  right : {p o l r : ℕ} → slice_get rows p ≡ Some (Union l r) → Offers rows r o → Offers rows p o

-- row o is a channel row
abbrev pub IsChannel : List Row → ℕ → Type 0
IsChannel rows o = (k : Capability) × (s : ℕ) × (slice_get rows o ≡ Some (Channel k s))

-- Some document fits row p.
pub data Inhabited (rows : List Row) : ℕ → Type 0 where
  of_void : {p : ℕ} → slice_get rows p ≡ Some Void → Inhabited rows p
  of_channel : {p : ℕ} {k : Capability} {s : ℕ} → slice_get rows p ≡ Some (Channel k s) → Inhabited rows p
  of_element : {p l i n : ℕ} (x : ℕ) → slice_get rows p ≡ Some (Element l i n) → belongs x l ≡ true → Inhabited rows i → Inhabited rows n → Inhabited rows p
  of_left : {p l r : ℕ} → slice_get rows p ≡ Some (Union l r) → Inhabited rows l → Inhabited rows p
  of_right : {p l r : ℕ} → slice_get rows p ≡ Some (Union l r) → Inhabited rows r → Inhabited rows p
