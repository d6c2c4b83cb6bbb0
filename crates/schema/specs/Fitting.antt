-- What fits a row where references fit by whatever relation. Assumes nothing.
use Rattle.std.specs.Prelude.{◌≡◌, ℕ, true, List, Some}
use Rattle.std.specs.List.{slice_get}
use Rattle.forms.specs.declared.Row.{Row}
use Rattle.forms.specs.declared.Row.TheVariants.{Channel, Element}
use Rattle.forms.specs.declared.Capability.{Capability}
use Rattle.forms.specs.Rows.{belongs}
use Rattle.forms.specs.Schema.{Offers}
use Rattle.forms.specs.Documents.{Document}
use Rattle.forms.specs.Documents.Document.{void, reference, element}
use Rattle.schema.specs.Rules.{OffersVoid, Below, Fits}

-- Void fits what offers a void row. A reference fits what offers a channel row that its own is in B with. An element fits what offers an element row with its label, where its parts fit.
pub data FitsBy (rows : List Row) (B : ℕ → ℕ → Type 0) : Document → ℕ → Type 0 where
  fits_void : {p : ℕ} → OffersVoid rows p → FitsBy rows B void p
  fits_reference : {c p d s : ℕ} {k : Capability} → Offers rows p d → slice_get rows d ≡ Some (Channel k s) → B c d → FitsBy rows B (reference c) p
  fits_element : {x : ℕ} {a b : Document} {p e l i n : ℕ} → Offers rows p e → slice_get rows e ≡ Some (Element l i n) → belongs x l ≡ true → FitsBy rows B a i → FitsBy rows B b n → FitsBy rows B (element x a b) p

-- fitting is fitting by Below
abbrev pub FitsIsByBelow : Type 0
FitsIsByBelow = (rows : List Row) (d : Document) (p : ℕ) → (FitsBy rows (Below rows) d p → Fits rows d p) × (Fits rows d p → FitsBy rows (Below rows) d p)
