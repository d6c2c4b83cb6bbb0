-- The relation as it is published for labelled-determined schemas: handles, and a family of handles that covers a label set. Assumes nothing.
use Rattle.std.specs.Prelude.{◌≡◌, ℕ, Bool, true, ◌↔◌, List, Some}
use Rattle.forms.specs.declared.Row.{Row}
use Rattle.forms.specs.declared.Row.TheVariants.{Element}
use Rattle.forms.specs.declared.Capability.{Capability}
use Rattle.std.specs.List.{slice_get}
use Rattle.forms.specs.Rows.{belongs}
use Rattle.forms.specs.Schema.{Offers, Inhabited}
use Rattle.schema.specs.Rules.{Determined, OffersVoid, OffersChannel, ◌⊑◌, Relation, Payloads, Below}

-- p has the handle l(i; n): it offers that element row, with some label and with parts that some documents fit
pub record Handle (rows : List Row) (p l i n : ℕ) : Type 0 where
  pub number : ℕ
  pub offered : Offers rows p number
  pub is : slice_get rows number ≡ Some (Element l i n)
  pub labelled : (x : ℕ) × (belongs x l ≡ true)
  pub inside : Inhabited rows i
  pub following : Inhabited rows n

-- a family of handles of q, each of which shares a label with l and has parts above i and n, and which together have all labels of l
pub record Family (rows : List Row) (R : Relation) (q l i n : ℕ) : Type 0 where
  pub index : ℕ → Bool
  pub member : (j : ℕ) → index j ≡ true → (l' i' n' : ℕ) × Handle rows q l' i' n' × ((x : ℕ) × (belongs x l ≡ true) × (belongs x l' ≡ true)) × (R i i' ≡ true) × (R n n' ≡ true)
  pub covers : (x : ℕ) → belongs x l ≡ true → (j : ℕ) × (m : index j ≡ true) × (belongs x (member j m).0 ≡ true)

pub record Simulates (rows : List Row) (R : Relation) (p q : ℕ) : Type 0 where
  pub voids : OffersVoid rows p → OffersVoid rows q
  pub channels : {k : Capability} {s : ℕ} → OffersChannel rows p k s → (k' : Capability) × (t : ℕ) × OffersChannel rows q k' t × (k ⊑ k') × Payloads R k' s t
  pub elements : {l i n : ℕ} → Handle rows p l i n → Family rows R q l i n

-- the largest relation in which each pair simulates
abbrev pub Subschema : List Row → ℕ → ℕ → Type 0
Subschema rows p q = (R : Relation) × ((a b : ℕ) → R a b ≡ true → Simulates rows R a b) × (R p q ≡ true)

abbrev pub PublishedIsBelow : Type 0
PublishedIsBelow = (rows : List Row) → Determined rows → (p q : ℕ) → Subschema rows p q ↔ Below rows p q
