-- The nodes that are there already, by the rows and the pairs of rows that they are for, and the nodes that can be made of them. Assumes nothing.
use Rattle.std.specs.Prelude.{◌≡◌, ℕ, ◌+◌, ◌*◌, ◌<◌, Bool, true, cond, ◌⊎◌, List, length, Some, None, Decides, Option, MatchOption, ◌==◌, ◌≢◌, bit_and, bit_xor, slice_index_or}
use Rattle.std.specs.Int.Count.{count_trailing_zeros}
use Rattle.std.specs.Option.{option_or, is_some}
use Rattle.std.specs.List.{slice_get}
use Rattle.forms.specs.Limits.{label_count}
use Rattle.forms.specs.Rows.{belongs}
use Rattle.forms.specs.Schema.{Offers, Inhabited, IsChannel}
use Rattle.forms.specs.declared.Row.{Row}
use Rattle.forms.specs.declared.Row.TheVariants as row
use Rattle.documents.specs.declared.nodes.Node.{Node}
use Rattle.documents.specs.declared.nodes.Node.TheVariants as node
use Rattle.schema.specs.Rules.{OffersVoid, OffersElement, Relation}
use Rattle.verdicts.specs.Reading.{LabelledBy, ChannelTaken}
use Rattle.verdicts.specs.Ready.{IsElement}

-- NUMBERS: for each place the number of its node, if it has one
abbrev pub noted : List (Option ℕ) → ℕ → Option ℕ
noted numbers k = slice_index_or numbers k None

abbrev pub is_noted : List (Option ℕ) → ℕ → Bool
is_noted numbers k = is_some (noted numbers k)

-- the place of row r is r, and those of the pairs of n rows come behind
abbrev pub pair_place : ℕ → ℕ → ℕ → ℕ
pair_place n a b = n + (a * n + b)

-- NODES that are made of what there is
abbrev pub lowest : ℕ → Option ℕ
lowest labels = cond (labels == 0) None (Some (count_trailing_zeros label_count labels))

abbrev pub element_node : Option ℕ → Option ℕ → Option ℕ → Option Node
element_node None i f = None
element_node (Some x) None f = None
element_node (Some x) (Some i) None = None
element_node (Some x) (Some i) (Some f) = Some (node.Element x i f)

-- of an element row, one that fits it with a label that is none of the others
abbrev pub lacking_row : List (Option ℕ) → ℕ → Option Row → Option Node
lacking_row numbers others None = None
lacking_row numbers others (Some row.Void) = None
lacking_row numbers others (Some row.Nothing) = None
lacking_row numbers others (Some (row.Channel k s)) = None
lacking_row numbers others (Some (row.Element l i m)) = element_node (lowest (bit_xor l (bit_and l others))) (noted numbers i) (noted numbers m)
lacking_row numbers others (Some (row.Union l r)) = None

-- one that fits an element and not another with a common label, since one of its parts does not
abbrev pub difference_from : ℕ → List (Option ℕ) → ℕ → ℕ → ℕ → Option Row → Option Node
difference_from n numbers l i m None = None
difference_from n numbers l i m (Some row.Void) = None
difference_from n numbers l i m (Some row.Nothing) = None
difference_from n numbers l i m (Some (row.Channel k s)) = None
difference_from n numbers l i m (Some (row.Element l' i' m')) = option_or
    (element_node (lowest (bit_and l l')) (noted numbers (pair_place n i i')) (noted numbers m))
    (element_node (lowest (bit_and l l')) (noted numbers i) (noted numbers (pair_place n m m')))
difference_from n numbers l i m (Some (row.Union l' r)) = None

abbrev pub difference_of_rows : ℕ → List (Option ℕ) → Option Row → Option Row → Option Node
difference_of_rows n numbers None other = None
difference_of_rows n numbers (Some row.Void) other = None
difference_of_rows n numbers (Some row.Nothing) other = None
difference_of_rows n numbers (Some (row.Channel k s)) other = None
difference_of_rows n numbers (Some (row.Element l i m)) other = difference_from n numbers l i m other
difference_of_rows n numbers (Some (row.Union l r)) other = None

-- GOING THROUGH what W holds of: P holds of each of them with none, or of one with the result
abbrev pub Through : (ℕ → Type 0) → (ℕ → Option Node → Type 0) → Option Node → Type 0
Through W P r = MatchOption r ((e : ℕ) → W e → P e None) (λ v. (e : ℕ) × W e × P e (Some v))

-- e is an inhabited element row that p offers
abbrev pub ElementOf : List Row → ℕ → ℕ → Type 0
ElementOf rows p e = Offers rows p e × Inhabited rows e × IsElement rows e

abbrev pub ChannelOf : List Row → ℕ → ℕ → Type 0
ChannelOf rows p c = Offers rows p c × IsChannel rows c

-- what tells an element row from those that q offers: a label that they lack, or a part of the one with a common label
abbrev pub LacksLabel : List Row → List (Option ℕ) → ℕ → Option Row → Option Node → Type 0
LacksLabel rows numbers q row r = (labels : ℕ) × ((x : ℕ) → Decides (belongs x labels) (LabelledBy rows q x)) × (r ≡ lacking_row numbers labels row)

abbrev pub DiffersIn : List Row → List (Option ℕ) → ℕ → Option Row → Option Node → Type 0
DiffersIn rows numbers q row r = Through (ElementOf rows q) (λ f v. v ≡ difference_of_rows (length rows) numbers row (slice_get rows f)) r

abbrev pub ToldBy : List Row → List (Option ℕ) → ℕ → Option Row → Option Node → Type 0
ToldBy rows numbers q row r = MatchOption r
    (LacksLabel rows numbers q row None × DiffersIn rows numbers q row None)
    (λ v. LacksLabel rows numbers q row (Some v) ⊎ DiffersIn rows numbers q row (Some v))

-- DRAFTS for a row
pub data Lights (rows : List Row) (numbers : List (Option ℕ)) (r : ℕ) : Node → Type 0 where
  by_void : OffersVoid rows r → Lights rows numbers r node.Void
  by_channel : {c : ℕ} → ChannelOf rows r c → Lights rows numbers r (node.Reference c)
  by_element : {l i m x a b : ℕ} → OffersElement rows r l i m → belongs x l ≡ true → noted numbers i ≡ Some a → noted numbers m ≡ Some b → Lights rows numbers r (node.Element x a b)

-- nothing can be made for a row yet
pub record Unlit (rows : List Row) (numbers : List (Option ℕ)) (r : ℕ) : Type 0 where
  pub no_void : OffersVoid rows r → ⊥
  pub no_channel : (c : ℕ) → ChannelOf rows r c → ⊥
  pub no_element : {l i m : ℕ} → OffersElement rows r l i m → (x a b : ℕ) → belongs x l ≡ true → noted numbers i ≡ Some a → noted numbers m ≢ Some b

-- and for a pair of rows
pub data Tells (rows : List Row) (below : Relation) (numbers : List (Option ℕ)) (p q : ℕ) : Node → Type 0 where
  without_void : OffersVoid rows p → (OffersVoid rows q → ⊥) → Tells rows below numbers p q node.Void
  lacks_channel : {c : ℕ} → ChannelOf rows p c → (ChannelTaken rows below c q → ⊥) → Tells rows below numbers p q (node.Reference c)
  lacks_label : {l i m x a b : ℕ} → OffersElement rows p l i m → belongs x l ≡ true → (LabelledBy rows q x → ⊥) → noted numbers i ≡ Some a → noted numbers m ≡ Some b → Tells rows below numbers p q (node.Element x a b)
  differs_inside : {l i m l' i' m' x a b : ℕ} → OffersElement rows p l i m → OffersElement rows q l' i' m' → belongs x l ≡ true → belongs x l' ≡ true → noted numbers (pair_place (length rows) i i') ≡ Some a → noted numbers m ≡ Some b → Tells rows below numbers p q (node.Element x a b)
  differs_following : {l i m l' i' m' x a b : ℕ} → OffersElement rows p l i m → OffersElement rows q l' i' m' → belongs x l ≡ true → belongs x l' ≡ true → noted numbers i ≡ Some a → noted numbers (pair_place (length rows) m m') ≡ Some b → Tells rows below numbers p q (node.Element x a b)

pub record Untold (rows : List Row) (below : Relation) (numbers : List (Option ℕ)) (p q : ℕ) : Type 0 where
  pub voids : OffersVoid rows p → OffersVoid rows q
  pub channels : (c : ℕ) → ChannelOf rows p c → ChannelTaken rows below c q
  pub covers : {l i m : ℕ} → OffersElement rows p l i m → (x a b : ℕ) → belongs x l ≡ true → noted numbers i ≡ Some a → noted numbers m ≡ Some b → LabelledBy rows q x
  pub agrees : {l i m l' i' m' : ℕ} → OffersElement rows p l i m → OffersElement rows q l' i' m' → (x a b : ℕ) → belongs x l ≡ true → belongs x l' ≡ true → noted numbers i ≡ Some a → noted numbers m ≡ Some b →
      (noted numbers (pair_place (length rows) i i') ≡ None) × (noted numbers (pair_place (length rows) m m') ≡ None)

-- DRAFTS by place: a row, or a pair of rows that the asked one leans on and that is not below
pub data Drafts (rows : List Row) (leaned below : Relation) (numbers : List (Option ℕ)) : ℕ → Node → Type 0 where
  of_row : {r : ℕ} {v : Node} → r < length rows → Lights rows numbers r v → Drafts rows leaned below numbers r v
  of_pair : {p q : ℕ} {v : Node} → p < length rows → q < length rows → leaned p q ≡ true → (below p q ≢ true) → Tells rows below numbers p q v → Drafts rows leaned below numbers (pair_place (length rows) p q) v

pub record Undrafted (rows : List Row) (leaned below : Relation) (numbers : List (Option ℕ)) (k : ℕ) : Type 0 where
  pub row : k < length rows → Unlit rows numbers k
  pub pair : (p q : ℕ) → p < length rows → q < length rows → k ≡ pair_place (length rows) p q → leaned p q ≡ true → (below p q ≢ true) → Untold rows below numbers p q
