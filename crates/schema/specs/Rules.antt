-- What it means that one row of a table is below another, which documents fit a row, and what a pair of rows leans on. Assumes nothing.
use Rattle.std.specs.Prelude.{◌≡◌, ℕ, ◌<◌, Bool, true, List, length, Some}
use Rattle.std.specs.List.{slice_get}
use Rattle.forms.specs.declared.Row.{Row}
use Rattle.forms.specs.declared.Row.TheVariants.{Void, Channel, Element}
use Rattle.forms.specs.declared.Capability.{Capability}
use Rattle.forms.specs.declared.Capability.TheVariants.{In, Out, Both}
use Rattle.forms.specs.Limits.{label_count}
use Rattle.forms.specs.Rows.{belongs, NumbersBelow, Labelled}
use Rattle.forms.specs.Schema.{Offers, Inhabited}
use Rattle.forms.specs.Documents.{Document}
use Rattle.forms.specs.Documents.Document.{void, reference, element}

-- Every number in a row is that of a row, and a label set has no other labels than those that there are.
pub record Bounded (rows : List Row) : Type 0 where
  pub inside : (p : ℕ) {row : Row} → slice_get rows p ≡ Some row → NumbersBelow (length rows) row × Labelled row

-- p offers a void row
abbrev pub OffersVoid : List Row → ℕ → Type 0
OffersVoid rows p = (v : ℕ) × Offers rows p v × (slice_get rows v ≡ Some Void)

-- p offers a channel row with that capability and payload
pub record OffersChannel (rows : List Row) (p : ℕ) (k : Capability) (s : ℕ) : Type 0 where
  pub number : ℕ
  pub offered : Offers rows p number
  pub is : slice_get rows number ≡ Some (Channel k s)

-- an inhabited element row that p offers
pub record OffersElement (rows : List Row) (p l i n : ℕ) : Type 0 where
  pub number : ℕ
  pub offered : Offers rows p number
  pub is : slice_get rows number ≡ Some (Element l i n)
  pub inhabited : Inhabited rows number

-- Of the inhabited element rows that a row offers, no two share a label.
pub record Determined (rows : List Row) : Type 0 where
  pub one : {p l i n l' i' n' : ℕ} (e : OffersElement rows p l i n) (e' : OffersElement rows p l' i' n') (x : ℕ) → belongs x l ≡ true → belongs x l' ≡ true → e.number ≡ e'.number

-- Both is at most in and at most out, and each is at most itself.
infixl 20 ◌⊑◌
pub data ◌⊑◌ : Capability → Capability → Type 0 where
  same : {k : Capability} → k ⊑ k
  both : {k : Capability} → Both ⊑ k

-- a relation between rows
abbrev pub Relation : Type 0
Relation = ℕ → ℕ → Bool

-- How the payloads s of c and t of d compare, where d has the capability k.
abbrev pub Payloads : Relation → Capability → ℕ → ℕ → Type 0
Payloads R In s t = R s t ≡ true
Payloads R Out s t = R t s ≡ true
Payloads R Both s t = (R s t ≡ true) × (R t s ≡ true)

-- The pair (p, q) keeps the rules within R.
pub record Keeps (rows : List Row) (R : Relation) (p q : ℕ) : Type 0 where
  pub voids : OffersVoid rows p → OffersVoid rows q
  pub channels : {k : Capability} {s : ℕ} → OffersChannel rows p k s → (k' : Capability) × (t : ℕ) × OffersChannel rows q k' t × (k ⊑ k') × Payloads R k' s t
  pub covers : {l i n : ℕ} → OffersElement rows p l i n → (x : ℕ) → belongs x l ≡ true → (l' i' n' : ℕ) × OffersElement rows q l' i' n' × (belongs x l' ≡ true)
  pub agrees : {l i n l' i' n' : ℕ} → OffersElement rows p l i n → OffersElement rows q l' i' n' → (x : ℕ) → belongs x l ≡ true → belongs x l' ≡ true → (R i i' ≡ true) × (R n n' ≡ true)

-- each pair of R keeps the rules within R
abbrev pub Closed : List Row → Relation → Type 0
Closed rows R = (p q : ℕ) → R p q ≡ true → Keeps rows R p q

-- the largest relation in which each pair keeps the rules
abbrev pub Below : List Row → ℕ → ℕ → Type 0
Below rows p q = (R : Relation) × Closed rows R × (R p q ≡ true)

-- Void fits what offers a void row. A reference fits what offers a channel row that its own is below. An element fits what offers an element row with its label, where its parts fit.
pub data Fits (rows : List Row) : Document → ℕ → Type 0 where
  fits_void : {p : ℕ} → OffersVoid rows p → Fits rows void p
  fits_reference : {c p d s : ℕ} {k : Capability} → Offers rows p d → slice_get rows d ≡ Some (Channel k s) → Below rows c d → Fits rows (reference c) p
  fits_element : {x : ℕ} {a b : Document} {p e l i n : ℕ} → Offers rows p e → slice_get rows e ≡ Some (Element l i n) → belongs x l ≡ true → Fits rows a i → Fits rows b n → Fits rows (element x a b) p

-- the references of a document are to channel rows, and its labels are labels that there are
abbrev pub IsDocument : List Row → Document → Type 0
IsDocument rows void = Unit {0}
IsDocument rows (reference c) = (k : Capability) × (s : ℕ) × (slice_get rows c ≡ Some (Channel k s))
IsDocument rows (element x a b) = (x < label_count) × IsDocument rows a × IsDocument rows b

-- every document that fits p fits q
abbrev pub Included : List Row → ℕ → ℕ → Type 0
Included rows p q = (d : Document) → IsDocument rows d → Fits rows d p → Fits rows d q

-- which payload directions a capability compares
abbrev pub Covariant : Capability → Type 0
Covariant In = Unit {0}
Covariant Out = ⊥
Covariant Both = Unit {0}

abbrev pub Contravariant : Capability → Type 0
Contravariant In = ⊥
Contravariant Out = Unit {0}
Contravariant Both = Unit {0}

-- the pairs that the rules name for (p, q)
pub data Names (rows : List Row) : ℕ → ℕ → ℕ → ℕ → Type 0 where
  receives : {p q s t : ℕ} {k k' : Capability} → OffersChannel rows p k s → OffersChannel rows q k' t → k ⊑ k' → Covariant k' → Names rows p q s t
  sends : {p q s t : ℕ} {k k' : Capability} → OffersChannel rows p k s → OffersChannel rows q k' t → k ⊑ k' → Contravariant k' → Names rows p q t s
  inside : {p q l i n l' i' n' : ℕ} (x : ℕ) → OffersElement rows p l i n → OffersElement rows q l' i' n' → belongs x l ≡ true → belongs x l' ≡ true → Names rows p q i i'
  following : {p q l i n l' i' n' : ℕ} (x : ℕ) → OffersElement rows p l i n → OffersElement rows q l' i' n' → belongs x l ≡ true → belongs x l' ≡ true → Names rows p q n n'

-- a pair leans on itself, on the pairs that the rules name for it, and on what those lean on
pub data Leans (rows : List Row) : ℕ → ℕ → ℕ → ℕ → Type 0 where
  on_itself : {p q : ℕ} → Leans rows p q p q
  on_named : {p q a b c d : ℕ} → Names rows p q a b → Leans rows a b c d → Leans rows p q c d
