-- What is proved of tables of forms. Assumes nothing.
use Rattle.std.specs.Prelude.{◌≡◌, ℕ, ◌<◌, true, ◌⊎◌, ◌↔◌, List, length, Decides}
use Rattle.forms.specs.declared.Row.{Row}
use Rattle.forms.specs.Documents.{Document}
use Rattle.schema.specs.Published.{PublishedIsBelow}
use Rattle.schema.specs.Rules.{Bounded, Determined, Relation, Closed, Below, Fits, IsDocument, Included, Names, Leans}

-- every pair of R is a pair of S
abbrev pub Part : Relation → Relation → Type 0
Part R S = (p q : ℕ) → R p q ≡ true → S p q ≡ true

-- every pair of C is a pair of rows
abbrev pub OfRows : List Row → Relation → Type 0
OfRows rows C = (p q : ℕ) → C p q ≡ true → (p < length rows) × (q < length rows)

-- S is the largest relation within C in which each pair keeps the rules
pub record LargestWithin (rows : List Row) (C S : Relation) : Type 0 where
  pub part : Part S C
  pub closed : Closed rows S
  pub largest : (R : Relation) → Part R C → Closed rows R → Part R S

-- the rules name for the pairs of C only pairs of C
abbrev pub Confined : List Row → Relation → Type 0
Confined rows C = (p q a b : ℕ) → C p q ≡ true → Names rows p q a b → C a b ≡ true

abbrev pub BelowIsReflexive : Type 0
BelowIsReflexive = (rows : List Row) → Determined rows → (p : ℕ) → Below rows p p

abbrev pub BelowIsTransitive : Type 0
BelowIsTransitive = (rows : List Row) → Bounded rows → (p q r : ℕ) → p < length rows → q < length rows → r < length rows → Below rows p q → Below rows q r → Below rows p r

-- what is below a row fits only documents that fit the row
abbrev pub BelowIsSound : Type 0
BelowIsSound = (rows : List Row) → Bounded rows → (p q : ℕ) → p < length rows → q < length rows → Below rows p q → Included rows p q

-- a document that fits p and does not fit q
abbrev pub Witness : List Row → ℕ → ℕ → Type 0
Witness rows p q = (d : Document) × IsDocument rows d × Fits rows d p × (Fits rows d q → ⊥)

abbrev pub BelowOrWitness : Type 0
BelowOrWitness = (rows : List Row) → Bounded rows → Determined rows → (p q : ℕ) → p < length rows → q < length rows → Below rows p q ⊎ Witness rows p q

abbrev pub BelowIsInclusion : Type 0
BelowIsInclusion = (rows : List Row) → Bounded rows → Determined rows → (p q : ℕ) → p < length rows → q < length rows → Below rows p q ↔ Included rows p q

-- For a pair of rows, what it leans on is decided, is a set of pairs of rows, and is a set that the rules do not lead out of.
abbrev pub LeansIsDecided : Type 0
LeansIsDecided = (rows : List Row) → Bounded rows → (p q : ℕ) → p < length rows → q < length rows →
    (L : Relation) × ((a b : ℕ) → Decides (L a b) (Leans rows p q a b)) × OfRows rows L × Confined rows L

-- So the pairs that (p, q) leans on are enough to tell whether p is below q.
abbrev pub LeanedTellsBelow : Type 0
LeanedTellsBelow = (rows : List Row) (p q : ℕ) (L S : Relation) → ((a b : ℕ) → Decides (L a b) (Leans rows p q a b)) → LargestWithin rows L S → Decides (S p q) (Below rows p q)

-- Without `Determined` a row need not be below itself, though it is always included in itself.
abbrev pub ReflexiveNeedsDetermined : Type 0
ReflexiveNeedsDetermined = (rows : List Row) × Bounded rows × (p : ℕ) × (p < length rows) × (Below rows p p → ⊥)

-- What holds of every table, whatever is asked about it: `Below` is inclusion of documents and the published relation, an order, and told by what a pair leans on.
pub record BelowLaws : Type 0 where
  pub sound : BelowIsSound
  pub inclusion : BelowIsInclusion
  pub witness : BelowOrWitness
  pub published : PublishedIsBelow
  pub reflexive : BelowIsReflexive
  pub transitive : BelowIsTransitive
  pub leans : LeansIsDecided
  pub told : LeanedTellsBelow
