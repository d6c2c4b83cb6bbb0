-- What holds while nodes are made, and what one step and one round of it do. Assumes nothing.
use Rattle.std.specs.Prelude.{◌≡◌, ℕ, ◌+◌, ◌<◌, ◌≤◌, Bool, true, false, ◌≢◌, List, length, take, drop, Some, None, Option}
use Rattle.sets.specs.Sets.{tally}
use Rattle.forms.specs.declared.Row.{Row}
use Rattle.forms.specs.Documents.{Document}
use Rattle.documents.specs.Limits.{max_nodes}
use Rattle.documents.specs.Nodes.{SoundOver, StandsFor}
use Rattle.documents.specs.declared.nodes.Node.{Node}
use Rattle.schema.specs.Rules.{Relation, Fits}
use Rattle.schema.specs.Theorems.{LargestWithin, Confined, OfRows}
use Rattle.showing.specs.Drafts.{is_noted, noted, pair_place, Undrafted}
use Rattle.showing.specs.Showing.{places}

-- the pairs that the asked one leans on, and those of them that are below
pub record Asked (rows : List Row) (leaned below : Relation) : Type 0 where
  pub of_rows : OfRows rows leaned
  pub confined : Confined rows leaned
  pub largest : LargestWithin rows leaned below

-- the document is one for the place: it fits the row, or the first row of the pair and not the second
pub record Suits (rows : List Row) (below : Relation) (k : ℕ) (d : Document) : Type 0 where
  pub row : k < length rows → Fits rows d k
  pub pair : (p q : ℕ) → p < length rows → q < length rows → k ≡ pair_place (length rows) p q → (below p q ≢ true) × Fits rows d p × (Fits rows d q → ⊥)

-- the table is sound, has no more nodes than are noted, and each that is noted stands for a document for its place
pub record Noted (rows : List Row) (below : Relation) (table : List Node) (numbers : List (Option ℕ)) : Type 0 where
  pub long : length numbers ≡ max_nodes
  pub sound : SoundOver rows table
  pub counted : length table ≤ tally (is_noted numbers) (places rows)
  pub each : (k m : ℕ) → noted numbers k ≡ Some m → (d : Document) × StandsFor table m d × Suits rows below k d

-- the first nodes are such a table, and there is room for all
pub record Holds (rows : List Row) (below : Relation) (nodes : List Node) (used : ℕ) (numbers : List (Option ℕ)) : Type 0 where
  pub room : places rows ≤ length nodes
  pub within : used ≤ length nodes
  pub noting : Noted rows below (take used nodes) numbers

-- nodes were added, and those behind them stay
pub record Grown (before after : List Node) (used more : ℕ) : Type 0 where
  pub up : used ≤ more
  pub same : length after ≡ length before
  pub rest : drop more after ≡ drop more before

-- the place has a node, or nothing can be made for it yet
abbrev pub Settled : List Row → Relation → Relation → List (Option ℕ) → ℕ → Type 0
Settled rows leaned below numbers k = noted numbers k ≡ None → Undrafted rows leaned below numbers k

-- a place was tried: it got a node if it could
pub record Visited (rows : List Row) (leaned below : Relation) (k : ℕ) (before after : List Node) (used more : ℕ) (numbers new : List (Option ℕ)) (r : Bool) : Type 0 where
  pub holds : Holds rows below after more new
  pub grown : Grown before after used more
  pub others : (j : ℕ) → j ≢ k → noted new j ≡ noted numbers j
  pub added : r ≡ true → (more ≡ used + 1) × (noted new k ≡ Some used)
  pub idle : r ≡ false → (after ≡ before) × (more ≡ used) × (new ≡ numbers) × Settled rows leaned below new k

-- all places below the end but one were tried
pub record Rounded (rows : List Row) (leaned below : Relation) (but end : ℕ) (before after : List Node) (used more : ℕ) (numbers new : List (Option ℕ)) : Type 0 where
  pub holds : Holds rows below after more new
  pub grown : Grown before after used more
  pub stays : noted new but ≡ noted numbers but
  pub idle : more ≡ used → (new ≡ numbers) × ((j : ℕ) → j < end → j ≢ but → Settled rows leaned below new j)
