-- Relations between the rows of a table, as sets of places: the pair (p, q) of n rows has the place p n + q. Assumes nothing.
use Rattle.std.specs.Prelude.{◌≡◌, ℕ, ◌+◌, ◌*◌, ◌/◌, ◌%◌, ◌<◌, Bool, true, false, cond, ◌&&◌, List, length, Some, None, Option, Decides, nat_lt}
use Rattle.sets.specs.Sets.{member}
use Rattle.forms.specs.declared.Row.{Row}
use Rattle.schema.specs.Rules.{Relation, Leans}
use Rattle.schema.specs.Theorems.{Witness}

-- the place of a pair of n rows
abbrev pub place_of : ℕ → Option (ℕ × ℕ) → Option ℕ
place_of n None = None
place_of n (Some pair) = cond (nat_lt pair.0 n && nat_lt pair.1 n) (Some (pair.0 * n + pair.1)) None

-- both are rows of the table
abbrev pub InTable : List Row → ℕ → ℕ → Type 0
InTable rows p q = (p < length rows) × (q < length rows)

-- the pair of n rows that has place k
abbrev pub pair_of : ℕ → ℕ → Option (ℕ × ℕ)
pair_of n k = cond (nat_lt k (n * n)) (Some (k / n, k % n)) None

-- the relation that a set of places means
abbrev pub between : ℕ → (ℕ → Bool) → Relation
between n S p q = nat_lt p n && (nat_lt q n && S (p * n + q))

-- the relation that words hold
abbrev pub related : ℕ → List ℕ → Relation
related n words = between n (member words)

-- some pair of the set leans on (a, b)
abbrev pub Leaned : List Row → List ℕ → ℕ → ℕ → Type 0
Leaned rows starts a b = (p q : ℕ) × (related (length rows) starts p q ≡ true) × Leans rows p q a b

-- all pairs of n rows
abbrev pub all_pairs : ℕ → Relation
all_pairs n p q = nat_lt p n && nat_lt q n

-- R tells of each pair of rows whether P holds of it
abbrev pub Tells : List Row → Relation → (ℕ → ℕ → Type 0) → Type 0
Tells rows R P = (p q : ℕ) → p < length rows → q < length rows → Decides (R p q) (P p q)

-- of each pair of rows that R lacks there is a document that fits the first and not the second
abbrev pub Witnessed : List Row → Relation → Type 0
Witnessed rows R = (p q : ℕ) → p < length rows → q < length rows → R p q ≡ false → Witness rows p q

abbrev pub Transitive : Relation → Type 0
Transitive R = (p q s : ℕ) → R p q ≡ true → R q s ≡ true → R p s ≡ true
