-- The worked table, and what holds of its rows. Assumes nothing.
use Rattle.std.specs.Prelude.{◌≡◌, ℕ, zero, suc, ◌+◌, ◌*◌, ◌/◌, ◌%◌, true, cond, ◌&&◌, List, [], ◌∷◌, length, ◌==◌}
use Rattle.std.specs.List.{AllByRecursion}
use Rattle.forms.specs.declared.Row.{Row}
use Rattle.forms.specs.declared.Row.TheVariants.{Void, Nothing, Channel, Element, Union}
use Rattle.forms.specs.declared.Capability.TheVariants.{Out, Both}
use Rattle.forms.specs.Documents.{Document}
use Rattle.forms.specs.Documents.Document.{void, element}
use Rattle.schema.specs.Rules.{Relation, Keeps, Below, Fits, IsDocument, Leans}

-- `V,,,` / `E,0000000000000002,0,0` / `E,0000000000000006,0,0` / `C,o,1,` / `C,o,2,` / `C,b,1,` / `E,0000000000000002,0,6` / `N,,,` / `U,,0,9` / `E,0000000000000002,0,8`
abbrev pub table : List Row
table = Void ∷ Element 2 0 0 ∷ Element 6 0 0 ∷ Channel Out 1 ∷ Channel Out 2 ∷ Channel Both 1 ∷ Element 2 0 6 ∷ Nothing ∷ Union 0 9 ∷ Element 2 0 8 ∷ []

-- how many of the first k pairs over n rows, counted row by row, are in R
abbrev pub tally : ℕ → Relation → ℕ → ℕ
tally n R zero = 0
tally n R (suc k) = cond (R (k / n) (k % n)) 1 0 + tally n R k

-- P holds of exactly k of the pairs over n rows.
pub record Counts (n : ℕ) (P : ℕ → ℕ → Type 0) (k : ℕ) : Type 0 where
  pub R : Relation
  pub sound : (a b : ℕ) → R a b ≡ true → P a b
  pub complete : (a b : ℕ) → P a b → R a b ≡ true
  pub many : k ≡ tally n R (n * n)

-- d shows that p is not below q: it fits p and not q
pub record Shows (p q : ℕ) (d : Document) : Type 0 where
  pub is : IsDocument table d
  pub fits : Fits table d p
  pub fits_not : Fits table d q → ⊥

-- the relation of one pair alone
abbrev pub alone : ℕ → ℕ → Relation
alone p q a b = a == p && b == q

-- what is said of a pair (p, q)
pub data Case : Type 0 where
  -- p is below q
  below : ℕ → ℕ → Case
  -- p is below q, and the pair leans on so many pairs
  below_leaning : ℕ → ℕ → ℕ → Case
  -- p is not below q
  not_below : ℕ → ℕ → Case
  -- p is not below q, and only this document shows it
  shown_only_by : ℕ → ℕ → Document → Case
  -- the pair breaks the rules within the relation that has it alone
  breaks_alone : ℕ → ℕ → Case

abbrev pub Holds : Case → Type 0
Holds (below p q) = Below table p q
Holds (below_leaning p q k) = Below table p q × Counts (length table) (Leans table p q) k
Holds (not_below p q) = Below table p q → ⊥
Holds (shown_only_by p q d) = (Below table p q → ⊥) × Shows p q d × ((e : Document) → Shows p q e → e ≡ d)
Holds (breaks_alone p q) = Keeps table (alone p q) p q → ⊥

abbrev pub cases : List Case
cases =
    below_leaning 1 2 2
    ∷ shown_only_by 2 1 (element 2 void void)
    ∷ below 4 3
    ∷ not_below 3 4
    ∷ below 5 3
    ∷ not_below 3 5
    ∷ below_leaning 6 7 1
    ∷ below_leaning 8 8 2
    ∷ shown_only_by 8 9 void
    ∷ breaks_alone 1 2
    ∷ []

abbrev pub WorkedCases : Type 0
WorkedCases = AllByRecursion Holds cases
