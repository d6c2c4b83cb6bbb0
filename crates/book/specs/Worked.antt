-- The worked cases, each on a book over the worked table that holds no pair: what it answers. Assumes nothing.
use Rattle.std.specs.Prelude.{◌≡◌, ℕ, ◌+◌, false, List, length, take, Decides}
use Rattle.std.specs.List.{AllByRecursion}
use Rattle.forms.specs.Documents.{Document}
use Rattle.forms.specs.Refusals.{Outcome}
use Rattle.forms.specs.Refusals.Outcome.{refuses, gives}
use Rattle.documents.specs.Nodes.{StandsFor}
use Rattle.documents.specs.declared.nodes.Node.{Node}
use Rattle.schema.specs.Rules.{Relation}
use Rattle.schema.specs.Worked.{table, alone, Case, cases}
use Rattle.schema.specs.Worked.Case.{below, below_leaning, not_below, shown_only_by, breaks_alone}
use Rattle.verdicts.specs.Pairs.{related}
use Rattle.book.specs.Answers.{Holding, After, Answered}
use Rattle.book.specs.Calls.{Answer}
use Rattle.book.specs.Calls.Answer.{asked, offered, shown}
use Rattle.book.specs.Calls.Call.{ask, offer, show}
use Rattle.book.specs.Faults.{book_refusal}
use Rattle.book.specs.Relations.{WellShaped}
use Rattle.book.specs.declared.types.BookFault.TheVariants.{RuleBroken}
use Rattle.book.specs.declared.types.Verdict.{Verdict}
use Rattle.book.specs.declared.types.Verdict.TheVariants.{Yes, No}

-- the tests of which pairs a book holds that holds none
abbrev pub Empty : Relation → Type 0
Empty R = (a b : ℕ) → R a b ≡ false

-- a book that holds no pair answers the verdict to an ask
abbrev pub Says : ℕ → ℕ → Verdict → Type 0
Says p q v = (R : Relation) (answer : Answer) → Empty R → Answered table (Holding R) (ask p q) answer → (new : ℕ) × (answer ≡ asked (gives (v, new)))

-- just after that, whatever order is shown is this document; R' tells the pairs held then
abbrev pub ShowsOnly : ℕ → ℕ → Document → Type 0
ShowsOnly p q d = (R R' : Relation) (buffer after : List Node) (o : Outcome ℕ) (k : ℕ) → Empty R → ((a b : ℕ) → Decides (R' a b) (After table (Holding R) (ask p q) a b)) →
    Answered table (Holding R') (show p q buffer) (shown o after) → o ≡ gives k → (last : ℕ) × (last + 1 ≡ length (take k after)) × StandsFor (take k after) last d

-- on every book that holds no pair
abbrev pub OnBook : Case → Type 0
OnBook (below p q) = Says p q Yes
OnBook (below_leaning p q k) = (R : Relation) (answer : Answer) → Empty R → Answered table (Holding R) (ask p q) answer → answer ≡ asked (gives (Yes, k))
OnBook (not_below p q) = Says p q No
OnBook (shown_only_by p q d) = Says p q No × ShowsOnly p q d
OnBook (breaks_alone p q) =
    (R : Relation) (words : List ℕ) (answer : Answer) → Empty R → WellShaped (length table) words → ((a b : ℕ) → related (length table) words a b ≡ alone p q a b) → Answered table (Holding R) (offer words) answer → answer ≡ offered (refuses (book_refusal (RuleBroken p q)))

abbrev pub WorkedOnBooks : Type 0
WorkedOnBooks = AllByRecursion OnBook cases
