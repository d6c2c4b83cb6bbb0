-- What an open book answers to a call, from the rows and the pairs that it holds, and which pairs it holds then. Assumes nothing.
use Rattle.std.specs.Prelude.{◌≡◌, ℕ, ◌<◌, ◌≤◌, Bool, true, ◌⊎◌, ◌↔◌, List, length, take, drop, Some, None, Decides, Option, ◌≢◌}
use Rattle.forms.specs.Limits.{max_rows}
use Rattle.forms.specs.Refusals.{Refusal, Outcome}
use Rattle.forms.specs.Refusals.Outcome.{refuses, gives}
use Rattle.forms.specs.Schema.{IsChannel}
use Rattle.forms.specs.declared.Row.{Row}
use Rattle.documents.specs.declared.nodes.Node.{Node}
use Rattle.relation.specs.Cells.{cell}
use Rattle.schema.specs.Published.{Subschema}
use Rattle.schema.specs.Worked.{Counts}
use Rattle.schema.specs.Rules.{Relation, Below, Included, Fits, Leans}
use Rattle.verdicts.specs.Pairs.{related, InTable}
use Rattle.verdicts.specs.declared.faults.RowFault.TheVariants.{Outside}
use Rattle.fitting.specs.Fittable.{Fittable, Unfit}
use Rattle.fitting.specs.Marks.{Referred, ItsDocument}
use Rattle.showing.specs.Showing.{Witnesses, places}
use Rattle.showing.specs.declared.faults.ShowFault.TheVariants.{NotNo, FewNodes}
use Rattle.book.specs.Calls.{Call, Answer}
use Rattle.book.specs.Calls.Call.{ask, offer, look_up, held, hands_out, show, fit, clear}
use Rattle.book.specs.Calls.Answer.{asked, offered, looked_up, counted, handed_out, shown, fitted, cleared}
use Rattle.book.specs.Faults.{book_refusal}
use Rattle.book.specs.Relations.{words_for, WellShaped, Consistent, Breaks}
use Rattle.book.specs.declared.types.BookFault.TheVariants.{NoRow, RelationLength, BitOutside, RuleBroken, NotShown}
use Rattle.book.specs.declared.types.Verdict.{Verdict}
use Rattle.book.specs.declared.types.Verdict.TheVariants.{Yes}

-- pairs of rows, some of which are held
abbrev pub Pairs : Type 1
Pairs = ℕ → ℕ → Type 0

-- those that a test tells
abbrev pub Holding : Relation → Pairs
Holding R a b = R a b ≡ true

-- The call adds the pair (a, b): an ask adds what its pair leans on, an offer that is taken its relation's pairs, and a fit
-- what asks about each pair of a referenced row and a channel row would.
abbrev pub Adds : List Row → Call → Pairs
Adds rows (ask p q) a b = InTable rows p q × Leans rows p q a b
Adds rows (offer words) a b = Consistent rows words × (related (length rows) words a b ≡ true)
Adds rows (look_up p q) a b = ⊥
Adds rows held a b = ⊥
Adds rows (hands_out buffer) a b = ⊥
Adds rows (show p q buffer) a b = ⊥
Adds rows (fit nodes root row marks) a b = Fittable rows nodes root row (length marks) × ((c d : ℕ) × Referred nodes c × IsChannel rows d × Leans rows c d a b)
Adds rows clear a b = ⊥

-- every call but a clearing leaves the pairs that are held
abbrev pub Leaves : Call → Type 0
Leaves (ask p q) = Unit {0}
Leaves (offer words) = Unit {0}
Leaves (look_up p q) = Unit {0}
Leaves held = Unit {0}
Leaves (hands_out buffer) = Unit {0}
Leaves (show p q buffer) = Unit {0}
Leaves (fit nodes root row marks) = Unit {0}
Leaves clear = ⊥

-- H are the pairs held before the call; the pair (a, b) is held after it
abbrev pub After : List Row → Pairs → Call → Pairs
After rows H call a b = Leaves call × (Adds rows call a b ⊎ H a b)

-- it is held after the call and was not before
abbrev pub Newly : List Row → Pairs → Call → Pairs
Newly rows H call a b = After rows H call a b × (H a b → ⊥)

abbrev pub HeldAsYes : List Row → Pairs → Pairs
HeldAsYes rows H p q = H p q × Below rows p q

abbrev pub HeldAsNo : List Row → Pairs → Pairs
HeldAsNo rows H p q = H p q × (Below rows p q → ⊥)

-- The verdict is yes exactly when every document that fits p fits q, which is when p is below q, and when it is so by the published relation.
pub record IsVerdict (rows : List Row) (p q : ℕ) (v : Verdict) : Type 0 where
  pub included : (v ≡ Yes) ↔ Included rows p q
  pub below : (v ≡ Yes) ↔ Below rows p q
  pub published : (v ≡ Yes) ↔ Subschema rows p q

-- An ask about two rows is not refused, and gives the verdict and how many pairs are new.
pub record AskAnswered (rows : List Row) (H : Pairs) (p q : ℕ) (o : Outcome (Verdict × ℕ)) : Type 0 where
  pub outside : (InTable rows p q → ⊥) → o ≡ refuses (book_refusal (NoRow Outside))
  pub inside : InTable rows p q → (v : Verdict) × (new : ℕ) × (o ≡ gives (v, new)) × IsVerdict rows p q v × Counts (length rows) (Newly rows H (ask p q)) new

-- A look-up gives the verdict if the pair is held, else that it is unsettled.
pub record LookUpAnswered (rows : List Row) (H : Pairs) (p q : ℕ) (o : Outcome (Option Verdict)) : Type 0 where
  pub outside : (InTable rows p q → ⊥) → o ≡ refuses (book_refusal (NoRow Outside))
  pub settled : InTable rows p q → H p q → (v : Verdict) × (o ≡ gives (Some v)) × IsVerdict rows p q v
  pub unsettled : InTable rows p q → (H p q → ⊥) → o ≡ gives None

-- An offer is taken exactly when its relation is well shaped and all its pairs keep the rules within it.
pub record OfferAnswered (rows : List Row) (H : Pairs) (words : List ℕ) (o : Outcome ℕ) : Type 0 where
  pub taken : Consistent rows words → (new : ℕ) × (o ≡ gives new) × Counts (length rows) (Newly rows H (offer words)) new
  pub only : (new : ℕ) → o ≡ gives new → Consistent rows words
  pub other_length : (length words ≢ words_for (length rows)) → o ≡ refuses (book_refusal RelationLength)
  pub bit_outside : length words ≡ words_for (length rows) → (WellShaped (length rows) words → ⊥) → o ≡ refuses (book_refusal BitOutside)
  pub broken : WellShaped (length rows) words → (p q : ℕ) → Breaks rows words p q → o ≡ refuses (book_refusal (RuleBroken p q))

-- Handed out are exactly the pairs held as yes, in a relation that every book over these rows takes.
pub record HandOutAnswered (rows : List Row) (H : Pairs) (buffer : List ℕ) (o : Outcome ℕ) (after : List ℕ) : Type 0 where
  pub other_length : (length buffer ≢ words_for (length rows)) → (o ≡ refuses (book_refusal RelationLength)) × (after ≡ buffer)
  pub many : length buffer ≡ words_for (length rows) → (k : ℕ) × (o ≡ gives k) × Counts (length rows) (HeldAsYes rows H) k
  pub handed : length buffer ≡ words_for (length rows) → (p q : ℕ) → Decides (related (length rows) after p q) (InTable rows p q × HeldAsYes rows H p q)
  pub consistent : length buffer ≡ words_for (length rows) → Consistent rows after

-- An order is shown for a pair held as no: a table of nodes whose last fits the first row and not the second.
pub record ShowAnswered (rows : List Row) (H : Pairs) (p q : ℕ) (buffer : List Node) (o : Outcome ℕ) (after : List Node) : Type 0 where
  pub outside : (InTable rows p q → ⊥) → (o ≡ refuses (book_refusal (NoRow Outside))) × (after ≡ buffer)
  pub not_no : InTable rows p q → (HeldAsNo rows H p q → ⊥) → (o ≡ refuses (book_refusal (NotShown NotNo))) × (after ≡ buffer)
  pub few : InTable rows p q → HeldAsNo rows H p q → length buffer < places rows → (o ≡ refuses (book_refusal (NotShown FewNodes))) × (after ≡ buffer)
  pub shows : InTable rows p q → HeldAsNo rows H p q → places rows ≤ length buffer →
      (k : ℕ) × (o ≡ gives k) × (k ≤ places rows) × Witnesses rows p q (take k after) × (drop k after ≡ drop k buffer) × (length after ≡ length buffer)

-- bit r of mark i is set exactly if the document of node i fits row r
abbrev pub MarksTell : List Row → List Node → List ℕ → Type 0
MarksTell rows nodes marks = (i : ℕ) → i < length nodes → ItsDocument nodes i (λ d. (r : ℕ) → r < max_rows → Decides (cell marks i r) ((r < length rows) × Fits rows d r))

-- A fit marks for each node the rows that its document fits, and says whether the root's fits the row.
pub record FitAnswered (rows : List Row) (H : Pairs) (nodes : List Node) (root row : ℕ) (marks : List ℕ) (o : Outcome (Bool × ℕ)) (after : List ℕ) : Type 0 where
  pub unfit : (e : Refusal) → Unfit rows nodes root row (length marks) e → (o ≡ refuses e) × (after ≡ marks)
  pub fits : Fittable rows nodes root row (length marks) →
      (yes : Bool) × (new : ℕ) × (o ≡ gives (yes, new)) × ItsDocument nodes root (λ d. Decides yes (Fits rows d row)) × Counts (length rows) (Newly rows H (fit nodes root row marks)) new
  pub marked : Fittable rows nodes root row (length marks) → MarksTell rows nodes after × (length after ≡ length marks)

-- What an open book that holds the pairs of H answers to a call.
abbrev pub Answered : List Row → Pairs → Call → Answer → Type 0
Answered rows H (ask p q) answer = (o : Outcome (Verdict × ℕ)) × (answer ≡ asked o) × AskAnswered rows H p q o
Answered rows H (offer words) answer = (o : Outcome ℕ) × (answer ≡ offered o) × OfferAnswered rows H words o
Answered rows H (look_up p q) answer = (o : Outcome (Option Verdict)) × (answer ≡ looked_up o) × LookUpAnswered rows H p q o
Answered rows H held answer = (k : ℕ) × (answer ≡ counted (gives k)) × Counts (length rows) H k
Answered rows H (hands_out buffer) answer = (o : Outcome ℕ) × (after : List ℕ) × (answer ≡ handed_out o after) × HandOutAnswered rows H buffer o after
Answered rows H (show p q buffer) answer = (o : Outcome ℕ) × (after : List Node) × (answer ≡ shown o after) × ShowAnswered rows H p q buffer o after
Answered rows H (fit nodes root row marks) answer = (o : Outcome (Bool × ℕ)) × (after : List ℕ) × (answer ≡ fitted o after) × FitAnswered rows H nodes root row marks o after
Answered rows H clear answer = answer ≡ cleared (gives tt)
