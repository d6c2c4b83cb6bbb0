-- What a comparison of two row texts answers, and what the caller's buffer holds then. Assumes nothing.
use Rattle.std.specs.Prelude.{◌≡◌, ℕ, ◌+◌, ◌*◌, ◌<◌, ◌≤◌, min, ◌⊎◌, ◌↔◌, List, ◌++◌, length, drop, Ok, Err, Result}
use Rattle.forms.specs.declared.Row.{Row}
use Rattle.documents.specs.Grammar.{Text}
use Rattle.documents.specs.Limits.{max_document}
use Rattle.documents.specs.declared.faults.WriteFault.TheVariants.{TooLong}
use Rattle.documents.specs.declared.nodes.Node.{Node}
use Rattle.schema.specs.Published.{Subschema}
use Rattle.schema.specs.Rules.{IsDocument, Included, Below}
use Rattle.showing.specs.Showing.{Witnesses}
use Rattle.book.specs.Answers.{IsVerdict}
use Rattle.book.specs.declared.types.Verdict.TheVariants.{Yes as yes, No as no}
use Rattle.compare.specs.Questions.{Asked}
use Rattle.compare.specs.Reasons.{Faulty, Comparable, together}
use Rattle.compare.specs.Reports.{report, no_with, Says}
use Rattle.compare.specs.declared.comparing.Finding.{Finding}
use Rattle.compare.specs.declared.comparing.Finding.TheVariants.{Yes, No}
use Rattle.compare.specs.declared.faults.CompareFault.{CompareFault}
use Rattle.compare.specs.declared.faults.CompareFault.TheVariants.{Writing}

-- The text means an order, of a table with one node a row and one a pair at most, that fits row p and not row q.
pub record Refutes (rows : List Row) (p q : ℕ) (text : List ℕ) : Type 0 where
  pub nodes : List Node
  pub shows : Witnesses rows p q nodes
  pub few : length nodes ≤ length rows * (length rows + 1)
  pub is_order : IsDocument rows shows.order
  pub means : Text text shows.order

-- yes is found exactly if every document that fits the one row fits the other, exactly if the one is below the other, and exactly if the published relation has them
abbrev pub YesIs : List Row → ℕ → ℕ → Result Finding CompareFault → Type 0
YesIs rows p q r = ((r ≡ Ok Yes) ↔ Included rows p q) × ((r ≡ Ok Yes) ↔ Below rows p q) × ((r ≡ Ok Yes) ↔ Subschema rows p q)

-- how long a text may be that is written into the buffer
abbrev pub room : List ℕ → ℕ
room buffer = min (length buffer) max_document

-- What is found of rows p and q: a yes or a fault leaves the buffer, and after a no it begins with the order's text.
abbrev pub Found : List Row → ℕ → ℕ → List ℕ → List ℕ → Result Finding CompareFault → Type 0
Found rows p q before after (Ok Yes) = IsVerdict rows p q yes × (after ≡ before)
Found rows p q before after (Ok (No n)) = IsVerdict rows p q no × (text : List ℕ) × Refutes rows p q text × (length text ≤ room before) × (n ≡ length text) × (after ≡ text ++ drop n before)
Found rows p q before after (Err e) = IsVerdict rows p q no × (text : List ℕ) × Refutes rows p q text × (room before < length text) × (e ≡ Writing TooLong) × (after ≡ before)

-- the buffer stays if the question has a fault
abbrev pub Refused : Asked → List ℕ → List ℕ → Result Finding CompareFault → Type 0
Refused x before after r = (e : CompareFault) × Faulty x e × (r ≡ Err e) × (after ≡ before)

-- what is found of a question that has none, in the one table of ours and theirs
abbrev pub Settled : Asked → List ℕ → List ℕ → Result Finding CompareFault → Type 0
Settled x before after r = (a b : List Row) × Comparable x a b × Found (together x a b) x.p (length a + x.q) before after r

-- The answer to a question.
pub record Answers (x : Asked) (before after : List ℕ) (r : Result Finding CompareFault) : Type 0 where
  -- there is a fault, or the rows can be compared
  pub either : ((e : CompareFault) × Faulty x e) ⊎ ((a b : List Row) × Comparable x a b)
  pub fault : (e : CompareFault) → Faulty x e → (r ≡ Err e) × (after ≡ before)
  -- yes: every document that fits row p of ours fits row q of theirs
  pub yes : (a b : List Row) → Comparable x a b → YesIs (together x a b) x.p (length a + x.q) r
  pub kept : r ≡ Ok Yes → after ≡ before
  -- no comes with the length of a text, which the buffer begins with; or the text is too long
  pub no : (a b : List Row) → Comparable x a b → (Included (together x a b) x.p (length a + x.q) → ⊥) →
      (text : List ℕ) × Refutes (together x a b) x.p (length a + x.q) text
      × (length text ≤ room before → (r ≡ Ok (No (length text))) × (after ≡ text ++ drop (length text) before))
      × (room before < length text → (r ≡ Err (Writing TooLong)) × (after ≡ before))

-- the number says what is found: yes, no with the length of a text, or which fault
abbrev pub Tells : ℕ → Result Finding CompareFault → Type 0
Tells n (Ok Yes) = n ≡ 0
Tells n (Ok (No k)) = Says n (no_with k)
Tells n (Err e) = Says n (report e)

-- An answer as one number: what is found, and the number that tells it.
abbrev pub Compares : Asked → List ℕ → List ℕ → ℕ → Type 0
Compares x before after n = (r : Result Finding CompareFault) × Answers x before after r × Tells n r

-- The number is 0 exactly if yes is found.
abbrev pub ZeroIsYes : Type 0
ZeroIsYes = (n : ℕ) (r : Result Finding CompareFault) → Tells n r → (n ≡ 0) ↔ (r ≡ Ok Yes)
