-- What building the nodes of a right text does to a table. Assumes nothing.
use Rattle.std.specs.Prelude.{◌≡◌, ℕ, ◌+◌, ◌<◌, ◌≤◌, List, [], ◌∷◌, ◌++◌, length, drop, decimal}
use Rattle.forms.specs.Limits.{max_rows, label_count}
use Rattle.forms.specs.Splices.{spliced}
use Rattle.forms.specs.Documents.{Document}
use Rattle.documents.specs.declared.nodes.Node.{Node}
use Rattle.documents.specs.declared.reader.Reached.{Reached}
use Rattle.documents.specs.Limits.{max_document}
use Rattle.documents.specs.Grammar.{comma_before, spelled_document, Small}
use Rattle.documents.specs.Nodes.{size, root, nodes_from, nodes_for}

-- no digit comes next
abbrev pub NoDigit : List ℕ → Type 0
NoDigit [] = Unit {0}
NoDigit (b ∷ s) = 57 < b

-- a list ends here: by a bracket, or by the end
abbrev pub Closing : List ℕ → Type 0
Closing [] = Unit {0}
Closing (b ∷ s) = b ≡ 93

-- the text is not too long for the nodes that are used
pub record Ready (text : List ℕ) (used : ℕ) : Type 0 where
  pub few : length text + used ≤ max_document + 1

-- it went on, by at least `more` bytes above the nodes that it used
pub record Onward (text : List ℕ) (more used : ℕ) (r : Reached) : Type 0 where
  pub within : length r.rest.now ≤ length text
  pub few : r.used + length r.rest.now + more ≤ used + length text

-- the nodes of d stand in the table from `used` on, and this is left of the text
pub record Built (d : Document) (before after : List Node) (used : ℕ) (tail : List ℕ) (r : Reached) : Type 0 where
  pub rest : r.rest.now ≡ tail
  pub count : r.used ≡ used + size d
  pub top : r.root ≡ root used d
  pub nodes : after ≡ spliced before used (nodes_from used d)

-- where the text begins with a number: this is it, and what is behind it
abbrev pub ReadsNumber : List ℕ → ℕ → List ℕ → Type 0
ReadsNumber text number rest = (n : ℕ) (tail : List ℕ) → n < max_rows → text ≡ decimal n ++ tail → NoDigit tail → (number ≡ n) × (rest ≡ tail)

-- where the text begins with that of a list, its document is built
abbrev pub BuildsList : List ℕ → List Node → List Node → ℕ → Reached → Type 0
BuildsList text before after used r =
    (d : Document) (tail : List ℕ) → Small d → comma_before d ≡ 44 ∷ [] → text ≡ spelled_document d ++ tail → Closing tail → 1 ≤ used → used + size d ≤ length before →
    Built d before after used tail r

-- where the text begins with that of an element, its label is read and the document in its brackets is built
abbrev pub BuildsItem : List ℕ → List Node → List Node → ℕ → ℕ → Reached → Type 0
BuildsItem text before after used label r =
    (x : ℕ) (a : Document) (tail : List ℕ) → x < label_count → Small a → text ≡ decimal x ++ (91 ∷ (spelled_document a ++ (93 ∷ tail))) → 1 ≤ used → used + size a ≤ length before →
    (label ≡ x) × Built a before after used tail r

-- the text of a document stands as its nodes at the front of the table, and the rest is as it was
abbrev pub BuildsText : List ℕ → List Node → List Node → Type 0
BuildsText text before after = (d : Document) → Small d → text ≡ spelled_document d → length (nodes_for d) ≤ length before → after ≡ nodes_for d ++ drop (length (nodes_for d)) before
