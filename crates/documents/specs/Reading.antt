-- Reading document text into a buffer of nodes: every text has one outcome. Assumes nothing.
use Rattle.std.specs.Prelude.{◌≡◌, ℕ, suc, ◌<◌, ◌≤◌, min, ◌↔◌, List, length, take}
use Rattle.forms.specs.Documents.{Document}
use Rattle.documents.specs.Grammar.{Text, Small, spelled_document, GoesOn, WrongAt, OpensTooMany, levels}
use Rattle.forms.specs.Places.{Nowhere, NoneBelow, Lowest}
use Rattle.forms.specs.Refusals.{Outcome}
use Rattle.forms.specs.Refusals.Outcome.{refuses, gives}
use Rattle.documents.specs.Limits.{max_nodes, max_document, max_levels}
use Rattle.documents.specs.Nodes.{nodes_for}
use Rattle.documents.specs.declared.faults.ReadFault.TheVariants.{TooLong, Wrong, TooDeep, TooManyNodes}
use Rattle.documents.specs.Faults.{read_refusal}

-- What reading into a buffer of so many nodes gives: a fault, or the document.
pub data Reads (buffer : ℕ) (bytes : List ℕ) : Outcome Document → Type 0 where
  -- more than 32,768 bytes
  is_long : max_document < length bytes → Reads buffer bytes (refuses (read_refusal TooLong))
  -- at the lower place: wrong there, and no bracket below it opens a 65th level
  is_wrong : {k : ℕ} → length bytes ≤ max_document → WrongAt bytes k → NoneBelow (OpensTooMany bytes) k → Reads buffer bytes (refuses (read_refusal (Wrong k)))
  -- or the first bracket that opens a 65th level, and the bytes go on up to it
  is_deep : {k : ℕ} → length bytes ≤ max_document → Lowest (OpensTooMany bytes) k → GoesOn (take (suc k) bytes) → Reads buffer bytes (refuses (read_refusal (TooDeep k)))
  -- a text, but of more nodes than the buffer has, or than 4,160
  is_large : (d : Document) → length bytes ≤ max_document → Text bytes d → Nowhere (OpensTooMany bytes) → min buffer max_nodes < length (nodes_for d) → Reads buffer bytes (refuses (read_refusal TooManyNodes))
  is_read : {d : Document} → length bytes ≤ max_document → Text bytes d → Nowhere (OpensTooMany bytes) → length (nodes_for d) ≤ min buffer max_nodes → Reads buffer bytes (gives d)

abbrev pub ReadingIsOne : Type 0
ReadingIsOne = (buffer : ℕ) (bytes : List ℕ) → (o : Outcome Document) × Reads buffer bytes o × ((p : Outcome Document) → Reads buffer bytes p → p ≡ o)

-- No bracket of a text opens a 65th level just where its document has at most 64 levels.
abbrev pub LevelsAreOpened : Type 0
LevelsAreOpened = (bytes : List ℕ) (d : Document) → Text bytes d → (levels d ≤ max_levels) ↔ Nowhere (OpensTooMany bytes)

-- What is read is what writing would spell, and what can be spelled within the bounds is read.
abbrev pub ReadIsSpelled : Type 0
ReadIsSpelled = (buffer : ℕ) (bytes : List ℕ) (d : Document) →
    Reads buffer bytes (gives d) ↔ (Small d × (bytes ≡ spelled_document d) × (length bytes ≤ max_document) × (levels d ≤ max_levels) × (length (nodes_for d) ≤ min buffer max_nodes))
