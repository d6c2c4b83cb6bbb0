-- What reading and writing answer, and what the buffers hold then. Assumes nothing.
use Rattle.std.specs.Prelude.{◌≡◌, ℕ, ◌-◌, ◌≤◌, min, List, ◌++◌, length, take, drop, Ok, Err, Result}
use Rattle.forms.specs.Refusals.Outcome.{refuses, gives}
use Rattle.forms.specs.Documents.{Document}
use Rattle.documents.specs.declared.nodes.Node.{Node}
use Rattle.documents.specs.declared.faults.ReadFault.{ReadFault}
use Rattle.documents.specs.declared.faults.WriteFault.{WriteFault}
use Rattle.documents.specs.Limits.{max_nodes, max_levels}
use Rattle.documents.specs.Grammar.{levels}
use Rattle.documents.specs.Nodes.{nodes_for, StandsFor}
use Rattle.documents.specs.Reading.{Reads}
use Rattle.documents.specs.Writing.{WritesDocument}
use Rattle.documents.specs.Faults.{read_refusal, write_refusal}

-- A text that is read fills the front of the buffer with its document's nodes, and the rest stays; a refusal leaves the buffer as it was.
abbrev pub ReadInto : List ℕ → List Node → List Node → Result ℕ ReadFault → Type 0
ReadInto bytes before after (Ok n) = (d : Document) × Reads (length before) bytes (gives d) × (n ≡ length (nodes_for d)) × (after ≡ nodes_for d ++ drop n before)
ReadInto bytes before after (Err e) = Reads (length before) bytes (refuses (read_refusal e)) × (after ≡ before)

-- What was read is written as the same bytes, into any buffer with room for them.
abbrev pub WritesBack : List ℕ → List Node → Result ℕ ReadFault → Type 0
WritesBack bytes after (Ok n) = (room : ℕ) → length bytes ≤ room → WritesDocument room (take n after) (n - 1) (gives bytes)
WritesBack bytes after (Err e) = Unit {0}

-- A document that is written stands at the front of the buffer, and the rest stays; a refusal leaves the buffer as it was.
abbrev pub WrittenInto : List Node → ℕ → List ℕ → List ℕ → Result ℕ WriteFault → Type 0
WrittenInto nodes root before after (Ok n) = (text : List ℕ) × WritesDocument (length before) nodes root (gives text) × (n ≡ length text) × (after ≡ text ++ drop n before)
WrittenInto nodes root before after (Err e) = WritesDocument (length before) nodes root (refuses (write_refusal e)) × (after ≡ before)

-- What was written is read as the same document, into any buffer with room for its nodes, if its brackets are not too deep for reading.
abbrev pub ReadsBack : List Node → ℕ → List ℕ → Result ℕ WriteFault → Type 0
ReadsBack nodes root after (Ok n) = (d : Document) × StandsFor nodes root d × ((buffer : ℕ) → levels d ≤ max_levels → length (nodes_for d) ≤ min buffer max_nodes → Reads buffer (take n after) (gives d))
ReadsBack nodes root after (Err e) = Unit {0}
