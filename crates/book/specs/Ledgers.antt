-- What an open book holds, and that what its ghost field holds as a mere fact can be had. Assumes nothing.
use Rattle.std.specs.Prelude.{◌≡◌, ℕ, true, false, List, length, Ok, Err, Result}
use Rattle.forms.specs.Buffers.{rows_of}
use Rattle.forms.specs.declared.Row.{Row}
use Rattle.relation.specs.declared.AdmissionFault.{AdmissionFault}
use Rattle.schema.specs.Rules.{Relation}
use Rattle.verdicts.specs.Pairs.{related}
use Rattle.book.specs.declared.ledger.Ledger.{Ledger}

-- the rows of its table
abbrev pub ledger_rows : Ledger → List Row
ledger_rows l = rows_of l.prepared.table

-- the pairs that it holds
abbrev pub holds : Ledger → Relation
holds l = related (length (ledger_rows l)) l.held

abbrev pub Holds : Ledger → ℕ → ℕ → Type 0
Holds l a b = holds l a b ≡ true

-- those of them that are yes
abbrev pub says_yes : Ledger → Relation
says_yes l = related (length (ledger_rows l)) l.yes

-- What a book has besides its source: an open one its ledger, a shut one the fault of its table.
abbrev pub Pages : Type 0
Pages = Result Ledger AdmissionFault

-- the pairs that a book holds: a shut one holds none
abbrev pub holds_in : Pages → Relation
holds_in (Ok l) a b = holds l a b
holds_in (Err fault) a b = false

abbrev pub HoldsIn : Pages → ℕ → ℕ → Type 0
HoldsIn pages a b = holds_in pages a b ≡ true
