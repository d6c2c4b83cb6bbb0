-- What a scan of a document text finds. Assumes nothing.
use Rattle.std.specs.Prelude.{◌≡◌, ℕ, suc, Bool, ◌||◌, List, length, take, Ok, Err, Result, ◌==◌}
use Rattle.forms.specs.Documents.{Document}
use Rattle.forms.specs.Places.{Nowhere, NoneBelow, Lowest}
use Rattle.documents.specs.declared.faults.ReadFault.{ReadFault}
use Rattle.documents.specs.declared.faults.ReadFault.TheVariants.{TooLong, Wrong, TooDeep, TooManyNodes}
use Rattle.documents.specs.Grammar.{Text, GoesOn, WrongAt, OpensTooMany}
use Rattle.documents.specs.Nodes.{nodes_for}

-- the bytes that begin an element's inside or a reference: [ and @
abbrev pub marks : ℕ → Bool
marks b = b == 91 || b == 64

-- the scan itself finds no other faults than these two
abbrev pub JudgedAs : List ℕ → Result ℕ ReadFault → Type 0
JudgedAs bytes (Err (Wrong k)) = WrongAt bytes k × NoneBelow (OpensTooMany bytes) k
JudgedAs bytes (Err (TooDeep k)) = Lowest (OpensTooMany bytes) k × GoesOn (take (suc k) bytes)
JudgedAs bytes (Err TooLong) = ⊥
JudgedAs bytes (Err TooManyNodes) = ⊥
JudgedAs bytes (Ok n) = (d : Document) × Text bytes d × Nowhere (OpensTooMany bytes) × (n ≡ length (nodes_for d))
