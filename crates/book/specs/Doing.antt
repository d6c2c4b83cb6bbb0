-- What an open book does at a call. Assumes nothing.
use Rattle.std.specs.Prelude.{◌≡◌, ℕ, List, length, Decides}
use Rattle.forms.specs.Refusals.{Refusal}
use Rattle.verdicts.specs.Pairs.{related, InTable}
use Rattle.book.specs.Answers.{HeldAsYes, After, Answered}
use Rattle.book.specs.Calls.{Call, Answer, Refuses}
use Rattle.book.specs.Ledgers.{ledger_rows, holds, Holds}
use Rattle.book.specs.Relations.{Consistent}
use Rattle.book.specs.declared.ledger.Ledger.{Ledger}

-- It answers as an open book does that holds these pairs, and holds then what is held after the call; its table stays, and all of it if the call is refused.
pub record Done (before : Ledger) (call : Call) (answer : Answer) (after : Ledger) : Type 0 where
  pub answered : Answered (ledger_rows before) (Holds before) call answer
  pub held_after : (a b : ℕ) → Decides (holds after a b) (After (ledger_rows before) (Holds before) call a b)
  pub table : after.prepared ≡ before.prepared
  pub unchanged : (e : Refusal) → Refuses answer e → after ≡ before

-- The numbers spell exactly the pairs held as yes, in a relation whose pairs keep the rules within it.
pub record Told (l : Ledger) (words : List ℕ) : Type 0 where
  pub consistent : Consistent (ledger_rows l) words
  pub handed : (p q : ℕ) → Decides (related (length (ledger_rows l)) words p q) (InTable (ledger_rows l) p q × HeldAsYes (ledger_rows l) (Holds l) p q)
