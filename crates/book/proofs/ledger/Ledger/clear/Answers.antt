use Rattle.std.proofs.Common.{refl}
use Rattle.book.specs.Ledgers.{ledger_rows}
use Rattle.book.proofs.Offering.{kept_none, cleared_done}
use Rattle.book.proofs.ledger.Ledger.clear.Goals as goal

pub invariant_of-self : goal.invariant_of-self
invariant_of-self c = record { kept = ∣ kept_none (ledger_rows c.args.self.now) ∣₁ }

pub returns : goal.returns
returns c = cleared_done c.args.self.now _ refl refl
