-- What the pages of a book end as, where their ledger is lent to be written to. Assumes nothing.
use Rattle.std.specs.Prelude.{Ok, Result}
use Rattle.std.specs.Borrow.{LendsIfOk, MutBor, Fml}
use Rattle.std.specs.contracts.result.Result.{the_row as result_row}
use Rattle.relation.specs.contracts.AdmissionFault.{the_row as fault_row}
use Rattle.relation.specs.declared.AdmissionFault.{AdmissionFault}
use Rattle.book.specs.Ledgers.{Pages}
use Rattle.book.specs.contracts.ledger.Ledger.{the_row as ledger_row}
use Rattle.book.specs.declared.ledger.Ledger.{Ledger}

-- they have the ledger as it was left, and those of a shut book stay as they are
abbrev pub LendsLedger : MutBor Pages → Result (MutBor Ledger) AdmissionFault → Fml
LendsLedger pages lent = LendsIfOk (result_row ledger_row fault_row) ledger_row pages lent (λ l. Ok l) pages.now
