-- There is an answer to each call of a book. Assumes nothing.
use Rattle.std.proofs.Common.{◌≡◌, List, Ok, Err, length}
use Rattle.std.proofs.Math.Logic.{∥∥₁_elim}
use Rattle.std.specs.Coded.{Coded-set, coded_ℕ}
use Rattle.forms.specs.declared.Row.{Row}
use Rattle.relation.specs.Faults.{admission_refusal}
use Rattle.book.specs.Books.{Over}
use Rattle.book.specs.Calls.{Call, Answer}
use Rattle.book.specs.Ledgers.{Pages}
use Rattle.book.specs.Runs.{Law}

pub as_many : (rows : List Row) (pages : Pages) (calls : List Call) (answers : List Answer) → ∥ Over rows pages ∥₁ → Law rows calls answers → length answers ≡ length calls
as_many rows (Ok l) calls answers over law = ∥∥₁_elim over (Coded-set coded_ℕ _ _) (λ o. (law.on_open o.0).long)
as_many rows (Err fault) calls answers over law = ∥∥₁_elim over (Coded-set coded_ℕ _ _) (λ o. (law.on_shut (admission_refusal fault) o).long)
