use Rattle.std.proofs.Common.{length, refl}
use Rattle.forms.specs.Buffers.{rows_of}
use Rattle.book.proofs.Offering.{numbers, kept_none, none_related}
use Rattle.book.proofs.ledger.Ledger.open.Goals as goal

pub invariant_of-result : goal.invariant_of-result
invariant_of-result c = record { kept = ∣ kept_none (rows_of c.args.prepared.table) ∣₁ }

pub returns : goal.returns
returns c = record { table = refl; none = none_related (length (rows_of c.args.prepared.table)) numbers }
