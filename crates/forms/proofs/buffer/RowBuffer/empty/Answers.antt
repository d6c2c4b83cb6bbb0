use Rattle.std.proofs.Common.{refl, ap, arith}
use Rattle.forms.specs.Rows.{fits}
use Rattle.forms.specs.declared.Row.TheVariants.{Void}
use Rattle.forms.specs.Limits.{max_rows}
use Rattle.sets.proofs.Membership.{replicated}
use Rattle.forms.proofs.buffer.RowBuffer.empty.Goals as goal

pub invariant_of-result : goal.invariant_of-result
invariant_of-result c = record { long = refl; few = omega arith; fit = λ k. ap fits (replicated max_rows k Void) }
