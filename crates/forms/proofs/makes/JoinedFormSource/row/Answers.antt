use Rattle.std.proofs.Common.{arith}
use Rattle.std.proofs.lemmas.Grind.{common_steps}
use Rattle.forms.proofs.Sides.{from_second, from_neither}
use Rattle.forms.proofs.makes.JoinedFormSource.row.Goals as goal

pub returns-else-number-own : goal.returns-else-number-own
returns-else-number-own g c = grind (arith, common_steps, from_second, from_neither)
