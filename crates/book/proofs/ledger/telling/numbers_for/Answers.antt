use Rattle.std.proofs.Common.{arith}
use Rattle.std.proofs.lemmas.Nat.{mul-le}
use Rattle.forms.specs.Limits.{max_rows}
use Rattle.book.proofs.ledger.telling.numbers_for.Goals as goal

pub returns : goal.returns
returns c = let m = mul-le c.args.n c.args.n max_rows max_rows c.requires c.requires in record { is = omega arith; few = omega arith }
