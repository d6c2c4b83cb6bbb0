use Rattle.std.proofs.Common.{arith}
use Rattle.std.proofs.lemmas.Bool.Decides.{nat_tests}
use Rattle.documents.proofs.Scanning.{no_digit}
use Rattle.documents.proofs.scan.longer.Goals as goal

pub returns-in_err-value : goal.returns-in_err-value
returns-in_err-value c = let none = no_digit c.args.byte c.in_err-value.ensures in grind (arith, nat_tests)
