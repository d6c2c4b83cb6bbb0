use Rattle.std.proofs.Common.{arith}
use Rattle.std.proofs.lemmas.Bool.Decides.{nat_tests}
use Rattle.documents.proofs.Scanning.{no_digit}
use Rattle.documents.proofs.scan.Scan.begin.Goals as goal

pub returns-in_err-digit-in_default : goal.returns-in_err-digit-in_default
returns-in_err-digit-in_default c = let none = no_digit c.args.byte c.in_err-digit-in_default.ensures in grind (arith, nat_tests)
