use Rattle.std.proofs.Common.{arith}
use Rattle.std.proofs.lemmas.Bool.Decides.{nat_tests}
use Rattle.documents.proofs.Scanning.{no_digit}
use Rattle.documents.proofs.scan.Scan.advance.Goals as goal

pub returns-in_err-digit-in-AfterAt : goal.returns-in_err-digit-in-AfterAt
returns-in_err-digit-in-AfterAt c = let none = no_digit c.args.byte c.in_err-digit-in-AfterAt.ensures in grind (arith, nat_tests)
