use Rattle.std.proofs.Common.{rules}
use Rattle.verdicts.proofs.Tests.{meets_is}
use Rattle.verdicts.proofs.prepared.naming.named_by_element.Goals as goal

pub returns-then-meets : goal.returns-then-meets
returns-then-meets c = let m = meets_is c.args.labels c.in-Some-Element.other c.meets.result c.meets.ensures in search rules

pub returns-else-meets : goal.returns-else-meets
returns-else-meets c = let m = meets_is c.args.labels c.in-Some-Element.other c.meets.result c.meets.ensures in search rules
