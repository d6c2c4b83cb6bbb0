use Rattle.std.proofs.Common.{rules}
use Rattle.verdicts.proofs.Tests.{meets_is}
use Rattle.verdicts.proofs.prepared.keeping.Within.agrees_at.Goals as goal

pub returns-then-not-meets : goal.returns-then-not-meets
returns-then-not-meets c = let m = meets_is c.args.labels c.in-Some-Element.other c.meets.result c.meets.ensures in search rules

pub returns-then-relates : goal.returns-then-relates
returns-then-relates c = let m = meets_is c.args.labels c.in-Some-Element.other c.meets.result c.meets.ensures in search rules

pub returns-else-relates : goal.returns-else-relates
returns-else-relates c = let m = meets_is c.args.labels c.in-Some-Element.other c.meets.result c.meets.ensures in search rules
