use Rattle.verdicts.proofs.Tests.{covers_decides}
use Rattle.verdicts.proofs.prepared.keeping.covers.Goals as goal

pub returns : goal.returns
returns c = covers_decides c.args.all c.args.some
