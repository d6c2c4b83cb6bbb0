use Rattle.verdicts.proofs.Keeping.{labels_tell}
use Rattle.verdicts.proofs.prepared.Prepared.labels.Goals as goal
use Rattle.std.proofs.Common.{rules}

pub returns : goal.returns
returns c = labels_tell c.args.self.now c.args.p c.unwrap_or.result (search rules)
