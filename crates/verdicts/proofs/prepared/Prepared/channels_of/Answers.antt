use Rattle.verdicts.proofs.Reading.{channel_set}
use Rattle.verdicts.proofs.prepared.Prepared.channels_of.Goals as goal

pub returns-clause-set : goal.returns-clause-set
returns-clause-set c = channel_set c.args.self.now c.args.p c.of.result c.of.ensures.set
