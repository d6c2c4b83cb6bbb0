use Rattle.verdicts.proofs.Reading.{element_set}
use Rattle.verdicts.proofs.prepared.Prepared.elements_of.Goals as goal

pub returns-clause-set : goal.returns-clause-set
returns-clause-set c = element_set c.args.self.now c.args.p c.of.result c.of.ensures.set
