use Rattle.relation.proofs.Labels.{meets_decides}
use Rattle.relation.proofs.admission.meets.Goals as goal

pub returns : goal.returns
returns c = meets_decides c.args.a c.args.b
