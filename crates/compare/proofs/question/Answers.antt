use Rattle.relation.proofs.Sources.{joined_is_admitted, turned_is_admitted}
use Rattle.compare.proofs.Answering.{answered}
use Rattle.compare.proofs.Reasons.{one_first_fault, fault_or_answer, one_meaning}
use Rattle.compare.proofs.question.Goals as goal

pub returns : goal.returns
returns c = record {
  answers = answered _ _ _ _ c.compared.ensures;
  laws = (one_first_fault, (fault_or_answer, (one_meaning, (joined_is_admitted, turned_is_admitted))));
}
