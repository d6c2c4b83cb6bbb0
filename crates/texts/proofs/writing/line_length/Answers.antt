use Rattle.texts.proofs.Measures.{line_element}
use Rattle.texts.proofs.writing.line_length.Goals as goal

pub returns-in-Element-clause-value : goal.returns-in-Element-clause-value
returns-in-Element-clause-value c = line_element c.args.row c.in-Element.labels c.in-Element.inside c.in-Element.following c.digits-in-Element.result c.digits-in-Element-2.result c.in-Element.is c.digits-in-Element.ensures.value c.digits-in-Element-2.ensures.value
