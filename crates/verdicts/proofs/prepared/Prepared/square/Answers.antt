use Rattle.std.proofs.Common.{◌*◌, ltb, ap, ◌∙◌, arith}
use Rattle.verdicts.proofs.Deciding.{square_small}
use Rattle.verdicts.proofs.prepared.Prepared.square.Goals as goal

pub returns : goal.returns
returns c =
    let room = square_small c.count-n.result c.count-n.ensures.few in
    λ j. c.first.ensures.all (omega arith) (omega arith) j ∙ ap (λ m. ltb j (m * m)) c.count-n.ensures.is
