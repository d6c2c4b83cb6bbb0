use Rattle.std.proofs.Common.{[], ◌∷◌, subst, arith}
use Rattle.forms.specs.Splices.{Wrote}
use Rattle.texts.proofs.Laying.{left_more, left_all}
use Rattle.texts.proofs.bytes.put_labels.Goals as goal

pub loop-behind-preserved : goal.loop-behind-preserved
loop-behind-preserved c =
    left_more c.args.labels c.args.out.now c.loop-behind.out c.put-next.new.out c.args.place c.loop-behind.next c.put-next.result c.loop-behind.behind c.loop-behind.invariant (omega arith)
    (subst (λ d. Wrote c.loop-behind.out c.put-next.new.out c.loop-behind.next (d ∷ []) c.put-next.result) c.hex_digit.ensures c.put-next.ensures.0)

pub returns : goal.returns
returns c = left_all c.args.labels c.args.out.now c.loop-behind.out c.args.place c.loop-behind.next c.loop-behind.behind c.loop-behind.invariant (omega arith)
