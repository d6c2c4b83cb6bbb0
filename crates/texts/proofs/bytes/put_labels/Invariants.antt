use Rattle.texts.proofs.Laying.{Left}
use Rattle.texts.proofs.bytes.put_labels.Given as goal

abbrev pub invariant-loop-behind : goal.invariant-loop-behind
invariant-loop-behind l = Left l.labels l.initial.out l.out l.place l.next l.behind
