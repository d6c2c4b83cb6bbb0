use Rattle.documents.proofs.Judging.{Scanned}
use Rattle.documents.proofs.scan.judge.Given as goal

abbrev pub invariant-loop-place : goal.invariant-loop-place
invariant-loop-place l = Scanned l.text l.place l.scan l.nodes
