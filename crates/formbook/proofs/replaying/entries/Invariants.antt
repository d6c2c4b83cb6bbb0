use Rattle.std.proofs.Common.{◌≡◌, map, take}
use Rattle.formbook.proofs.replaying.entries.Given as goal

abbrev pub invariant-loop-k : goal.invariant-loop-k
invariant-loop-k l = record {
  lines : map (λ e. e.line.now) l.entries.items ≡ map (λ line. line.text.now) (take l.k l.lines);
  answers : map (λ e. e.answer.now) l.entries.items ≡ take l.k l.answers;
}
