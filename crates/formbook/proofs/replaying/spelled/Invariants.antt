use Rattle.std.proofs.Common.{◌≡◌, take, length}
use Rattle.formbook.specs.Scripts.{LinesSpell, AreMistakes}
use Rattle.formbook.proofs.replaying.spelled.Given as goal

abbrev pub invariant-loop-line : goal.invariant-loop-line
invariant-loop-line l = record {
  calls : length l.mistakes.items ≡ 0 → LinesSpell l.reader.count (take l.line-index l.lines) l.calls.items;
  mistakes : AreMistakes l.reader.count (take l.line-index l.lines) l.mistakes.items;
}
