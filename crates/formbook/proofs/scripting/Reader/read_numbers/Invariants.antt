use Rattle.std.proofs.Common.{take}
use Rattle.formbook.specs.Spelling.{AreNumbers}
use Rattle.formbook.proofs.scripting.Reader.read_numbers.Given as goal

abbrev pub invariant-loop-word : goal.invariant-loop-word
invariant-loop-word l = AreNumbers (take l.word-index l.words) l.numbers.items
