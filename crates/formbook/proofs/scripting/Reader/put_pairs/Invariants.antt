use Rattle.std.proofs.Common.{take}
use Rattle.formbook.specs.Spelling.{ArePairs}
use Rattle.formbook.proofs.scripting.Reader.put_pairs.Given as goal

abbrev pub invariant-loop-word : goal.invariant-loop-word
invariant-loop-word l = ArePairs l.self.count (take l.word-index l.words) l.relation
