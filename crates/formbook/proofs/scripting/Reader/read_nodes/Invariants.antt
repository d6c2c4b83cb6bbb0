use Rattle.std.proofs.Common.{take}
use Rattle.formbook.specs.Spelling.{AreNodes}
use Rattle.formbook.proofs.scripting.Reader.read_nodes.Given as goal

abbrev pub invariant-loop-word : goal.invariant-loop-word
invariant-loop-word l = AreNodes (take l.word-index l.words) l.nodes.items
