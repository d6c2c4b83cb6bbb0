use Rattle.std.proofs.Common.{length}
use Rattle.forms.specs.Buffers.{rows_of}
use Rattle.verdicts.specs.Pairs.{related}
use Rattle.showing.specs.Drawing.{Rounded}
use Rattle.showing.proofs.drawn.Drawn.round.Given as goal

abbrev pub invariant-loop-k : goal.invariant-loop-k
invariant-loop-k l =
    Rounded (rows_of l.question.prepared.now.table) (related (length (rows_of l.question.prepared.now.table)) l.question.leaned.now) (related (length (rows_of l.question.prepared.now.table)) l.question.below.now) l.but l.k
    l.initial.nodes l.nodes l.initial.self.used l.self.used l.initial.self.numbers l.self.numbers
