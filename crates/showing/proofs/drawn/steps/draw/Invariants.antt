use Rattle.std.proofs.Common.{◌-◌, length}
use Rattle.forms.specs.Buffers.{rows_of}
use Rattle.verdicts.specs.Pairs.{related}
use Rattle.showing.specs.Showing.{places}
use Rattle.showing.proofs.Drawing.{Waits}
use Rattle.showing.proofs.drawn.steps.draw.Given as goal

abbrev pub invariant-loop-drawn : goal.invariant-loop-drawn
invariant-loop-drawn l = Waits (rows_of l.question.prepared.now.table) (related (length (rows_of l.question.prepared.now.table)) l.question.below.now) l.asked l.initial.nodes l.nodes l.drawn.used l.drawn.numbers

abbrev pub decreases-loop-drawn : goal.decreases-loop-drawn
decreases-loop-drawn l = places (rows_of l.question.prepared.now.table) - l.drawn.used
