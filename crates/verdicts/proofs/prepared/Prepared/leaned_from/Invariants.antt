use Rattle.std.proofs.Common.{◌-◌, ◌*◌}
use Rattle.sets.specs.Sets.{member, tally}
use Rattle.forms.specs.Buffers.{rows_of}
use Rattle.forms.specs.Limits.{max_rows}
use Rattle.verdicts.proofs.LeanedFrom.{Walking}
use Rattle.verdicts.proofs.prepared.Prepared.leaned_from.Given as goal

abbrev pub invariant-loop-pair : goal.invariant-loop-pair
invariant-loop-pair l = Walking (rows_of l.self.table) l.self.channels l.self.elements l.initial.walk.pending l.links l.parts l.walk

abbrev pub decreases-loop-pair : goal.decreases-loop-pair
decreases-loop-pair l = max_rows * max_rows - tally (member l.walk.done) (max_rows * max_rows)
