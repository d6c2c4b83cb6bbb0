use Rattle.std.proofs.Common.{length}
use Rattle.forms.specs.Buffers.{rows_of}
use Rattle.verdicts.specs.Walking.{Notes}
use Rattle.verdicts.proofs.Pending.{NotedOf}
use Rattle.verdicts.proofs.prepared.Prepared.name_rows.Given as goal

abbrev pub invariant-loop-pair : goal.invariant-loop-pair
invariant-loop-pair l = Notes (NotedOf (length (rows_of l.self.table)) l.pair-items l.pair-index) l.initial.walk l.walk
