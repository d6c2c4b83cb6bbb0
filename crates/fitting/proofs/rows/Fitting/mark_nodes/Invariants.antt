use Rattle.std.proofs.Common.{ℕ, ◌<◌, length}
use Rattle.forms.specs.Buffers.{rows_of}
use Rattle.fitting.specs.Marks.{Among, MarkedAt}
use Rattle.fitting.proofs.rows.Fitting.mark_nodes.Given as goal

abbrev pub invariant-loop-i : goal.invariant-loop-i
invariant-loop-i l = (j : ℕ) → j < l.i → MarkedAt (rows_of l.self.prepared.now.table) (Among (length (rows_of l.self.prepared.now.table)) l.self.pairs.now) l.nodes l.marks j
