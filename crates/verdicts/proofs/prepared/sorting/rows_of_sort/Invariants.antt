use Rattle.std.proofs.Common.{◌≡◌, true, false, length}
use Rattle.forms.specs.Buffers.{rows_of}
use Rattle.sets.proofs.Picking.{Picked}
use Rattle.verdicts.specs.Sorting.{of_sort}
use Rattle.verdicts.proofs.prepared.sorting.rows_of_sort.Given as goal

abbrev pub invariant-loop-o : goal.invariant-loop-o
invariant-loop-o g l = (length l.rows ≡ length l.initial.rows) × Picked (λ o. of_sort (rows_of l.table) l.analysis g.test o ≡ true) (λ o. of_sort (rows_of l.table) l.analysis g.test o ≡ false) l.rows l.o
