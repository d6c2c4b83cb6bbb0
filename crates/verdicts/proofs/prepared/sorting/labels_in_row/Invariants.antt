use Rattle.std.proofs.Common.{◌≡◌, ℕ}
use Rattle.forms.specs.Buffers.{rows_of}
use Rattle.verdicts.specs.Ready.{in_row}
use Rattle.verdicts.specs.RowSets.{row_set}
use Rattle.verdicts.proofs.Labelling.{Labels}
use Rattle.verdicts.proofs.prepared.sorting.labels_in_row.Given as goal

abbrev pub invariant-loop-o : goal.invariant-loop-o
invariant-loop-o l = record {
  set : (o : ℕ) → row_set l.o-iterator o ≡ in_row l.elements l.p o;
  labels : Labels (rows_of l.table) (in_row l.elements l.p) l.labels l.o-iterator.start;
}
