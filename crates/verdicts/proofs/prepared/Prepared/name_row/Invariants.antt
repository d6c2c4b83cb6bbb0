use Rattle.std.proofs.Common.{◌≡◌, ℕ, length}
use Rattle.std.specs.List.{slice_get}
use Rattle.forms.specs.Buffers.{rows_of}
use Rattle.verdicts.specs.Naming.{NamedAt}
use Rattle.verdicts.specs.Ready.{in_row}
use Rattle.verdicts.specs.RowSets.{row_set}
use Rattle.verdicts.specs.Walking.{Notes}
use Rattle.verdicts.proofs.Pending.{Before}
use Rattle.verdicts.proofs.prepared.Prepared.name_row.Given as goal

abbrev pub invariant-loop-d : goal.invariant-loop-d
invariant-loop-d l = record {
  set : (o : ℕ) → row_set l.d-iterator o ≡ in_row l.cells l.q o;
  noting : Notes (Before (in_row l.cells l.q) (λ o k. NamedAt (length (rows_of l.self.table)) l.c (slice_get (rows_of l.self.table) o) k) l.d-iterator.start) l.initial.walk l.walk;
}
