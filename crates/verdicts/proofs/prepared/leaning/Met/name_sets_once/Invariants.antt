use Rattle.std.proofs.Common.{◌≡◌, ℕ}
use Rattle.forms.specs.Buffers.{rows_of}
use Rattle.verdicts.specs.Naming.{NamedWith}
use Rattle.verdicts.specs.Ready.{in_row}
use Rattle.verdicts.specs.RowSets.{row_set}
use Rattle.verdicts.specs.Walking.{Notes, MetBy}
use Rattle.verdicts.proofs.Pending.{Before}
use Rattle.verdicts.proofs.prepared.leaning.Met.name_sets_once.Given as goal

abbrev pub invariant-loop-c : goal.invariant-loop-c
invariant-loop-c l = record {
  set : (o : ℕ) → row_set l.c-iterator o ≡ in_row l.initial.self.cells.now l.pair.0 o;
  noting : Notes (Before (in_row l.initial.self.cells.now l.pair.0) (λ o. NamedWith (rows_of l.prepared.table) l.initial.self.cells.now o l.pair.1) l.c-iterator.start) l.initial.walk l.walk;
  noted : MetBy (rows_of l.prepared.table) l.self l.walk;
  same : l.self.cells ≡ l.initial.self.cells;
}
