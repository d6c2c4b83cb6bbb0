use Rattle.std.proofs.Common.{ℕ, length, sym, subst, ◌∙◌}
use Rattle.std.specs.List.{slice_get}
use Rattle.sets.proofs.Going.{step_found}
use Rattle.forms.specs.Buffers.{rows_of}
use Rattle.verdicts.specs.Naming.{NamedAt}
use Rattle.verdicts.specs.Ready.{in_row}
use Rattle.verdicts.specs.RowSets.{row_set}
use Rattle.verdicts.specs.Walking.{Notes}
use Rattle.verdicts.proofs.Pending.{Before, noting_more}
use Rattle.verdicts.proofs.prepared.Prepared.name_row.Goals as goal

pub loop-d-preserved : goal.loop-d-preserved
loop-d-preserved c =
    let rows = rows_of c.args.self.now.table in
    let N : ℕ → ℕ → Type 0 = λ o k. NamedAt (length rows) c.args.c (slice_get rows o) k in
    let f = in_row c.args.cells.now c.args.q in
    let s = c.loop-d.d-iterator in
    let step = c.in-Some.ensures.steps in
    let set = c.loop-d.invariant.set in
    let new = c.name_rows.new.walk in
    record {
      set = λ o. step.same o ∙ set o;
      noting = subst (λ from. Notes (Before f N from) c.args.walk.now new) (sym step.behind)
          (noting_more f N c.args.walk.now c.loop-d.walk new s.start c.in-Some.d (step_found row_set (λ s. s.start) f s c.next.new.self set c.in-Some.d step) c.loop-d.invariant.noting
          (subst (λ r. Notes (NamedAt (length rows) c.args.c r) c.loop-d.walk new) c.row.ensures c.name_rows.ensures));
    }
