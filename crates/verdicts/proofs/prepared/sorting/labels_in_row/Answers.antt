use Rattle.std.proofs.Common.{sym, ap, subst, ◌∙◌}
use lib.Bits.{bit_or}
use Rattle.forms.specs.Buffers.{rows_of}
use Rattle.verdicts.specs.Ready.{in_row, labels_in}
use Rattle.verdicts.specs.RowSets.{row_set}
use Rattle.verdicts.specs.declared.rowsets.RowSet.{RowSet}
use Rattle.sets.proofs.Going.{step_found, step_missing}
use Rattle.verdicts.proofs.Labelling.{Labels, labels_none, labels_more, labels_all}
use Rattle.verdicts.proofs.prepared.sorting.labels_in_row.Goals as goal

pub loop-o-init : goal.loop-o-init
loop-o-init c =
    let rows = rows_of c.args.table.now in
    let f = in_row c.args.elements.now c.args.p in
    let is = c.into_iter-o-iterator.ensures.into_iter_gives in
    record {
      set = λ o. ap (λ s. row_set s o) is ∙ c.of-o-items.ensures.set o;
      labels = subst (Labels rows f 0) (sym (ap (λ (s : RowSet). s.start) is ∙ c.of-o-items.ensures.start)) (labels_none rows f);
    }

pub loop-o-preserved : goal.loop-o-preserved
loop-o-preserved c =
    let rows = rows_of c.args.table.now in
    let f = in_row c.args.elements.now c.args.p in
    let s = c.loop-o.o-iterator in
    let step = c.in-Some.ensures.steps in
    let set = c.loop-o.invariant.set in
    record {
      set = λ o. step.same o ∙ set o;
      labels = subst (Labels rows f (bit_or c.loop-o.labels c.labels_of-labels.result)) (sym step.behind)
          (labels_more rows f c.loop-o.labels s.start c.in-Some.o c.labels_of-labels.result (step_found row_set (λ s. s.start) f s c.next.new.self set c.in-Some.o step) c.loop-o.invariant.labels (c.labels_of-labels.ensures ∙ ap labels_in c.row.ensures));
    }

pub returns : goal.returns
returns c =
    let f = in_row c.args.elements.now c.args.p in
    let s = c.loop-o.o-iterator in
    labels_all (rows_of c.args.table.now) f c.loop-o.labels s.start (step_missing row_set (λ s. s.start) f s c.next.new.self c.loop-o.invariant.set c.in-None.ensures.steps) c.loop-o.invariant.labels
