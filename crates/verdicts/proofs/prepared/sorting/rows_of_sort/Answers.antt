use Rattle.std.proofs.Common.{◌≡◌, ℕ, Bool, ◌+◌, ◌/◌, ◌&&◌, ltb, true, false, length, sym, refl, ap, ◌∙◌, subst, arith}
use Rattle.std.specs.List.{slice_get}
use Rattle.std.proofs.lemmas.Bool.{and_from, and_left, and_right}
use Rattle.sets.specs.Sets.{member, word}
use Rattle.sets.proofs.Picking.{Picked, picked_none, picked_put, picked_past, picked_is}
use Rattle.forms.specs.Buffers.{rows_of}
use Rattle.forms.specs.Limits.{max_rows}
use Rattle.verdicts.specs.Sorting.{of_sort}
use Rattle.verdicts.proofs.prepared.sorting.rows_of_sort.Goals as goal
use Rattle.verdicts.proofs.prepared.sorting.rows_of_sort.Goals.{then-is_inhabited+then-passes, else-is_inhabited, else-is_inhabited-via-then-is_inhabited+else-passes, else-is_inhabited-via-else-is_inhabited}

pub loop-o-init : goal.loop-o-init
loop-o-init g c = (refl, picked_none _ _ (max_rows / word))

pub loop-o-preserved : goal.loop-o-preserved
loop-o-preserved g c =
    let rows = rows_of c.args.table.now in
    let inhabited = member c.args.analysis.now.inhabited in
    let Hit : ℕ → Type 0 = λ o. of_sort rows c.args.analysis.now g.test o ≡ true in
    let Miss : ℕ → Type 0 = λ o. of_sort rows c.args.analysis.now g.test o ≡ false in
    let o = c.loop-o.o in
    let (long, so_far) = c.loop-o.invariant in
    elim c.if-is_inhabited.branch [
      | then-is_inhabited+then-passes w ↦ (
        ap length w.rows-is ∙ w.put.auto.words ∙ long,
        subst (λ cells. Picked Hit Miss cells (o + 1)) (sym w.rows-is)
            (picked_put Hit Miss c.loop-o.rows w.put.new.words o so_far
            (and_from (inhabited o) (g.test (slice_get rows o)) (sym c.is_inhabited-is_inhabited.ensures ∙ w.if-is_inhabited.true)
            (ap g.test (sym w.row.ensures) ∙ sym (c.requires.1.1 w.row.result w.passes.result w.passes.ensures) ∙ w.if-passes.true))
            (w.put.ensures.within (omega (arith, long)) (omega arith))),
      )
      | else-is_inhabited w ↦ (
        ap length w.rows-is ∙ long,
        subst (λ cells. Picked Hit Miss cells (o + 1)) (sym w.rows-is) (picked_past Hit Miss c.loop-o.rows o so_far (elim w.else-is_inhabited.branch [
          | else-is_inhabited-via-then-is_inhabited+else-passes v ↦
              and_right (inhabited o) (g.test (slice_get rows o)) (ap g.test (sym v.row.ensures) ∙ sym (c.requires.1.1 v.row.result v.passes.result v.passes.ensures) ∙ v.if-passes.false)
          | else-is_inhabited-via-else-is_inhabited v ↦ and_left (inhabited o) (g.test (slice_get rows o)) (sym c.is_inhabited-is_inhabited.ensures ∙ v.if-is_inhabited.false)
        ])),
      )
    ]

pub returns : goal.returns
returns g c =
    let (_, picked) = c.loop-o.invariant in
    let all : c.loop-o.o ≡ max_rows = omega arith in
    subst (λ n. (o : ℕ) → member c.loop-o.rows o ≡ (ltb o n && of_sort (rows_of c.args.table.now) c.args.analysis.now g.test o)) all (picked_is (of_sort (rows_of c.args.table.now) c.args.analysis.now g.test) c.loop-o.rows c.loop-o.o picked)
