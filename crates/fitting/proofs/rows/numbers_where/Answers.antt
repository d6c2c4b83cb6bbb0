use Rattle.std.proofs.Common.{ℕ, ◌+◌, true, false, length, sym, refl, ap, subst, ◌∙◌, arith}
use lib.ListN.{length-replicate}
use Rattle.sets.proofs.Picking.{Picked, picked_none, picked_put, picked_past}
use Rattle.fitting.proofs.rows.numbers_where.Goals as goal
use Rattle.fitting.proofs.rows.numbers_where.Goals.{then-passes, else-passes}

pub loop-k-init : goal.loop-k-init
loop-k-init g c = (refl, picked_none _ _ g.row.W)

pub loop-k-preserved : goal.loop-k-preserved
loop-k-preserved g c =
    let Hit : ℕ → Type 0 = λ k. g.F.Fn.post c.args.passes (k, tt) true in
    let Miss : ℕ → Type 0 = λ k. g.F.Fn.post c.args.passes (k, tt) false in
    let k = c.loop-k.k in
    let (long, so_far) = c.loop-k.invariant in
    elim c.if-passes.branch [
      | then-passes w ↦ (
        ap length w.numbers-is ∙ w.put.auto.words ∙ long,
        subst (λ ws. Picked Hit Miss ws (k + 1)) (sym w.numbers-is) (picked_put Hit Miss c.loop-k.numbers w.put.new.words k so_far w.if-passes.ensures (w.put.ensures.within (omega (arith, length-replicate {A = ℕ} g.row.W 0)) (omega arith))),
      )
      | else-passes w ↦ (
        ap length w.numbers-is ∙ long,
        subst (λ ws. Picked Hit Miss ws (k + 1)) (sym w.numbers-is) (picked_past Hit Miss c.loop-k.numbers k so_far w.if-passes.ensures),
      )
    ]
