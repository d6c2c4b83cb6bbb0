use Rattle.std.proofs.Common.{◌≡◌, ◌+◌, ◌*◌, length, get_or, slice_get, Some, sym, ap, ◌∙◌, subst, arith}
use Rattle.std.proofs.lemmas.Option.{slice_get-get_or}
use Rattle.sets.specs.Sets.{word}
use Rattle.forms.specs.Buffers.{rows_of}
use Rattle.forms.specs.declared.Row.{Row}
use Rattle.forms.specs.declared.Row.TheVariants.{Void, Union}
use Rattle.relation.proofs.Growing.{Spreading, spreading_more, spreading_past, spreading_all}
use Rattle.relation.proofs.offering.spread.Goals as goal
use Rattle.relation.proofs.offering.spread.Goals.{in-Union, in_default}

pub loop-p-preserved : goal.loop-p-preserved
loop-p-preserved c =
    let rows = rows_of c.args.table.now in
    let old = c.args.cells.now in
    let p = c.loop-p.p in
    let items = c.rows-row-items.result.now in
    let row = get_or items p Void in
    let room : word * length old ≡ word * 64 = ap (λ n. word * n) c.told-cells in
    let is = subst (λ rs. slice_get rs p ≡ Some (get_or items p Void)) c.rows-row-items.ensures.is (slice_get-get_or items p Void c.loop-p-test.true) in
    elim c.match-row.branch [
      | in-Union w ↦
          let first = w.add_row-grown in
          let second = w.add_row-grown-in-Union in
          subst (λ cells. Spreading rows old cells c.match-row.grown (p + 1)) (sym w.cells-is)
          (subst (λ grown. Spreading rows old second.new.cells grown (p + 1)) (sym w.grown-is)
          (spreading_more rows old room c.loop-p.cells c.loop-p.grown p c.loop-p.invariant w.in-Union.left w.in-Union.right (is ∙ ap Some w.in-Union.is)
          first.new.cells second.new.cells first.result second.result (omega (arith, first.array_long, c.loop-p.invariant.size, c.told-cells)) (omega (arith, first.array_long, second.array_long)) first.ensures second.ensures))
      | in_default w ↦ subst (λ cells. Spreading rows old cells c.match-row.grown (p + 1)) (sym w.cells-is)
          (subst (λ grown. Spreading rows old c.loop-p.cells grown (p + 1)) (sym w.grown-is)
          (spreading_past rows old room c.loop-p.cells c.loop-p.grown p c.loop-p.invariant (λ l r e. w.in_default.not-Union l r (some_same (get_or items p Void) (Union l r) (sym is ∙ e)))))
    ]
  where
    some_same : (a b : Row) → Some a ≡ Some b → a ≡ b
    some_same a b e = cc

pub returns : goal.returns
returns c = spreading_all (rows_of c.args.table.now) c.args.cells.now c.loop-p.cells c.loop-p.grown c.loop-p.p (omega (arith, ap length c.rows-row-items.ensures.is)) c.loop-p.invariant
