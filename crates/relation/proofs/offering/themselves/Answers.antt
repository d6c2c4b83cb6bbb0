use Rattle.forms.specs.Buffers.{rows_of}
use Rattle.std.proofs.Common.{◌+◌, ◌*◌, ◌/◌, get_or, sym, refl, subst, arith, slice_get, ap, Some, ◌≡◌, length}
use Rattle.std.proofs.lemmas.Option.{slice_get-get_or}
use Rattle.std.proofs.lemmas.Bool.{both_ways}
use Rattle.sets.specs.Sets.{word}
use Rattle.forms.specs.Limits.{max_rows}
use Rattle.forms.specs.declared.Row.TheVariants.{Void}
use Rattle.relation.proofs.Reaching.{Leafing, leafing_none, leafing_past, leafing_more, leafing_all}
use Rattle.relation.proofs.offering.themselves.Goals as goal
use Rattle.relation.proofs.offering.themselves.Goals.{then-is_leaf, else-is_leaf}

pub loop-p-init : goal.loop-p-init
loop-p-init c = leafing_none (rows_of c.args.table.now) (max_rows * (max_rows / word)) refl

pub loop-p-preserved : goal.loop-p-preserved
loop-p-preserved c =
    let rows = (rows_of c.args.table.now) in
    let p = c.loop-p.p in
    let items = c.rows-row-items.result.now in
    let row = get_or items p Void in
    let is = subst (λ rs. slice_get rs p ≡ Some (get_or items p Void)) c.rows-row-items.ensures.is (slice_get-get_or items p Void c.loop-p-test.true) in
    elim c.if-is_leaf.branch [
      | then-is_leaf w ↦ subst (λ ws. Leafing rows ws (p + 1)) (sym w.cells-is)
          (leafing_more rows c.loop-p.cells p (omega arith) c.loop-p.invariant row is (c.is_leaf.ensures.0 w.if-is_leaf.true) w.put.new.words w.put.auto.words w.put.ensures.within)
      | else-is_leaf w ↦ subst (λ ws. Leafing rows ws (p + 1)) (sym w.cells-is)
          (leafing_past rows c.loop-p.cells p (omega arith) c.loop-p.invariant row is (λ nu. both_ways c.is_leaf.result w.if-is_leaf.false (c.is_leaf.ensures.1 nu)))
    ]

pub returns : goal.returns
returns c = record {
  sound = c.loop-p.invariant.sound;
  leaves = leafing_all (rows_of c.args.table.now) c.loop-p.cells c.loop-p.p (omega (arith, ap length c.rows-row-items.ensures.is)) c.loop-p.invariant;
}
