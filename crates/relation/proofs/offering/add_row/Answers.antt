use Rattle.std.proofs.Common.{ap, ◌+◌, ◌-◌, ◌*◌, drop, arith, length-take, length-drop}
use Rattle.sets.specs.Sets.{word}
use Rattle.relation.proofs.Growing.{added_past, added_row}
use Rattle.relation.proofs.offering.add_row.Goals as goal

pub returns-then-k-ge-MAX_ROWS : goal.returns-then-k-ge-MAX_ROWS
returns-then-k-ge-MAX_ROWS c = added_past c.args.p c.args.k c.args.cells.now (ap (λ n. word * n) c.told-cells) c.if-k-ge-MAX_ROWS.true

pub returns : goal.returns
returns c = added_row c.args.p c.args.k c.args.cells.now (ap (λ n. word * n) c.told-cells) c.requires c.if-k-ge-MAX_ROWS.false _ _ (omega arith) (omega arith) c.copy_from_slice.new.self c.join.new.words c.join.result
    (omega (arith, c.join.auto.words, length-take ((c.args.p + 1) * 1 - c.args.p * 1) (drop (c.args.p * 1) c.args.cells.now), length-drop (c.args.p * 1) c.args.cells.now, c.told-cells)) c.copy_from_slice.ensures.after c.join.ensures.members c.join.ensures.new
