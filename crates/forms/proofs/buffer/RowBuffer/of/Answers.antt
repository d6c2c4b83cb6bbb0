use Rattle.std.proofs.Common.{◌<◌, length, get_or, arith}
use Rattle.forms.specs.declared.Row.TheVariants.{Void}
use Rattle.forms.proofs.Buffers.{buffer_copied_more}
use Rattle.forms.proofs.Sides.{some_nth, row_there}
use Rattle.forms.proofs.buffer.RowBuffer.of.Goals as goal
use Rattle.forms.proofs.buffer.RowBuffer.of.Goals.{in-Some, in_default}

pub loop-number-preserved : goal.loop-number-preserved
loop-number-preserved g c =
    let rows = g.S.FormSource.rows c.args.source.now in
    let k = c.loop-number.number in
    let lt : k < length rows = omega (arith, c.count-number-end.ensures, c.loop-number-test.true) in
    elim c.match-row.branch [
      | in-Some w ↦ buffer_copied_more rows k w.in-Some.row c.loop-number.buffer w.push.new.self _ lt (g.S.FormSource.lawful c.args.source.now).few c.loop-number.invariant (some_nth rows k w.in-Some.row w.in-Some.ensures).1 w.push.ensures.now w.buffer-is
      | in_default w ↦ absurd (w.in_default.not-Some (get_or rows k Void) (row_there rows k c.row.result lt c.row.ensures))
    ]
