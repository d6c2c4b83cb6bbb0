use Rattle.std.proofs.Common.{arith}
use Rattle.forms.specs.Laws.{buffer_laws}
use Rattle.forms.specs.Buffers.{rows_of}
use Rattle.relation.proofs.Reaching.{reaching_more, reaching_less, reaching_all}
use Rattle.relation.proofs.offering.offered_rows.Goals as goal

pub loop-smaller : goal.loop-smaller
loop-smaller c = reaching_less (rows_of c.args.table.now) c.loop.cells c.spread.new.cells c.spread.result c.loop.invariant (omega (arith, c.spread.array_long, c.loop.invariant.room)) c.spread.ensures c.loop-test.true

pub loop-preserved : goal.loop-preserved
loop-preserved c = reaching_more (rows_of c.args.table.now) c.loop.cells c.spread.new.cells c.spread.result c.loop.invariant (omega (arith, c.spread.array_long, c.loop.invariant.room)) c.spread.ensures

pub returns : goal.returns
returns c = reaching_all (rows_of c.args.table.now) c.loop.cells c.spread.new.cells c.spread.result c.loop.invariant (omega (arith, c.spread.array_long, c.loop.invariant.room)) c.spread.ensures (buffer_laws c.args.table.now).few c.loop-test.false
