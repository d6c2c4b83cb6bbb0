use Rattle.std.proofs.Common.{length, arith}
use Rattle.forms.specs.Buffers.{rows_of}
use Rattle.forms.specs.Laws.{buffer_laws}
use Rattle.fitting.specs.Marks.{Among}
use Rattle.fitting.proofs.Fitted.{marked_more}
use Rattle.fitting.proofs.rows.Fitting.mark_nodes.Goals as goal

pub loop-i-init : goal.loop-i-init
loop-i-init c = λ i h. absurd (omega arith)

pub loop-i-preserved : goal.loop-i-preserved
loop-i-preserved c =
    let t = c.args.self.now.prepared.now in
    marked_more (rows_of t.table) (buffer_laws t.table).few (Among (length (rows_of t.table)) c.args.self.now.pairs.now) c.args.nodes.now c.loop-i.marks c.loop-i.i c.loop-i.invariant
    c.requires.sound c.loop-i-test.true c.node_rows-rows.result c.write_marks.new.marks c.node_rows-rows.ensures c.write_marks.ensures

pub returns : goal.returns
returns c = λ i h. c.loop-i.invariant i (omega arith)
