use Rattle.std.proofs.Common.{length}
use Rattle.forms.specs.Buffers.{rows_of}
use Rattle.forms.specs.Laws.{buffer_laws}
use Rattle.schema.proofs.Fitting.{fits_is_by_below}
use Rattle.fitting.specs.Marks.{Among}
use Rattle.fitting.proofs.Fitted.{root_tells}
use Rattle.fitting.proofs.marking.mark.Goals as goal

pub returns : goal.returns
returns c =
    let t = c.args.prepared.now in
    record {
      checked = c.in_ok-check.ensures.checked;
      marked = c.mark_nodes.ensures;
      told = root_tells (rows_of t.table) (buffer_laws t.table).few (Among (length (rows_of t.table)) c.args.pairs.now) c.args.order.now.nodes.now c.mark_nodes.new.marks c.args.order.now.root c.args.row c.has.result c.in_ok-check.ensures.checked.root_within c.mark_nodes.ensures c.has.ensures;
      by_below = fits_is_by_below;
      length = c.mark_nodes.auto.marks;
    }

pub returns-in_err-check-clause-by_below : goal.returns-in_err-check-clause-by_below
returns-in_err-check-clause-by_below c = fits_is_by_below
