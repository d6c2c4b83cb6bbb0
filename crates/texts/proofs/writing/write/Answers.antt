use Rattle.std.proofs.Common.{get_or, refl}
use Rattle.forms.specs.declared.Row.TheVariants.{Void}
use Rattle.texts.proofs.Measures.{rows_more}
use Rattle.texts.proofs.writing.write.Goals as goal

pub loop-row-preserved : goal.loop-row-preserved
loop-row-preserved c = rows_more c.args.rows.now c.loop-row.row-index c.loop-row.place c.put_row-place.result (get_or c.args.rows.now c.loop-row.row-index Void) c.args.out.now c.loop-row.out c.put_row-place.new.out c.loop-row-test.true refl c.loop-row.invariant c.put_row-place.ensures
