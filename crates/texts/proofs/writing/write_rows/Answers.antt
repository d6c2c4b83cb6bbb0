use Rattle.std.proofs.Common.{subst}
use Rattle.forms.specs.Buffers.{rows_of}
use Rattle.forms.specs.Splices.{Wrote}
use Rattle.texts.specs.RowText.{spelled}
use Rattle.std.proofs.lemmas.Result.{err_from_is_err_and}
use Rattle.texts.proofs.Outcomes.{writing_laws}
use Rattle.texts.proofs.Writes.{wrote_over, wrote_long, wrote_all, wrote_right}
use Rattle.texts.proofs.writing.write_rows.Goals as goal

pub returns-in_err-length : goal.returns-in_err-length
returns-in_err-length g c = let p = err_from_is_err_and c.from_residual.result c.from_residual.ensures.1 in rw (p.1, p.2) (record {
  written = wrote_over (g.S.FormSource.rows c.args.source.now) (rows_of c.of-table.result) c.args.buffer.now c.in_err-length.field-0.0 c.of-table.ensures c.in_err-length.ensures;
  back = tt;
  laws = writing_laws;
})

pub returns-then-length-buffer : goal.returns-then-length-buffer
returns-then-length-buffer g c = record {
  written = wrote_long (g.S.FormSource.rows c.args.source.now) (rows_of c.of-table.result) c.args.buffer.now c.in_ok-length.length c.of-table.ensures c.in_ok-length.ensures c.if-length-buffer.true;
  back = tt;
  laws = writing_laws;
}

pub returns : goal.returns
returns g c =
    let w = wrote_all (g.S.FormSource.rows c.args.source.now) (rows_of c.of-table.result) c.args.buffer.now c.write.new.out c.in_ok-length.length c.write.result c.of-table.ensures c.in_ok-length.ensures c.if-length-buffer.false
    (subst (λ rows. Wrote c.args.buffer.now c.write.new.out 0 (spelled rows) c.write.result) c.rows.ensures.is c.write.ensures) in
    record {
      written = w;
      back = wrote_right (g.S.FormSource.rows c.args.source.now) c.args.buffer.now c.write.new.out c.write.result (g.S.FormSource.lawful c.args.source.now) w;
      laws = writing_laws;
    }
