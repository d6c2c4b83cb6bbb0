use Rattle.std.proofs.Common.{◌∙◌, sym, arith}
use Rattle.std.proofs.lemmas.Grind.{common_steps}
use Rattle.forms.specs.Buffers.{rows_of}
use Rattle.texts.specs.RowText.Judged.{is_long}
use Rattle.texts.proofs.Judging.{text_laws}
use Rattle.texts.proofs.Outcomes.{right_rows_are_written}
use Rattle.texts.proofs.TextSteps.{read_wrong, read_over, read_all}
use Rattle.texts.proofs.RowText.read.Goals as goal

pub returns-then-text-gt-MAX_TEXT : goal.returns-then-text-gt-MAX_TEXT
returns-then-text-gt-MAX_TEXT c = record { judged = is_long c.if-text-gt-MAX_TEXT.true; back = tt; laws = text_laws }

pub returns-then-line-eq-MAX_ROWS : goal.returns-then-line-eq-MAX_ROWS
returns-then-line-eq-MAX_ROWS c = record {
  judged = read_over c.args.text.now c.loop-rest.rest.now (rows_of c.loop-rest.table) c.loop-rest.invariant c.if-text-gt-MAX_TEXT.false (grind (arith, common_steps)) (sym c.count-line.ensures ∙ c.if-line-eq-MAX_ROWS.true);
  back = tt;
  laws = text_laws;
}

pub returns-in-Err : goal.returns-in-Err
returns-in-Err c = record {
  judged = read_wrong c.args.text.now c.loop-rest.rest.now c.count-line.result c.in-Err.field (rows_of c.loop-rest.table) c.loop-rest.invariant c.if-text-gt-MAX_TEXT.false (grind (arith, common_steps)) c.count-line.ensures c.if-line-eq-MAX_ROWS.false c.in-Err.ensures;
  back = tt;
  laws = text_laws;
}

pub returns : goal.returns
returns c =
    let judged = read_all c.args.text.now c.loop-rest.rest.now (rows_of c.loop-rest.table) c.loop-rest.invariant (grind (arith, common_steps)) in
    record { judged = judged; back = λ room short. right_rows_are_written room (rows_of c.loop-rest.table) c.args.text.now judged short; laws = text_laws }
