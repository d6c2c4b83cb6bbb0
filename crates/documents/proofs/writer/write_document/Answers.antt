use Rattle.std.proofs.Common.{◌≡◌, Some, None, refl, arith}
use Rattle.std.proofs.lemmas.Grind.{common_steps}
use Rattle.std.proofs.lemmas.Result.{err_from_is_err_and}
use Rattle.documents.specs.declared.faults.WriteFault.TheVariants.{TooLong}
use Rattle.documents.specs.Writing.WritesDocument.{is_many, is_unsound}
use Rattle.documents.proofs.Laws.{writing_laws}
use Rattle.documents.proofs.Outcomes.{write_outside, write_long, write_done}
use Rattle.documents.proofs.writer.write_document.Goals as goal

pub returns-then-nodes-gt-MAX_NODES : goal.returns-then-nodes-gt-MAX_NODES
returns-then-nodes-gt-MAX_NODES c = record { written = (is_many c.if-nodes-gt-MAX_NODES.true, refl); back = tt; laws = writing_laws }

pub returns-in_err-table-clause-written : goal.returns-in_err-table-clause-written
returns-in_err-table-clause-written c =
    let (k, is, lowest) = c.in_err-table.ensures in
    let p = err_from_is_err_and c.from_residual.result c.from_residual.ensures.1 in
    rw (p.1, p.2, is) (is_unsound c.if-nodes-gt-MAX_NODES.false lowest, refl)

pub returns-in_err-table-clause-back : goal.returns-in_err-table-clause-back
returns-in_err-table-clause-back c = let p = err_from_is_err_and c.from_residual.result c.from_residual.ensures.1 in rw p.1 tt

pub returns-in_err-table-clause-laws : goal.returns-in_err-table-clause-laws
returns-in_err-table-clause-laws c = writing_laws

pub returns-then-root-nodes : goal.returns-then-root-nodes
returns-then-root-nodes c = record {
  written = write_outside c.args.nodes.now c.args.root c.args.buffer.now c.if-nodes-gt-MAX_NODES.false (rw c.in_ok-table.ensures at c.in_ok-table.table.sound) c.if-root-nodes.true;
  back = tt;
  laws = writing_laws;
}

pub returns : goal.returns
returns c =
    let room : c.measure.result ≡ Some c.in_ok-ok_or.field-0 = grind (arith, common_steps) in
    let (written, back) = write_done c.args.nodes.now c.args.root c.args.buffer.now c.if-nodes-gt-MAX_NODES.false (rw c.in_ok-table.ensures at c.in_ok-table.table.sound) c.if-root-nodes.false c.min.result c.min.ensures
    c.in_ok-ok_or.field-0 c.write.result c.write.new.out (rw (c.in_ok-table.ensures, room) at c.measure.ensures) (rw c.in_ok-table.ensures at c.write.ensures) in
    record { written = written; back = back; laws = writing_laws }

pub returns-in_err-ok_or : goal.returns-in_err-ok_or
returns-in_err-ok_or c =
    let none : c.measure.result ≡ None = grind (arith, common_steps) in
    let is : c.in_err-ok_or.field-0.0 ≡ TooLong = grind (arith, common_steps) in
    let p = err_from_is_err_and c.from_residual-in_err-ok_or.result c.from_residual-in_err-ok_or.ensures.1 in
    rw (p.1, p.2, is) (record {
      written = write_long c.args.nodes.now c.args.root c.args.buffer.now c.if-nodes-gt-MAX_NODES.false (rw c.in_ok-table.ensures at c.in_ok-table.table.sound) c.if-root-nodes.false c.min.result c.min.ensures (rw (c.in_ok-table.ensures, none) at c.measure.ensures);
      back = tt;
      laws = writing_laws;
    })
