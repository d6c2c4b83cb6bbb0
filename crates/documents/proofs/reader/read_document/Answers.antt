use Rattle.std.proofs.Common.{Ok, refl}
use Rattle.std.proofs.lemmas.Result.{err_from_is_err_and}
use Rattle.documents.specs.Reading.Reads.{is_long}
use Rattle.documents.proofs.Outcomes.{read_refused, read_large, read_done, written_back}
use Rattle.documents.proofs.Laws.{reading_laws}
use Rattle.documents.proofs.reader.read_document.Goals as goal

pub returns-then-text-gt-MAX_DOCUMENT-clause-read : goal.returns-then-text-gt-MAX_DOCUMENT-clause-read
returns-then-text-gt-MAX_DOCUMENT-clause-read c = (is_long c.if-text-gt-MAX_DOCUMENT.true, refl)

pub returns-in_err-count-clause-read : goal.returns-in_err-count-clause-read
returns-in_err-count-clause-read c =
    let p = err_from_is_err_and c.from_residual.result c.from_residual.ensures.1 in
    rw (p.1, p.2) (read_refused c.args.text.now c.args.nodes.now c.if-text-gt-MAX_DOCUMENT.false c.in_err-count.field-0.0 c.in_err-count.ensures)

pub returns-then-too_many-clause-read : goal.returns-then-too_many-clause-read
returns-then-too_many-clause-read c = read_large c.args.text.now c.args.nodes.now c.if-text-gt-MAX_DOCUMENT.false c.in_ok-count.count c.in_ok-count.ensures c.if-too_many.ensures

pub returns-clause-read : goal.returns-clause-read
returns-clause-read c = read_done c.args.text.now c.args.nodes.now c.if-text-gt-MAX_DOCUMENT.false c.in_ok-count.count c.build.new.nodes c.in_ok-count.ensures c.if-too_many.ensures c.build.ensures

pub returns-clause-back : goal.returns-clause-back
returns-clause-back c = written_back c.args.text.now c.args.nodes.now c.build.new.nodes (Ok c.in_ok-count.count)
    (read_done c.args.text.now c.args.nodes.now c.if-text-gt-MAX_DOCUMENT.false c.in_ok-count.count c.build.new.nodes c.in_ok-count.ensures c.if-too_many.ensures c.build.ensures)

pub returns-then-text-gt-MAX_DOCUMENT-clause-laws : goal.returns-then-text-gt-MAX_DOCUMENT-clause-laws
returns-then-text-gt-MAX_DOCUMENT-clause-laws c = reading_laws

pub returns-in_err-count-clause-laws : goal.returns-in_err-count-clause-laws
returns-in_err-count-clause-laws c = reading_laws

pub returns-then-too_many-clause-laws : goal.returns-then-too_many-clause-laws
returns-then-too_many-clause-laws c = reading_laws

pub returns-clause-laws : goal.returns-clause-laws
returns-clause-laws c = reading_laws
