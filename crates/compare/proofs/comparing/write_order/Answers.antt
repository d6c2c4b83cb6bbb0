use Rattle.std.proofs.Common.{Ok, Err, arith, length-take}
use Rattle.std.proofs.lemmas.Result.{err_from_is_err_and}
use Rattle.showing.proofs.Drawing.{places_few}
use Rattle.compare.proofs.Asking.{shows}
use Rattle.compare.proofs.Writing.{found}
use Rattle.compare.proofs.comparing.write_order.Goals as goal

pub returns-in_err-count : goal.returns-in_err-count
returns-in_err-count g c = absurd (shows c.requires _ _ _ (Err c.in_err-count.field-0.0) (places_few _ (g.S.FormSource.lawful c.args.book.now.source).few) c.in_err-count.ensures)

pub slice_bounds-nodes-end : goal.slice_bounds-nodes-end
slice_bounds-nodes-end g c = omega (arith, (shows c.requires _ _ _ (Ok c.in_ok-count.count) (places_few _ (g.S.FormSource.lawful c.args.book.now.source).few) c.in_ok-count.ensures).within)

pub overflow_sub-count : goal.overflow_sub-count
overflow_sub-count g c = (shows c.requires _ _ _ (Ok c.in_ok-count.count) (places_few _ (g.S.FormSource.lawful c.args.book.now.source).few) c.in_ok-count.ensures).some

pub slice_bounds-write_document-end : goal.slice_bounds-write_document-end
slice_bounds-write_document-end g c =
    let s = shows c.requires _ _ c.show.new.nodes (Ok c.in_ok-count.count) (places_few _ (g.S.FormSource.lawful c.args.book.now.source).few) c.in_ok-count.ensures in
    omega (arith, s.within, length-take c.in_ok-count.count c.show.new.nodes)

pub returns-in_err-length : goal.returns-in_err-length
returns-in_err-length g c =
    let few = (g.S.FormSource.lawful c.args.book.now.source).few in
    let s = shows c.requires _ _ _ (Ok c.in_ok-count.count) (places_few _ few) c.in_ok-count.ensures in
    let p = err_from_is_err_and c.from_residual-in_err-length.result c.from_residual-in_err-length.ensures.1 in
    rw (p.1, p.2) (found few c.requires.verdict _ _ s _ _ (Err c.in_err-length.field-0.0) c.in_err-length.ensures.written)

pub overflow_cast-result : goal.overflow_cast-result
overflow_cast-result g c =
    let few = (g.S.FormSource.lawful c.args.book.now.source).few in
    let s = shows c.requires _ _ c.show.new.nodes (Ok c.in_ok-count.count) (places_few _ few) c.in_ok-count.ensures in
    let (_, text, _, fits, is, _) = found few c.requires.verdict c.show.new.nodes c.in_ok-count.count s c.args.buffer.now c.write_document.new.buffer (Ok c.in_ok-length.length) c.in_ok-length.ensures.written in
    omega arith

pub returns : goal.returns
returns g c =
    let few = (g.S.FormSource.lawful c.args.book.now.source).few in
    found few c.requires.verdict _ _ (shows c.requires _ _ _ (Ok c.in_ok-count.count) (places_few _ few) c.in_ok-count.ensures) _ _ (Ok c.in_ok-length.length) c.in_ok-length.ensures.written
