use Rattle.book.proofs.Telling.{handed_over}
use Rattle.book.proofs.ledger.Ledger.hand_out.Goals as goal

pub returns : goal.returns
returns c = handed_over c.args.self.now c.args.buffer.now c.told-told.result.now c.copy_from_slice.new.self c.told-told.ensures c.if-buffer-told.false c.copy_from_slice.ensures.after c.count.result c.count.ensures
