use Rattle.std.proofs.Common.{arith}
use Rattle.std.proofs.lemmas.Grind.{common_steps}
use Rattle.forms.proofs.Buffers.{all_fit}
use Rattle.forms.proofs.buffer.RowBuffer.push.Goals as goal

pub invariant_of-self-clause-fit : goal.invariant_of-self-clause-fit
invariant_of-self-clause-fit c = let b = c.args.self.now in all_fit b.table b.count b.long b.few _ c.if-self-ge-MAX_ROWS.false (grind (arith, common_steps, c.well_formed)) b.fit
