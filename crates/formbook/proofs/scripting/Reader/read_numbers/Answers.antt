use Rattle.std.proofs.Common.{inr, arith}
use Rattle.std.proofs.lemmas.Result.{err_from_is_err_and}
use Rattle.formbook.proofs.Loops.{zip_more, all_at, zip_all}
use Rattle.formbook.proofs.scripting.Reader.read_numbers.Goals as goal

pub loop-word-preserved : goal.loop-word-preserved
loop-word-preserved c = zip_more _ c.args.words.now c.loop-word.word-index _ _ _ c.in_ok-read_number.field-0 (omega arith) c.loop-word.invariant c.in_ok-read_number.ensures c.in_ok-push.ensures.items

pub returns-in_err-read_number : goal.returns-in_err-read_number
returns-in_err-read_number c =
    let (e, is, why) = err_from_is_err_and c.from_residual.result c.from_residual.ensures.1 in
    rw is (inr (λ numbers are. c.in_err-read_number.ensures (all_at _ c.args.words.now c.loop-word.word-index _ (zip_all _ _ numbers are) (omega arith)).1.0))
