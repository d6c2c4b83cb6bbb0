use Rattle.std.proofs.Common.{◌+◌, [], ◌∷◌, ◌++◌, length, slice_index_or, take, ap, sym, ◌∙◌, subst, arith}
use Rattle.replay.specs.Exchanges.{call_of}
use Rattle.formbook.specs.Scripts.{LinesSpell, AreMistakes}
use Rattle.formbook.specs.Scripts.AreMistakes.{none, spells, mistaken}
use Rattle.formbook.specs.declared.replaying.Line.{Line}
use Rattle.formbook.specs.declared.replaying.Mistake.{Mistake}
use Rattle.formbook.proofs.Loops.{so_far, some_pushed, zip_more}
use Rattle.formbook.proofs.replaying.spelled.Goals.{in-Ok+in_ok-push-in-Ok, in-Err+in_ok-push-in-Err}
use Rattle.formbook.proofs.replaying.spelled.Goals as goal

pub loop-line-init : goal.loop-line-init
loop-line-init c =
    let n = c.args.reader.now.count in
    record { calls = λ _. subst (λ v. LinesSpell n [] v) (sym c.new-calls.ensures.items) tt; mistakes = subst (λ v. AreMistakes n [] v) (sym c.new-mistakes.ensures.items) none }

pub loop-line-preserved : goal.loop-line-preserved
loop-line-preserved c =
    let n = c.args.reader.now.count in
    let lines = c.args.lines.now in
    let i = c.loop-line.line-index in
    let d : Line = record { number = 0; text = record { ref_ptr = (0, 0); now = [] } } in
    let line = slice_index_or lines i d in
    let before = c.loop-line in
    elim c.match-read_call.branch [
      | in-Ok+in_ok-push-in-Ok w ↦ record {
        calls = λ empty. subst (λ v. LinesSpell n (take (i + 1) lines) v.items) (sym w.calls-is)
            (zip_more _ lines i d before.calls.items w.push.new.self.items w.in-Ok.call (omega arith) (before.invariant.calls (ap (λ v. length v.items) (sym w.mistakes-is) ∙ empty)) w.in-Ok.ensures w.in_ok-push-in-Ok.ensures.items);
        mistakes = subst (λ v. AreMistakes n (take (i + 1) lines) v.items) (sym w.mistakes-is)
            (so_far (λ v. AreMistakes n v before.mistakes.items) lines i d (omega arith) (spells line (call_of w.in-Ok.call) before.invariant.mistakes w.in-Ok.ensures));
      }
      | in-Err+in_ok-push-in-Err w ↦
          let mistake : Mistake = record { line = line; unread = w.in-Err.unread } in
          let after = w.push-in-Err.new.self in
          record {
            calls = λ empty. absurd (some_pushed before.mistakes.items after.items mistake w.in_ok-push-in-Err.ensures.items (ap (λ v. length v.items) (sym w.mistakes-is) ∙ empty));
            mistakes = subst (λ v. AreMistakes n (take (i + 1) lines) v.items) (sym w.mistakes-is)
                (so_far (λ v. AreMistakes n v after.items) lines i d (omega arith)
                (subst (λ v. AreMistakes n (take i lines ++ (line ∷ [])) v) (sym w.in_ok-push-in-Err.ensures.items) (mistaken mistake before.invariant.mistakes w.in-Err.ensures)));
          }
    ]
