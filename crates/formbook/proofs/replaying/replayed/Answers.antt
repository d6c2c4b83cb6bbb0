use Rattle.std.proofs.Common.{sym, ◌∙◌, subst}
use Rattle.std.proofs.lemmas.List.{length-map}
use Rattle.std.proofs.lemmas.Slice.Zip.{AllZip-long}
use Rattle.texts.specs.Calls.{text_rows}
use Rattle.book.specs.Books.{Over}
use Rattle.replay.specs.Exchanges.{call_of, answer_of}
use Rattle.formbook.specs.Scripts.{LinesSpell}
use Rattle.formbook.proofs.Answered.{as_many}
use Rattle.formbook.proofs.replaying.replayed.Goals as goal

pub returns : goal.returns
returns c =
    let lines = c.args.lines.now in
    let rows = text_rows c.args.table in
    let book = c.in-Ok._book in
    let calls = c.in_ok-calls.calls.items in
    let answers = c.in-Ok.answers.items in
    let done = c.in-Ok.ensures in
    let over = subst (λ s. ∥ Over (text_rows s) book.pages ∥₁) done.1 book.over in
    let spelled = subst (λ n. LinesSpell n lines calls) c.count-count.ensures c.in_ok-calls.ensures in
    record {
      long = sym (length-map answers answer_of) ∙ as_many rows book.pages _ _ over done.2.law ∙ length-map calls call_of ∙ AllZip-long _ _ _ spelled;
      answered = (calls, spelled, done.2.law);
    }
