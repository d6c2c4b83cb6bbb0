use Rattle.std.proofs.Common.{Ok, Err, sym, refl, ap, ◌∙◌, subst}
use Rattle.book.specs.Answers.{IsVerdict}
use Rattle.compare.specs.Layers.{HeldNo}
use Rattle.compare.proofs.Asking.{judged}
use Rattle.compare.proofs.comparing.ask.Goals as goal

pub returns-in_err-ask : goal.returns-in_err-ask
returns-in_err-ask g c = absurd (judged (ap g.S.FormSource.rows c.new-book.ensures.source) c.requires.admitted c.requires.rows c.new-book.result.pages c.ask.new.self.pages (Err c.in_err-ask.field-0.0) c.in_err-ask.ensures.meets)

pub returns-in-Yes-default : goal.returns-in-Yes-default
returns-in-Yes-default g c =
    let (verdict, _) = judged (ap g.S.FormSource.rows c.new-book.ensures.source) c.requires.admitted c.requires.rows c.new-book.result.pages c.ask.new.self.pages (Ok c.in_ok-ask.field-0) c.in_ok-ask.ensures.meets in
    (subst (IsVerdict (g.S.FormSource.rows c.args.source) c.args.pair.0 c.args.pair.1) c.in-Yes-default.is-0 verdict, refl)

pub write_order-requires : goal.write_order-requires
write_order-requires g c =
    let rows = g.S.FormSource.rows in
    let (verdict, held) = judged (ap g.S.FormSource.rows c.new-book.ensures.source) c.requires.admitted c.requires.rows c.new-book.result.pages c.ask.new.self.pages (Ok c.in_ok-ask.field-0) c.in_ok-ask.ensures.meets in
    subst (λ s. HeldNo (rows s) c.ask.new.self.pages c.args.pair.0 c.args.pair.1) (sym (c.ask.ensures.source ∙ c.new-book.ensures.source)) (record {
      admitted = c.requires.admitted;
      within = c.requires.rows;
      held = held;
      verdict = subst (IsVerdict (rows c.args.source) c.args.pair.0 c.args.pair.1) c.in-No-default.is-0 verdict;
    })
