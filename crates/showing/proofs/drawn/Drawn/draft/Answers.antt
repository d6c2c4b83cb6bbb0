use Rattle.std.proofs.Common.{◌<◌, ◌*◌, ◌≡◌, ℕ, ◌-◌, length, Some, None, sym, ◌∙◌, subst, subst₂}
use Rattle.std.specs.Option.{MatchOption}
use Rattle.forms.specs.Buffers.{rows_of}
use Rattle.verdicts.specs.Pairs.{related, pair_of}
use Rattle.verdicts.proofs.Deciding.{pair_parts, pair_none}
use Rattle.showing.specs.Drafts.{Tells, Untold}
use Rattle.showing.proofs.Places.{draft_row, draft_shut, draft_pair}
use Rattle.showing.proofs.drawn.Drawn.draft.Goals as goal

pub returns-then-place-n : goal.returns-then-place-n
returns-then-place-n c = draft_row (rows_of c.args.question.now.prepared.now.table) c.args.question.now.leaned.now c.args.question.now.below.now c.args.self.now.numbers c.args.place c.count-n.result c.light.result c.count-n.ensures.is c.if-place-n.true c.light.ensures

pub returns-then-not-open : goal.returns-then-not-open
returns-then-not-open c = draft_shut (rows_of c.args.question.now.prepared.now.table) c.args.question.now.leaned.now c.args.question.now.below.now c.args.self.now.numbers c.args.place c.count-n.result c.open.result c.count-n.ensures.is c.if-place-n.false c.open.ensures c.if-not-open.true

pub returns-in_err-pair : goal.returns-in_err-pair
returns-in_err-pair c =
    let k = c.args.place - c.count-n.result in
    absurd (pair_none c.count-n.result k (subst (λ m. pair_of m k ≡ None) (sym c.count-n.ensures.is) (sym c.pair_at.ensures ∙ c.in_err-pair.was)) (subst (λ m. k < m * m) (sym c.count-n.ensures.is) (c.open.ensures.0 c.if-not-open.false).0))

pub returns : goal.returns
returns c =
    let question = c.args.question.now in
    let rows = rows_of question.prepared.now.table in
    let below = related (length rows) question.below.now in
    let numbers = c.args.self.now.numbers in
    let n = c.count-n.result in
    let k = c.args.place - n in
    let Told : ℕ → ℕ → Type 0 = λ a b. MatchOption c.tell.result (Untold rows below numbers a b) (λ v. Tells rows below numbers a b v) in
    let (_, first, second) = pair_parts n k c.in_ok-pair.pair (subst (λ m. pair_of m k ≡ Some c.in_ok-pair.pair) (sym c.count-n.ensures.is) (sym c.pair_at.ensures ∙ c.in_ok-pair.was)) in
    draft_pair rows question.leaned.now question.below.now numbers c.args.place n c.tell.result c.count-n.ensures.is c.if-place-n.false (c.open.ensures.0 c.if-not-open.false) (subst₂ Told first second c.tell.ensures)
