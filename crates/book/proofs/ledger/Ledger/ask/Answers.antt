use Rattle.std.proofs.Common.{◌≡◌, true, length, sym, refl, arith}
use Rattle.sets.specs.Sets.{member}
use Rattle.schema.specs.Rules.{Leans}
use Rattle.verdicts.specs.Pairs.{related}
use Rattle.verdicts.proofs.Deciding.{between_parts}
use Rattle.book.specs.Ledgers.{ledger_rows}
use Rattle.book.proofs.Asking.{asked_done}
use Rattle.book.proofs.Facts.{kept_of}
use Rattle.book.proofs.Settling.{grew_none, grew_same}
use Rattle.book.proofs.ledger.Ledger.ask.Goals as goal

pub returns-then-has_settled : goal.returns-then-has_settled
returns-then-has_settled c =
    let l = c.args.self.now in
    let p = c.args.pair.0 in
    let q = c.args.pair.1 in
    let on = sym c.if-has_settled.ensures in
    let (p<, q<, _) = between_parts (length (ledger_rows l)) (member l.settled) p q on in
    asked_done l l refl p q 0 c.verdict.result p< q< (grew_none (ledger_rows l) l.held l.yes l.settled (kept_of l) p q on) c.verdict.ensures

pub returns : goal.returns
returns c =
    let l = c.args.self.now in
    let rows = ledger_rows l in
    let p = c.args.pair.0 in
    let q = c.args.pair.1 in
    let leaned = c.leaned-leaned.result in
    let leans = c.leaned-leaned.ensures.leans (omega arith) (omega arith) in
    let l' = c.settle-new.new.self in
    asked_done l l' c.settle-new.ensures.table p q c.settle-new.result _ (omega arith) (omega arith)
    (grew_same rows (λ a b. related (length rows) leaned a b ≡ true) (Leans rows p q) l.held l'.held c.settle-new.result (λ a b. (leans a b).0) (λ a b. (leans a b).1) c.settle-new.ensures.grew) c.verdict-2.ensures
