use Rattle.std.proofs.Common.{◌≡◌, true, length, refl}
use Rattle.verdicts.specs.Pairs.{related, Leaned}
use Rattle.book.specs.Ledgers.{ledger_rows}
use Rattle.book.proofs.Facts.{kept_of}
use Rattle.book.proofs.Settling.{grew_none_all, grew_same}
use Rattle.book.proofs.ledger.Ledger.settle_all.Goals as goal

pub returns-then-is_settled : goal.returns-then-is_settled
returns-then-is_settled c =
    let l = c.args.self.now in
    record { table = refl; grew = grew_none_all (ledger_rows l) l.held l.yes l.settled (kept_of l) c.args.pairs (c.if-is_settled.ensures.0 refl) }

pub returns : goal.returns
returns c =
    let l = c.args.self.now in
    let rows = ledger_rows l in
    let leaned = c.leaned_from-leaned.result in
    let leans = c.leaned_from-leaned.ensures.leans in
    record {
      table = c.settle.ensures.table;
      grew = grew_same rows (λ a b. related (length rows) leaned a b ≡ true) (Leaned rows c.args.pairs) l.held c.settle.new.self.held c.settle.result (λ a b. (leans a b).0) (λ a b. (leans a b).1) c.settle.ensures.grew;
    }
