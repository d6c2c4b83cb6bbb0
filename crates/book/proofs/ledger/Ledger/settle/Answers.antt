use Rattle.std.proofs.Common.{◌≡◌, true, length, refl, ◌∙◌}
use Rattle.forms.specs.Laws.{buffer_laws}
use Rattle.schema.proofs.Order.{confined_agrees}
use Rattle.verdicts.specs.Facts.{admitted_of}
use Rattle.verdicts.specs.Pairs.{related}
use Rattle.book.specs.Ledgers.{ledger_rows}
use Rattle.book.proofs.Facts.{kept_of}
use Rattle.book.proofs.Settling.{grew, kept_settled}
use Rattle.book.proofs.ledger.Ledger.settle.Goals as goal

pub invariant_of-self : goal.invariant_of-self
invariant_of-self c =
    let l = c.args.self.now in
    let rows = ledger_rows l in
    let narrowed = c.narrow.ensures in
    let more = c.args.pairs in
    let below = c.narrow.new.pairs in
    record {
      kept = ∣ kept_settled rows (admitted_of l.prepared).some (buffer_laws l.prepared.table).few l.held l.yes l.settled c.join-3.new.words c.join.new.words more below (kept_of l)
          c.requires.clear (λ k h. narrowed.rest k h ∙ c.requires.clear k h) c.join-3.ensures.members c.join.ensures.members c.join-3.auto.words c.join.auto.words
          narrowed.largest.part narrowed.largest.closed (λ a b h. (confined_agrees rows (related (length rows) more) (related (length rows) below) c.requires.confined narrowed.largest a b h).1)
          c.join-2.new.words c.join-2.ensures.members c.join-2.auto.words c.requires.confined ∣₁;
    }

pub returns : goal.returns
returns c =
    let l = c.args.self.now in
    let rows = ledger_rows l in
    record {
      table = refl;
      grew = grew rows (admitted_of l.prepared).some (buffer_laws l.prepared.table).few (λ a b. related (length rows) c.args.pairs a b ≡ true) l.held c.join-3.new.words c.args.pairs
          (kept_of l).held_set c.requires.clear c.join-3.ensures.members (λ a b. ((λ h. h), (λ h. h))) _ c.join-3.ensures.new;
    }
