use Rattle.std.proofs.Common.{◌≡◌, ℕ, ◌*◌, ◌≤◌, false, List, length, Option, Some, None, is_some, sym, refl, ap, ◌∙◌, subst}
use Rattle.std.proofs.lemmas.Bool.{both_ways}
use Rattle.sets.specs.Sets.{member, Next}
use Rattle.forms.specs.Laws.{buffer_laws}
use Rattle.verdicts.specs.Facts.{admitted_of}
use Rattle.book.specs.Ledgers.{ledger_rows}
use Rattle.book.specs.Relations.{words_for, WellShaped}
use Rattle.book.specs.declared.ledger.Ledger.{Ledger}
use Rattle.book.proofs.Facts.{kept_of}
use Rattle.book.proofs.Offering.{refused_rule, taken_done}
use Rattle.book.proofs.Settling.{kept_offered}
use Rattle.book.proofs.ledger.Ledger.offer.Goals as goal

-- a relation that passed the first two tests
shape : (l : Ledger) (m : ℕ) (words : List ℕ) (long : ℕ) (found : Option ℕ) → m ≡ length (ledger_rows l) → length words ≡ long → long ≡ words_for m → Next (member words) (m * m) found → is_some found ≡ false → WellShaped (length (ledger_rows l)) words
shape l m words long None same e f clear none = record {
  long = e ∙ f ∙ ap words_for same;
  clear = subst (λ x. (j : ℕ) → x * x ≤ j → member words j ≡ false) same clear;
}
shape l m words long (Some k) same e f clear none = absurd (both_ways _ none refl)

pub returns-in-Some : goal.returns-in-Some
returns-in-Some c =
    let l = c.args.self.now in
    let words = c.args.relation.now in
    refused_rule l words c.in-Some.p c.in-Some.q (shape l c.count-n.result words _ c.next.result c.count-n.ensures.is c.if-relation-numbers_for.false c.numbers_for.ensures.is c.next.ensures (sym c.if-is_some.ensures)) c.in-Some.ensures

pub invariant_of-self : goal.invariant_of-self
invariant_of-self c =
    let l = c.args.self.now in
    let rows = ledger_rows l in
    let words = c.args.relation.now in
    let shaped = shape l c.count-n.result words _ c.next.result c.count-n.ensures.is c.if-relation-numbers_for.false c.numbers_for.ensures.is c.next.ensures (sym c.if-is_some.ensures) in
    record {
      kept = ∣ kept_offered rows (admitted_of l.prepared).some (buffer_laws l.prepared.table).few l.held l.yes l.settled c.join-2.new.words c.join.new.words words words (kept_of l)
          shaped.clear shaped.clear c.join-2.ensures.members c.join.ensures.members c.join-2.auto.words c.join.auto.words
          (λ a b h. h) c.in_default.ensures (λ a b h below. h) ∣₁;
    }

pub returns : goal.returns
returns c =
    let l = c.args.self.now in
    let words = c.args.relation.now in
    let shaped = shape l c.count-n.result words _ c.next.result c.count-n.ensures.is c.if-relation-numbers_for.false c.numbers_for.ensures.is c.next.ensures (sym c.if-is_some.ensures) in
    taken_done l words _ c.join-2.result refl (record { shaped = shaped; closed = c.in_default.ensures }) c.join-2.ensures.members c.join-2.ensures.new
