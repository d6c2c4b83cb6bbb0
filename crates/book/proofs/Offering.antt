-- Opening, clearing, and taking in a relation. Assumes nothing.
use Rattle.forms.proofs.Findings.{never}
use Rattle.std.proofs.Common.{rules, ◌≡◌, ℕ, ◌+◌, ◌*◌, ◌/◌, ◌%◌, ◌<◌, true, false, not, ◌&&◌, List, length, Option, Some, None, MatchOption, replicate, sym, refl, ap, ◌∙◌, subst, subst₂, ⊎_elim, arith}
use lib.ListN.{length-replicate}
use Rattle.std.proofs.lemmas.Nat.{mul-add-lt, div-add-mod', div_below, mod_below}
use Rattle.std.proofs.lemmas.Bool.{both_ways, cases_Bool, cases_order}
use Rattle.sets.specs.Sets.{member, tally, word}
use Rattle.forms.specs.Laws.{buffer_laws}
use Rattle.forms.specs.Limits.{max_rows}
use Rattle.forms.specs.Refusals.{Outcome}
use Rattle.forms.specs.Refusals.Outcome.{refuses, gives}
use Rattle.forms.specs.declared.Row.{Row}
use Rattle.sets.proofs.Membership.{zeros_none}
use Rattle.schema.specs.Rules.{Keeps, Closed}
use Rattle.schema.specs.Theorems.{Confined}
use Rattle.verdicts.specs.Facts.{admitted_of}
use Rattle.verdicts.specs.Pairs.{related, pair_of}
use Rattle.verdicts.proofs.Deciding.{between_parts, between_from, place_div, place_mod, pair_parts, pair_none}
use Rattle.book.specs.Calls.Answer.{offered, cleared}
use Rattle.book.specs.Calls.Call.{offer, clear}
use Rattle.book.specs.Doing.{Done}
use Rattle.book.specs.Faults.{book_refusal}
use Rattle.book.specs.Keeping.{PairSet, Kept}
use Rattle.book.specs.Ledgers.{ledger_rows}
use Rattle.book.specs.Relations.{WellShaped, Consistent, Breaks, Stands}
use Rattle.book.specs.declared.ledger.Ledger.{Ledger}
use Rattle.book.specs.declared.types.BookFault.TheVariants.{RuleBroken}
use Rattle.book.proofs.Asking.{held_more, newly}
use Rattle.book.proofs.Facts.{kept_of}
use Rattle.book.proofs.Settling.{Joined, grew}
use Rattle.book.proofs.Telling.{nothing_done}

-- so many numbers have room for all pairs
abbrev pub numbers : ℕ
numbers = max_rows * max_rows / word

-- no pair is held
pub none_related : (n m a b : ℕ) → related n (replicate m 0) a b ≡ false
none_related n m a b = ⊎_elim (λ h. absurd (both_ways _ (zeros_none m (a * n + b)) (between_parts n (member (replicate m 0)) a b h).2)) (λ off. off) (cases_Bool _)

none_set : (n : ℕ) → PairSet n (replicate numbers 0)
none_set n = record { room = omega (arith, length-replicate {A = ℕ} numbers 0); clear = λ k h. zeros_none numbers k }

pub kept_none : (rows : List Row) → Kept rows (replicate numbers 0) (replicate numbers 0) (replicate numbers 0)
kept_none rows =
    let confined : Confined rows (related (length rows) (replicate numbers 0)) = λ a b c d h named. off a b h in
    search (rules, none_set (length rows), off) depth 9
  where
    off : {P : Type 0} (a b : ℕ) → related (length rows) (replicate numbers 0) a b ≡ true → P
    off a b h = absurd (both_ways _ (none_related (length rows) numbers a b) h)

pub cleared_done : (l l' : Ledger) → l'.prepared ≡ l.prepared → l'.held ≡ replicate numbers 0 → Done l clear (cleared (gives tt)) l'
cleared_done l l' same none = record {
  answered = refl;
  held_after = λ a b. (λ h. absurd (both_ways _ (ap (λ w. related (length (ledger_rows l')) w a b) none ∙ none_related (length (ledger_rows l')) numbers a b) h), λ (x, _). absurd x);
  table = same;
  unchanged = search rules;
}

-- the lowest pair that breaks the rules is one
breaks_one : (rows : List Row) (words : List ℕ) (p q a b : ℕ) → Breaks rows words p q → Breaks rows words a b → (p ≡ a) × (q ≡ b)
breaks_one rows words p q a b x y =
    let n = length rows in
    let (p<, q<, _) = between_parts n (member words) p q x.has in
    let (a<, b<, _) = between_parts n (member words) a b y.has in
    let same : p * n + q ≡ a * n + b = grind (arith, cases_order (p * n + q) (a * n + b), x.broken, y.broken, x.lowest a b, y.lowest p q, x.has, y.has) in
    (sym (place_div n p q q<) ∙ ap (λ k. k / n) same ∙ place_div n a b b<, sym (place_mod n p q q<) ∙ ap (λ k. k % n) same ∙ place_mod n a b b<)

module _ (l : Ledger) (words : List ℕ) where
  abbrev rows : List Row
  rows = ledger_rows l

  abbrev n : ℕ
  n = length rows

  pub refused_rule : (p q : ℕ) → WellShaped (length (ledger_rows l)) words → Breaks (ledger_rows l) words p q → Done l (offer words) (offered (refuses (book_refusal (RuleBroken p q)))) l
  refused_rule p q shaped breaks = nothing_done l (offer words) _ tt (λ a b (is, _). not is) (_, refl, search (rules, not, one) depth 9)
    where
      not : Consistent rows words → ⊥
      not is = breaks.broken (is.closed p q breaks.has)

      one : (a b : ℕ) → Breaks rows words a b → ◌≡◌ {A = Outcome ℕ} (refuses (book_refusal (RuleBroken p q))) (refuses (book_refusal (RuleBroken a b)))
      one a b other = let (e, f) = breaks_one rows words p q a b breaks other in cc

  pub taken_done : (l' : Ledger) (new : ℕ) → l'.prepared ≡ l.prepared → Consistent (ledger_rows l) words → Joined l.held l'.held words →
      new ≡ tally (λ j. member words j && not (member l.held j)) (word * length l.held) → Done l (offer words) (offered (gives new)) l'
  taken_done l' new same is joined count =
      let g = grew rows (admitted_of l.prepared).some (buffer_laws l.prepared.table).few (λ a b. related n words a b ≡ true) l.held l'.held words (kept_of l).held_set is.shaped.clear joined (λ a b. ((λ h. h), (λ h. h))) new count in
      record {
        answered = let fresh = newly l l' same (offer words) (λ a b. related n words a b ≡ true) new tt (λ a b h. (is, h)) (λ a b x. x.1) g in (gives new, refl, search (rules, is.closed) depth 9);
        held_after = held_more l l' same (offer words) (λ a b. related n words a b ≡ true) new tt (λ a b h. (is, h)) (λ a b x. x.1) g;
        table = same;
        unchanged = λ e h. never (cc);
      }

-- going through a relation, pair by pair
module _ (rows : List Row) (words : List ℕ) (some : 0 < length rows) where
  at_pair : (a b : ℕ) → a < length rows → b < length rows → Stands rows words (a * length rows + b) → Keeps rows (related (length rows) words) a b
  at_pair a b a< b< h = subst₂ (Keeps rows (related (length rows) words)) (place_div (length rows) a b b<) (place_mod (length rows) a b b<) (h.keeps (mul-add-lt a (length rows) b (length rows) a< b<))

  all_keep : ((k : ℕ) → member words k ≡ true → Stands rows words k) → Closed rows (related (length rows) words)
  all_keep each a b h = let (a<, b<, on) = between_parts (length rows) (member words) a b h in at_pair a b a< b< (each (a * length rows + b) on)

  first_breaks : (k : ℕ) → k < length rows * length rows → member words k ≡ true → (Stands rows words k → ⊥) → ((j : ℕ) → j < k → member words j ≡ true → Stands rows words j) → Breaks rows words (k / length rows) (k % length rows)
  first_breaks k low on broken before = record {
    has = between_from (length rows) (member words) (k / length rows) (k % length rows) (div_below k (length rows) (length rows) some low) (mod_below k (length rows) some) (subst (λ x. member words x ≡ true) (sym (div-add-mod' k (length rows))) on);
    broken = λ keeps. broken (record { keeps = λ _. keeps });
    lowest = λ a b less h.
        let (a<, b<, there) = between_parts (length rows) (member words) a b h in
        at_pair a b a< b< (before (a * length rows + b) (subst (λ x. a * length rows + b < x) (div-add-mod' k (length rows)) less) there);
  }

  -- the lowest place of a pair that breaks the rules, if there is one
  abbrev Found : Option ℕ → Type 0
  Found r = MatchOption r ((k : ℕ) → member words k ≡ true → Stands rows words k) (λ x. (member words x ≡ true) × (Stands rows words x → ⊥) × ((k : ℕ) → k < x → member words k ≡ true → Stands rows words k))

  pub none_found : {r : Option ℕ} → Found r → r ≡ None → Closed rows (related (length rows) words)
  none_found found e = all_keep (subst Found e found)

  pub first_found : {r : Option ℕ} (k : ℕ) (pair : Option (ℕ × ℕ)) → Found r → r ≡ Some k → pair ≡ pair_of (length rows) k → MatchOption pair (Closed rows (related (length rows) words)) (λ p. Breaks rows words p.0 p.1)
  first_found k None found e at = let (on, broken, before) = subst Found e found in absurd (broken (record { keeps = λ low. absurd (pair_none (length rows) k (sym at) low) }))
  first_found k (Some pair) found e at =
      let (on, broken, before) = subst Found e found in
      let (low, first, second) = pair_parts (length rows) k pair (sym at) in
      subst₂ (Breaks rows words) (sym first) (sym second) (first_breaks k low on broken before)
