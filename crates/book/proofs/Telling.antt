-- What an open book tells without a change. Assumes nothing.
use Rattle.forms.proofs.Findings.{never, Decided, both_or_not, below_or_not}
use Rattle.std.proofs.Common.{rules, ◌≡◌, ℕ, ◌+◌, ◌*◌, ◌/◌, ◌%◌, ◌<◌, ◌≤◌, true, cond, ◌&&◌, ltb, List, length, take, Option, Some, sym, refl, ap, ◌∙◌, subst, ⊎_elim, arith, length-take, get_or-take}
use Rattle.std.proofs.lemmas.Nat.{mul-le}
use Rattle.std.proofs.lemmas.Bool.{both_ways, cases_Bool, cases_lt}
use Rattle.sets.specs.Sets.{member, tally, word, bit}
use Rattle.sets.proofs.Membership.{member_at, member_past}
use Rattle.forms.specs.Limits.{max_rows}
use Rattle.forms.specs.Refusals.{Refusal, Outcome}
use Rattle.forms.specs.Refusals.Outcome.{refuses, gives}
use Rattle.forms.specs.declared.Row.{Row}
use Rattle.forms.specs.Laws.{buffer_laws}
use Rattle.documents.specs.declared.nodes.Node.{Node}
use Rattle.schema.proofs.Order.{keeps_more}
use Rattle.verdicts.specs.Facts.{admitted_of}
use Rattle.verdicts.specs.Pairs.{related, InTable}
use Rattle.verdicts.proofs.Deciding.{between_parts}
use Rattle.showing.specs.Faults.{show_refusal}
use Rattle.showing.specs.Showing.{Unshowable}
use Rattle.showing.specs.Showing.Unshowable.{no_row, is_below, is_few}
use Rattle.showing.specs.declared.faults.ShowFault.TheVariants.{FewNodes}
use Rattle.book.specs.Answers.{Adds, Leaves, HeldAsYes, HeldAsNo, Answered, LookUpAnswered}
use Rattle.book.specs.Calls.{Call, Answer}
use Rattle.book.specs.Calls.Answer.{looked_up, counted, handed_out, shown}
use Rattle.book.specs.Calls.Call.{look_up, held, hands_out, show}
use Rattle.book.specs.Doing.{Told}
use Rattle.book.specs.Doing.{Done}
use Rattle.book.specs.Ledgers.{ledger_rows, holds, Holds, says_yes}
use Rattle.book.specs.Relations.{words_for}
use Rattle.book.specs.declared.ledger.Ledger.{Ledger}
use Rattle.book.specs.declared.types.Verdict.{Verdict}
use Rattle.book.specs.declared.types.Verdict.TheVariants.{Yes, No}
use Rattle.book.proofs.Asking.{is_verdict}
use Rattle.book.proofs.Counting.{counts_same}
use Rattle.book.proofs.Facts.{kept_of}
use Rattle.book.proofs.Settling.{set_counts}

-- two numbers are those of rows, or they are not
pub in_or_out : (rows : List Row) (p q : ℕ) → Decided (InTable rows p q)
in_or_out rows p q = both_or_not (below_or_not p (length rows)) (below_or_not q (length rows))

-- a call that adds nothing
pub nothing_done : (l : Ledger) (call : Call) (answer : Answer) → Leaves call → ((a b : ℕ) → Adds (ledger_rows l) call a b → ⊥) → Answered (ledger_rows l) (Holds l) call answer → Done l call answer l
nothing_done l call answer leaves none answered = search (rules, none) depth 9

module _ (l : Ledger) where
  abbrev rows : List Row
  rows = ledger_rows l

  abbrev n : ℕ
  n = length rows

  some : 0 < n
  some = (admitted_of l.prepared).some

  few : n ≤ max_rows
  few = (buffer_laws l.prepared.table).few

  pub looked_held : (p q : ℕ) (v : Verdict) → p < length (ledger_rows l) → q < length (ledger_rows l) → true ≡ related (length (ledger_rows l)) l.held p q → v ≡ cond (says_yes l p q) Yes No →
      Done l (look_up p q) (looked_up (gives (Some v))) l
  looked_held p q v p< q< h is = nothing_done l (look_up p q) (looked_up (gives (Some v))) tt (λ a b x. x)
      (let verdict = is_verdict l p q p< q< v (says_yes l p q) is ((kept_of l).tells p q (sym h)) in (gives (Some v), refl, search rules depth 9))

  -- a look-up tells whether an order is shown
  module _ (p q : ℕ) (o : Outcome (Option Verdict)) (looked : Answered (ledger_rows l) (Holds l) (look_up p q) (looked_up o)) where
    answered : LookUpAnswered rows (Holds l) p q o
    answered = let (o₂, is, a) = looked in let same : o₂ ≡ o = cc in subst (LookUpAnswered rows (Holds l) p q) same a

    -- one of two rows is not refused
    pub looked_inside : {s : Option Verdict} → o ≡ gives s → InTable (ledger_rows l) p q
    looked_inside e = grind (arith, in_or_out rows p q, answered.outside)

    pub looked_no : o ≡ gives (Some No) → InTable (ledger_rows l) p q × HeldAsNo (ledger_rows l) (Holds l) p q
    looked_no e =
        let i = looked_inside e in
        ⊎_elim
        (λ on. let (v, gave, verdict) = answered.settled i on in (i, (on, λ below. let is = verdict.below.1 below in never (cc))))
        (λ off. let none = answered.unsettled i (both_ways _ off) in never (cc))
        (cases_Bool (holds l p q))

    pub shown_refused : (e : Refusal) → o ≡ refuses e → (buffer : List Node) → Done l (show p q buffer) (shown (refuses e) buffer) l
    shown_refused e is buffer = nothing_done l (show p q buffer) (shown (refuses e) buffer) tt (λ a b x. x) (refuses e, buffer, refl, (let same = answered.outside in search (rules, same, inside) depth 9))
      where
        inside : {P : Type 0} → InTable rows p q → P
        inside i = ⊎_elim (λ on. let (v, gave, _) = answered.settled i on in never (cc)) (λ off. let none = answered.unsettled i (both_ways _ off) in never (cc)) (cases_Bool (holds l p q))

  -- for a pair held as no an order is shown, but for want of room
  pub shown_few : (p q : ℕ) (before after : List Node) (e : Refusal) → InTable (ledger_rows l) p q × HeldAsNo (ledger_rows l) (Holds l) p q → Unshowable (ledger_rows l) p q (length before) e → after ≡ before → Done l (show p q before) (shown (refuses e) after) l
  shown_few p q before after e (i, (h, not)) (no_row out) same = absurd (out i)
  shown_few p q before after e (i, (h, not)) (is_below _ below) same = absurd (not below)
  shown_few p q before after e (i, as_no) (is_few _ _ less) same = nothing_done l (show p q before) (shown (refuses (show_refusal FewNodes)) after) tt (λ a b x. x) (_, _, refl, search rules depth 9)

  pub counted_held : (r : ℕ) → r ≡ tally (member l.held) (word * length l.held) → Done l held (counted (gives r)) l
  counted_held r e = nothing_done l held (counted (gives r)) tt (λ a b x. x) (r, refl, set_counts n some few l.held (kept_of l).held_set r e)

  -- the first numbers of those that hold what is yes
  module _ (k : ℕ) (is : k ≡ words_for (length (ledger_rows l))) (low : k ≤ max_rows * max_rows / word) where
    abbrev told : List ℕ
    told = take k l.yes

    long : length told ≡ k
    long = omega (arith, (kept_of l).yes_set.room, length-take k l.yes)

    members : (j : ℕ) → member told j ≡ member l.yes j
    members j =
        let e = long in
        let s = mul-le n n max_rows max_rows few few in
        ⊎_elim
        (λ here.
        member_at told (j / word) (j % word) j (omega arith) (omega arith) (omega arith) ∙ ap (λ w. bit w (j % word)) (get_or-take k l.yes (j / word) 0 (omega arith)) ∙ sym (member_at l.yes (j / word) (j % word) j (omega arith) (omega arith) (omega arith)))
        (λ past. member_past told j past ∙ sym ((kept_of l).yes_set.clear j (omega arith)))
        (cases_lt j (word * length told))

    relates : (a b : ℕ) → related n told a b ≡ related n l.yes a b
    relates a b = ap (λ x. ltb a n && (ltb b n && x)) (members (a * n + b))

    pub yes_told : Told l (take k l.yes)
    yes_told = record {
      consistent = record {
        shaped = record { long = long ∙ is; clear = λ j h. members j ∙ (kept_of l).yes_set.clear j h };
        closed = λ p q h. keeps_more (λ a b on. relates a b ∙ on) ((kept_of l).closed p q (sym (relates p q) ∙ h));
      };
      handed = λ p q. (
        λ h.
            let yes-now = sym (relates p q) ∙ h in
            let on = (kept_of l).yes_held p q yes-now in
            let (p<, q<, _) = between_parts n (member told) p q h in
            ((p<, q<), (on, ((kept_of l).tells p q on).0 yes-now)),
        λ (_, (on, below)). relates p q ∙ ((kept_of l).tells p q on).1 below,
      );
    }

  pub handed_over : (buffer words after : List ℕ) → Told l words → length buffer ≡ length words → after ≡ words → (r : ℕ) → r ≡ tally (member l.yes) (word * length l.yes) →
      Done l (hands_out buffer) (handed_out (gives r) after) l
  handed_over buffer words after told same copied r e =
      let now : Told l after = rw copied told in
      let many = counts_same {k = r} _ (HeldAsYes rows (Holds l)) (search (rules, (kept_of l).yes_held, (kept_of l).tells)) (search (rules, (kept_of l).tells)) (set_counts n some few l.yes (kept_of l).yes_set r e) in
      let long = same ∙ told.consistent.shaped.long in
      nothing_done l (hands_out buffer) (handed_out (gives r) after) tt (λ a b x. x) (_, _, refl, search (rules, now.handed, now.consistent) depth 9)
