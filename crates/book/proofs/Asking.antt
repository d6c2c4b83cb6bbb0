-- What an open book does at a call, from the pairs that it holds then. Assumes nothing.
use Rattle.forms.proofs.Findings.{never}
use Rattle.std.proofs.Common.{arith, rules, ◌≡◌, ℕ, ◌<◌, Bool, cond, ◌↔◌, length, Decides, sym, refl, ap, subst, inl}
use Rattle.std.proofs.lemmas.Bool.{cases_Bool, cond-true, cond-false}
use Rattle.forms.specs.Buffers.{rows_of}
use Rattle.forms.specs.Refusals.Outcome.{gives}
use Rattle.schema.specs.Worked.{Counts}
use Rattle.schema.specs.Rules.{Below, Leans}
use Rattle.schema.specs.Rules.Leans.{on_itself}
use Rattle.schema.proofs.Inclusion.{below_is_inclusion}
use Rattle.schema.proofs.Published.{published_is_below}
use Rattle.verdicts.specs.Pairs.{related}
use Rattle.book.specs.Answers.{Adds, Leaves, After, Newly, IsVerdict}
use Rattle.book.specs.Calls.{Call}
use Rattle.book.specs.Calls.Answer.{asked}
use Rattle.book.specs.Calls.Call.{ask}
use Rattle.book.specs.Doing.{Done}
use Rattle.book.specs.Keeping.{Kept, Grew}
use Rattle.book.specs.Ledgers.{ledger_rows, holds, Holds, says_yes}
use Rattle.book.specs.declared.ledger.Ledger.{Ledger}
use Rattle.book.specs.declared.types.Verdict.{Verdict}
use Rattle.book.specs.declared.types.Verdict.TheVariants.{Yes, No}
use Rattle.book.proofs.Counting.{counts_same}
use Rattle.book.proofs.Facts.{bounded, determined, kept_of}

-- what is told of a pair whose first row is found to be below the second or not
pub is_verdict : (l : Ledger) (p q : ℕ) → p < length (ledger_rows l) → q < length (ledger_rows l) → (v : Verdict) (b : Bool) → v ≡ cond b Yes No → Decides b (Below (ledger_rows l) p q) → IsVerdict (ledger_rows l) p q v
is_verdict l p q p< q< v b is d =
    let (to, from) = below_is_inclusion (ledger_rows l) (bounded l) (determined l) p q p< q< in
    let (down, up) = published_is_below (ledger_rows l) (determined l) p q in
    let is_below : (v ≡ Yes) ↔ Below (ledger_rows l) p q = grind (arith, cases_Bool b, cond-true b Yes No, cond-false b Yes No) in
    search (rules, is_below, to, from, down, up) depth 9

module _ (l l' : Ledger) (same : l'.prepared ≡ l.prepared) where
  pub kept_then : Kept (ledger_rows l) l'.held l'.yes l'.settled
  kept_then = subst (λ t. Kept (rows_of t.table) l'.held l'.yes l'.settled) same (kept_of l')

  pub holds_then : (a b : ℕ) → holds l' a b ≡ related (length (ledger_rows l)) l'.held a b
  holds_then a b = ap (λ t. related (length (rows_of t.table)) l'.held a b) same

  -- more pairs are held
  module _ (call : Call) (A : ℕ → ℕ → Type 0) (new : ℕ) (leaves : Leaves call) (to : (a b : ℕ) → A a b → Adds (ledger_rows l) call a b) (from : (a b : ℕ) → Adds (ledger_rows l) call a b → A a b)
      (grew : Grew (ledger_rows l) A l.held l'.held new) where
    pub held_more : (a b : ℕ) → Decides (holds l' a b) (After (ledger_rows l) (Holds l) call a b)
    held_more a b = rw holds_then (search (rules, to, from, grew.holds) depth 9)

    pub newly : Counts (length (ledger_rows l)) (Newly (ledger_rows l) (Holds l) call) new
    newly = counts_same _ _ (search (rules, to)) (search (rules, from)) grew.count

  pub asked_done : (p q new : ℕ) (v : Verdict) → p < length (ledger_rows l) → q < length (ledger_rows l) → Grew (ledger_rows l) (Leans (ledger_rows l) p q) l.held l'.held new →
      v ≡ cond (says_yes l' p q) Yes No → Done l (ask p q) (asked (gives (v, new))) l'
  asked_done p q new v p< q< grew is =
      let rows = ledger_rows l in
      let tells : Decides (says_yes l' p q) (Below rows p q) = subst (λ t. Decides (related (length (rows_of t.table)) l'.yes p q) (Below rows p q)) (sym same) (kept_then.tells p q ((grew.holds p q).1 (inl on_itself))) in
      record {
        answered =
            let verdict = is_verdict l p q p< q< v _ is tells in
            let fresh = newly (ask p q) (Leans rows p q) new tt (λ a b x. ((p<, q<), x)) (λ a b x. x.1) grew in (gives (v, new), refl, search rules depth 9);
        held_after = held_more (ask p q) (Leans rows p q) new tt (λ a b x. ((p<, q<), x)) (λ a b x. x.1) grew;
        table = same;
        unchanged = λ e h. never (cc);
      }
