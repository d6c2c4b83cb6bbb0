-- What a book over an admitted table says of two of its rows. Assumes nothing.
use Rattle.std.proofs.Common.{◌≡◌, ℕ, ◌≤◌, List, length, length-take, take, Ok, Err, Result, MatchResult, ap, subst, inl, arith}
use Rattle.forms.specs.Refusals.Outcome.{gives}
use Rattle.forms.specs.declared.Row.{Row}
use Rattle.forms.proofs.Findings.{never}
use Rattle.documents.specs.declared.nodes.Node.{Node}
use Rattle.relation.specs.Admission.{Admitted}
use Rattle.schema.specs.Rules.{Below}
use Rattle.schema.specs.Rules.Leans.{on_itself}
use Rattle.showing.specs.Showing.{Witnesses, places}
use Rattle.verdicts.specs.Pairs.{InTable}
use Rattle.book.specs.Answers.{IsVerdict}
use Rattle.book.specs.Books.{Met}
use Rattle.book.specs.Calls.Answer.{asked, shown}
use Rattle.book.specs.Calls.Call.{ask, show}
use Rattle.book.specs.Faults.{outcome}
use Rattle.book.specs.Ledgers.{Pages, HoldsIn}
use Rattle.book.specs.declared.types.BookFault.{BookFault}
use Rattle.book.specs.declared.types.Verdict.{Verdict}
use Rattle.book.specs.declared.types.Verdict.TheVariants.{No}
use Rattle.compare.specs.Layers.{HeldNo}

-- what a call gives that is not refused
given : {A : Type 0} (P : A → Type 0) (r : Result A BookFault) (a : A) → outcome r ≡ gives a → P a → MatchResult r P (λ _. ⊥)
given {A} P (Ok x) a e h = let same : ◌≡◌ {A = A} a x = cc in subst P same h
given P (Err f) a e h = never (cc)

-- what is known after a verdict: the pair is held
abbrev pub Known : List Row → ℕ → ℕ → Pages → Verdict → Type 0
Known rows p q pages v = IsVerdict rows p q v × HoldsIn pages p q

-- a book over an admitted table refuses no question about two of its rows
pub judged : {rows over : List Row} {p q : ℕ} → over ≡ rows → Admitted rows → InTable rows p q → (before after : Pages) (r : Result (Verdict × ℕ) BookFault) → Met over before (ask p q) (asked (outcome r)) after → MatchResult r (λ x. Known rows p q after x.0) (λ _. ⊥)
judged {rows} {over} {p} {q} same good within before after r meets =
    let met = subst (λ x. Met x before (ask p q) (asked (outcome r)) after) same meets in
    let (o, is, answered) = met.answered good in
    let (v, new, gave, verdict, _) = answered.inside within in
    given (λ x. Known rows p q after x.0) r (v, new) (cc) (verdict, (met.held_after good p q).1 (tt, inl (within, on_itself)))

pub not_below : {rows : List Row} {p q : ℕ} → IsVerdict rows p q No → Below rows p q → ⊥
not_below v below = let e = v.below.1 below in never (cc)

-- the first k nodes show an order that fits p and not q
pub record Shows (rows : List Row) (p q : ℕ) (nodes : List Node) (k : ℕ) : Type 0 where
  pub some : 1 ≤ k
  pub within : k ≤ length nodes
  pub few : k ≤ places rows
  pub witnesses : Witnesses rows p q (take k nodes)

pub shows : {rows : List Row} {pages : Pages} {p q : ℕ} → HeldNo rows pages p q → (after : Pages) (nodes nodes' : List Node) (r : Result ℕ BookFault) → places rows ≤ length nodes → Met rows pages (show p q nodes) (shown (outcome r) nodes') after → MatchResult r (λ k. Shows rows p q nodes' k) (λ _. ⊥)
shows {rows} {pages} {p} {q} h after nodes nodes' r room met =
    let (o, written, is, answered) = met.answered h.admitted in
    let (k, gave, few, witnesses, _, long) = answered.shows h.within (h.held, not_below h.verdict) room in
    let same : written ≡ nodes' = cc in
    let e = ap (λ x. length x) same in
    given (λ j. Shows rows p q nodes' j) r k (cc) (record { some = omega (arith, length-take k written, witnesses.is_last); within = omega arith; few = few; witnesses = rw (← same) witnesses })
