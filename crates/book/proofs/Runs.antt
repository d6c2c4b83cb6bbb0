-- One call more keeps the law over runs. Assumes nothing.
use Rattle.std.proofs.Common.{rules, ◌≡◌, ℕ, zero, suc, ◌+◌, ◌<◌, ◌≤◌, ◌≢◌, Bool, false, ◌⊎◌, ◌↔◌, List, [], ◌∷◌, ◌++◌, length, take, drop, Some, Decides, sym, refl, ap, ◌∙◌, subst, subst₂, inl, inr, ⊎_elim, arith, length-append, append_assoc, append-nil}
use Rattle.std.specs.List.{slice_get, sum_by}
use Rattle.std.proofs.lemmas.List.{take_all, take-append-le, drop-append-le}
use Rattle.std.proofs.lemmas.List.Sums.{sum_by_push}
use Rattle.std.proofs.Math.Numerals.{add-one}
use Rattle.std.proofs.Math.Seq.{drop-length}
use Rattle.std.proofs.lemmas.Bool.{both_ways, cases_eq}
use Rattle.forms.proofs.Findings.{decided, nth_below, nth_left, nth_some, never}
use Rattle.forms.specs.Refusals.{Outcome}
use Rattle.forms.specs.Refusals.Outcome.{refuses, gives}
use Rattle.forms.specs.declared.Row.{Row}
use Rattle.documents.specs.declared.nodes.Node.{Node}
use Rattle.relation.specs.Admission.{Admitted}
use Rattle.schema.specs.Rules.Leans.{on_itself}
use Rattle.schema.specs.Worked.{Counts}
use Rattle.verdicts.specs.Pairs.{InTable}
use Rattle.fitting.proofs.Refusing.{fittable_or_one_fault}
use Rattle.book.specs.Answers.{Pairs, Adds, Leaves, After, Newly, Answered, AskAnswered, OfferAnswered, FitAnswered}
use Rattle.book.specs.Books.{Met, ShutAnswered}
use Rattle.book.specs.Calls.{Call, Answer}
use Rattle.book.specs.Calls.Answer.{asked, offered, looked_up, counted, handed_out, fitted, cleared}
use Rattle.book.specs.Calls.Call.{ask, offer, look_up, held, hands_out, show, fit, clear}
use Rattle.book.specs.Ledgers.{Pages, holds_in, HoldsIn}
use Rattle.book.specs.Relations.{words_for, Consistent}
use Rattle.book.specs.Runs.{HeldBy, new_pairs, Reported, TakenByAll, OpenRun, Run, Chain, ChainsKeepTheLaw}
use Rattle.book.specs.declared.types.Verdict.{Verdict}
use Rattle.book.proofs.Counting.{counts_same, counts_none, counts_plus, counts_one, counts_most}
use Rattle.book.proofs.Telling.{in_or_out}

-- what is answered and what is held after a call depend only on which pairs are held
module _ (rows : List Row) (H K : Pairs) (same : (a b : ℕ) → H a b ↔ K a b) where
  after_same : (call : Call) (a b : ℕ) → After rows H call a b ↔ After rows K call a b
  after_same call a b = search (rules, same)

  new_same : (call : Call) (new : ℕ) → Counts (length rows) (Newly rows H call) new → Counts (length rows) (Newly rows K call) new
  new_same call new c = counts_same _ _ (search (rules, same)) (search (rules, same)) c

  answered_same : (call : Call) (answer : Answer) → Answered rows H call answer → Answered rows K call answer
  answered_same (ask p q) answer (o, e, r) = (o, e, search (rules, new_same) depth 9)
  answered_same (offer words) answer (o, e, r) = (o, e, search (rules, new_same) depth 9)
  answered_same (look_up p q) answer (o, e, r) = (o, e, search (rules, same) depth 9)
  answered_same held answer (k, e, count) = search (rules, counts_same, same)
  answered_same (hands_out buffer) answer (o, after, e, r) = (o, after, e, search (rules, same, counts_same) depth 9)
  answered_same (show p q buffer) answer (o, after, e, r) = (o, after, e, search (rules, same) depth 9)
  answered_same (fit nodes root row marks) answer (o, after, e, r) = (o, after, e, search (rules, new_same) depth 9)
  answered_same clear answer e = e

-- one element more at the end
nth_more : {A : Type 0} (xs : List A) (y : A) (k : ℕ) {z : A} → slice_get (xs ++ (y ∷ [])) k ≡ Some z → ((k < length xs) × (slice_get xs k ≡ Some z)) ⊎ ((k ≡ length xs) × (y ≡ z))
nth_more [] y zero e = inr (refl, (cc))
nth_more [] y (suc k) e = never (cc)
nth_more (x ∷ xs) y zero e = inl (omega arith, e)
nth_more (x ∷ xs) y (suc k) e = ⊎_elim (λ (less, at). inl (omega arith, at)) (λ (same, is). inr (ap suc same, is)) (nth_more xs y k e)

nth_last : {A : Type 0} (xs : List A) (y : A) → slice_get (xs ++ (y ∷ [])) (length xs) ≡ Some y
nth_last [] y = refl
nth_last (x ∷ xs) y = nth_last xs y

take_more : {A : Type 0} (xs : List A) (k : ℕ) {x : A} → slice_get xs k ≡ Some x → take (suc k) xs ≡ take k xs ++ (x ∷ [])
take_more [] k e = never (cc)
take_more (y ∷ xs) zero e = cc
take_more (y ∷ xs) (suc k) e = ap (λ t. y ∷ t) (take_more xs k e)

length_more : {A : Type 0} (xs : List A) (y : A) → length (xs ++ (y ∷ [])) ≡ length xs + 1
length_more xs y = length-append xs (y ∷ [])

take_here : {A : Type 0} (xs : List A) (y : A) (k : ℕ) → k ≡ length xs → take k (xs ++ (y ∷ [])) ≡ xs
take_here xs y k e = take-append-le k xs (y ∷ []) (omega arith) ∙ take_all k xs (omega arith)

leaves_or_clears : (call : Call) → Leaves call ⊎ (call ≡ clear)
leaves_or_clears clear = inr refl
leaves_or_clears _ = search rules

-- what is held after some calls and one more
module _ (rows : List Row) (cs : List Call) (c : Call) (a b : ℕ) where
  pub held_more : After rows (HeldBy rows cs) c a b → HeldBy rows (cs ++ (c ∷ [])) a b
  held_more (leaves, x) = ⊎_elim
      (λ adds. record { place = length cs; call = c; made = nth_last cs c; adds = adds; since = λ j less e. grind (arith, nth_more cs c j e) })
      (λ h. record { place = h.place; call = h.call; made = nth_left cs _ h.place h.made; adds = h.adds; since = λ j less e. grind (arith, nth_more cs c j e, h.since j less, leaves) })
      x

  pub held_before : HeldBy rows (cs ++ (c ∷ [])) a b → After rows (HeldBy rows cs) c a b
  held_before h = ⊎_elim
      (λ (low, at). (
        ⊎_elim (λ l. l) (λ e. absurd (h.since (length cs) low (rw (← e) (nth_last cs c)))) (leaves_or_clears c),
        inr (record { place = h.place; call = h.call; made = at; adds = h.adds; since = λ j less e. h.since j less (nth_left cs _ j e) }),
      ))
      (λ (_, is). let adds = subst (λ x. Adds rows x a b) (sym is) h.adds in (⊎_elim (λ l. l) (λ e. absurd (subst (λ x. Adds rows x a b) e adds)) (leaves_or_clears c), inl adds))
      (nth_more cs c h.place h.made)

-- what is reported by some answers and one more
module _ (bs : List Answer) (x : Answer) where
  reported_clear : x ≡ cleared (gives tt) → Reported (bs ++ (x ∷ [])) 0
  reported_clear e = record {
    start = length (bs ++ (x ∷ []));
    begins = inr (length bs, length_more bs x, nth_last bs x ∙ ap Some e);
    last = λ i up at. omega (arith, nth_below (bs ++ (x ∷ [])) i at);
    total = sym (ap (sum_by new_pairs) (drop-length (bs ++ (x ∷ []))));
  }

  reported_leaves : (m : ℕ) → x ≢ cleared (gives tt) → Reported bs m → Reported (bs ++ (x ∷ [])) (m + new_pairs x)
  reported_leaves m other r = record {
    start = r.start;
    begins = ⊎_elim inl (λ (i, e, at). inr (i, e, nth_left bs _ i at)) r.begins;
    last = λ i up at. ⊎_elim (λ (_, old). r.last i up old) (λ (_, is). other is) (nth_more bs x i at);
    total = ap (λ n. n + new_pairs x) r.total ∙ sym (sum_by_push new_pairs (drop r.start bs) x) ∙ ap (sum_by new_pairs) (sym (drop-append-le r.start bs (x ∷ []) low));
  }
    where
      low : r.start ≤ length bs
      low = ⊎_elim (λ e. omega arith) (λ (i, e, at). omega (arith, nth_below bs i at)) r.begins

module _ (rows : List Row) (H : Pairs) where
  -- a call that adds nothing
  no_more : (call : Call) → ((a b : ℕ) → Adds rows call a b → ⊥) → Counts (length rows) (Newly rows H call) 0
  no_more call none = counts_none (length rows) _ (λ a b ((_, h), off). ⊎_elim (none a b) off h)

  ask_more : (p q : ℕ) (o : Outcome (Verdict × ℕ)) → AskAnswered rows H p q o → Counts (length rows) (Newly rows H (ask p q)) (new_pairs (asked o))
  ask_more p q o a = ⊎_elim
      (λ i. let (v, new, is, _, fresh) = a.inside i in rw is fresh)
      (λ out. rw (a.outside out) (no_more (ask p q) (λ x y (i, _). out i)))
      (in_or_out rows p q)

  offer_more : (words : List ℕ) (o : Outcome ℕ) → OfferAnswered rows H words o → Counts (length rows) (Newly rows H (offer words)) (new_pairs (offered o))
  offer_more words (gives r) a = search (rules, a.taken, a.only) depth 9
  offer_more words (refuses e) a = no_more (offer words) (λ x y (c, _). let (new, is, _) = a.taken c in never (cc))

  fit_more : (nodes : List Node) (root row : ℕ) (marks : List ℕ) (o : Outcome (Bool × ℕ)) (after : List ℕ) → FitAnswered rows H nodes root row marks o after → Counts (length rows) (Newly rows H (fit nodes root row marks)) (new_pairs (fitted o after))
  fit_more nodes root row marks o after a = ⊎_elim
      (λ (fits, _). let (b, new, is, _, fresh) = a.fits fits in rw is fresh)
      (λ (not, (e, unfit, _)). rw (a.unfit e unfit).0 (no_more (fit nodes root row marks) (λ x y (t, _). not t)))
      (fittable_or_one_fault rows nodes root row (length marks))

  -- a call that is no clearing: it reports the pairs that it adds
  more : (call : Call) (answer : Answer) → Leaves call → Answered rows H call answer → (answer ≢ cleared (gives tt)) × Counts (length rows) (Newly rows H call) (new_pairs answer)
  more (ask p q) answer leaves (o, e, a) = search (rules, ask_more)
  more (offer words) answer leaves (o, e, a) = search (rules, offer_more)
  more (look_up p q) answer leaves (o, e, a) = search (rules, no_more)
  more held answer leaves (k, e, a) = search (rules, no_more)
  more (hands_out buffer) answer leaves (o, after, e, a) = search (rules, no_more)
  more (show p q buffer) answer leaves (o, after, e, a) = search (rules, no_more)
  more (fit nodes root row marks) answer leaves (o, after, e, a) = search (rules, fit_more)
  more clear answer leaves e = absurd leaves

  -- so what is reported stays the number of pairs held
  still_counts : (call : Call) (answer : Answer) (bs : List Answer) (m : ℕ) → Answered rows H call answer → Reported bs m → Counts (length rows) H m → (n : ℕ) × Reported (bs ++ (answer ∷ [])) n × Counts (length rows) (After rows H call) n
  still_counts call answer bs m answered r count = ⊎_elim
      (λ leaves.
      let (other, fresh) = more call answer leaves answered in
      let both = counts_plus (length rows) m (new_pairs answer) H (Newly rows H call) (λ a b old (_, off). off old) count fresh in
      (m + new_pairs answer, reported_leaves bs answer m other r, counts_same _ _ (search rules) (search (rules, held_or_not)) both))
      (λ e. (0, reported_clear bs answer (subst (λ c. Answered rows H c answer) e answered), counts_none (length rows) (After rows H call) (λ a b (x, _). subst Leaves e x)))
      (leaves_or_clears call)
    where
      held_or_not : (a b : ℕ) → H a b ⊎ (H a b → ⊥)
      held_or_not a b = decided (count.R a b) (count.sound a b, count.complete a b)

-- answers that are each right are those of a run on an open book
module _ (rows : List Row) (calls : List Call) (answers : List Answer) (long : length answers ≡ length calls)
    (each : (k : ℕ) (call : Call) (answer : Answer) → slice_get calls k ≡ Some call → slice_get answers k ≡ Some answer → Answered rows (HeldBy rows (take k calls)) call answer) where
  total : (k : ℕ) → k ≤ length calls → (m : ℕ) × Reported (take k answers) m × Counts (length rows) (HeldBy rows (take k calls)) m
  total zero low = (0, record { start = 0; begins = inl refl; last = λ i _ e. never (cc); total = refl }, counts_none (length rows) (HeldBy rows []) (λ a b h. let e = h.made in never (cc)))
  total (suc k) low =
      let (c, e) = nth_some calls k (omega arith) in
      let (x, f) = nth_some answers k (omega arith) in
      let (m, r, count) = total k (omega arith) in
      let (n, s, then) = still_counts rows (HeldBy rows (take k calls)) c x (take k answers) m (each k c x e f) r count in
      (n, rw (take_more answers k f) s, rw (take_more calls k e) (counts_same {k = n} _ _ (held_more rows (take k calls) c) (held_before rows (take k calls) c) then))

  held_after_ask : (k p q : ℕ) → slice_get calls k ≡ Some (ask p q) → InTable rows p q → HeldBy rows (take (k + 1) calls) p q
  held_after_ask k p q e i = subst (λ t. HeldBy rows t p q) (sym (rw add-one (take_more calls k e))) (held_more rows (take k calls) (ask p q) p q (tt, inl (i, on_itself)))

  asked_held : (k p q : ℕ) (v : Verdict) (new : ℕ) (answer : Answer) → slice_get calls k ≡ Some (ask p q) → slice_get answers k ≡ Some (asked (gives (v, new))) →
      slice_get calls (k + 1) ≡ Some (look_up p q) → slice_get answers (k + 1) ≡ Some answer → answer ≡ looked_up (gives (Some v))
  asked_held k p q v new answer e f g h = ⊎_elim
      (λ i. told i (each k (ask p q) _ e f) (each (k + 1) (look_up p q) answer g h))
      (λ out. let (o, is, a) = each k (ask p q) _ e f in let refused = a.outside out in never (cc))
      (in_or_out rows p q)
    where
      told : InTable rows p q → Answered rows (HeldBy rows (take k calls)) (ask p q) (asked (gives (v, new))) → Answered rows (HeldBy rows (take (k + 1) calls)) (look_up p q) answer → answer ≡ looked_up (gives (Some v))
      told i (o, is, a) (o₂, is₂, b) =
          let (w, new', gave, verdict, _) = a.inside i in
          let (w₂, gave₂, verdict₂) = b.settled i (held_after_ask k p q e i) in
          let pair : ◌≡◌ {A = Verdict × ℕ} (v, new) (w, new') = cc in
          let same : w₂ ≡ w = grind (arith, verdict₂.included, verdict.included) in
          is₂ ∙ ap looked_up gave₂ ∙ ap (λ x. looked_up (gives (Some x))) (same ∙ sym (ap (λ x. x.0) pair))

  handed_taken : (k many : ℕ) (buffer after : List ℕ) → slice_get calls k ≡ Some (hands_out buffer) → slice_get answers k ≡ Some (handed_out (gives many) after) → TakenByAll rows (HeldBy rows (take k calls)) after
  handed_taken k many buffer after e f R answer (o, is, a) =
      let (o₂, after₂, same, b) = each k (hands_out buffer) _ e f in
      let wrote : after₂ ≡ after = cc in
      ⊎_elim
      (λ long.
      let consistent = subst (Consistent rows) wrote (b.consistent long) in
      let (new, gave, _) = a.taken consistent in
      (new, (cc), λ p q i yes. (tt, inl (consistent, rw (← wrote) ((b.handed long p q).1 (i, yes))))))
      (λ other. let (refused, _) = b.other_length other in never (cc))
      (cases_eq (length buffer) (words_for (length rows)))

  counts : (k : ℕ) (answer : Answer) → slice_get calls k ≡ Some held → slice_get answers k ≡ Some answer → (m : ℕ) × Reported (take k answers) m × (answer ≡ counted (gives m))
  counts k answer e f =
      let (j, is, count) = each k held answer e f in
      let less = nth_below calls k e in
      let (m, r, these) = total k (omega arith) in
      (m, r, is ∙ ap (λ n. counted (gives n)) (counts_one (length rows) j m (HeldBy rows (take k calls)) count these))

  open_run : OpenRun rows calls answers
  open_run = record {
    long = long;
    each = each;
    held_after_ask = held_after_ask;
    asked_held = asked_held;
    handed_taken = handed_taken;
    adds_up = λ k low. let (m, r, count) = total k low in (m, r, count, counts_most (length rows) m (HeldBy rows (take k calls)) count);
    counts = counts;
  }

-- one call more
module _ (rows : List Row) (before after : Pages) (cs : List Call) (bs : List Answer) (c : Call) (x : Answer) (run : Run rows before cs bs) (met : Met rows before c x after) where
  abbrev cs' : List Call
  cs' = cs ++ (c ∷ [])

  abbrev bs' : List Answer
  bs' = bs ++ (x ∷ [])

  -- what holds at each place of the lists before holds at each place now
  at_each : (P : List Call → Call → Answer → Type 0) → length bs ≡ length cs → ((k : ℕ) (call : Call) (answer : Answer) → slice_get cs k ≡ Some call → slice_get bs k ≡ Some answer → P (take k cs) call answer) → P cs c x →
      (k : ℕ) (call : Call) (answer : Answer) → slice_get cs' k ≡ Some call → slice_get bs' k ≡ Some answer → P (take k cs') call answer
  at_each P long old here k call answer e f = ⊎_elim
      (λ (less, at). ⊎_elim (λ (_, at'). subst (λ t. P t call answer) (sym (take-append-le k cs (c ∷ []) (omega arith))) (old k call answer at at')) (λ (same, _). absurd (omega arith)) (nth_more bs x k f))
      (λ (same, is). ⊎_elim (λ (less, _). absurd (omega arith)) (λ (_, is'). rw (take_here cs c k same, ← is, ← is') here) (nth_more bs x k f))
      (nth_more cs c k e)

  longer : length bs ≡ length cs → length bs' ≡ length cs'
  longer same = omega (arith, length_more bs x, length_more cs c)

  module _ (admitted : Admitted rows) where
    opened : OpenRun rows cs' bs'
    opened =
        let old = run.law.on_open admitted in
        open_run rows cs' bs' (longer old.long) (at_each (λ t. Answered rows (HeldBy rows t)) old.long old.each (answered_same rows (HoldsIn before) (HeldBy rows cs) (run.holds admitted) c x (met.answered admitted)))

    holds_now : (a b : ℕ) → Decides (holds_in after a b) (HeldBy rows cs' a b)
    holds_now a b =
        let (known, held-now) = met.held_after admitted a b in
        let (to, from) = after_same rows (HoldsIn before) (HeldBy rows cs) (run.holds admitted) c a b in
        (λ h. held_more rows cs c a b (to (known h)), λ h. held-now (from (held_before rows cs c a b h)))

  pub run_more : Run rows after (cs ++ (c ∷ [])) (bs ++ (x ∷ []))
  run_more = record {
    law = record {
      on_open = opened;
      on_shut = λ e finds. let old = run.law.on_shut e finds in record { long = longer old.long; each = at_each (λ _. ShutAnswered e) old.long old.each (met.shut e finds) };
    };
    holds = holds_now;
  }

pub run_none : (rows : List Row) (pages : Pages) → ((a b : ℕ) → holds_in pages a b ≡ false) → Run rows pages [] []
run_none rows pages none = record {
  law = record {
    on_open = λ _. open_run rows [] [] refl (λ k call answer e f. never (cc));
    on_shut = λ e _. record { long = refl; each = λ k call answer f g. never (cc) };
  };
  holds = λ _ a b. ((λ h. absurd (both_ways _ (none a b) h)), λ h. let e = h.made in never (cc));
}

run_chain : (rows : List Row) (pages : ℕ → Pages) (cs calls : List Call) (bs answers : List Answer) → Run rows (pages 0) cs bs → Chain rows pages calls answers → Run rows (pages (length calls)) (cs ++ calls) (bs ++ answers)
run_chain rows pages cs [] bs [] run chain = rw (append-nil cs, append-nil bs) run
run_chain rows pages cs [] bs (x ∷ answers) run chain = absurd (let e = chain.long in omega arith)
run_chain rows pages cs (c ∷ calls) bs [] run chain = absurd (let e = chain.long in omega arith)
run_chain rows pages cs (c ∷ calls) bs (x ∷ answers) run chain =
    subst₂ (Run rows (pages (length (c ∷ calls)))) (append_assoc cs (c ∷ []) calls) (append_assoc bs (x ∷ []) answers)
    (run_chain rows (λ k. pages (suc k)) (cs ++ (c ∷ [])) calls (bs ++ (x ∷ [])) answers (run_more rows (pages 0) (pages 1) cs bs c x run (chain.each 0 c x refl refl))
    (record { long = let e = chain.long in omega arith; each = λ k call answer e f. let up : suc k + 1 ≡ suc (k + 1) = omega arith in rw (← up) (chain.each (suc k) call answer e f) }))

pub chains_keep_the_law : ChainsKeepTheLaw
chains_keep_the_law = record { fresh = λ rows pages calls answers none chain. run_chain rows pages [] calls [] answers (run_none rows (pages 0) none) chain; going_on = λ rows pages earlier calls. run_chain rows pages earlier calls }
