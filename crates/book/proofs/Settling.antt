-- What is kept stays so when pairs are added: all that some pairs lean on, or a relation whose pairs keep the rules within it. Assumes nothing.
use Rattle.std.proofs.Common.{rules, ◌≡◌, ℕ, ◌+◌, ◌*◌, ◌<◌, ◌≤◌, true, false, not, ◌&&◌, ◌||◌, ltb, List, length, Decides, ⊎_elim, ◌/◌, ◌%◌, ◌⊎◌, sym, ap, ◌∙◌, subst, inl, inr, arith}
use Rattle.sets.specs.Sets.{member, tally, word}
use Rattle.forms.specs.Limits.{max_rows}
use Rattle.forms.specs.declared.Row.{Row}
use Rattle.schema.specs.Rules.{Closed, Below, Leans, Relation}
use Rattle.schema.specs.Rules.Leans.{on_itself, on_named}
use Rattle.schema.specs.Theorems.{Part, Confined}
use Rattle.schema.proofs.Order.{keeps_more}
use Rattle.verdicts.specs.Pairs.{related, Leaned}
use Rattle.verdicts.proofs.Deciding.{between_parts, between_from}
use Rattle.book.specs.Keeping.{PairSet, Kept, Grew}
use Rattle.book.proofs.Counting.{counts_same, counts_none, count_places}
use Rattle.std.proofs.lemmas.Nat.{mul-add-lt, div_below, mod_below, div-add-mod', mul-le}
use Rattle.std.proofs.lemmas.Bool.{both_ways, and_parts, and_from, and_left, and_right, or_cases, or_left, or_right, or_from, lt-ltb, not-true, not_from_false, cases_Bool}
use Rattle.std.proofs.lemmas.Bool.Decides.{same_from_decides}
use Rattle.schema.specs.Worked.{Counts}

-- at the pair of a place a set of pairs has what it has at the place
pub related_at : (n : ℕ) (words : List ℕ) (k : ℕ) → 0 < n → k < n * n → related n words (k / n) (k % n) ≡ member words k
related_at n words k some low = same_from_decides _ _
    (λ h. subst (λ x. member words x ≡ true) (div-add-mod' k n) (between_parts n (member words) (k / n) (k % n) h).2, λ h. between_from n (member words) (k / n) (k % n) (div_below k n n some low) (mod_below k n some) (subst (λ x. member words x ≡ true) (sym (div-add-mod' k n)) h))
    ((λ h. h), (λ h. h))

-- how many pairs a set has
pub set_counts : (n : ℕ) → 0 < n → n ≤ max_rows → (words : List ℕ) → PairSet n words → (r : ℕ) → r ≡ tally (member words) (word * length words) → Counts n (λ a b. related n words a b ≡ true) r
set_counts n some few words set r e = record {
  R = related n words;
  sound = λ a b h. h;
  complete = λ a b h. h;
  many = e ∙ count_places n (member words) (related n words) (word * length words) (let r = set.room in let m = mul-le n n max_rows max_rows few few in omega arith) (λ k low. related_at n words k some low) set.clear;
}

-- the set is joined with another
abbrev pub Joined : List ℕ → List ℕ → List ℕ → Type 0
Joined old new others = (j : ℕ) → member new j ≡ (member old j || (ltb j (word * length old) && member others j))

abbrev pub Clear : ℕ → List ℕ → Type 0
Clear n words = (k : ℕ) → n * n ≤ k → member words k ≡ false

-- the pairs that it has then, and how many are new
module _ (n : ℕ) (some : 0 < n) (few : n ≤ max_rows) (old new others : List ℕ) (set : PairSet n old) (clear : Clear n others) (members : Joined old new others) where
  within : (k : ℕ) → k < n * n → k < word * length old
  within k h = let r = set.room in let m = mul-le n n max_rows max_rows few few in omega arith

  pub joined_old : Part (related n old) (related n new)
  joined_old a b h = let (a<, b<, on) = between_parts n (member old) a b h in between_from n (member new) a b a< b< (members (a * n + b) ∙ or_left _ _ on)

  pub joined_other : Part (related n others) (related n new)
  joined_other a b h =
      let (a<, b<, on) = between_parts n (member others) a b h in
      between_from n (member new) a b a< b< (members (a * n + b) ∙ or_right (member old (a * n + b)) _ (and_from _ _ (lt-ltb _ _ (within (a * n + b) (mul-add-lt a n b n a< b<))) on))

  pub joined_from : (a b : ℕ) → related n new a b ≡ true → (related n others a b ≡ true) ⊎ (related n old a b ≡ true)
  joined_from a b h =
      let (a<, b<, on) = between_parts n (member new) a b h in
      ⊎_elim
      (λ before. inr (between_from n (member old) a b a< b< before))
      (λ more. inl (between_from n (member others) a b a< b< (and_parts (ltb (a * n + b) (word * length old)) (member others (a * n + b)) more).1))
      (or_cases (member old (a * n + b)) _ (sym (members (a * n + b)) ∙ on))

  pub joined_set : length new ≡ length old → PairSet n new
  joined_set same = record {
    room = let r = set.room in omega arith;
    clear = λ k h. members k ∙ or_from _ _ (set.clear k h) (and_right (ltb k (word * length old)) (member others k) (clear k h));
  }

  abbrev fresh : Relation
  fresh a b = related n others a b && not (related n old a b)

  pub joined_count : (r : ℕ) → r ≡ tally (λ j. member others j && not (member old j)) (word * length old) → Counts n (λ a b. (related n others a b ≡ true) × (related n old a b ≡ true → ⊥)) r
  joined_count r e = record {
    R = fresh;
    sound = λ a b h. let (on, off) = and_parts (related n others a b) (not (related n old a b)) h in (on, both_ways _ (not-true _ off));
    complete = λ a b (on, off). and_from _ _ on (⊎_elim (λ h. absurd (off h)) (not_from_false _) (cases_Bool (related n old a b)));
    many = e ∙ count_places n (λ j. member others j && not (member old j)) fresh (word * length old)
        (omega (arith, set.room, mul-le n n max_rows max_rows few few))
        (λ k low. ap (λ x. x && not (related n old (k / n) (k % n))) (related_at n others k some low) ∙ ap (λ x. member others k && not x) (related_at n old k some low))
        (λ k h. and_left (member others k) (not (member old k)) (clear k h));
  }

module _ (rows : List Row) (some : 0 < length rows) (few : length rows ≤ max_rows) where
  abbrev n : ℕ
  n = length rows

  -- pairs that are added, in words of their own
  pub grew : (A : ℕ → ℕ → Type 0) (old new others : List ℕ) → PairSet (length rows) old → Clear (length rows) others → Joined old new others →
      ((a b : ℕ) → Decides (related (length rows) others a b) (A a b)) → (r : ℕ) → r ≡ tally (λ j. member others j && not (member old j)) (word * length old) → Grew rows A old new r
  grew A old new others set clear members tells r e = record {
    holds = search (rules, tells, joined_from n some few old new others set clear members, joined_other n some few old new others set clear members, joined_old n some few old new others set clear members) depth 9;
    count = counts_same _ _ (search (rules, tells)) (search (rules, tells)) (joined_count n some few old new others set clear members r e);
  }

  -- two relations whose pairs keep the rules within them, as one
  closed_both : (old new others : List ℕ) → PairSet n old → Clear n others → Joined old new others → Closed rows (related n old) → Closed rows (related n others) → Closed rows (related n new)
  closed_both old new others set clear members one two a b h = ⊎_elim
      (λ on. keeps_more (joined_other n some few old new others set clear members) (two a b on))
      (λ on. keeps_more (joined_old n some few old new others set clear members) (one a b on))
      (joined_from n some few old new others set clear members a b h)

  -- pairs are added to those held, and of them those that are below to those that are yes
  module _ (held yes settled held' yes' more below : List ℕ) (kept : Kept rows held yes settled)
      (more-clear : Clear (length rows) more) (below-clear : Clear (length rows) below)
      (to_held : Joined held held' more) (to-yes : Joined yes yes' below) (held-long : length held' ≡ length held) (yes-long : length yes' ≡ length yes)
      (part : Part (related (length rows) below) (related (length rows) more)) (closed : Closed rows (related (length rows) below))
      (tells : (a b : ℕ) → related (length rows) more a b ≡ true → Below rows a b → related (length rows) below a b ≡ true) where
    held_more : Part (related n more) (related n held')
    held_more = joined_other n some few held held' more kept.held_set more-clear to_held

    held_old : Part (related n held) (related n held')
    held_old = joined_old n some few held held' more kept.held_set more-clear to_held

    all_closed : Closed rows (related n yes')
    all_closed = closed_both yes yes' below kept.yes_set below-clear to-yes kept.closed closed

    module _ (settled' : List ℕ) (set : PairSet (length rows) settled') (settled_held : Part (related (length rows) settled') (related (length rows) held')) (confined : Confined rows (related (length rows) settled')) where
      pub kept_added : Kept rows held' yes' settled'
      kept_added = record {
        held_set = joined_set n some few held held' more kept.held_set more-clear to_held held-long;
        yes_set = joined_set n some few yes yes' below kept.yes_set below-clear to-yes yes-long;
        settled_set = set;
        yes_held = λ a b h. ⊎_elim (λ on. held_more a b (part a b on)) (λ on. held_old a b (kept.yes_held a b on)) (joined_from n some few yes yes' below kept.yes_set below-clear to-yes a b h);
        tells = λ a b h. (
          λ on. (related n yes', all_closed, on),
          λ is_below. ⊎_elim
              (λ on. joined_other n some few yes yes' below kept.yes_set below-clear to-yes a b (tells a b on is_below))
              (λ on. joined_old n some few yes yes' below kept.yes_set below-clear to-yes a b ((kept.tells a b on).1 is_below))
              (joined_from n some few held held' more kept.held_set more-clear to_held a b h),
        );
        closed = all_closed;
        settled_held = settled_held;
        confined = confined;
      }

    -- nothing more is settled
    pub kept_offered : Kept rows held' yes' settled
    kept_offered = kept_added settled kept.settled_set (λ a b h. held_old a b (kept.settled_held a b h)) kept.confined

    -- what is added is settled
    pub kept_settled : (settled' : List ℕ) → Joined settled settled' more → length settled' ≡ length settled → Confined rows (related (length rows) more) → Kept rows held' yes' settled'
    kept_settled settled' to-settled long confined = kept_added settled'
        (joined_set n some few settled settled' more kept.settled_set more-clear to-settled long)
        (λ a b h. ⊎_elim (held_more a b) (λ on. held_old a b (kept.settled_held a b on)) (joined_from n some few settled settled' more kept.settled_set more-clear to-settled a b h))
        (λ a b c d h named. ⊎_elim
        (λ on. joined_other n some few settled settled' more kept.settled_set more-clear to-settled c d (confined a b c d on named))
        (λ on. joined_old n some few settled settled' more kept.settled_set more-clear to-settled c d (kept.confined a b c d on named))
        (joined_from n some few settled settled' more kept.settled_set more-clear to-settled a b h))

-- the same pairs in other words
pub grew_same : (rows : List Row) (A B : ℕ → ℕ → Type 0) (old new : List ℕ) (r : ℕ) → ((a b : ℕ) → A a b → B a b) → ((a b : ℕ) → B a b → A a b) → Grew rows A old new r → Grew rows B old new r
grew_same rows A B old new r to from g = search (rules, counts_same, to, from, g.holds, g.count) depth 9

-- pairs that are held already
pub grew_nothing : (rows : List Row) (A : ℕ → ℕ → Type 0) (held : List ℕ) → ((a b : ℕ) → A a b → related (length rows) held a b ≡ true) → Grew rows A held held 0
grew_nothing rows A held there = search (rules, counts_none, there) depth 9

-- a pair that is settled leans on nothing that is not held
module _ (rows : List Row) (held yes settled : List ℕ) (kept : Kept rows held yes settled) where
  settled_leans : {p q a b : ℕ} → Leans rows p q a b → related (length rows) settled p q ≡ true → related (length rows) settled a b ≡ true
  settled_leans on_itself h = h
  settled_leans (on_named named leans) h = settled_leans leans (kept.confined _ _ _ _ h named)

  pub grew_none : (p q : ℕ) → related (length rows) settled p q ≡ true → Grew rows (Leans rows p q) held held 0
  grew_none p q on = grew_nothing rows (Leans rows p q) held (λ a b leans. kept.settled_held a b (settled_leans leans on))

  pub grew_none_all : (pairs : List ℕ) → ((k : ℕ) → member pairs k ≡ true → member settled k ≡ true) → Grew rows (Leaned rows pairs) held held 0
  grew_none_all pairs within = grew_nothing rows (Leaned rows pairs) held
      (λ a b (p, q, from, leans). let (p<, q<, on) = between_parts (length rows) (member pairs) p q from in kept.settled_held a b (settled_leans leans (between_from (length rows) (member settled) p q p< q< (within (p * length rows + q) on))))
