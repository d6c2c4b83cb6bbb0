-- One place more of a round, and one round more. Assumes nothing.
use Rattle.std.proofs.Common.{◌≡◌, ℕ, ◌+◌, ◌*◌, ◌<◌, ◌≤◌, Bool, true, false, cond, eqb, List, length, sym, refl, ap, ◌∙◌, subst, ⊎_elim, arith}
use Rattle.std.proofs.lemmas.Bool.{cases_eq, cases_lt, eq-eqb, ne_eqb, both_ways}
use Rattle.sets.specs.Sets.{member, tally, word}
use Rattle.sets.proofs.Membership.{member_within}
use Rattle.sets.proofs.Tallies.{tally_fewer}
use Rattle.narrowing.specs.Narrowing.{Within, Lawful, Stands, Narrowed, Round}

-- what a round has done with the places before i
pub record Going (says : (ℕ → Bool) → ℕ → Bool) (old new : List ℕ) (struck : Bool) (i : ℕ) : Type 0 where
  pub within : Within (member new) (member old)
  pub largest : (h : ℕ → Bool) → Within h (member old) → Stands says h → Within h (member new)
  pub same : struck ≡ false → new ≡ old
  pub yes : struck ≡ false → (k : ℕ) → k < i → member old k ≡ true → says (member old) k ≡ true
  pub fewer : struck ≡ true → tally (member new) (word * length old) < tally (member old) (word * length old)

module _ (says : (ℕ → Bool) → ℕ → Bool) (old : List ℕ) where
  pub going_none : Going says old old false 0
  going_none = record {
    within = λ k e. e;
    largest = λ h w s. w;
    same = λ _. refl;
    yes = λ _ k h. absurd (omega arith);
    fewer = λ e. absurd (both_ways false refl e);
  }

  module _ (new : List ℕ) (struck : Bool) (i : ℕ) (g : Going says old new struck i) where
    -- no member between: all before k are past
    yes_skip : (k : ℕ) → ((j : ℕ) → i ≤ j → j < k → member new j ≡ false) → struck ≡ false → (j : ℕ) → j < k → member old j ≡ true → says (member old) j ≡ true
    yes_skip k skip e j h t = ⊎_elim
        (λ low. g.yes e j low t)
        (λ up. absurd (both_ways (member new j) (skip j up h) (subst (λ ws. member ws j ≡ true) (sym (g.same e)) t)))
        (cases_lt j i)

    -- the next member gets a yes
    pub going_past : (k : ℕ) → ((j : ℕ) → i ≤ j → j < k → member new j ≡ false) → says (member new) k ≡ true → Going says old new struck (k + 1)
    going_past k skip said = record {
      within = g.within;
      largest = g.largest;
      same = g.same;
      yes = λ e j h t. ⊎_elim
          (λ here. subst (λ x. says (member old) x ≡ true) (sym here) (subst (λ ws. says (member ws) k ≡ true) (g.same e) said))
          (λ off. yes_skip k skip e j (omega arith) t)
          (cases_eq j k);
      fewer = g.fewer;
    }

    -- the next member gets a no, and goes
    pub going_drop : (less : List ℕ) (k : ℕ) → Lawful says → member new k ≡ true → says (member new) k ≡ false
        → ((j : ℕ) → member less j ≡ cond (eqb j k) false (member new j)) → Going says old less true (k + 1)
    going_drop less k law there denied after =
        let n = word * length old in
        let off_is : (j : ℕ) → (j ≡ k → ⊥) → member less j ≡ member new j = λ j off. after j ∙ ap (λ b. cond b false (member new j)) (ne_eqb j k off) in
        let gone : member less k ≡ false = after k ∙ ap (λ b. cond b false (member new k)) (eq-eqb k k refl) in
        let sub : Within (member less) (member new) = λ j e. ⊎_elim
        (λ here. absurd (both_ways (member less j) (subst (λ x. member less x ≡ false) (sym here) gone) e))
        (λ off. sym (off_is j off) ∙ e)
        (cases_eq j k) in
        let inside = (member_within old k (g.within k there)).0 in
        let one : tally (member less) n < tally (member old) n = tally_fewer (member less) (member old) (λ j e. g.within j (sub j e)) k n inside (g.within k there) gone in
        record {
          within = λ j e. g.within j (sub j e);
          largest = λ h w s j e.
              let all = g.largest h w s in
              ⊎_elim
              (λ here. absurd (both_ways (says (member new) k) denied (law h (member new) all k (subst (λ x. says h x ≡ true) here (s j e)))))
              (λ off. off_is j off ∙ all j e)
              (cases_eq j k);
          same = λ e. absurd (both_ways true e refl);
          yes = λ e. absurd (both_ways true e refl);
          fewer = λ _. one;
        }

    -- no member is left
    pub going_all : ((j : ℕ) → i ≤ j → member new j ≡ false) → Round says old new struck
    going_all none = record {
      within = g.within;
      largest = g.largest;
      clean = λ e. subst (λ ws. Stands says (member ws)) (sym (g.same e)) (λ k t. yes_skip (k + 1) (λ j up h. none j up) e k (omega arith) t);
      fewer = g.fewer;
    }

-- rounds in a row
pub record Narrowing (says : (ℕ → Bool) → ℕ → Bool) (start f : ℕ → Bool) : Type 0 where
  pub within : Within f start
  pub largest : (h : ℕ → Bool) → Within h start → Stands says h → Within h f

module _ (says : (ℕ → Bool) → ℕ → Bool) (start : ℕ → Bool) (old new : List ℕ) (struck : Bool) (p : Narrowing says start (member old)) (r : Round says old new struck) where
  pub narrowing_more : Narrowing says start (member new)
  narrowing_more = record {
    within = λ k e. p.within k (r.within k e);
    largest = λ h w s. r.largest h (p.largest h w s) s;
  }

  pub narrowed : struck ≡ false → Narrowed says start (member new)
  narrowed e = record { within = narrowing_more.within; stands = r.clean e; largest = narrowing_more.largest }
