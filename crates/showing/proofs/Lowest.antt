-- The lowest label of a set, which is a set of one word. Assumes nothing.
use Rattle.std.proofs.Common.{◌≡◌, ℕ, ◌^◌, ◌<◌, true, eqb, [], ◌∷◌, Some, None, Option, sym, ap, ◌∙◌, subst, ⊎_elim, arith}
use lib.Count.{count_trailing_zeros}
use Rattle.std.proofs.lemmas.Bool.{both_ways, cases_Bool, cases_lt, cases_order, cond-true, cond-false, eqb-true, eqb-false}
use Rattle.sets.specs.Sets.{bit, member, Next}
use Rattle.sets.proofs.Lowest.{bit_zero, at_trailing, below_trailing}
use Rattle.sets.proofs.Membership.{member_at, member_past}
use Rattle.forms.specs.Limits.{label_count}
use Rattle.showing.specs.Drafts.{lowest}

module _ (labels : ℕ) (small : labels < 2 ^ label_count) where
  in_word : (k : ℕ) → k < label_count → member (labels ∷ []) k ≡ bit labels k
  in_word k low = member_at (labels ∷ []) 0 k k low (omega arith) (omega arith)

  abbrev first : ℕ
  first = count_trailing_zeros label_count labels

  pub next_below : (k : ℕ) → member (labels ∷ []) k ≡ true → k < label_count
  next_below k on = ⊎_elim (λ low. low) (λ past. absurd (both_ways _ (member_past (labels ∷ []) k past) on)) (cases_lt k label_count)

  -- the next member from 0 on is the lowest label
  pub next_lowest : (r : Option ℕ) → Next (member (labels ∷ [])) 0 r → r ≡ lowest labels
  next_lowest None none = ⊎_elim
      (λ zero. sym (cond-true (eqb labels 0) None (Some first) zero))
      (λ some. let (low, set) = at_trailing label_count labels small (eqb-false labels 0 some) in absurd (both_ways _ (none first (omega arith)) (in_word first low ∙ set)))
      (cases_Bool (eqb labels 0))
  next_lowest (Some k) (_, on, before) =
      let set = sym (in_word k (next_below k on)) ∙ on in
      ⊎_elim
      (λ zero. absurd (both_ways (bit 0 k) (bit_zero k) (subst (λ w. bit w k ≡ true) (eqb-true labels 0 zero) set)))
      (λ some.
      let (low, there) = at_trailing label_count labels small (eqb-false labels 0 some) in
      let same : k ≡ first = ⊎_elim (λ e. e)
      (⊎_elim (λ less. absurd (both_ways _ (below_trailing label_count labels k less) set)) (λ more. absurd (both_ways _ (before first (omega arith) more) (in_word first low ∙ there))))
      (cases_order k first) in
      ap (λ x. Some x) same ∙ sym (cond-false (eqb labels 0) None (Some first) some))
      (cases_Bool (eqb labels 0))
