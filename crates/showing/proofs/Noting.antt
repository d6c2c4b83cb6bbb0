-- Noting a node at a place. Assumes nothing.
use Rattle.std.proofs.Common.{◌≡◌, ℕ, ◌<◌, Bool, true, false, ◌≢◌, ◌⊎◌, List, length, set, replicate, is_some, Some, None, Option, sym, refl, ap, ◌∙◌, subst, inl, inr, ⊎_elim, arith}
use lib.ListN.{get_or-replicate, length-replicate}
use Rattle.std.proofs.lemmas.List.{get_or-set_same, get_or-set_other, get_or_past}
use Rattle.std.proofs.lemmas.Bool.{both_ways, cases_eq, cases_lt}
use Rattle.sets.specs.Sets.{tally}
use Rattle.sets.proofs.Tallies.{tally_fewer, tally_le}
use Rattle.showing.specs.Drafts.{is_noted, noted}

pub is_noted_none : (numbers : List (Option ℕ)) (k : ℕ) → noted numbers k ≡ None → is_noted numbers k ≡ false
is_noted_none numbers k e = ap is_some e

pub not_some : (o : Option ℕ) (b : Bool) → b ≡ is_some o → b ≡ false → o ≡ None
not_some None b e off = refl
not_some (Some m) b e off = absurd (both_ways b off e)

pub noted_not : (numbers : List (Option ℕ)) (k : ℕ) → is_noted numbers k ≡ false → noted numbers k ≡ None
noted_not numbers k off = not_some (noted numbers k) (is_noted numbers k) refl off

pub noted_or_not : (numbers : List (Option ℕ)) (k : ℕ) → ((m : ℕ) × (noted numbers k ≡ Some m)) ⊎ (noted numbers k ≡ None)
noted_or_not numbers k = go (noted numbers k)
  where
    go : (o : Option ℕ) → ((m : ℕ) × (o ≡ Some m)) ⊎ (o ≡ None)
    go None = inr refl
    go (Some m) = inl (m, refl)

-- at first nothing is noted
pub nothing_noted : (N k : ℕ) → noted (replicate N None) k ≡ None
nothing_noted N k = ⊎_elim
    (get_or-replicate N k None None)
    (λ high. get_or_past (replicate N None) k None (omega (arith, length-replicate {A = Option ℕ} N None)))
    (cases_lt k N)

module _ (numbers : List (Option ℕ)) (k m : ℕ) (low : k < length numbers) where
  pub noted_here : noted (set numbers k (Some m)) k ≡ Some m
  noted_here = get_or-set_same numbers k (Some m) None low

  is_noted_here : is_noted (set numbers k (Some m)) k ≡ true
  is_noted_here = ap is_some noted_here

  pub noted_there : (j : ℕ) → j ≢ k → noted (set numbers k (Some m)) j ≡ noted numbers j
  noted_there j other = get_or-set_other numbers k j (Some m) None other

  still_noted : (j : ℕ) → is_noted numbers j ≡ true → is_noted (set numbers k (Some m)) j ≡ true
  still_noted j on = ⊎_elim (λ same. subst (λ x. is_noted (set numbers k (Some m)) x ≡ true) (sym same) is_noted_here) (λ other. ap is_some (noted_there j other) ∙ on) (cases_eq j k)

  -- one more is noted
  pub noted_more : (N : ℕ) → k < N → noted numbers k ≡ None → tally (is_noted numbers) N < tally (is_noted (set numbers k (Some m))) N
  noted_more N h none = tally_fewer (is_noted numbers) (is_noted (set numbers k (Some m))) still_noted k N h is_noted_here (is_noted_none numbers k none)

-- where one place has no node, fewer are noted than there are places
pub noted_fewer : (numbers : List (Option ℕ)) (k N : ℕ) → k < N → noted numbers k ≡ None → tally (is_noted numbers) N < N
noted_fewer numbers k N h none =
    let less = tally_fewer (is_noted numbers) (λ _. true) (λ _ _. refl) k N h refl (is_noted_none numbers k none) in
    omega (arith, tally_le (λ _. true) N)
