-- Noting what is pending, step by step. Assumes nothing.
use Rattle.std.proofs.Common.{get_or, Option, Some, None, ◌≡◌, ℕ, ◌+◌, ◌*◌, ◌<◌, ◌≤◌, Bool, true, false, ◌⊎◌, List, ap, ◌∙◌, subst, inl, inr, ⊎_elim, arith}
use Rattle.std.proofs.lemmas.Bool.{both_ways}
use Rattle.forms.specs.Limits.{max_rows}
use Rattle.forms.specs.declared.Row.{Row}
use Rattle.sets.specs.Sets.{member}
use Rattle.verdicts.specs.Naming.{NamedAmong, Pended}
use Rattle.verdicts.specs.Pairs.{place_of}
use Rattle.verdicts.specs.Ready.{in_row}
use Rattle.verdicts.specs.Tables.{rows_in}
use Rattle.verdicts.specs.Walking.{Notes, MetBy}
use Rattle.verdicts.specs.declared.prepared.Prepared.{Prepared}
use Rattle.verdicts.specs.declared.prepared.leaning.Met.{Met}
use Rattle.verdicts.specs.declared.prepared.leaning.Walk.{Walk}
use Rattle.verdicts.proofs.Naming.{NamedFor, named_is, is_named}
use Rattle.verdicts.proofs.Walks.{in_row_below, Found, walk_split}

pub pended_then : {P Q : ℕ → Type 0} {done old mid new : List ℕ} → Pended P done old mid → Pended Q done mid new → Pended (λ k. P k ⊎ Q k) done old new
pended_then one two = record {
  more = λ k m. two.more k (one.more k m);
  from = λ k m. ⊎_elim (λ before. ⊎_elim inl (λ (p, off). inr (inl p, off)) (one.from k before)) (λ (q, off). inr (inr q, off)) (two.from k m);
  has = λ k pq. ⊎_elim (λ p. ⊎_elim inl (λ m. inr (two.more k m)) (one.has k p)) (two.has k) pq;
}

pub pended_same : {P Q : ℕ → Type 0} {done old new : List ℕ} → ((k : ℕ) → P k → Q k) → ((k : ℕ) → Q k → P k) → Pended P done old new → Pended Q done old new
pended_same to back pended = record {
  more = pended.more;
  from = λ k m. ⊎_elim inl (λ (p, off). inr (to k p, off)) (pended.from k m);
  has = λ k q. pended.has k (back k q);
}

-- the same of a walk
pub notes_then : {P Q : ℕ → Type 0} {old mid new : Walk} → Notes P old mid → Notes Q mid new → Notes (λ k. P k ⊎ Q k) old new
notes_then {Q = Q} {mid = mid} {new = new} one two = record {
  done = two.done ∙ one.done;
  pended = pended_then one.pended (subst (λ d. Pended Q d mid.pending new.pending) one.done two.pended);
}

pub notes_same : {P Q : ℕ → Type 0} {old new : Walk} → ((k : ℕ) → P k → Q k) → ((k : ℕ) → Q k → P k) → Notes P old new → Notes Q old new
notes_same to back notes = record { done = notes.done; pended = pended_same to back notes.pended }

-- going through a set: what was named for the members before the place is noted
module _ (f : ℕ → Bool) (N : ℕ → ℕ → Type 0) where
  abbrev pub Before : ℕ → ℕ → Type 0
  Before from k = (o : ℕ) × (o < from) × (f o ≡ true) × N o k

  pub noting_more : (old mid new : Walk) (from o : ℕ) → Found f from o → Notes (Before from) old mid → Notes (N o) mid new → Notes (Before (o + 1)) old new
  noting_more old mid new from o found before notes = notes_same
      (λ k. ⊎_elim (λ (e, less, m, named). let (le, _, _) = found in (e, up e less le, m, named)) (λ named. (o, omega arith, found.1, named)))
      (λ k (e, less, m, named). ⊎_elim (λ was. inl (e, was, m, named)) (λ here. inr (subst (λ j. N j k) here named)) (walk_split f from o found e less m))
      (notes_then before notes)
    where
      up : (e : ℕ) → e < from → from ≤ o → e < o + 1
      up e a b = omega arith

-- the places of the first i of some pairs
abbrev pub NotedOf : ℕ → List (Option (ℕ × ℕ)) → ℕ → ℕ → Type 0
NotedOf n pairs i k = (j : ℕ) × (j < i) × (place_of n (get_or pairs j None) ≡ Some k)

module _ (rows : List Row) (met : Met) where
  pub none_met : (walk : Walk) → ((k : ℕ) → member met.met k ≡ false) → MetBy rows met walk
  none_met walk none c q k on named = let (_, there) = in_row_below met.met c q on in absurd (both_ways _ (none (c * max_rows + q)) there)

  -- what is noted stays so while more is
  pub met_still : {P : ℕ → Type 0} {old new : Walk} → Notes P old new → MetBy rows met old → MetBy rows met new
  met_still notes noted c q k on named = ⊎_elim (λ d. inl (ap (λ ws. member ws k) notes.done ∙ d)) (λ m. inr (notes.pended.more k m)) (noted c q k on named)

-- the pairs that are named for a pair: those of its channel rows, and those of its element rows
pub pair_named : (t : Prepared) (pair : ℕ × ℕ) (links parts : Met) → links.cells.now ≡ t.channels → parts.cells.now ≡ t.elements → {old mid new : Walk}
    → Notes (NamedAmong (rows_in t) (in_row links.cells.now pair.0) (in_row links.cells.now pair.1)) old mid
    → Notes (NamedAmong (rows_in t) (in_row parts.cells.now pair.0) (in_row parts.cells.now pair.1)) mid new
    → Notes (NamedFor (rows_in t) pair.0 pair.1) old new
pair_named t pair links parts channels elements {old} {mid} {new} one two = notes_same (is_named t pair.0 pair.1) (named_is t pair.0 pair.1)
    (notes_then
    (subst (λ cells. Notes (NamedAmong (rows_in t) (in_row cells pair.0) (in_row cells pair.1)) old mid) channels one)
    (subst (λ cells. Notes (NamedAmong (rows_in t) (in_row cells pair.0) (in_row cells pair.1)) mid new) elements two))
