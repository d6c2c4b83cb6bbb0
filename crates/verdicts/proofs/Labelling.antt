-- The labels of the rows in a set, gathered one row after another. Assumes nothing.
use Rattle.std.proofs.Common.{◌≡◌, ℕ, ◌+◌, ◌<◌, Bool, true, List, get_or, sym, ap, ◌∙◌, subst, ⊎_elim, arith, ◌≤◌, zero, suc}
use lib.Bits.{bit_or}
use Rattle.std.specs.List.{slice_get}
use Rattle.std.proofs.lemmas.Bool.{both_ways, or_cases, or_left, or_right, cases_eq}
use Rattle.std.specs.Array.{IsFromFnResult, IsFromFnResultFrom}
use Rattle.std.specs.Fn.{Called}
use denote.Param.Members.{Mut}
use Rattle.sets.specs.Sets.{bit}
use Rattle.sets.proofs.Words.{bit_of_or}
use Rattle.sets.proofs.Lowest.{bit_zero}
use Rattle.forms.specs.Rows.{belongs}
use Rattle.forms.specs.declared.Row.{Row}
use Rattle.verdicts.specs.Ready.{labels_in, Labelling}
use Rattle.verdicts.proofs.Walks.{Found, Missing, walk_split, walk_end}

module _ (rows : List Row) (f : ℕ → Bool) where
  abbrev Has : ℕ → ℕ → Type 0
  Has x e = (f e ≡ true) × (belongs x (labels_in (slice_get rows e)) ≡ true)

  -- the labels of the members before the place
  pub record Labels (labels from : ℕ) : Type 0 where
    pub has : (x e : ℕ) → e < from → Has x e → belongs x labels ≡ true
    pub some : (x : ℕ) → belongs x labels ≡ true → (e : ℕ) × Has x e

  pub labels_none : Labels 0 0
  labels_none = record { has = λ x e h. absurd (omega arith); some = λ x m. absurd (both_ways (bit 0 x) (bit_zero x) m) }

  pub labels_more : (labels from o more : ℕ) → Found f from o → Labels labels from → more ≡ labels_in (slice_get rows o) → Labels (bit_or labels more) (o + 1)
  labels_more labels from o more found l e = record {
    has = λ x k h (m, b). bit_of_or labels more x ∙ ⊎_elim
        (λ less. or_left (bit labels x) (bit more x) (l.has x k less (m, b)))
        (λ same. or_right (bit labels x) (bit more x) (subst (λ y. belongs x y ≡ true) (ap (λ j. labels_in (slice_get rows j)) same ∙ sym e) b))
        (walk_split f from o found k h m);
    some = λ x b. ⊎_elim
        (l.some x)
        (λ here. (o, (found.1, subst (λ y. belongs x y ≡ true) e here)))
        (or_cases (bit labels x) (bit more x) (sym (bit_of_or labels more x) ∙ b));
  }

  pub labels_all : (labels from : ℕ) → Missing f from → Labels labels from → Labelling rows f labels
  labels_all labels from none l x = (λ b. let (e, h) = l.some x b in (e, h.0, h.1), λ (e, m, h). l.has x e (walk_end f from none e m) (m, h))

-- an array of what a function gives for each place
made_from : {F B : Type 0} {g : Mut F (ℕ × Unit {0}) B} (P : ℕ → B → Type 0) {f : F} (ys : List B) (i n : ℕ) → IsFromFnResultFrom g f ys i n → ((x : ℕ) (y : B) (q : F) → Called g f (x, tt) y q → (q ≡ f) × P x y)
    → (d : B) (k : ℕ) → i ≤ k → k < i + n → P k (get_or ys k d)
made_from P ys i zero made each d k from to = absurd (omega arith)
made_from {g = g} P ys i (suc n) (q, y, at, call, rest) each d k from to =
    let (same, here) = each i y q call in
    ⊎_elim
    (λ is. subst (λ j. P j (get_or ys j d)) (sym is) (subst (P i) (sym (at.1 d)) here))
    (λ other. made_from P ys (i + 1) n (subst (λ f. IsFromFnResultFrom g f ys (i + 1) n) same rest) each d k (omega arith) (omega arith))
    (cases_eq k i)

pub made_of : {F B : Type 0} {g : Mut F (ℕ × Unit {0}) B} (P : ℕ → B → Type 0) {f : F} {ys : List B} {n : ℕ} → IsFromFnResult g f ys n → ((x : ℕ) (y : B) (q : F) → Called g f (x, tt) y q → (q ≡ f) × P x y)
    → (d : B) (k : ℕ) → k < n → P k (get_or ys k d)
made_of P {ys = ys} {n = n} made each d k low = made_from P ys 0 n made.each each d k (omega arith) (omega arith)
