-- The rows that nodes refer to, and the pairs that they are the first of. Assumes nothing.
use Rattle.std.proofs.Common.{◌≡◌, ℕ, ◌+◌, ◌*◌, ◌/◌, ◌%◌, ◌<◌, ◌≤◌, true, false, ◌||◌, eqb, ◌≢◌, ◌⊎◌, List, length, get_or, replicate, Some, Decides, sym, ap, ◌∙◌, subst, inl, inr, ⊎_elim, arith}
use Rattle.std.specs.List.{slice_get}
use Rattle.std.proofs.lemmas.Nat.{mul-add-lt}
use Rattle.std.proofs.lemmas.Option.{slice_get-get_or, get_or_from_slice_get}
use Rattle.std.proofs.lemmas.Bool.{both_ways, cases_Bool, cases_eq, cases_lt, eq-eqb, eqb-true, or_cases, or_left, or_right}
use Rattle.sets.specs.Sets.{member, word, top}
use Rattle.forms.specs.Limits.{max_rows}
use Rattle.forms.specs.Schema.{IsChannel}
use Rattle.forms.specs.declared.Row.{Row}
use Rattle.forms.proofs.Findings.{nth_below}
use Rattle.documents.specs.declared.nodes.Node.{Node}
use Rattle.documents.specs.declared.nodes.Node.TheVariants.{Void, Reference}
use Rattle.sets.proofs.Membership.{zeros_none}
use Rattle.schema.proofs.Offered.{at_below}
use Rattle.verdicts.specs.Pairs.{related}
use Rattle.verdicts.proofs.Deciding.{between_parts, between_from, place_div, place_mod}
use Rattle.fitting.specs.Marks.{Referred}

-- the row that the node refers to is added
abbrev pub Refers : List ℕ → List ℕ → Node → Type 0
Refers old new node = (a : ℕ) → a < max_rows → Decides (member new a) ((member old a ≡ true) ⊎ (node ≡ Reference a))

pub refers_row : (old new : List ℕ) (node : Node) (row : ℕ) → word * length old ≡ max_rows → node ≡ Reference row
    → (row < word * length old → row < top → (j : ℕ) → member new j ≡ (eqb j row || member old j)) → ((word * length old ≤ row) ⊎ (top ≤ row) → new ≡ old) → Refers old new node
refers_row old new node row room is within past a low =
    ⊎_elim (λ h. inside (within (omega arith) (omega arith) a)) (λ h. outside (past (inl (omega arith))) (λ e. omega arith)) (cases_lt row max_rows)
  where
    same : node ≡ Reference a → a ≡ row
    same e = cc

    inside : member new a ≡ (eqb a row || member old a) → Decides (member new a) ((member old a ≡ true) ⊎ (node ≡ Reference a))
    inside put = (
      λ m. ⊎_elim (λ e. let r = eqb-true a row e in inr (is ∙ ap Reference (sym r))) inl (or_cases (eqb a row) (member old a) (sym put ∙ m)),
      λ h. put ∙ ⊎_elim (or_right (eqb a row) (member old a)) (λ e. or_left (eqb a row) (member old a) (eq-eqb a row (same e))) h,
    )

    outside : new ≡ old → a ≢ row → Decides (member new a) ((member old a ≡ true) ⊎ (node ≡ Reference a))
    outside kept other = (λ m. inl (ap (λ ws. member ws a) (sym kept) ∙ m), ⊎_elim (λ m. ap (λ ws. member ws a) kept ∙ m) (λ e. absurd (other (same e))))

pub refers_none : (old : List ℕ) (node : Node) → ((x : ℕ) → node ≡ Reference x → ⊥) → Refers old old node
refers_none old node none a low = (inl, ⊎_elim (λ m. m) (λ e. absurd (none a e)))

module _ (nodes : List Node) where
  -- the rows that the nodes before i refer to
  pub record Gone (rows : List ℕ) (i : ℕ) : Type 0 where
    pub has : (a : ℕ) → a < max_rows → Decides (member rows a) ((j : ℕ) × (j < i) × (slice_get nodes j ≡ Some (Reference a)))

  pub gone_none : (n : ℕ) → Gone (replicate n 0) 0
  gone_none n = record {
    has = λ a low. (λ m. absurd (both_ways (member (replicate n 0) a) (zeros_none n a) m), λ (j, less, _). absurd (omega arith));
  }

  pub gone_more : (rows new : List ℕ) (i : ℕ) → i < length nodes → Gone rows i → Refers rows new (get_or nodes i Void) → Gone new (i + 1)
  gone_more rows new i lt g more = record {
    has = λ a low. let (there, back) = more a low in (
      λ m. ⊎_elim
          (λ old. let (j, less, e) = (g.has a low).0 old in (j, omega arith, e))
          (λ here. (i, omega arith, slice_get-get_or nodes i Void lt ∙ ap Some here))
          (there m),
      λ (j, less, e). back (⊎_elim
          (λ is. inr (get_or_from_slice_get nodes i (Reference a) Void (subst (λ x. slice_get nodes x ≡ Some (Reference a)) is e)))
          (λ other. inl ((g.has a low).1 (j, omega arith, e)))
          (cases_eq j i)),
    );
  }

  pub gone_all : (rows : List ℕ) (i : ℕ) → length nodes ≤ i → Gone rows i → (a : ℕ) → a < max_rows → Decides (member rows a) (Referred nodes a)
  gone_all rows i all g a low = (λ m. let (j, _, e) = (g.has a low).0 m in (j, e), λ (j, e). (g.has a low).1 (j, omega (arith, nth_below nodes j e), e))

-- the place is that of a pair of n rows, of which the first is in the set and the second is a channel row
abbrev pub Wants : List Row → List ℕ → ℕ → ℕ → Type 0
Wants rows set n k = (member set (k / n) ≡ true) × IsChannel rows (k % n)

module _ (rows : List Row) (nodes : List Node) (n : ℕ) (is : n ≡ length rows) (few : n ≤ max_rows) (set : List ℕ) (referred : (a : ℕ) → a < max_rows → Decides (member set a) (Referred nodes a)) where
  -- a set of the places below n * n that pass a test of them
  module _ (Hit Miss : ℕ → Type 0) (pairs : List ℕ) (passed : (k : ℕ) → member pairs k ≡ true → (k < n * n) × Hit k) (others : (k : ℕ) → k < n * n → member pairs k ≡ false → Miss k)
      (hit : (k : ℕ) → k < length rows * length rows → Hit k → Wants rows set (length rows) k) (miss : (k : ℕ) → k < length rows * length rows → Miss k → Wants rows set (length rows) k → ⊥) where
    inside : (k : ℕ) → k < n * n → k < length rows * length rows
    inside k h = subst (λ m. k < m * m) is h

    wanted_pairs : (a b : ℕ) → Decides (related n pairs a b) ((a < n) × Referred nodes a × IsChannel rows b)
    wanted_pairs a b = (
      λ e.
          let (a<, b<, m) = between_parts n (member pairs) a b e in
          let (low, found) = passed (a * n + b) m in
          let (there, channel) = subst (λ x. Wants rows set x (a * n + b)) (sym is) (hit (a * n + b) (inside (a * n + b) low) found) in
          (a<, (referred a (omega arith)).0 (subst (λ x. member set x ≡ true) (place_div n a b b<) there), subst (IsChannel rows) (place_mod n a b b<) channel),
      λ (a<, refer, channel).
          let b< : b < n = subst (λ x. b < x) (sym is) (at_below rows b channel.2) in
          let wants : Wants rows set n (a * n + b) = (
            subst (λ x. member set x ≡ true) (sym (place_div n a b b<)) ((referred a (omega arith)).1 refer),
            subst (IsChannel rows) (sym (place_mod n a b b<)) channel,
          ) in
          let low = mul-add-lt a n b n a< b< in
          between_from n (member pairs) a b a< b<
          (⊎_elim (λ on. on) (λ off. absurd (miss (a * n + b) (inside (a * n + b) low) (others (a * n + b) low off) (subst (λ x. Wants rows set x (a * n + b)) is wants))) (cases_Bool (member pairs (a * n + b)))),
    )

    wanted_rest : (k : ℕ) → n * n ≤ k → member pairs k ≡ false
    wanted_rest k h = ⊎_elim (λ m. absurd (let (less, _) = passed k m in omega arith)) (λ e. e) (cases_Bool (member pairs k))

    pub wanted_all :
        ((a b : ℕ) → Decides (related (length rows) pairs a b) ((a < length rows) × Referred nodes a × IsChannel rows b))
        × ((k : ℕ) → length rows * length rows ≤ k → member pairs k ≡ false)
    wanted_all =
        let F : ℕ → Type 0 = λ m. ((a b : ℕ) → Decides (related m pairs a b) ((a < m) × Referred nodes a × IsChannel rows b)) × ((k : ℕ) → m * m ≤ k → member pairs k ≡ false) in
        subst F is (wanted_pairs, wanted_rest)
