-- The rows that narrowing by the rule of barren rows strikes are the inhabited ones. Assumes nothing.
use Rattle.std.proofs.Common.{◌≡◌, ℕ, ◌+◌, ◌<◌, ◌≤◌, Bool, true, false, cond, not, ◌&&◌, ◌||◌, eqb, ltb, ◌⊎◌, List, length, Some, None, Decides, Option, sym, refl, ap, ◌∙◌, inr, ⊎_elim, arith}
use Rattle.std.specs.List.{slice_get}
use Rattle.std.proofs.lemmas.Bool.{cases_lt, cases_eq, both_ways, or_cases, or_parts, and_parts, and_from, and_right, and_cases, cases_Bool, lt-ltb, ltb-true, eqb-true, eqb-false, eq-eqb, ne_eqb, not-true, not-false, not_from_true, not_from_false, cond-true, cond-false}
use Rattle.sets.specs.Sets.{bit, member}
use Rattle.sets.proofs.Lowest.{bit_zero}
use Rattle.sets.proofs.Wider.{some_bit}
use Rattle.narrowing.specs.Narrowing.{Stands, Narrowed}
use Rattle.narrowing.proofs.Striking.{decided}
use Rattle.narrowing.proofs.Struck.{Reason, struck}
use Rattle.forms.specs.Rows.{belongs}
use Rattle.forms.specs.declared.Row.{Row}
use Rattle.forms.specs.declared.Row.TheVariants.{Void, Nothing, Channel, Element, Union}
use Rattle.forms.specs.Schema.{Inhabited}
use Rattle.forms.specs.Schema.Inhabited.{of_void, of_channel, of_element, of_left, of_right}
use Rattle.relation.specs.Barren.{lacks, barren_at, barren, barren_lawful}
use Rattle.relation.proofs.Offered.{inhabited_below}

-- a label set with a label is not empty
labelled : (x l : ℕ) → belongs x l ≡ true → eqb l 0 ≡ true → ⊥
labelled x l e z = both_ways (bit l x) (ap (λ n. bit n x) (eqb-true l 0 z) ∙ bit_zero x) e

module _ (rows : List Row) where
  module _ (f : ℕ → Bool) where
    -- a number that is lacking is that of no row, or is in the set
    lacking : (k : ℕ) → k < length rows → lacks (length rows) f k ≡ true → f k ≡ true
    lacking k h e = ⊎_elim (λ out. absurd (both_ways (ltb k (length rows)) (not-true _ out) (lt-ltb k (length rows) h))) (λ i. i) (or_cases (not (ltb k (length rows))) (f k) e)

    not_lacking : (k : ℕ) → lacks (length rows) f k ≡ false → (ltb k (length rows) ≡ true) × (f k ≡ false)
    not_lacking k e = let (a, b) = or_parts (not (ltb k (length rows))) (f k) e in (not-false _ a, b)

    -- no row of a set that stands is inhabited
    never_inhabited : Stands (barren rows) f → (p : ℕ) → Inhabited rows p → f p ≡ true → ⊥
    never_inhabited good p (of_void e) h = both_ways false refl (rw e at (good p h))
    never_inhabited good p (of_channel e) h = both_ways false refl (rw e at (good p h))
    never_inhabited good p (of_element {l} {i} {n} x e b hi hn) h = ⊎_elim
        (labelled x l b)
        (λ more. ⊎_elim
        (λ a. never_inhabited good i hi (lacking i (inhabited_below rows hi) a))
        (λ a. never_inhabited good n hn (lacking n (inhabited_below rows hn) a))
        (or_cases (lacks (length rows) f i) (lacks (length rows) f n) more))
        (or_cases (eqb l 0) (lacks (length rows) f i || lacks (length rows) f n) (rw e at (good p h)))
    never_inhabited good p (of_left {l} {r} e u) h = never_inhabited good l u (lacking l (inhabited_below rows u) (and_parts (lacks (length rows) f l) (lacks (length rows) f r) (rw e at (good p h))).0)
    never_inhabited good p (of_right {l} {r} e u) h = never_inhabited good r u (lacking r (inhabited_below rows u) (and_parts (lacks (length rows) f l) (lacks (length rows) f r) (rw e at (good p h))).1)

  module _ (start : ℕ → Bool) (all : (j : ℕ) → start j ≡ ltb j (length rows)) where
    -- what the rule says no to is inhabited
    reason : Reason (barren rows) start (Inhabited rows)
    reason S known p _ gone = go (slice_get rows p) refl gone
      where
        there : (k : ℕ) → lacks (length rows) S k ≡ false → Inhabited rows k
        there k e = let (a, b) = not_lacking S k e in known k (all k ∙ a) b

        go : (o : Option Row) → slice_get rows p ≡ o → barren_at (length rows) S o ≡ false → Inhabited rows p
        go None e off = absurd (both_ways true off refl)
        go (Some Void) e off = of_void e
        go (Some Nothing) e off = absurd (both_ways true off refl)
        go (Some (Channel c s)) e off = of_channel e
        go (Some (Element l i n)) e off =
            let (hl, more) = or_parts (eqb l 0) (lacks (length rows) S i || lacks (length rows) S n) off in
            let (hi, hn) = or_parts (lacks (length rows) S i) (lacks (length rows) S n) more in
            let (x, m) = some_bit l (eqb-false l 0 hl) in
            of_element x e m (there i hi) (there n hn)
        go (Some (Union l r)) e off = ⊎_elim (λ h. of_left e (there l h)) (λ h. of_right e (there r h)) (and_cases (lacks (length rows) S l) (lacks (length rows) S r) off)

    pub inhabited_all : (f rest : ℕ → Bool) → Narrowed (barren rows) start f → ((j : ℕ) → rest j ≡ (start j && not (f j))) → (p : ℕ) → Decides (rest p) (Inhabited rows p)
    inhabited_all f rest narrowed is p = (
      λ e. let (a, b) = and_parts (start p) (not (f p)) (sym (is p) ∙ e) in
          struck (barren rows) start (length rows) (λ x h. ltb-true x (length rows) (sym (all x) ∙ h)) (barren_lawful rows) f narrowed (Inhabited rows) reason p a (not-true (f p) b),
      λ h. is p ∙ and_from (start p) (not (f p)) (all p ∙ lt-ltb p (length rows) (inhabited_below rows h))
          (⊎_elim (λ e. absurd (never_inhabited f narrowed.stands p h e)) (not_from_false (f p)) (cases_Bool (f p))),
    )

  pub inhabited_or_not : (p : ℕ) → Inhabited rows p ⊎ (Inhabited rows p → ⊥)
  inhabited_or_not p = ⊎_elim
      (λ h. decided (barren rows) (λ k. ltb k (length rows)) (λ k. k) (length rows) (λ k on. (k, ltb-true k (length rows) on, refl)) (barren_lawful rows) (Inhabited rows)
      (reason (λ k. ltb k (length rows)) (λ k. refl)) never_inhabited p (lt-ltb p (length rows) h))
      (λ h. inr (λ u. omega (arith, inhabited_below rows u)))
      (cases_lt p (length rows))

-- the members of one set before i are taken from another
abbrev pub Rest : (ℕ → Bool) → List ℕ → List ℕ → ℕ → Type 0
Rest old set rest i = (j : ℕ) → (j < i → member rest j ≡ (old j && not (member set j))) × (i ≤ j → member rest j ≡ old j)

module _ (old : ℕ → Bool) (set : List ℕ) where
  and_true : (b : Bool) → b ≡ (b && true)
  and_true true = refl
  and_true false = refl

  -- a number that is not in the set is not taken
  untaken : (j : ℕ) → member set j ≡ false → old j ≡ (old j && not (member set j))
  untaken j off = and_true (old j) ∙ ap (λ b. old j && not b) (sym off)

  -- the next number of the set is taken
  pub rest_more : (rest new : List ℕ) (i k : ℕ) → i ≤ k → member set k ≡ true → ((j : ℕ) → i ≤ j → j < k → member set j ≡ false) → Rest old set rest i → ((j : ℕ) → member new j ≡ cond (eqb j k) false (member rest j)) → Rest old set new (k + 1)
  rest_more rest new i k up on none r removed j = (
    λ h. removed j ∙ ⊎_elim
        (λ same. cond-true (eqb j k) false (member rest j) (eq-eqb j k same) ∙ sym (and_right (old j) (not (member set j)) (not_from_true (member set j) (ap (member set) same ∙ on))))
        (λ ne. other ne ∙ ⊎_elim (r j).0 (λ high. (r j).1 high ∙ untaken j (none j high (omega arith))) (cases_lt j i))
        (cases_eq j k),
    λ h. removed j ∙ other (omega arith) ∙ (r j).1 (omega arith),
  )
    where
      other : (j ≡ k → ⊥) → cond (eqb j k) false (member rest j) ≡ member rest j
      other ne = cond-false (eqb j k) false (member rest j) (ne_eqb j k ne)

  -- none from i on is in the set
  pub rest_all : (rest : List ℕ) (i : ℕ) → ((j : ℕ) → i ≤ j → member set j ≡ false) → Rest old set rest i → (j : ℕ) → member rest j ≡ (old j && not (member set j))
  rest_all rest i none r j = ⊎_elim (r j).0 (λ high. (r j).1 high ∙ untaken j (none j high)) (cases_lt j i)
