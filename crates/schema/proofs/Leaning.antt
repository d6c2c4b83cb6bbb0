-- What a pair of rows leans on can be decided.
use Rattle.std.proofs.Common.{◌≡◌, ℕ, ◌*◌, ◌<◌, Bool, true, false, not, ◌&&◌, eqb, ◌⊎◌, List, length, Decides, refl, subst₂, inl, inr, ⊎_elim}
use Rattle.std.proofs.lemmas.Bool.{both_ways, cases_Bool, and_parts, and_from, and_cases, eqb-true, eq-eqb, not-true, not-false, not_from_false}
use Rattle.forms.specs.declared.Row.{Row}
use Rattle.forms.specs.declared.Capability.{Capability}
use Rattle.forms.specs.declared.Capability.TheVariants.{In, Out, Both}
use Rattle.forms.specs.Rows.{belongs}
use Rattle.schema.specs.Rules.{Bounded, OffersChannel, OffersElement, ◌⊑◌, Relation, Covariant, Contravariant, Names, Leans}
use Rattle.schema.specs.Rules.Names.{receives, sends, inside, following}
use Rattle.schema.specs.Rules.Leans.{on_itself, on_named}
use Rattle.schema.specs.Theorems.{Confined, LeansIsDecided, LeanedTellsBelow}
use Rattle.narrowing.proofs.Striking.{Contained, Lawful, decided}
use Rattle.schema.proofs.Findings.{told, told_true, told_false, holds_or_not, where_holds, both_hold}
use Rattle.schema.proofs.Offered.{each_label}
use Rattle.schema.proofs.Kept.{order_or_not, each_channel, each_element, small}
use Rattle.schema.proofs.Order.{pairs, place, listed, square, square_in, square_out, square_confined, confined_agrees}

covariant_or_not : (k : Capability) → Covariant k ⊎ (Covariant k → ⊥)
covariant_or_not In = inl tt
covariant_or_not Out = inr (λ h. h)
covariant_or_not Both = inl tt

contravariant_or_not : (k : Capability) → Contravariant k ⊎ (Contravariant k → ⊥)
contravariant_or_not In = inr (λ h. h)
contravariant_or_not Out = inl tt
contravariant_or_not Both = inl tt

module _ (rows : List Row) (bounded : Bounded rows) where
  -- a failure at one of the pairs that the rules name for (p, q), or each holds
  each_named : {F : Type 0} {H : ℕ → ℕ → Type 0} (p q : ℕ) → ((a b : ℕ) → Names rows p q a b → F ⊎ H a b) → F ⊎ ((a b : ℕ) → Names rows p q a b → H a b)
  each_named {F} {H} p q test = ⊎_elim inl (λ (c, e). inr (go c e)) (both_hold channels elements)
    where
      channels : F ⊎ ((k : Capability) (s : ℕ) → OffersChannel rows p k s → (k' : Capability) (t : ℕ) → OffersChannel rows q k' t → k ⊑ k' → (Covariant k' → H s t) × (Contravariant k' → H t s))
      channels = each_channel rows bounded p (λ k s c. each_channel rows bounded q (λ k' t d. where_holds (order_or_not k k') (λ o.
          both_hold (where_holds (covariant_or_not k') (λ v. test s t (receives c d o v))) (where_holds (contravariant_or_not k') (λ v. test t s (sends c d o v))))))

      elements : F ⊎ ((l i n : ℕ) → OffersElement rows p l i n → (l' i' n' : ℕ) → OffersElement rows q l' i' n' → (x : ℕ) → belongs x l ≡ true → belongs x l' ≡ true → H i i' × H n n')
      elements = each_element rows bounded p (λ l i n e. each_element rows bounded q (λ l' i' n' e'. each_label l (small rows bounded e) (λ x b. where_holds (holds_or_not (belongs x l')) (λ b'.
          both_hold (test i i' (inside x e e' b b')) (test n n' (following x e e' b b'))))))

      go : ((k : Capability) (s : ℕ) → OffersChannel rows p k s → (k' : Capability) (t : ℕ) → OffersChannel rows q k' t → k ⊑ k' → (Covariant k' → H s t) × (Contravariant k' → H t s)) →
          ((l i n : ℕ) → OffersElement rows p l i n → (l' i' n' : ℕ) → OffersElement rows q l' i' n' → (x : ℕ) → belongs x l ≡ true → belongs x l' ≡ true → H i i' × H n n') →
          (a b : ℕ) → Names rows p q a b → H a b
      go cs es a b (receives {k} {k'} c d o v) = (cs k a c k' b d o).0 v
      go cs es a b (sends {k} {k'} c d o v) = (cs k b c k' a d o).1 v
      go cs es a b (inside {l} {n} {l'} {n'} x e e' m m') = (es l a n e l' b n' e' x m m').0
      go cs es a b (following {l} {i} {l'} {i'} x e e' m m') = (es l i a e l' i' b e' x m m').1

  all_named : (S : ℕ × ℕ → Bool) (x : ℕ × ℕ) → ((a b : ℕ) × Names rows x.0 x.1 a b × (S (a, b) ≡ false)) ⊎ ((a b : ℕ) → Names rows x.0 x.1 a b → S (a, b) ≡ true)
  all_named S x = each_named x.0 x.1 (λ a b h. ⊎_elim inr (λ ne. inl (a, b, h, ne)) (cases_Bool (S (a, b))))

  -- of the pairs that do not lean on (c, d): another pair, for which the rules name only such pairs
  module _ (c d : ℕ) where
    stands_off : (ℕ × ℕ → Bool) → ℕ × ℕ → Bool
    stands_off S x = not (eqb x.0 c && eqb x.1 d) && told (all_named S x)

    stands_off_more : Lawful stands_off
    unfolding stands_off
    stands_off_more S T part x h =
        let (other, all) = and_parts _ _ h in
        and_from _ _ other (⊎_elim (λ e. e) (λ ne. let (a, b, named, gone) = told_false (all_named T x) ne in absurd (both_ways _ gone (part (a, b) (told_true (all_named S x) all a b named)))) (cases_Bool (told (all_named T x))))

    never_off : (S : ℕ × ℕ → Bool) → Contained S (stands_off S) → {p q : ℕ} → Leans rows p q c d → S (p, q) ≡ true → ⊥
    unfolding stands_off
    never_off S good on_itself h = both_ways _ (not-true _ (and_parts _ _ (good (c, d) h)).0) (and_from _ _ (eq-eqb c c refl) (eq-eqb d d refl))
    never_off S good {p} {q} (on_named {a} {b} named leans) h = never_off S good leans (told_true (all_named S (p, q)) (and_parts (not (eqb p c && eqb q d)) _ (good (p, q) h)).1 a b named)

    pub leans_or_not : (p q : ℕ) → p < length rows → q < length rows → Leans rows p q c d ⊎ (Leans rows p q c d → ⊥)
    unfolding stands_off
    leans_or_not p q h g = decided stands_off (pairs (square rows)) (place rows) (length rows * length rows) (listed rows (square rows) (square_out rows)) stands_off_more
        (λ x. Leans rows x.0 x.1 c d) step (λ S good x leans. never_off S good leans) (p, q) (square_in rows p q h g)
      where
        step : (S : ℕ × ℕ → Bool) → ((x : ℕ × ℕ) → pairs (square rows) x ≡ true → S x ≡ false → Leans rows x.0 x.1 c d) → (x : ℕ × ℕ) → pairs (square rows) x ≡ true → stands_off S x ≡ false → Leans rows x.0 x.1 c d
        step S known x at-start gone = ⊎_elim
            (λ same. let (e, f) = and_parts _ _ (not-false _ same) in subst₂ (Leans rows x.0 x.1) (eqb-true x.0 c e) (eqb-true x.1 d f) on_itself)
            (λ ne. let (a, b, named, lacks) = told_false (all_named S x) ne in on_named named (known (a, b) (square_confined rows bounded x.0 x.1 a b at-start named) lacks))
            (and_cases _ _ gone)

leans_in : (rows : List Row) → Bounded rows → {p q a b : ℕ} → Leans rows p q a b → square rows p q ≡ true → square rows a b ≡ true
leans_in rows bounded on_itself h = h
leans_in rows bounded (on_named named leans) h = leans_in rows bounded leans (square_confined rows bounded _ _ _ _ h named)

pub leans_on : {rows : List Row} {p q a b c d : ℕ} → Leans rows p q a b → Names rows a b c d → Leans rows p q c d
leans_on on_itself named = on_named named on_itself
leans_on (on_named first leans) named = on_named first (leans_on leans named)

leaned_confined : (rows : List Row) (p q : ℕ) (L : Relation) → ((a b : ℕ) → Decides (L a b) (Leans rows p q a b)) → Confined rows L
leaned_confined rows p q L decides a b c d e named = (decides c d).1 (leans_on ((decides a b).0 e) named)

pub leans_is_decided : LeansIsDecided
leans_is_decided rows bounded p q h g = (
  leaned,
  decides,
  λ a b e. square_out rows a b (leans_in rows bounded ((decides a b).0 e) (square_in rows p q h g)),
  leaned_confined rows p q leaned decides,
)
  where
    leaned : Relation
    leaned a b = not (told (leans_or_not rows bounded a b p q h g))

    decides : (a b : ℕ) → Decides (leaned a b) (Leans rows p q a b)
    decides a b = (
      λ e. told_false (leans_or_not rows bounded a b p q h g) (not-true _ e),
      λ leans. ⊎_elim (λ t. absurd (told_true (leans_or_not rows bounded a b p q h g) t leans)) (not_from_false _) (cases_Bool (told (leans_or_not rows bounded a b p q h g))),
    )

pub leaned_tells_below : LeanedTellsBelow
leaned_tells_below rows p q L S decides is = confined_agrees rows L S (leaned_confined rows p q L decides) is p q ((decides p q).1 on_itself)
