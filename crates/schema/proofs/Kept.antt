-- Whether a pair keeps the rules within a relation can be decided, and where it does not, one of five reasons is found.
use Rattle.forms.proofs.Findings.{never}
use Rattle.std.proofs.Common.{◌≡◌, ℕ, ◌^◌, ◌<◌, true, false, ◌⊎◌, List, length, Some, None, Option, refl, subst, inl, inr, ⊎_elim}
use Rattle.std.proofs.lemmas.Bool.{both_ways, cases_Bool}
use Rattle.forms.specs.declared.Row.{Row}
use Rattle.forms.specs.declared.Row.TheVariants.{Void, Nothing, Channel, Element, Union}
use Rattle.forms.specs.declared.Capability.{Capability}
use Rattle.forms.specs.declared.Capability.TheVariants.{In, Out, Both}
use Rattle.std.specs.List.{slice_get}
use Rattle.forms.specs.Limits.{label_count}
use Rattle.forms.specs.Rows.{belongs}
use Rattle.forms.specs.Schema.{Offers, Inhabited}
use Rattle.schema.specs.Rules.{Bounded, OffersVoid, OffersChannel, OffersElement, ◌⊑◌, Relation, Payloads, Keeps}
use Rattle.schema.specs.Rules.◌⊑◌.{same, both}
use Rattle.schema.proofs.Findings.{where_holds, both_hold, holds_or_not}
use Rattle.narrowing.proofs.Striking.{each_below}
use Rattle.relation.proofs.Inhabitants.{inhabited_or_not}
use Rattle.relation.proofs.Offered.{offered_below}
use Rattle.schema.proofs.Offered.{offers_or_not, each_label}

pub order_or_not : (k k' : Capability) → (k ⊑ k') ⊎ (k ⊑ k' → ⊥)
order_or_not In In = inl same
order_or_not Out Out = inl same
order_or_not Both k' = inl both
order_or_not In Out = inr (λ h. elim h [ ])
order_or_not In Both = inr (λ h. elim h [ ])
order_or_not Out In = inr (λ h. elim h [ ])
order_or_not Out Both = inr (λ h. elim h [ ])

pub payloads_or_not : (R : Relation) (k : Capability) (s t : ℕ) → Payloads R k s t ⊎ (Payloads R k s t → ⊥)
payloads_or_not R In s t = holds_or_not (R s t)
payloads_or_not R Out s t = holds_or_not (R t s)
payloads_or_not R Both s t = ⊎_elim (λ a. ⊎_elim (λ b. inl (a, b)) (λ nb. inr (λ h. nb h.1)) (holds_or_not (R t s))) (λ na. inr (λ h. na h.0)) (holds_or_not (R s t))

-- why a pair does not keep the rules
pub data Fails (rows : List Row) (R : Relation) (p q : ℕ) : Type 0 where
  without_void : OffersVoid rows p → (OffersVoid rows q → ⊥) → Fails rows R p q
  lacks_channel : {k : Capability} {s : ℕ} → OffersChannel rows p k s → ((k' : Capability) (t : ℕ) → OffersChannel rows q k' t → k ⊑ k' → Payloads R k' s t → ⊥) → Fails rows R p q
  lacks_label : {l i n : ℕ} → OffersElement rows p l i n → (x : ℕ) → belongs x l ≡ true → ((l' i' n' : ℕ) → OffersElement rows q l' i' n' → belongs x l' ≡ true → ⊥) → Fails rows R p q
  differs_inside : {l i n l' i' n' : ℕ} → OffersElement rows p l i n → OffersElement rows q l' i' n' → (x : ℕ) → belongs x l ≡ true → belongs x l' ≡ true → R i i' ≡ false → Fails rows R p q
  differs_following : {l i n l' i' n' : ℕ} → OffersElement rows p l i n → OffersElement rows q l' i' n' → (x : ℕ) → belongs x l ≡ true → belongs x l' ≡ true → R n n' ≡ false → Fails rows R p q

pub not_both : {rows : List Row} {R : Relation} {p q : ℕ} → Keeps rows R p q → Fails rows R p q → ⊥
not_both keeps (without_void v none) = none (keeps.voids v)
not_both keeps (lacks_channel c none) = let (k', t, d, o, pay) = keeps.channels c in none k' t d o pay
not_both keeps (lacks_label e x b none) = let (l', i', n', e', b') = keeps.covers e x b in none l' i' n' e' b'
not_both keeps (differs_inside e e' x b b' ne) = both_ways _ ne (keeps.agrees e e' x b b').0
not_both keeps (differs_following e e' x b b' ne) = both_ways _ ne (keeps.agrees e e' x b b').1

module _ (rows : List Row) (bounded : Bounded rows) where
  -- a failure at one of the rows that p offers, or each holds
  each_offered : {F : Type 0} {H : ℕ → Row → Type 0} (p : ℕ) → ((o : ℕ) (row : Row) → Offers rows p o → slice_get rows o ≡ Some row → F ⊎ H o row) → F ⊎ ((o : ℕ) (row : Row) → Offers rows p o → slice_get rows o ≡ Some row → H o row)
  each_offered {F} {H} p test = ⊎_elim inl (λ all. inr (λ o row u. all o (offered_below rows u) row u))
      (each_below {H = λ o. (row : Row) → Offers rows p o → slice_get rows o ≡ Some row → H o row} (length rows)
      (λ o _. ⊎_elim (λ u. go o u (slice_get rows o) refl) (λ nu. inr (λ row u e. absurd (nu u))) (offers_or_not rows bounded p o)))
    where
      go : (o : ℕ) → Offers rows p o → (r : Option Row) → slice_get rows o ≡ r → F ⊎ ((row : Row) → Offers rows p o → slice_get rows o ≡ Some row → H o row)
      go o u None e = inr (λ row _ e'. never (cc))
      go o u (Some row) e = ⊎_elim inl (λ h. inr (λ row' _ e'. let s : row ≡ row' = cc in subst (H o) s h)) (test o row u e)

  -- what holds of row o: V if it is void, C of the channel that it is, and E of the element that it is
  abbrev Of : Type 0 → (Capability → ℕ → Type 0) → (ℕ → ℕ → ℕ → ℕ → Type 0) → ℕ → Row → Type 0
  Of V C E o Void = V
  Of V C E o Nothing = Unit {0}
  Of V C E o (Channel k s) = C k s
  Of V C E o (Element l i n) = E o l i n
  Of V C E o (Union l r) = Unit {0}

  each_row : {F V : Type 0} {C : Capability → ℕ → Type 0} {E : ℕ → ℕ → ℕ → ℕ → Type 0} (p : ℕ) → (OffersVoid rows p → F ⊎ V) → ((k : Capability) (s : ℕ) → OffersChannel rows p k s → F ⊎ C k s) →
      ((o l i n : ℕ) → Offers rows p o → slice_get rows o ≡ Some (Element l i n) → F ⊎ E o l i n) → F ⊎ ((o : ℕ) (row : Row) → Offers rows p o → slice_get rows o ≡ Some row → Of V C E o row)
  each_row {F} {V} {C} {E} p voids channels elements = each_offered {H = Of V C E} p go
    where
      go : (o : ℕ) (row : Row) → Offers rows p o → slice_get rows o ≡ Some row → F ⊎ Of V C E o row
      go o Void u e = voids (o, u, e)
      go o Nothing u e = inr tt
      go o (Channel k s) u e = channels k s (record { number = o; offered = u; is = e })
      go o (Element l i n) u e = elements o l i n u e
      go o (Union l r) u e = inr tt

  void_or_not : (p : ℕ) → OffersVoid rows p ⊎ (OffersVoid rows p → ⊥)
  void_or_not p = ⊎_elim inl (λ none. inr (λ v. none v.0 Void v.1 v.2))
      (each_row {V = ⊥} {C = λ k s. Unit {0}} {E = λ o l i n. Unit {0}} p inl (λ k s c. inr tt) (λ o l i n u e. inr tt))

  pub each_channel : {F : Type 0} {H : Capability → ℕ → Type 0} (p : ℕ) → ((k : Capability) (s : ℕ) → OffersChannel rows p k s → F ⊎ H k s) → F ⊎ ((k : Capability) (s : ℕ) → OffersChannel rows p k s → H k s)
  each_channel {F} {H} p test = ⊎_elim inl (λ all. inr (λ k s c. all c.number (Channel k s) c.offered c.is))
      (each_row {V = Unit {0}} {C = H} {E = λ o l i n. Unit {0}} p (λ v. inr tt) test (λ o l i n u e. inr tt))

  pub each_element : {F : Type 0} {H : ℕ → ℕ → ℕ → Type 0} (p : ℕ) → ((l i n : ℕ) → OffersElement rows p l i n → F ⊎ H l i n) → F ⊎ ((l i n : ℕ) → OffersElement rows p l i n → H l i n)
  each_element {F} {H} p test = ⊎_elim inl (λ all. inr (λ l i n e. all e.number (Element l i n) e.offered e.is e.inhabited))
      (each_row {V = Unit {0}} {C = λ k s. Unit {0}} {E = λ o l i n. Inhabited rows o → H l i n} p (λ v. inr tt) (λ k s c. inr tt)
      (λ o l i n u e. where_holds (inhabited_or_not rows o) (λ inh. test l i n (record { number = o; offered = u; is = e; inhabited = inh }))))

  pub small : {p l i n : ℕ} → OffersElement rows p l i n → l < 2 ^ label_count
  small e = (bounded.inside e.number e.is).1

  module _ (R : Relation) (p q : ℕ) where
    abbrev Suitable : Capability → ℕ → Type 0
    Suitable k s = (k' : Capability) × (t : ℕ) × OffersChannel rows q k' t × (k ⊑ k') × Payloads R k' s t

    abbrev Covered : ℕ → Type 0
    Covered x = (l' i' n' : ℕ) × OffersElement rows q l' i' n' × (belongs x l' ≡ true)

    voids_or : Fails rows R p q ⊎ (OffersVoid rows p → OffersVoid rows q)
    voids_or = where_holds (void_or_not p) (λ v. ⊎_elim inr (λ none. inl (without_void v none)) (void_or_not q))

    channels_or : Fails rows R p q ⊎ ((k : Capability) (s : ℕ) → OffersChannel rows p k s → Suitable k s)
    channels_or = each_channel p (λ k s c. ⊎_elim inr (λ none. inl (lacks_channel c none)) (each_channel q (λ k' t d. try k s k' t d)))
      where
        try : (k : Capability) (s : ℕ) (k' : Capability) (t : ℕ) → OffersChannel rows q k' t → Suitable k s ⊎ (k ⊑ k' → Payloads R k' s t → ⊥)
        try k s k' t d = where_holds (order_or_not k k') (λ o. where_holds (payloads_or_not R k' s t) (λ pay. inl (k', t, d, o, pay)))

    covers_or : Fails rows R p q ⊎ ((l i n : ℕ) → OffersElement rows p l i n → (x : ℕ) → belongs x l ≡ true → Covered x)
    covers_or = each_element p (λ l i n e. each_label l (small e) (λ x b. ⊎_elim inr (λ none. inl (lacks_label e x b none))
        (each_element q (λ l' i' n' e'. where_holds (holds_or_not (belongs x l')) (λ b'. inl (l', i', n', e', b'))))))

    agrees_or : Fails rows R p q ⊎ ((l i n : ℕ) → OffersElement rows p l i n → (l' i' n' : ℕ) → OffersElement rows q l' i' n' → (x : ℕ) → belongs x l ≡ true → belongs x l' ≡ true → (R i i' ≡ true) × (R n n' ≡ true))
    agrees_or = each_element p (λ l i n e. each_element q (λ l' i' n' e'. each_label l (small e) (λ x b. where_holds (holds_or_not (belongs x l')) (λ b'. both_hold
        (⊎_elim inr (λ ne. inl (differs_inside e e' x b b' ne)) (cases_Bool (R i i')))
        (⊎_elim inr (λ ne. inl (differs_following e e' x b b' ne)) (cases_Bool (R n n')))))))

    pub keeps_or_fails : Fails rows R p q ⊎ Keeps rows R p q
    keeps_or_fails = ⊎_elim inl
        (λ h. inr (record { voids = h.0.0; channels = λ {k} {s} c. h.0.1 k s c; covers = λ {l} {i} {n} e. h.1.0 l i n e; agrees = λ {l} {i} {n} {l'} {i'} {n'} e e'. h.1.1 l i n e l' i' n' e' }))
        (both_hold (both_hold voids_or channels_or) (both_hold covers_or agrees_or))
