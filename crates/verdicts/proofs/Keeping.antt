-- The tests together tell whether a pair keeps the rules. Assumes nothing.
use Rattle.std.proofs.Common.{◌≡◌, ℕ, ◌<◌, ◌≤◌, Bool, true, false, cond, not, ◌&&◌, ◌||◌, ltb, List, get_or, Some, None, Decides, Option, sym, refl, ap, ◌∙◌, subst, ⊎_elim, arith}
use Rattle.std.specs.List.{slice_get}
use Rattle.std.proofs.lemmas.Bool.{both_ways, cases_Bool, and_parts, and_from, or_cases, or_left, or_right, lt-ltb, le-ltb, not-true, not_from_false, cases_lt, cases_eq, cond-true, cond-false}
use Rattle.sets.specs.Sets.{bit}
use Rattle.sets.proofs.Lowest.{bit_zero}
use Rattle.forms.specs.Buffers.{rows_of}
use Rattle.forms.specs.Laws.{buffer_laws}
use Rattle.forms.specs.Limits.{max_rows}
use Rattle.forms.specs.Rows.{belongs}
use Rattle.forms.specs.Schema.Inhabited.{of_void, of_channel}
use Rattle.forms.specs.declared.Row.{Row}
use Rattle.forms.specs.declared.Row.TheVariants.{Void, Nothing, Channel, Element, Union}
use Rattle.forms.specs.declared.Capability.{Capability}
use Rattle.forms.specs.declared.Capability.TheVariants.{In, Out, Both}
use Rattle.relation.proofs.Labels.{meets_decides}
use Rattle.schema.specs.Rules.{OffersVoid, OffersChannel, OffersElement, ◌⊑◌, Relation, Payloads, Keeps}
use Rattle.schema.specs.Rules.◌⊑◌.{same, both}
use Rattle.relation.proofs.Offered.{offering_below}
use Rattle.verdicts.specs.Facts.{determined_of}
use Rattle.verdicts.proofs.Facts.{ready_of}
use Rattle.verdicts.specs.Reading.{LabelledBy, ChannelTaken}
use Rattle.verdicts.specs.Ready.{in_row, labels_in}
use Rattle.verdicts.specs.Tests.{capable, takes, meeting, agrees_at, agrees}
use Rattle.verdicts.specs.declared.prepared.Prepared.{Prepared}

module _ (R : Relation) where
  pub capable_tells : (k k' : Capability) (s t : ℕ) → Decides (capable k k' (R s t) (R t s)) ((k ⊑ k') × Payloads R k' s t)
  capable_tells In In s t = (λ h. (same, h), λ h. h.1)
  capable_tells In Out s t = (λ h. absurd (both_ways false refl h), λ h. elim h.0 [ ])
  capable_tells In Both s t = (λ h. absurd (both_ways false refl h), λ h. elim h.0 [ ])
  capable_tells Out In s t = (λ h. absurd (both_ways false refl h), λ h. elim h.0 [ ])
  capable_tells Out Out s t = (λ h. (same, h), λ h. h.1)
  capable_tells Out Both s t = (λ h. absurd (both_ways false refl h), λ h. elim h.0 [ ])
  capable_tells Both In s t = (λ h. (both, h), λ h. h.1)
  capable_tells Both Out s t = (λ h. (both, h), λ h. h.1)
  capable_tells Both Both s t = (λ h. (same, and_parts (R s t) (R t s) h), λ h. and_from (R s t) (R t s) h.1.0 h.1.1)

  pub takes_tells : (rows : List Row) (k : Capability) (s d : ℕ) → takes R k s (slice_get rows d) ≡ true → (k' : Capability) × (t : ℕ) × (slice_get rows d ≡ Some (Channel k' t)) × (k ⊑ k') × Payloads R k' s t
  takes_tells rows k s d h = go (slice_get rows d) refl h
    where
      go : (r : Option Row) → slice_get rows d ≡ r → takes R k s r ≡ true → (k' : Capability) × (t : ℕ) × (slice_get rows d ≡ Some (Channel k' t)) × (k ⊑ k') × Payloads R k' s t
      go None e h = absurd (both_ways false refl h)
      go (Some Void) e h = absurd (both_ways false refl h)
      go (Some Nothing) e h = absurd (both_ways false refl h)
      go (Some (Channel k' t)) e h = let (o, pay) = (capable_tells k k' s t).0 h in (k', t, e, o, pay)
      go (Some (Element l i n)) e h = absurd (both_ways false refl h)
      go (Some (Union l r)) e h = absurd (both_ways false refl h)

  Parts : ℕ → ℕ → ℕ → ℕ → ℕ → ℕ → Type 0
  Parts l i n l' i' n' = (x : ℕ) → belongs x l ≡ true → belongs x l' ≡ true → (R i i' ≡ true) × (R n n' ≡ true)

  agrees_tells : (rows : List Row) (e f l i n l' i' n' : ℕ) → slice_get rows e ≡ Some (Element l i n) → slice_get rows f ≡ Some (Element l' i' n') → Decides (agrees R (slice_get rows e) (slice_get rows f)) (Parts l i n l' i' n')
  unfolding Parts
  agrees_tells rows e f l i n l' i' n' is is' = (
    λ h x b b'. ⊎_elim
        (λ off. absurd (both_ways (meeting l l') (not-true _ off) ((meets_decides l l').1 (x, b, b'))))
        (and_parts (R i i') (R n n'))
        (or_cases (not (meeting l l')) _ (sym on ∙ h)),
    λ parts. on ∙ ⊎_elim
        (λ m. let (x, b, b') = (meets_decides l l').0 m in or_right (not (meeting l l')) _ (and_from (R i i') (R n n') (parts x b b').0 (parts x b b').1))
        (λ off. or_left (not (meeting l l')) _ (not_from_false _ off))
        (cases_Bool (meeting l l')),
  )
    where
      on : agrees R (slice_get rows e) (slice_get rows f) ≡ (not (meeting l l') || (R i i' && R n n'))
      on = ap (λ r. agrees R r (slice_get rows f)) is ∙ ap (λ r. agrees_at R l i n r) is'

module _ (t : Prepared) where
  abbrev rows : List Row
  rows = rows_of t.table

  pub void_in : (p : ℕ) → OffersVoid rows p → (o : ℕ) × (in_row t.voids p o ≡ true)
  void_in p (v, offers, is) = (v, ((ready_of t).empties p v).1 (offers, of_void is, is))

  pub void_out : (p : ℕ) → ((o : ℕ) × (in_row t.voids p o ≡ true)) → OffersVoid rows p
  void_out p (o, m) = let (offers, _, is) = ((ready_of t).empties p o).0 m in (o, offers, is)

  pub channel_in : (p : ℕ) {k : Capability} {s : ℕ} (c : OffersChannel rows p k s) → in_row t.channels p c.number ≡ true
  channel_in p {k} {s} c = ((ready_of t).addresses p c.number).1 (c.offered, of_channel c.is, (k, s, c.is))

  pub element_in : (p : ℕ) {l i n : ℕ} (e : OffersElement rows p l i n) → in_row t.elements p e.number ≡ true
  element_in p {l} {i} {n} e = ((ready_of t).parts p e.number).1 (e.offered, e.inhabited, (l, i, n, e.is))

  -- an element row that q offers has no label in common with the others that q offers, so it has to agree with itself only
  pub own_agrees : (R : Relation) (q e : ℕ) → in_row t.elements q e ≡ true → Decides (agrees R (slice_get rows e) (slice_get rows e)) ((f : ℕ) → in_row t.elements q f ≡ true → agrees R (slice_get rows e) (slice_get rows f) ≡ true)
  unfolding Parts
  own_agrees R q e m = (
    λ own f m'. ⊎_elim (λ same. subst (λ o. agrees R (slice_get rows e) (slice_get rows o) ≡ true) same own) (apart f m') (cases_eq e f),
    λ all. all e m,
  )
    where
      apart : (f : ℕ) → in_row t.elements q f ≡ true → (e ≡ f → ⊥) → agrees R (slice_get rows e) (slice_get rows f) ≡ true
      apart f m' other =
          let (offers, inh, of) = ((ready_of t).parts q e).0 m in
          let (l, i, n, is) = of in
          let (offers', inh', of') = ((ready_of t).parts q f).0 m' in
          let (l', i', n', is') = of' in
          (agrees_tells R rows e f l i n l' i' n' is is').1 (λ x b b'. absurd (other ((determined_of t).one
          (record { number = e; offered = offers; is = is; inhabited = inh })
          (record { number = f; offered = offers'; is = is'; inhabited = inh' }) x b b')))

  labels_here : (p x w : ℕ) → p < max_rows → w ≡ get_or t.labels p 0 → Decides (belongs x w) (LabelledBy rows p x)
  labels_here p x w h here = (
    λ b.
        let (e, m, has) = ((ready_of t).given p h x).0 (subst (λ y. belongs x y ≡ true) here b) in
        let (offers, inh, of) = ((ready_of t).parts p e).0 m in
        let (l, i, n, is) = of in
        (l, i, n, record { number = e; offered = offers; is = is; inhabited = inh }, subst (λ y. belongs x y ≡ true) (ap labels_in is) has),
    λ (l, i, n, e, b). subst (λ y. belongs x y ≡ true) (sym here) (((ready_of t).given p h x).1 (e.number, element_in p e, subst (λ y. belongs x y ≡ true) (sym (ap labels_in e.is)) b)),
  )

  labels_past : (p x w : ℕ) → max_rows ≤ p → w ≡ 0 → Decides (belongs x w) (LabelledBy rows p x)
  labels_past p x w h here = (
    λ b. absurd (both_ways (bit 0 x) (bit_zero x) (subst (λ y. belongs x y ≡ true) here b)),
    λ (l, i, n, e, b). absurd (omega (arith, offering_below rows e.offered, (buffer_laws t.table).few)),
  )

  pub labels_tell : (p w : ℕ) → w ≡ cond (ltb p max_rows) (get_or t.labels p 0) 0 → (x : ℕ) → Decides (belongs x w) (LabelledBy rows p x)
  labels_tell p w is x = ⊎_elim
      (λ h. labels_here p x w h (is ∙ cond-true (ltb p max_rows) (get_or t.labels p 0) 0 (lt-ltb p max_rows h)))
      (λ h. labels_past p x w h (is ∙ cond-false (ltb p max_rows) (get_or t.labels p 0) 0 (le-ltb p max_rows h)))
      (cases_lt p max_rows)

  -- row q offers a channel row that takes row c, which is a channel row
  pub taken_tells : (R : Relation) (c q s : ℕ) (k : Capability) (b : Bool) → slice_get rows c ≡ Some (Channel k s) →
      Decides b ((d : ℕ) × (in_row t.channels q d ≡ true) × (takes R k s (slice_get rows d) ≡ true)) → Decides b (ChannelTaken rows R c q)
  taken_tells R c q s k b is tells = (
    λ e k₁ s₁ is₁.
        let (d, m, h) = tells.0 e in
        let one : Some (Channel k s) ≡ Some (Channel k₁ s₁) = sym is ∙ is₁ in
        let (k', u, at, o, pay) = takes_tells R rows k s d h in
        let own : OffersChannel rows q k' u = record { number = d; offered = (((ready_of t).addresses q d).0 m).0; is = at } in
        let same_k : k ≡ k₁ = cc in
        let same_s : s ≡ s₁ = cc in
        (k', u, own, subst (λ x. x ⊑ k') same_k o, subst (λ x. Payloads R k' x u) same_s pay),
    λ taken.
        let (k', u, d, o, pay) = taken k s is in
        tells.1 (d.number, channel_in q d, ap (takes R k s) d.is ∙ (capable_tells R k k' s u).1 (o, pay)),
  )

  module _ (R : Relation) (p q : ℕ) where
    abbrev Voids : Type 0
    Voids = OffersVoid rows p → OffersVoid rows q

    abbrev Covers : Type 0
    Covers = (x : ℕ) → LabelledBy rows p x → LabelledBy rows q x

    abbrev Taken : Type 0
    Taken = (c : ℕ) → in_row t.channels p c ≡ true → ChannelTaken rows R c q

    abbrev Agree : Type 0
    Agree = (e : ℕ) → in_row t.elements p e ≡ true → (f : ℕ) → in_row t.elements q f ≡ true → agrees R (slice_get rows e) (slice_get rows f) ≡ true

    pub keeps_from : Voids → Covers → Taken → Agree → Keeps rows R p q
    unfolding Parts
    keeps_from voids covers taken agree = record {
      voids = voids;
      channels = λ {k} {s} c. taken c.number (channel_in p c) k s c.is;
      covers = λ {l} {i} {n} e x b. covers x (l, i, n, e, b);
      agrees = λ {l} {i} {n} {l'} {i'} {n'} e e' x b b'. (agrees_tells R rows e.number e'.number l i n l' i' n' e.is e'.is).0 (agree e.number (element_in p e) e'.number (element_in q e')) x b b';
    }

    module _ (keeps : Keeps rows R p q) where
      pub keeps_covers : Covers
      keeps_covers x (l, i, n, e, has) = keeps.covers e x has

      pub keeps_taken : Taken
      keeps_taken c m k s is = keeps.channels (record { number = c; offered = (((ready_of t).addresses p c).0 m).0; is = is })

      pub keeps_agree : Agree
      unfolding Parts
      keeps_agree e m f m' =
          let (offers, inh, of) = ((ready_of t).parts p e).0 m in
          let (offers', inh', of') = ((ready_of t).parts q f).0 m' in
          let (l, i, n, is) = of in
          let (l', i', n', is') = of' in
          (agrees_tells R rows e f l i n l' i' n' is is').1 (λ x b b'. keeps.agrees (record { number = e; offered = offers; is = is; inhabited = inh }) (record { number = f; offered = offers'; is = is'; inhabited = inh' }) x b b')
