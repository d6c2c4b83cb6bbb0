-- `Below` is inclusion of documents.
use Rattle.forms.proofs.Findings.{never}
use Rattle.std.proofs.Common.{◌≡◌, ℕ, ◌<◌, true, false, List, Some, refl, subst, subst₂, inl, inr, ⊎_elim}
use Rattle.std.proofs.lemmas.Bool.{cases_Bool}
use Rattle.forms.specs.declared.Row.{Row}
use Rattle.forms.specs.declared.Row.TheVariants.{Channel, Element}
use Rattle.forms.specs.declared.Capability.{Capability}
use Rattle.std.specs.List.{slice_get}
use Rattle.forms.specs.Limits.{label_count}
use Rattle.forms.specs.Rows.{belongs}
use Rattle.forms.specs.Schema.{Offers, Inhabited}
use Rattle.forms.specs.Documents.{Document}
use Rattle.schema.specs.Rules.{Bounded, Determined, OffersVoid, OffersChannel, OffersElement, ◌⊑◌, Relation, Payloads, Below, Fits, IsDocument, Names}
use Rattle.schema.specs.Rules.Names.{receives, sends, inside, following}
use Rattle.forms.specs.Schema.Offers.{itself, left, right}
use Rattle.forms.specs.Schema.Inhabited.{of_void, of_channel, of_element, of_left, of_right}
use Rattle.forms.specs.Documents.Document.{void, reference, element}
use Rattle.schema.specs.Rules.Fits.{fits_void, fits_reference, fits_element}
use Rattle.schema.specs.Theorems.{Confined, Witness, BelowIsSound, BelowOrWitness, BelowIsInclusion}
use Rattle.schema.proofs.Offered.{at_below, label_below}
use Rattle.schema.proofs.Kept.{Fails}
use Rattle.schema.proofs.Kept.Fails.{without_void, lacks_channel, lacks_label, differs_inside, differs_following}
use Rattle.schema.proofs.Order.{below, below_closed, below_decides, below_if, below_struck, names_square, payloads_where, square, square_confined, square_in, square_out, transitive, reflexive, same_parts}

-- the document fits the first row and not the second
abbrev pub Apart : List Row → Document → ℕ → ℕ → Type 0
Apart rows d p q = Fits rows d p × (Fits rows d q → ⊥)

module _ (rows : List Row) where
  pub offers_inhabited : {p o : ℕ} → Offers rows p o → Inhabited rows o → Inhabited rows p
  offers_inhabited (itself e nu) h = h
  offers_inhabited (left e u) h = of_left e (offers_inhabited u h)
  offers_inhabited (right e u) h = of_right e (offers_inhabited u h)

  -- a row that some document fits is inhabited
  pub fits_inhabited : (d : Document) {p : ℕ} → Fits rows d p → Inhabited rows p
  fits_inhabited void (fits_void v) = offers_inhabited v.1 (of_void v.2)
  fits_inhabited (reference c) (fits_reference u e b) = offers_inhabited u (of_channel e)
  fits_inhabited (element x a b) (fits_element u e m fa fb) = offers_inhabited u (of_element x e m (fits_inhabited a fa) (fits_inhabited b fb))

  -- a row that is a channel offers itself alone
  pub channel_alone : {c o : ℕ} {k : Capability} {s : ℕ} → slice_get rows c ≡ Some (Channel k s) → Offers rows c o → c ≡ o
  channel_alone e (itself f nu) = refl
  channel_alone e (left f u) = never (cc)
  channel_alone e (right f u) = never (cc)

  -- what an inhabited element row has: parts that are inhabited, and a label
  element_has : {e l i n : ℕ} → slice_get rows e ≡ Some (Element l i n) → Inhabited rows e → Inhabited rows i × Inhabited rows n × ((x : ℕ) × (belongs x l ≡ true))
  element_has e (of_void f) = never (cc)
  element_has e (of_channel f) = never (cc)
  element_has {l} {i} {n} e (of_element {l = l'} {i = i'} {n = n'} x f m hi hn) =
      let s : i' ≡ i = cc in
      let t : n' ≡ n = cc in
      let u : l' ≡ l = cc in
      (subst (Inhabited rows) s hi, subst (Inhabited rows) t hn, (x, subst (λ y. belongs x y ≡ true) u m))
  element_has e (of_left f h) = never (cc)
  element_has e (of_right f h) = never (cc)

  pub element_parts : {e l i n : ℕ} → slice_get rows e ≡ Some (Element l i n) → Inhabited rows e → Inhabited rows i × Inhabited rows n
  element_parts e h = let (a, b, _) = element_has e h in (a, b)

  pub element_label : {e l i n : ℕ} → slice_get rows e ≡ Some (Element l i n) → Inhabited rows e → (x : ℕ) × (belongs x l ≡ true)
  element_label e h = (element_has e h).2

  -- what offers more fits more
  fits_more : (d : Document) {l p : ℕ} → ((o : ℕ) → Offers rows l o → Offers rows p o) → Fits rows d l → Fits rows d p
  fits_more void more (fits_void v) = fits_void (v.0, more v.0 v.1, v.2)
  fits_more (reference c) more (fits_reference u e b) = fits_reference (more _ u) e b
  fits_more (element x a b) more (fits_element u e m fa fb) = fits_element (more _ u) e m fa fb

  -- why a document fits
  void_fits : {p : ℕ} → Fits rows void p → OffersVoid rows p
  void_fits (fits_void v) = v

  reference_fits : {c p : ℕ} → Fits rows (reference c) p → (k : Capability) × (s : ℕ) × (d : OffersChannel rows p k s) × Below rows c d.number
  reference_fits (fits_reference {d} {s} {k} u e b) = (k, s, record { number = d; offered = u; is = e }, b)

  element_fits : {x : ℕ} {a b : Document} {p : ℕ} → Fits rows (element x a b) p → (l i n : ℕ) × OffersElement rows p l i n × (belongs x l ≡ true) × Fits rows a i × Fits rows b n
  element_fits {x} {a} {b} (fits_element {e} {l} {i} {n} u f m fa fb) = (l, i, n, record { number = e; offered = u; is = f; inhabited = of_element x f m (fits_inhabited a fa) (fits_inhabited b fb) }, m, fa, fb)

  -- WHAT TELLS TWO ROWS APART, by documents that are given for the parts
  pub apart_by_void : {p q : ℕ} → OffersVoid rows p → (OffersVoid rows q → ⊥) → Apart rows void p q
  apart_by_void v none = (fits_void v, λ f. none (void_fits f))

  pub apart_by_label : {a b : Document} {p q l i n : ℕ} (e : OffersElement rows p l i n) (x : ℕ) → belongs x l ≡ true → ((l' i' n' : ℕ) → OffersElement rows q l' i' n' → belongs x l' ≡ true → ⊥) → Fits rows a i → Fits rows b n → Apart rows (element x a b) p q
  apart_by_label e x m none fa fb = (fits_element e.offered e.is m fa fb, λ f. let (l', i', n', e', m', _, _) = element_fits f in none l' i' n' e' m')

module _ (rows : List Row) (bounded : Bounded rows) where
  -- a channel row is below another whose capability is above its own and whose payload compares as that one says
  channels_below : {c d s t : ℕ} {k k' : Capability} → slice_get rows c ≡ Some (Channel k s) → slice_get rows d ≡ Some (Channel k' t) → k ⊑ k' → Payloads (below rows bounded) k' s t → Below rows c d
  channels_below {c} {d} {s} {t} {k} {k'} e f o pay = below_if rows bounded c d (at_below rows c e) (at_below rows d f) (record {
    voids = λ v. let h = channel_alone rows e v.1 in never (cc);
    channels = λ {k = k₁} {s = s₁} g. let h = channel_alone rows e g.offered in let a : k ≡ k₁ = cc in let b : s ≡ s₁ = cc in
        (k', t, record { number = d; offered = itself f tt; is = f }, subst (λ x. x ⊑ k') a o, subst (λ x. Payloads (below rows bounded) k' x t) b pay);
    covers = λ g. let h = channel_alone rows e g.offered in never (cc);
    agrees = λ g. let h = channel_alone rows e g.offered in never (cc);
  })

  below_channels : (c d : ℕ) {s t : ℕ} {k k' : Capability} → slice_get rows c ≡ Some (Channel k s) → slice_get rows d ≡ Some (Channel k' t) → below rows bounded c d ≡ true → (k ⊑ k') × Payloads (below rows bounded) k' s t
  below_channels c d {s} {t} {k} {k'} e f h =
      let (k'', u, g, o, pay) = (below_closed rows bounded c d h).channels (record { number = c; offered = itself e tt; is = e }) in
      let same_row = channel_alone rows f g.offered in
      let a : k'' ≡ k' = cc in
      let b : u ≡ t = cc in
      (subst (λ x. k ⊑ x) a o, subst₂ (λ x y. Payloads (below rows bounded) x s y) a b pay)

  sound : (d : Document) → IsDocument rows d → (p q : ℕ) → below rows bounded p q ≡ true → Fits rows d p → Fits rows d q
  sound void is p q h f = fits_void ((below_closed rows bounded p q h).voids (void_fits rows f))
  sound (reference c) is p q h f =
      let (k, s, d, b) = reference_fits rows f in
      let (k', t, d', o, pay) = (below_closed rows bounded p q h).channels d in
      fits_reference d'.offered d'.is
      (transitive rows bounded c d.number d'.number (at_below rows c is.2) (at_below rows d.number d.is) (at_below rows d'.number d'.is) b (channels_below d.is d'.is o pay))
  sound (element x a b) is p q h f =
      let (l, i, n, e, m, fa, fb) = element_fits rows f in
      let (l', i', n', e', m') = (below_closed rows bounded p q h).covers e x m in
      let (hi, hn) = (below_closed rows bounded p q h).agrees e e' x m m' in
      fits_element e'.offered e'.is m' (sound a is.1 i i' hi fa) (sound b is.2 n n' hn fb)

pub below_is_sound : BelowIsSound
below_is_sound rows bounded p q h g b d is f = sound rows bounded d is p q ((below_decides rows bounded p q h g).1 b) f

module _ (rows : List Row) (bounded : Bounded rows) (determined : Determined rows) where
  labelled : {p l i n : ℕ} (e : OffersElement rows p l i n) (x : ℕ) → belongs x l ≡ true → x < label_count
  labelled {l} e x m = label_below x l (bounded.inside e.number e.is).1 m

  inhabitant : {p : ℕ} → Inhabited rows p → (d : Document) × IsDocument rows d × Fits rows d p
  inhabitant {p} (of_void e) = (void, tt, fits_void (p, itself e tt, e))
  inhabitant {p} (of_channel {k} {s} e) = (reference p, (k, s, e), fits_reference (itself e tt) e (reflexive rows determined p))
  inhabitant {p} (of_element {l} x e m hi hn) =
      let (a, ia, fa) = inhabitant hi in
      let (b, ib, fb) = inhabitant hn in
      (element x a b, (label_below x l (bounded.inside p e).1 m, ia, ib), fits_element (itself e tt) e m fa fb)
  inhabitant (of_left e h) = let (d, is, f) = inhabitant h in (d, is, fits_more rows d (λ o u. left e u) f)
  inhabitant (of_right e h) = let (d, is, f) = inhabitant h in (d, is, fits_more rows d (λ o u. right e u) f)

  -- A reference tells two rows apart by a channel that the second does not take within S, if S has what is below of the pairs that the rules name for them.
  pub apart_by_channel : (S : Relation) {p q s : ℕ} {k : Capability} (c : OffersChannel rows p k s) → ((a b : ℕ) → Names rows p q a b → Below rows a b → S a b ≡ true) →
      ((k' : Capability) (t : ℕ) → OffersChannel rows q k' t → k ⊑ k' → Payloads S k' s t → ⊥) → Apart rows (reference c.number) p q
  apart_by_channel S {s} {k} c has none = (
    fits_reference c.offered c.is (reflexive rows determined c.number),
    λ f.
        let (k', t, d, b) = reference_fits rows f in
        let (o, pay) = below_channels rows bounded c.number d.number c.is d.is ((below_decides rows bounded c.number d.number (at_below rows _ c.is) (at_below rows _ d.is)).1 b) in
        none k' t d o (payloads_where (below rows bounded) S k' s t
        (λ v e. has s t (receives c d o v) (below rows bounded, below_closed rows bounded, e))
        (λ v e. has t s (sends c d o v) (below rows bounded, below_closed rows bounded, e)) pay),
  )

  pub apart_by_inside : {a b : Document} {p q l i n l' i' n' : ℕ} (e : OffersElement rows p l i n) (e' : OffersElement rows q l' i' n') (x : ℕ) → belongs x l ≡ true → belongs x l' ≡ true → Apart rows a i i' → Fits rows b n → Apart rows (element x a b) p q
  apart_by_inside {a} e e' x m m' (fa, nfa) fb = (
    fits_element e.offered e.is m fa fb,
    λ f. let (l'', i'', n'', e'', m'', fa'', fb'') = element_fits rows f in nfa (subst (Fits rows a) (same_parts determined e'' e' x m'' m').0 fa''),
  )

  pub apart_by_following : {a b : Document} {p q l i n l' i' n' : ℕ} (e : OffersElement rows p l i n) (e' : OffersElement rows q l' i' n') (x : ℕ) → belongs x l ≡ true → belongs x l' ≡ true → Fits rows a i → Apart rows b n n' → Apart rows (element x a b) p q
  apart_by_following {b} e e' x m m' fa (fb, nfb) = (
    fits_element e.offered e.is m fa fb,
    λ f. let (l'', i'', n'', e'', m'', fa'', fb'') = element_fits rows f in nfb (subst (Fits rows b) (same_parts determined e'' e' x m'' m').1 fb''),
  )

  module _ (C S : Relation) (confined : Confined rows C) (known : (p q : ℕ) → C p q ≡ true → S p q ≡ false → Witness rows p q) where
    -- S lacks only pairs of C with a witness, so it has all of them that are below
    has_below : (p q : ℕ) → C p q ≡ true → square rows p q ≡ true → Below rows p q → S p q ≡ true
    has_below p q c of_rows b = ⊎_elim (λ e. e)
        (λ ne.
        let (h, g) = square_out rows p q of_rows in
        let (d, is, f, nf) = known p q c ne in
        absurd (nf (below_is_sound rows bounded p q h g b d is f)))
        (cases_Bool (S p q))

    named_below : (p q : ℕ) → C p q ≡ true → (a b : ℕ) → Names rows p q a b → Below rows a b → S a b ≡ true
    named_below p q c a b names = has_below a b (confined p q a b c names) (names_square rows bounded a b names)

    pub witness : (p q : ℕ) → C p q ≡ true → Fails rows S p q → Witness rows p q
    witness p q c (without_void v none) = (void, tt, (apart_by_void rows v none).0, (apart_by_void rows v none).1)
    witness p q c (lacks_channel {k} {s} d none) = let (f, nf) = apart_by_channel S d (named_below p q c) none in (reference d.number, (k, s, d.is), f, nf)
    witness p q c (lacks_label {l} e x m none) =
        let (hi, hn) = element_parts rows e.is e.inhabited in
        let (a, ia, fa) = inhabitant hi in
        let (b, ib, fb) = inhabitant hn in
        let (f, nf) = apart_by_label rows e x m none fa fb in
        (element x a b, (labelled e x m, ia, ib), f, nf)
    witness p q c (differs_inside {l} {i} {n} {l'} {i'} {n'} e e' x m m' ne) =
        let (a, ia, fa, nfa) = known i i' (confined p q i i' c (inside x e e' m m')) ne in
        let (b, ib, fb) = inhabitant (element_parts rows e.is e.inhabited).1 in
        let (f, nf) = apart_by_inside e e' x m m' (fa, nfa) fb in
        (element x a b, (labelled e x m, ia, ib), f, nf)
    witness p q c (differs_following {l} {i} {n} {l'} {i'} {n'} e e' x m m' ne) =
        let (b, ib, fb, nfb) = known n n' (confined p q n n' c (following x e e' m m')) ne in
        let (a, ia, fa) = inhabitant (element_parts rows e.is e.inhabited).0 in
        let (f, nf) = apart_by_following e e' x m m' fa (fb, nfb) in
        (element x a b, (labelled e x m, ia, ib), f, nf)

pub below_or_witness : BelowOrWitness
below_or_witness rows bounded determined p q h g = ⊎_elim
    (λ e. inl ((below_decides rows bounded p q h g).0 e))
    (λ ne. inr (below_struck rows bounded (Witness rows) (λ S known a b c fails. witness rows bounded determined (square rows) S (square_confined rows bounded) known a b c fails) p q (square_in rows p q h g) ne))
    (cases_Bool (below rows bounded p q))

pub below_is_inclusion : BelowIsInclusion
below_is_inclusion rows bounded determined p q h g = (
  below_is_sound rows bounded p q h g,
  λ included. ⊎_elim (λ b. b) (λ (d, is, f, nf). absurd (nf (included d is f))) (below_or_witness rows bounded determined p q h g),
)
