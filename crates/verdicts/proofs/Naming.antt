-- The pairs that are noted for a pair are those that the rules name for it. Assumes nothing.
use Rattle.forms.proofs.Findings.{never}
use Rattle.std.proofs.Common.{◌≡◌, ℕ, ◌+◌, ◌*◌, ◌<◌, Bool, true, cond, ◌&&◌, ltb, ◌⊎◌, List, length, Some, None, Option, sym, refl, ap, ◌∙◌, subst, subst₂, inl, inr, ⊎_elim}
use Rattle.std.specs.List.{slice_get}
use Rattle.std.proofs.lemmas.Bool.{cases_Bool, and_parts, and_from, lt-ltb, ltb-true, cond-true, cond-false}
use Rattle.forms.specs.Buffers.{rows_of}
use Rattle.forms.specs.Rows.{belongs}
use Rattle.forms.specs.declared.Row.{Row}
use Rattle.forms.specs.declared.Capability.{Capability}
use Rattle.forms.specs.declared.Capability.TheVariants.{In, Out, Both}
use Rattle.relation.proofs.Labels.{meets_decides}
use Rattle.schema.specs.Rules.{OffersChannel, OffersElement, ◌⊑◌, Covariant, Contravariant, Names}
use Rattle.schema.specs.Rules.◌⊑◌.{same, both}
use Rattle.schema.specs.Rules.Names.{receives, sends, inside, following}
use Rattle.verdicts.proofs.Facts.{ready_of}
use Rattle.verdicts.specs.Naming.{Two, neither, names_of_payloads, named_by, NamedAmong}
use Rattle.verdicts.specs.Pairs.{place_of}
use Rattle.verdicts.specs.Ready.{in_row}
use Rattle.verdicts.specs.Tests.{meeting}
use Rattle.verdicts.specs.declared.prepared.Prepared.{Prepared}
use Rattle.verdicts.proofs.Keeping.{channel_in, element_in}

-- the rules name the pair at place k for the pair (p, q)
abbrev pub NamedFor : List Row → ℕ → ℕ → ℕ → Type 0
NamedFor rows p q k = (a b : ℕ) × (a < length rows) × (b < length rows) × (k ≡ a * length rows + b) × Names rows p q a b

pub place_in : (n a b : ℕ) → a < n → b < n → place_of n (Some (a, b)) ≡ Some (a * n + b)
place_in n a b h g = cond-true (ltb a n && ltb b n) (Some (a * n + b)) None (and_from _ _ (lt-ltb a n h) (lt-ltb b n g))

abbrev pub Placed : ℕ → Option (ℕ × ℕ) → ℕ → Type 0
Placed n o k = (a b : ℕ) × (o ≡ Some (a, b)) × (a < n) × (b < n) × (k ≡ a * n + b)

pub place_parts : (n : ℕ) (o : Option (ℕ × ℕ)) (k : ℕ) → place_of n o ≡ Some k → Placed n o k
place_parts n None k e = never (cc)
place_parts n (Some pair) k e = ⊎_elim
    (λ yes.
    let (a, b) = and_parts (ltb pair.0 n) (ltb pair.1 n) yes in
    let found : Some (pair.0 * n + pair.1) ≡ Some k = sym (cond-true (ltb pair.0 n && ltb pair.1 n) (Some (pair.0 * n + pair.1)) None yes) ∙ e in
    let at : k ≡ pair.0 * n + pair.1 = cc in
    (pair.0, pair.1, refl, ltb-true pair.0 n a, ltb-true pair.1 n b, at))
    (λ off. let none = sym (cond-false (ltb pair.0 n && ltb pair.1 n) (Some (pair.0 * n + pair.1)) None off) ∙ e in never (cc))
    (cases_Bool (ltb pair.0 n && ltb pair.1 n))

abbrev pub Named : Two → ℕ → ℕ → Type 0
Named two a b = (two.0 ≡ Some (a, b)) ⊎ (two.1 ≡ Some (a, b))

-- a pair of rows that is named is named at its place
named_in : {a b k : ℕ} (n : ℕ) (two : Two) → a < n → b < n → k ≡ a * n + b → Named two a b → (place_of n two.0 ≡ Some k) ⊎ (place_of n two.1 ≡ Some k)
named_in {a} {b} {k} n two h g e = ⊎_elim (λ is. inl (at two.0 is)) (λ is. inr (at two.1 is))
  where
    at : (o : Option (ℕ × ℕ)) → o ≡ Some (a, b) → place_of n o ≡ Some k
    at o is = ap (place_of n) is ∙ place_in n a b h g ∙ ap Some (sym e)

-- and nothing else is named there
named_out : (n : ℕ) (two : Two) (k : ℕ) → (place_of n two.0 ≡ Some k) ⊎ (place_of n two.1 ≡ Some k) → (a b : ℕ) × Named two a b × (a < n) × (b < n) × (k ≡ a * n + b)
named_out n two k = ⊎_elim
    (λ e. let (a, b, is, h, g, at) = place_parts n two.0 k e in (a, b, inl is, h, g, at))
    (λ e. let (a, b, is, h, g, at) = place_parts n two.1 k e in (a, b, inr is, h, g, at))

some_pair : {s t a b : ℕ} → ◌≡◌ {A = Option (ℕ × ℕ)} (Some (s, t)) (Some (a, b)) → (s ≡ a) × (t ≡ b)
some_pair {s} {t} {a} {b} e = let h : ◌≡◌ {A = ℕ × ℕ} (s, t) (a, b) = cc in (ap (λ p. p.0) h, ap (λ p. p.1) h)

none_pair : {A : Type 0} {a b : ℕ} → ◌≡◌ {A = Option (ℕ × ℕ)} None (Some (a, b)) → A
none_pair e = never (cc)

forward : (k k' : Capability) (s t a b : ℕ) → (names_of_payloads k k' s t).0 ≡ Some (a, b) → (k ⊑ k') × Covariant k' × (s ≡ a) × (t ≡ b)
forward In In s t a b e = let (f, g) = some_pair e in (same, tt, f, g)
forward In Out s t a b e = none_pair e
forward In Both s t a b e = none_pair e
forward Out In s t a b e = none_pair e
forward Out Out s t a b e = none_pair e
forward Out Both s t a b e = none_pair e
forward Both In s t a b e = let (f, g) = some_pair e in (both, tt, f, g)
forward Both Out s t a b e = none_pair e
forward Both Both s t a b e = let (f, g) = some_pair e in (same, tt, f, g)

backward : (k k' : Capability) (s t a b : ℕ) → (names_of_payloads k k' s t).1 ≡ Some (a, b) → (k ⊑ k') × Contravariant k' × (t ≡ a) × (s ≡ b)
backward In In s t a b e = none_pair e
backward In Out s t a b e = none_pair e
backward In Both s t a b e = none_pair e
backward Out In s t a b e = none_pair e
backward Out Out s t a b e = let (f, g) = some_pair e in (same, tt, f, g)
backward Out Both s t a b e = none_pair e
backward Both In s t a b e = none_pair e
backward Both Out s t a b e = let (f, g) = some_pair e in (both, tt, f, g)
backward Both Both s t a b e = let (f, g) = some_pair e in (same, tt, f, g)

forward_in : {k k' : Capability} → k ⊑ k' → (s t : ℕ) → Covariant k' → (names_of_payloads k k' s t).0 ≡ Some (s, t)
forward_in (same {k = In}) s t v = refl
forward_in (same {k = Out}) s t v = absurd v
forward_in (same {k = Both}) s t v = refl
forward_in (both {k = In}) s t v = refl
forward_in (both {k = Out}) s t v = absurd v
forward_in (both {k = Both}) s t v = refl

backward_in : {k k' : Capability} → k ⊑ k' → (s t : ℕ) → Contravariant k' → (names_of_payloads k k' s t).1 ≡ Some (t, s)
backward_in (same {k = In}) s t v = absurd v
backward_in (same {k = Out}) s t v = refl
backward_in (same {k = Both}) s t v = refl
backward_in (both {k = In}) s t v = absurd v
backward_in (both {k = Out}) s t v = refl
backward_in (both {k = Both}) s t v = refl

module _ (t : Prepared) (p q : ℕ) where
  abbrev rows : List Row
  rows = rows_of t.table

  abbrev size : ℕ
  size = length rows

  abbrev ByChannels : ℕ → Type 0
  ByChannels = NamedAmong rows (in_row t.channels p) (in_row t.channels q)

  abbrev ByElements : ℕ → Type 0
  ByElements = NamedAmong rows (in_row t.elements p) (in_row t.elements q)

  channels_in : {a b k s u : ℕ} {k₁ k₂ : Capability} (c : OffersChannel rows p k₁ s) (d : OffersChannel rows q k₂ u) → Named (names_of_payloads k₁ k₂ s u) a b → a < size → b < size → k ≡ a * size + b → ByChannels k
  channels_in {a} {b} c d named h g e = (
    c.number,
    d.number,
    channel_in t p c,
    channel_in t q d,
    named_in size (named_by (slice_get rows c.number) (slice_get rows d.number)) h g e (subst₂ (λ r r'. Named (named_by r r') a b) (sym c.is) (sym d.is) named),
  )

  elements_in : {a b k l i n l' i' n' : ℕ} (f : OffersElement rows p l i n) (f' : OffersElement rows q l' i' n') (x : ℕ) → belongs x l ≡ true → belongs x l' ≡ true → Named (Some (i, i'), Some (n, n')) a b → a < size → b < size → k ≡ a * size + b → ByElements k
  elements_in {a} {b} {l} {i} {n} {l'} {i'} {n'} f f' x m m' named h g e = (
    f.number,
    f'.number,
    element_in t p f,
    element_in t q f',
    named_in size (named_by (slice_get rows f.number) (slice_get rows f'.number)) h g e
        (subst₂ (λ r r'. Named (named_by r r') a b) (sym f.is) (sym f'.is) (subst (λ on. Named (cond on (Some (i, i'), Some (n, n')) neither) a b) (sym ((meets_decides l l').1 (x, m, m'))) named)),
  )

  pub named_is : (k : ℕ) → NamedFor rows p q k → ByChannels k ⊎ ByElements k
  named_is k (a, b, h, g, e, receives c d o v) = inl (channels_in c d (inl (forward_in o a b v)) h g e)
  named_is k (a, b, h, g, e, sends c d o v) = inl (channels_in c d (inr (backward_in o b a v)) h g e)
  named_is k (a, b, h, g, e, inside x f f' m m') = inr (elements_in f f' x m m' (inl refl) h g e)
  named_is k (a, b, h, g, e, following x f f' m m') = inr (elements_in f f' x m m' (inr refl) h g e)

  by_channels : (k : ℕ) → ByChannels k → NamedFor rows p q k
  by_channels k (c, d, m, m', named) =
      let (offers, _, of) = ((ready_of t).addresses p c).0 m in
      let (offers', _, of') = ((ready_of t).addresses q d).0 m' in
      let (k₁, s, is) = of in
      let (k₂, u, is') = of' in
      let one : OffersChannel rows p k₁ s = record { number = c; offered = offers; is = is } in
      let two : OffersChannel rows q k₂ u = record { number = d; offered = offers'; is = is' } in
      let (a, b, at, h, g, e) = named_out size (named_by (slice_get rows c) (slice_get rows d)) k named in (
        a,
        b,
        h,
        g,
        e,
        ⊎_elim
            (λ f. let (o, v, x, y) = forward k₁ k₂ s u a b f in subst₂ (Names rows p q) x y (receives one two o v))
            (λ f. let (o, v, x, y) = backward k₁ k₂ s u a b f in subst₂ (Names rows p q) x y (sends one two o v))
            (subst₂ (λ r r'. Named (named_by r r') a b) is is' at),
      )

  by_elements : (k : ℕ) → ByElements k → NamedFor rows p q k
  by_elements k (c, d, m, m', named) =
      let (offers, inh, of) = ((ready_of t).parts p c).0 m in
      let (offers', inh', of') = ((ready_of t).parts q d).0 m' in
      let (l, i, n, is) = of in
      let (l', i', n', is') = of' in
      let one : OffersElement rows p l i n = record { number = c; offered = offers; is = is; inhabited = inh } in
      let two : OffersElement rows q l' i' n' = record { number = d; offered = offers'; is = is'; inhabited = inh' } in
      let (a, b, at, h, g, e) = named_out size (named_by (slice_get rows c) (slice_get rows d)) k named in
      let here : Named (cond (meeting l l') (Some (i, i'), Some (n, n')) neither) a b = subst₂ (λ r r'. Named (named_by r r') a b) is is' at in
      let Picked : Bool → Type 0 = λ on. Named (cond on (Some (i, i'), Some (n, n')) neither) a b in (
        a,
        b,
        h,
        g,
        e,
        ⊎_elim
            (λ on. let (x, b₁, b₂) = (meets_decides l l').0 on in ⊎_elim
            (λ f. let (y, z) = some_pair f in subst₂ (Names rows p q) y z (inside x one two b₁ b₂))
            (λ f. let (y, z) = some_pair f in subst₂ (Names rows p q) y z (following x one two b₁ b₂))
            (subst Picked on here))
            (λ off. ⊎_elim none_pair none_pair (subst Picked off here))
            (cases_Bool (meeting l l')),
      )

  pub is_named : (k : ℕ) → ByChannels k ⊎ ByElements k → NamedFor rows p q k
  is_named k = ⊎_elim (by_channels k) (by_elements k)
