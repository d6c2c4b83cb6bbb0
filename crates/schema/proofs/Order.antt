-- `Below` is decided by narrowing, and is an order on the rows of a determined table.
use Rattle.std.proofs.Common.{◌≡◌, ℕ, suc, ◌+◌, ◌*◌, ◌/◌, ◌%◌, ◌<◌, Bool, true, false, not, ◌&&◌, eqb, ltb, ◌⊎◌, List, length, Decides, refl, subst, inl, inr, ⊎_elim}
use Rattle.std.proofs.lemmas.Bool.{both_ways, cases_Bool, and_parts, and_from, lt-ltb, ltb-true, eqb-true, eq-eqb, not-true, not_from_false}
use Rattle.std.proofs.lemmas.Nat.{mul-add-lt, div-mul-add, mod-mul-add}
use Rattle.forms.specs.declared.Row.{Row}
use Rattle.forms.specs.declared.Capability.{Capability}
use Rattle.forms.specs.declared.Capability.TheVariants.{In, Out, Both}
use Rattle.forms.specs.Rows.{belongs}
use Rattle.schema.specs.Rules.{Bounded, Determined, OffersElement, ◌⊑◌, Relation, Payloads, Keeps, Closed, Below, Covariant, Contravariant, Names}
use Rattle.schema.specs.Rules.◌⊑◌.{same, both}
use Rattle.schema.specs.Rules.Names.{receives, sends, inside, following}
use Rattle.forms.specs.Schema.{Offers, Inhabited}
use Rattle.schema.specs.Theorems.{Part, OfRows, LargestWithin, Confined, BelowIsReflexive, BelowIsTransitive}
use Rattle.schema.proofs.Findings.{told, told_true, told_false}
use Rattle.narrowing.proofs.Striking.{each_below, Lawful, left_after, left_start, contains_every, keeps_rule, takes_all, struck}
use Rattle.relation.proofs.Inhabitants.{inhabited_or_not}
use Rattle.schema.proofs.Offered.{offers_or_not}
use Rattle.schema.proofs.Kept.{Fails, not_both, keeps_or_fails}

-- payloads compare in S as they do in R, if S has those pairs of R that the capability compares
pub payloads_where : (R S : Relation) (k : Capability) (s t : ℕ) → (Covariant k → R s t ≡ true → S s t ≡ true) → (Contravariant k → R t s ≡ true → S t s ≡ true) → Payloads R k s t → Payloads S k s t
payloads_where R S In s t c d h = c tt h
payloads_where R S Out s t c d h = d tt h
payloads_where R S Both s t c d h = (c tt h.0, d tt h.1)

pub payloads_more : {R S : Relation} → Part R S → (k : Capability) (s t : ℕ) → Payloads R k s t → Payloads S k s t
payloads_more {R} {S} part k s t = payloads_where R S k s t (λ _. part s t) (λ _. part t s)

pub keeps_more : {rows : List Row} {R S : Relation} {p q : ℕ} → Part R S → Keeps rows R p q → Keeps rows S p q
keeps_more part keeps = record {
  voids = keeps.voids;
  channels = λ c. let (k', t, d, o, pay) = keeps.channels c in (k', t, d, o, payloads_more part k' _ t pay);
  covers = keeps.covers;
  agrees = λ e e' x b b'. let (a, c) = keeps.agrees e e' x b b' in (part _ _ a, part _ _ c);
}

-- a relation as a set of pairs
abbrev pub pairs : Relation → ℕ × ℕ → Bool
pairs R x = R x.0 x.1

-- the pairs of rows, numbered row by row
pub place : List Row → ℕ → ℕ × ℕ
place rows k = (k / length rows, k % length rows)

pub listed : (rows : List Row) (C : Relation) → OfRows rows C → (x : ℕ × ℕ) → pairs C x ≡ true → (k : ℕ) × (k < length rows * length rows) × (place rows k ≡ x)
unfolding place
listed rows C of_rows x h =
    let n = length rows in
    let (p<n, q<n) = of_rows x.0 x.1 h in
    (x.0 * n + x.1, mul-add-lt x.0 n x.1 n p<n q<n, λ i. (div-mul-add x.0 n x.1 q<n i, mod-mul-add x.0 n x.1 q<n i))

module _ (rows : List Row) (bounded : Bounded rows) where
  keeps : (ℕ × ℕ → Bool) → ℕ × ℕ → Bool
  keeps S x = told (keeps_or_fails rows bounded (λ p q. S (p, q)) x.0 x.1)

  keeps_true : (S : ℕ × ℕ → Bool) (x : ℕ × ℕ) → Keeps rows (λ p q. S (p, q)) x.0 x.1 → keeps S x ≡ true
  unfolding keeps
  keeps_true S x h = ⊎_elim (λ e. e) (λ ne. absurd (not_both h (told_false _ ne))) (cases_Bool _)

  lawful : Lawful keeps
  unfolding keeps
  lawful S T part x h = keeps_true T x (keeps_more (λ p q. part (p, q)) (told_true _ h))

  abbrev rounds : ℕ
  rounds = suc (length rows * length rows)

  module _ (C : Relation) (of_rows : OfRows rows C) where
    pub largest_within : Relation
    largest_within p q = left_after keeps (pairs C) rounds (p, q)

    pub is_largest_within : LargestWithin rows C largest_within
    unfolding largest_within keeps
    is_largest_within = record {
      part = λ p q. left_start keeps (pairs C) rounds (p, q);
      closed = λ p q h. told_true _ (keeps_rule keeps (pairs C) (place rows) _ (listed rows C of_rows) lawful (p, q) h);
      largest = λ R part closed p q. contains_every keeps (pairs C) lawful (pairs R) (λ x. part x.0 x.1) (λ x h. keeps_true (pairs R) x (closed x.0 x.1 h)) rounds (p, q);
    }

    pub takes_in : (p q : ℕ) → C p q ≡ true → Keeps rows largest_within p q → largest_within p q ≡ true
    unfolding largest_within
    takes_in p q h keeps-it = takes_all keeps (pairs C) (place rows) _ (listed rows C of_rows) lawful (p, q) h (keeps_true (left_after keeps (pairs C) rounds) (p, q) keeps-it)

    pub struck_pair : (P : ℕ → ℕ → Type 0) →
        ((S : Relation) → ((p q : ℕ) → C p q ≡ true → S p q ≡ false → P p q) → (p q : ℕ) → C p q ≡ true → Fails rows S p q → P p q) →
        (p q : ℕ) → C p q ≡ true → largest_within p q ≡ false → P p q
    unfolding largest_within keeps
    struck_pair P step p q = struck keeps (pairs C) (λ x. P x.0 x.1) (λ S known x h gone. step (λ a b. S (a, b)) (λ a b. known (a, b)) x.0 x.1 h (told_false _ gone)) rounds (p, q)

-- the pairs of rows
abbrev pub square : List Row → Relation
square rows p q = ltb p (length rows) && ltb q (length rows)

pub square_in : (rows : List Row) (p q : ℕ) → p < length rows → q < length rows → square rows p q ≡ true
square_in rows p q h g = and_from _ _ (lt-ltb p _ h) (lt-ltb q _ g)

pub square_out : (rows : List Row) → OfRows rows (square rows)
square_out rows p q h = let (a, b) = and_parts _ _ h in (ltb-true p _ a, ltb-true q _ b)

payloads_and : (C R : Relation) (k : Capability) (s t : ℕ) → (Covariant k → C s t ≡ true) → (Contravariant k → C t s ≡ true) → Payloads R k s t → Payloads (λ p q. C p q && R p q) k s t
payloads_and C R k s t c d = payloads_where R (λ p q. C p q && R p q) k s t (λ v. and_from (C s t) (R s t) (c v)) (λ v. and_from (C t s) (R t s) (d v))

pub confined_closed : (rows : List Row) (C R : Relation) → Confined rows C → Closed rows R → Closed rows (λ p q. C p q && R p q)
confined_closed rows C R confined closed p q h =
    let (c, r) = and_parts (C p q) (R p q) h in
    let keeps = closed p q r in
    record {
      voids = keeps.voids;
      channels = λ c'. let (k', t, d, o, pay) = keeps.channels c' in (k', t, d, o, payloads_and C R k' _ t (λ v. confined p q _ _ c (receives c' d o v)) (λ v. confined p q _ _ c (sends c' d o v)) pay);
      covers = keeps.covers;
      agrees = λ e e' x b b'. let (a, f) = keeps.agrees e e' x b b' in (and_from _ _ (confined p q _ _ c (inside x e e' b b')) a, and_from _ _ (confined p q _ _ c (following x e e' b b')) f);
    }

-- so it is enough to look at such a C
pub confined_agrees : (rows : List Row) (C S : Relation) → Confined rows C → LargestWithin rows C S → (p q : ℕ) → C p q ≡ true → Decides (S p q) (Below rows p q)
confined_agrees rows C S confined is p q h =
    (λ e. (S, is.closed, e), λ (R, closed, e). is.largest (λ a b. C a b && R a b) (λ a b g. (and_parts _ _ g).0) (confined_closed rows C R confined closed) p q (and_from _ _ h e))

-- the rules name only rows
pub names_square : (rows : List Row) → Bounded rows → {p q : ℕ} (a b : ℕ) → Names rows p q a b → square rows a b ≡ true
names_square rows bounded a b (receives c d o v) = square_in rows a b (bounded.inside c.number c.is).0 (bounded.inside d.number d.is).0
names_square rows bounded a b (sends c d o v) = square_in rows a b (bounded.inside d.number d.is).0 (bounded.inside c.number c.is).0
names_square rows bounded a b (inside x e e' m m') = square_in rows a b (bounded.inside e.number e.is).0.0 (bounded.inside e'.number e'.is).0.0
names_square rows bounded a b (following x e e' m m') = square_in rows a b (bounded.inside e.number e.is).0.1 (bounded.inside e'.number e'.is).0.1

pub square_confined : (rows : List Row) → Bounded rows → Confined rows (square rows)
square_confined rows bounded p q a b h = names_square rows bounded a b

weaken : (R : Relation) {k k' : Capability} (s t : ℕ) → k ⊑ k' → Payloads R k s t → Payloads R k' s t
weaken R s t same h = h
weaken R s t (both {k = In}) h = h.0
weaken R s t (both {k = Out}) h = h.1
weaken R s t (both {k = Both}) h = h

order_join : {k l m : Capability} → k ⊑ l → l ⊑ m → k ⊑ m
order_join same h = h
order_join both h = both

module _ (rows : List Row) (bounded : Bounded rows) where
  pub below : Relation
  below = largest_within rows bounded (square rows) (square_out rows)

  pub below_closed : Closed rows below
  unfolding below
  below_closed = (is_largest_within rows bounded (square rows) (square_out rows)).closed

  pub below_decides : (p q : ℕ) → p < length rows → q < length rows → Decides (below p q) (Below rows p q)
  unfolding below
  below_decides p q h g = confined_agrees rows (square rows) _ (square_confined rows bounded) (is_largest_within rows bounded (square rows) (square_out rows)) p q (square_in rows p q h g)

  pub below_struck : (P : ℕ → ℕ → Type 0) →
      ((S : Relation) → ((p q : ℕ) → square rows p q ≡ true → S p q ≡ false → P p q) → (p q : ℕ) → square rows p q ≡ true → Fails rows S p q → P p q) →
      (p q : ℕ) → square rows p q ≡ true → below p q ≡ false → P p q
  unfolding below
  below_struck = struck_pair rows bounded (square rows) (square_out rows)

  -- a pair of rows that keeps the rules within `below` is below
  pub below_if : (p q : ℕ) → p < length rows → q < length rows → Keeps rows below p q → Below rows p q
  unfolding below
  below_if p q h g keeps-it = (below, below_closed, takes_in rows bounded (square rows) (square_out rows) p q (square_in rows p q h g) keeps-it)

  -- p is below some row that is below r
  through : (p r : ℕ) → ((m : ℕ) × (below p m ≡ true) × (below m r ≡ true)) ⊎ ((m : ℕ) → m < length rows → below p m ≡ true → below m r ≡ true → ⊥)
  through p r = each_below (length rows) (λ m _. ⊎_elim (λ a. ⊎_elim (λ b. inl (m, a, b)) (λ nb. inr (λ _. both_ways _ nb)) (cases_Bool (below m r))) (λ na. inr (λ a _. both_ways _ na a)) (cases_Bool (below p m)))

  two_steps : Relation
  two_steps p r = not (told (through p r))

  two_steps_in : (p m r : ℕ) → m < length rows → below p m ≡ true → below m r ≡ true → two_steps p r ≡ true
  unfolding two_steps
  two_steps_in p m r h a b = ⊎_elim (λ none. absurd (told_true (through p r) none m h a b)) (not_from_false _) (cases_Bool (told (through p r)))

  payloads_join : (k : Capability) (s t u : ℕ) → t < length rows → Payloads below k s t → Payloads below k t u → Payloads two_steps k s u
  payloads_join In s t u h a b = two_steps_in s t u h a b
  payloads_join Out s t u h a b = two_steps_in u t s h b a
  payloads_join Both s t u h a b = (two_steps_in s t u h a.0 b.0, two_steps_in u t s h b.1 a.1)

  two_steps_closed : Closed rows two_steps
  unfolding two_steps
  two_steps_closed p r h =
      let (m, a, b) = told_false (through p r) (not-true _ h) in
      let one = below_closed p m a in
      let two = below_closed m r b in
      record {
        voids = λ v. two.voids (one.voids v);
        channels = λ {k} {s} c.
            let (k', t, d, o, pay) = one.channels c in
            let (k'', u, d', o', pay') = two.channels d in
            (k'', u, d', order_join o o', payloads_join k'' s t u (bounded.inside d.number d.is).0 (weaken below s t o' pay) pay');
        covers = λ e x b. let (l', i', n', e', b') = one.covers e x b in two.covers e' x b';
        agrees = λ {l} {i} {n} {l' = l''} {i' = i''} {n' = n''} e e'' x b b''.
            let (l', i', n', e', b') = one.covers e x b in
            let (f, g) = one.agrees e e' x b b' in
            let (f', g') = two.agrees e' e'' x b' b'' in
            let (i<, n<) = (bounded.inside e'.number e'.is).0 in
            (two_steps_in i i' i'' i< f f', two_steps_in n n' n'' n< g g');
      }

-- in a determined table a label leads to one pair of parts
pub same_parts : {rows : List Row} {p l i n l' i' n' : ℕ} → Determined rows → OffersElement rows p l i n → OffersElement rows p l' i' n' → (x : ℕ) → belongs x l ≡ true → belongs x l' ≡ true → (i ≡ i') × (n ≡ n')
same_parts determined e e' x b b' = let h = determined.one e e' x b b' in ((cc), (cc))

pub reflexive : BelowIsReflexive
reflexive rows determined p = (eqb, closed, eq-eqb p p refl)
  where
    payloads_same : (k : Capability) (s : ℕ) → Payloads eqb k s s
    payloads_same In s = eq-eqb s s refl
    payloads_same Out s = eq-eqb s s refl
    payloads_same Both s = (eq-eqb s s refl, eq-eqb s s refl)

    keeps_itself : (p : ℕ) → Keeps rows eqb p p
    keeps_itself p = record {
      voids = λ v. v;
      channels = λ {k} {s} c. (k, s, c, same, payloads_same k s);
      covers = λ {l} {i} {n} e x b. (l, i, n, e, b);
      agrees = λ {l} {i} {n} {l'} {i'} {n'} e e' x b b'. let (f, g) = same_parts determined e e' x b b' in (eq-eqb i i' f, eq-eqb n n' g);
    }

    closed : Closed rows eqb
    closed p q h = subst (Keeps rows eqb p) (eqb-true p q h) (keeps_itself p)

pub transitive : BelowIsTransitive
transitive rows bounded p q r h g f a b = (two_steps rows bounded, two_steps_closed rows bounded, two_steps_in rows bounded p q r g ((below_decides rows bounded p q h g).1 a) ((below_decides rows bounded q r g f).1 b))

-- within any relation between rows there is a largest one in which each pair keeps the rules
pub largest_exists : (rows : List Row) → Bounded rows → (C : Relation) → OfRows rows C → (S : Relation) × LargestWithin rows C S
largest_exists rows bounded C of_rows = (largest_within rows bounded C of_rows, is_largest_within rows bounded C of_rows)

-- a relation decides `Below` for all rows, and each of its pairs keeps the rules
pub closed_and_decided : (rows : List Row) → Bounded rows → (B : Relation) × Closed rows B × ((p q : ℕ) → p < length rows → q < length rows → Decides (B p q) (Below rows p q))
closed_and_decided rows bounded = (below rows bounded, below_closed rows bounded, below_decides rows bounded)

-- the rules can be decided, for any relation
pub rules_are_decided : (rows : List Row) → Bounded rows → (R : Relation) (p q : ℕ) →
    (Offers rows p q ⊎ (Offers rows p q → ⊥)) × (Inhabited rows p ⊎ (Inhabited rows p → ⊥)) × (Keeps rows R p q ⊎ (Keeps rows R p q → ⊥))
rules_are_decided rows bounded R p q = (offers_or_not rows bounded p q, inhabited_or_not rows p, ⊎_elim (λ fails. inr (λ keeps-it. not_both keeps-it fails)) inl (keeps_or_fails rows bounded R p q))
