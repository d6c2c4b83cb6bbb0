-- The worked table: each case by the pairs that it needs.
use Rattle.forms.proofs.Findings.{never}
use Rattle.std.proofs.Common.{◌≡◌, ℕ, true, false, ◌&&◌, ◌||◌, eqb, ◌⊎◌, List, [], ◌∷◌, Some, sym, refl, ap, ◌∙◌, subst, inl, inr, ⊎_elim, arith}
use Rattle.std.specs.List.{AllByRecursion, slice_get}
use Rattle.std.proofs.lemmas.Bool.{both_ways, cases_eq, eqb-true, and_parts, or_cases}
use Rattle.sets.proofs.Nexts.{bit_below}
use Rattle.forms.specs.declared.Row.{Row}
use Rattle.forms.specs.declared.Row.TheVariants.{Void, Channel, Element, Union}
use Rattle.forms.specs.declared.Capability.{Capability}
use Rattle.forms.specs.declared.Capability.TheVariants.{Out, Both}
use Rattle.forms.specs.Rows.{belongs}
use Rattle.forms.specs.Schema.{NoUnion, Offers, Inhabited}
use Rattle.forms.specs.Schema.Offers.{itself, left, right}
use Rattle.forms.specs.Schema.Inhabited.{of_void, of_channel, of_element, of_left, of_right}
use Rattle.forms.specs.Documents.{Document}
use Rattle.forms.specs.Documents.Document.{void, element}
use Rattle.schema.specs.Rules.{OffersVoid, OffersChannel, OffersElement, Relation, Payloads, Keeps, Below, Fits, Names, Leans, ◌⊑◌}
use Rattle.schema.specs.Rules.◌⊑◌.{same, both}
use Rattle.schema.specs.Rules.Fits.{fits_void, fits_reference, fits_element}
use Rattle.schema.specs.Rules.Names.{receives, sends, inside, following}
use Rattle.schema.specs.Rules.Leans.{on_itself, on_named}
use Rattle.schema.specs.Worked.{table, tally, Counts, Shows, alone, WorkedCases}

-- LABELS
label_of_two : (x : ℕ) → belongs x 2 ≡ true → x ≡ 1
label_of_two x e = let h = bit_below 2 2 x (omega arith) e in ⊎_elim
    (λ z. absurd (both_ways (belongs 0 2) refl (subst (λ y. belongs y 2 ≡ true) z e)))
    (λ nz. omega arith)
    (cases_eq x 0)

label_of_six : (x : ℕ) → belongs x 6 ≡ true → (x ≡ 1) ⊎ (x ≡ 2)
label_of_six x e = let h = bit_below 6 3 x (omega arith) e in ⊎_elim
    (λ z. absurd (both_ways (belongs 0 6) refl (subst (λ y. belongs y 6 ≡ true) z e)))
    (λ nz. ⊎_elim inl (λ n1. inr (omega arith)) (cases_eq x 1))
    (cases_eq x 0)

-- WHAT A ROW OFFERS. A row that is no union offers only itself.
module _ {rows : List Row} {p : ℕ} {row : Row} (e : slice_get rows p ≡ Some row) (plain : NoUnion row) where
  itself_only : {o : ℕ} → Offers rows p o → o ≡ p
  itself_only (itself _ _) = refl
  itself_only (left {l} {r} e' u) = let same : row ≡ Union l r = cc in absurd (subst NoUnion same plain)
  itself_only (right {l} {r} e' u) = let same : row ≡ Union l r = cc in absurd (subst NoUnion same plain)

  only : {o : ℕ} {row' : Row} → Offers rows p o → slice_get rows o ≡ Some row' → row' ≡ row
  only {o} {row'} u e' = let at : slice_get rows o ≡ slice_get rows p = ap (slice_get rows) (itself_only u) in cc

union_offers : {o : ℕ} → Offers table 8 o → (o ≡ 0) ⊎ (o ≡ 9)
union_offers (itself {row} e plain) = let is : row ≡ Union 0 9 = cc in absurd (subst NoUnion is plain)
union_offers {o} (left {l} e u) = let is : l ≡ 0 = cc in inl (itself_only {rows = table} {p = 0} {row = Void} refl tt (subst (λ k. Offers table k o) is u))
union_offers {o} (right {r} e u) = let is : r ≡ 9 = cc in inr (itself_only {rows = table} {p = 9} {row = Element 2 0 8} refl tt (subst (λ k. Offers table k o) is u))

-- RELATIONS BY THEIR PAIRS
abbrev listed : List (ℕ × ℕ) → Relation
listed [] p q = false
listed (x ∷ xs) p q = (eqb p x.0 && eqb q x.1) || listed xs p q

-- what holds of each listed pair holds of each pair of the relation
each_listed : (P : ℕ → ℕ → Type 0) (xs : List (ℕ × ℕ)) → AllByRecursion (λ x. P x.0 x.1) xs → (p q : ℕ) → listed xs p q ≡ true → P p q
each_listed P [] all p q h = absurd (both_ways false refl h)
each_listed P (x ∷ xs) all p q h = ⊎_elim
    (λ here.
    let (a, b) = and_parts (eqb p x.0) (eqb q x.1) here in
    subst (λ k. P k q) (sym (eqb-true p x.0 a)) (subst (P x.0) (sym (eqb-true q x.1 b)) all.0))
    (each_listed P xs all.1 p q)
    (or_cases (eqb p x.0 && eqb q x.1) (listed xs p q) h)

below_by : (xs : List (ℕ × ℕ)) → AllByRecursion (λ x. Keeps table (listed xs) x.0 x.1) xs → (p q : ℕ) → listed xs p q ≡ true → Below table p q
below_by xs all p q h = (listed xs, each_listed (Keeps table (listed xs)) xs all, h)

-- pairs that the rules do not lead out of
abbrev Leads : List (ℕ × ℕ) → ℕ → ℕ → Type 0
Leads xs p q = (a b : ℕ) → Names table p q a b → listed xs a b ≡ true

leans_within : (xs : List (ℕ × ℕ)) → AllByRecursion (λ x. Leads xs x.0 x.1) xs → {p q a b : ℕ} → listed xs p q ≡ true → Leans table p q a b → listed xs a b ≡ true
leans_within xs all h on_itself = h
leans_within xs all {p} {q} h (on_named {a = c} {b = d} names more) = leans_within xs all (each_listed (Leads xs) xs all p q h c d names) more

counted : (xs : List (ℕ × ℕ)) → AllByRecursion (λ x. Leads xs x.0 x.1) xs → (p q : ℕ) → listed xs p q ≡ true → AllByRecursion (λ x. Leans table p q x.0 x.1) xs → (k : ℕ) → k ≡ tally 10 (listed xs) 100 → Counts 10 (Leans table p q) k
counted xs all p q h leaned k e = record { R = listed xs; sound = each_listed (Leans table p q) xs leaned; complete = λ a b l. leans_within xs all h l; many = e }

-- THE ROWS
-- a row that is no union, and what it is
module _ (p : ℕ) (row : Row) (e : slice_get table p ≡ Some row) (plain : NoUnion row) where
  no_void : (Void ≡ row → ⊥) → OffersVoid table p → ⊥
  no_void other (v, u, is) = other (only e plain u is)

  channel_is : {k : Capability} {s : ℕ} → OffersChannel table p k s → Channel k s ≡ row
  channel_is c = only e plain c.offered c.is

  element_is : {l i n : ℕ} → OffersElement table p l i n → Element l i n ≡ row
  element_is c = only e plain c.offered c.is

-- no document fits row 6, since it wants one more of itself
barren : {p : ℕ} → Inhabited table p → p ≡ 6 → ⊥
barren {p} (of_void e) six = let at : slice_get table p ≡ Some (Element 2 0 6) = ap (slice_get table) six in never (cc)
barren {p} (of_channel e) six = let at : slice_get table p ≡ Some (Element 2 0 6) = ap (slice_get table) six in never (cc)
barren {p} (of_element {n} x e b hi hn) six = let at : slice_get table p ≡ Some (Element 2 0 6) = ap (slice_get table) six in barren hn (cc)
barren {p} (of_left e h) six = let at : slice_get table p ≡ Some (Element 2 0 6) = ap (slice_get table) six in never (cc)
barren {p} (of_right e h) six = let at : slice_get table p ≡ Some (Element 2 0 6) = ap (slice_get table) six in never (cc)

no_element_six : {l i n : ℕ} → OffersElement table 6 l i n → ⊥
no_element_six c = barren c.inhabited (itself_only {rows = table} {p = 6} {row = Element 2 0 6} refl tt c.offered)

void_zero : OffersVoid table 0
void_zero = (0, itself refl tt, refl)

one : OffersElement table 1 2 0 0
one = record { number = 1; offered = itself refl tt; is = refl; inhabited = of_element 1 refl refl (of_void refl) (of_void refl) }

two : OffersElement table 2 6 0 0
two = record { number = 2; offered = itself refl tt; is = refl; inhabited = of_element 1 refl refl (of_void refl) (of_void refl) }

nine : OffersElement table 8 2 0 8
nine = record { number = 9; offered = right refl (itself refl tt); is = refl; inhabited = of_element 1 refl refl (of_void refl) (of_left refl (of_void refl)) }

-- what row 8 offers: void, and the element of row 9
no_channel_eight : {k : Capability} {s : ℕ} → OffersChannel table 8 k s → ⊥
no_channel_eight {k} {s} c = ⊎_elim
    (λ z. let at : slice_get table c.number ≡ Some Void = ap (slice_get table) z in let w = c.is in never (cc))
    (λ z. let at : slice_get table c.number ≡ Some (Element 2 0 8) = ap (slice_get table) z in let w = c.is in never (cc))
    (union_offers c.offered)

element_eight : {l i n : ℕ} → OffersElement table 8 l i n → Element l i n ≡ Element 2 0 8
element_eight {l} {i} {n} c = ⊎_elim
    (λ z. let at : slice_get table c.number ≡ Some Void = ap (slice_get table) z in let w = c.is in never (cc))
    (λ z. let at : slice_get table c.number ≡ Some (Element 2 0 8) = ap (slice_get table) z in let w = c.is in cc)
    (union_offers c.offered)

-- PAIRS THAT KEEP THE RULES
keeps_zero : (R : Relation) → Keeps table R 0 0
keeps_zero R = record {
  voids = λ v. v;
  channels = λ c. let z = channel_is 0 Void refl tt c in never (cc);
  covers = λ e x b. let z = element_is 0 Void refl tt e in never (cc);
  agrees = λ e e' x b b'. let z = element_is 0 Void refl tt e in never (cc);
}

no_channel_one : {k : Capability} {s : ℕ} → OffersChannel table 1 k s → ⊥
no_channel_one c = let z = channel_is 1 (Element 2 0 0) refl tt c in never (cc)

no_void_one : OffersVoid table 1 → ⊥
no_void_one = no_void 1 (Element 2 0 0) refl tt (λ z. never (cc))

-- the parts of two elements compare as those of the rows that they are
parts : (R : Relation) (i n i' n' : ℕ) {l l' L L' I N I' N' : ℕ} → Element l i n ≡ Element L I N → Element l' i' n' ≡ Element L' I' N' → R I I' ≡ true → R N N' ≡ true → (R i i' ≡ true) × (R n n' ≡ true)
parts R i n i' n' {I} {N} {I'} {N'} z w a b =
    let ei : I ≡ i = cc in
    let en : N ≡ n = cc in
    let ei' : I' ≡ i' = cc in
    let en' : N' ≡ n' = cc in
    (subst (λ y. R y i' ≡ true) ei (subst (λ y. R I y ≡ true) ei' a), subst (λ y. R y n' ≡ true) en (subst (λ y. R N y ≡ true) en' b))

module _ (R : Relation) (zeros : R 0 0 ≡ true) where
  keeps_one_two : Keeps table R 1 2
  keeps_one_two = record {
    voids = λ v. absurd (no_void_one v);
    channels = λ c. absurd (no_channel_one c);
    covers = λ {l} e x b.
        let z = element_is 1 (Element 2 0 0) refl tt e in
        let el : l ≡ 2 = cc in
        let ex = label_of_two x (subst (λ y. belongs x y ≡ true) el b) in
        (6, 0, 0, two, subst (λ y. belongs y 6 ≡ true) (sym ex) refl);
    agrees = λ {l} {i} {n} {l'} {i'} {n'} e e' x b b'. parts R i n i' n' (element_is 1 (Element 2 0 0) refl tt e) (element_is 2 (Element 6 0 0) refl tt e') zeros zeros;
  }

  keeps_one_one : Keeps table R 1 1
  keeps_one_one = record {
    voids = λ v. v;
    channels = λ c. absurd (no_channel_one c);
    covers = λ {l} {i} {n} e x b. (l, i, n, e, b);
    agrees = λ {l} {i} {n} {l'} {i'} {n'} e e' x b b'. parts R i n i' n' (element_is 1 (Element 2 0 0) refl tt e) (element_is 1 (Element 2 0 0) refl tt e') zeros zeros;
  }

  keeps_eight : R 8 8 ≡ true → Keeps table R 8 8
  keeps_eight eights = record {
    voids = λ v. v;
    channels = λ c. absurd (no_channel_eight c);
    covers = λ {l} {i} {n} e x b. (l, i, n, e, b);
    agrees = λ {l} {i} {n} {l'} {i'} {n'} e e' x b b'. parts R i n i' n' (element_eight e) (element_eight e') zeros eights;
  }

-- a channel row that is below row 3, which is to send what fits row 1
to_three : (R : Relation) (p : ℕ) (K : Capability) (S : ℕ) → slice_get table p ≡ Some (Channel K S) → K ⊑ Out → R 1 S ≡ true → Keeps table R p 3
to_three R p K S e o below = record {
  voids = λ v. absurd (no_void p (Channel K S) e tt (λ z. never (cc)) v);
  channels = λ {k} {s} c.
      let z = channel_is p (Channel K S) e tt c in
      let ek : K ≡ k = cc in
      let es : S ≡ s = cc in
      (Out, 1, record { number = 3; offered = itself refl tt; is = refl }, subst (λ x. x ⊑ Out) ek o, subst (λ x. R 1 x ≡ true) es below);
  covers = λ c x b. let z = element_is p (Channel K S) e tt c in never (cc);
  agrees = λ c c' x b b'. let z = element_is p (Channel K S) e tt c in never (cc);
}

keeps_six_seven : (R : Relation) → Keeps table R 6 7
keeps_six_seven R = record {
  voids = λ v. absurd (no_void 6 (Element 2 0 6) refl tt (λ z. never (cc)) v);
  channels = λ c. let z = channel_is 6 (Element 2 0 6) refl tt c in never (cc);
  covers = λ e x b. absurd (no_element_six e);
  agrees = λ e e' x b b'. absurd (no_element_six e);
}

one_below_two : Below table 1 2
one_below_two = below_by ((1, 2) ∷ (0, 0) ∷ []) (keeps_one_two _ refl, (keeps_zero _, tt)) 1 2 refl

four_below_three : Below table 4 3
four_below_three = below_by ((4, 3) ∷ (1, 2) ∷ (0, 0) ∷ []) (to_three _ 4 Out 2 refl same refl, (keeps_one_two _ refl, (keeps_zero _, tt))) 4 3 refl

five_below_three : Below table 5 3
five_below_three = below_by ((5, 3) ∷ (1, 1) ∷ (0, 0) ∷ []) (to_three _ 5 Both 1 refl both refl, (keeps_one_one _ refl, (keeps_zero _, tt))) 5 3 refl

six_below_seven : Below table 6 7
six_below_seven = below_by ((6, 7) ∷ []) (keeps_six_seven _, tt) 6 7 refl

eight_below_itself : Below table 8 8
eight_below_itself = below_by ((8, 8) ∷ (0, 0) ∷ []) (keeps_eight _ refl refl, (keeps_zero _, tt)) 8 8 refl

-- PAIRS THAT BREAK THEM
-- label 2 is one of row 2 and not of row 1
two_not_one : (R : Relation) → Keeps table R 2 1 → ⊥
two_not_one R keeps =
    let (l, i, n, e, b) = keeps.covers two 2 refl in
    let z = element_is 1 (Element 2 0 0) refl tt e in
    let el : l ≡ 2 = cc in
    both_ways (belongs 2 2) refl (subst (λ y. belongs 2 y ≡ true) el b)

two_not_below_one : Below table 2 1 → ⊥
two_not_below_one (R, closed, h) = two_not_one R (closed 2 1 h)

three : OffersChannel table 3 Out 1
three = record { number = 3; offered = itself refl tt; is = refl }

-- what may be sent to row 3 may not all be sent to row 4
three_not_below_four : Below table 3 4 → ⊥
three_not_below_four (R, closed, h) =
    let (k, t, d, o, pay) = (closed 3 4 h).channels three in
    let z = channel_is 4 (Channel Out 2) refl tt d in
    let ek : k ≡ Out = cc in
    let et : t ≡ 2 = cc in
    two_not_one R (closed 2 1 (subst (λ y. R y 1 ≡ true) et (subst (λ c. Payloads R c 1 t) ek pay)))

-- row 3 may not be received from, as row 5 may
three_not_below_five : Below table 3 5 → ⊥
three_not_below_five (R, closed, h) =
    let (k, t, d, o, pay) = (closed 3 5 h).channels three in
    let z = channel_is 5 (Channel Both 1) refl tt d in
    let ek : k ≡ Both = cc in
    out_not_both (subst (λ c. Out ⊑ c) ek o)
  where
    out_not_both : Out ⊑ Both → ⊥
    out_not_both o = elim o [ ]

no_void_nine : OffersVoid table 9 → ⊥
no_void_nine = no_void 9 (Element 2 0 8) refl tt (λ z. never (cc))

eight_not_below_nine : Below table 8 9 → ⊥
eight_not_below_nine (R, closed, h) = no_void_nine ((closed 8 9 h).voids (0, left refl (itself refl tt), refl))

-- within itself alone, the pair (1, 2) lacks the pair of its parts
alone_breaks : Keeps table (alone 1 2) 1 2 → ⊥
alone_breaks keeps = both_ways (alone 1 2 0 0) refl (keeps.agrees one two 1 refl refl).0

-- THE DOCUMENTS THAT SHOW IT
only_void_fits_zero : {d : Document} → Fits table d 0 → d ≡ void
only_void_fits_zero (fits_void v) = refl
only_void_fits_zero (fits_reference u is b) = let z = only {rows = table} {p = 0} {row = Void} refl tt u is in never (cc)
only_void_fits_zero (fits_element u is b fa fb) = let z = only {rows = table} {p = 0} {row = Void} refl tt u is in never (cc)

fits_void_zero : Fits table void 0
fits_void_zero = fits_void void_zero

-- a document that fits row 2
fits_two : {d : Document} → Fits table d 2 → (x : ℕ) × (belongs x 6 ≡ true) × (d ≡ element x void void)
fits_two (fits_void v) = absurd (no_void 2 (Element 6 0 0) refl tt (λ z. never (cc)) v)
fits_two (fits_reference u is b) = let z = only {rows = table} {p = 2} {row = Element 6 0 0} refl tt u is in never (cc)
fits_two (fits_element {x} {a} {b} {l} {i} {n} u is has fa fb) =
    let z = only {rows = table} {p = 2} {row = Element 6 0 0} refl tt u is in
    let el : l ≡ 6 = cc in
    let ei : i ≡ 0 = cc in
    let en : n ≡ 0 = cc in
    let ea = only_void_fits_zero (subst (Fits table a) ei fa) in
    let eb = only_void_fits_zero (subst (Fits table b) en fb) in
    (x, subst (λ y. belongs x y ≡ true) el has, cc)

fits_one : Fits table (element 1 void void) 1
fits_one = fits_element (itself {row = Element 2 0 0} refl tt) refl refl fits_void_zero fits_void_zero

two_shown : Shows 2 1 (element 2 void void)
two_shown = record {
  is = (omega arith, tt, tt);
  fits = fits_element (itself {row = Element 6 0 0} refl tt) refl refl fits_void_zero fits_void_zero;
  fits_not = λ f. go f;
}
  where
    go : Fits table (element 2 void void) 1 → ⊥
    go (fits_element {l} u is has fa fb) =
        let z = only {rows = table} {p = 1} {row = Element 2 0 0} refl tt u is in
        let el : l ≡ 2 = cc in
        both_ways (belongs 2 2) refl (subst (λ y. belongs 2 y ≡ true) el has)

two_shown_only : (e : Document) → Shows 2 1 e → e ≡ element 2 void void
two_shown_only e shows =
    let (x, has, is) = fits_two shows.fits in
    ⊎_elim
    (λ ex. absurd (shows.fits_not (subst (λ d. Fits table d 1) (sym (is ∙ ap (λ y. element y void void) ex)) fits_one)))
    (λ ex. is ∙ ap (λ y. element y void void) ex)
    (label_of_six x has)

eight_shown : Shows 8 9 void
eight_shown = record { is = tt; fits = fits_void (0, left refl (itself refl tt), refl); fits_not = λ f. go f }
  where
    go : Fits table void 9 → ⊥
    go (fits_void v) = no_void_nine v

eight_shown_only : (e : Document) → Shows 8 9 e → e ≡ void
eight_shown_only e shows = go shows.fits shows.fits_not
  where
    go : {d : Document} → Fits table d 8 → (Fits table d 9 → ⊥) → d ≡ void
    go (fits_void v) none = refl
    go (fits_reference u is b) none = absurd (no_channel_eight (record { number = _; offered = u; is = is }))
    go (fits_element {e} u is has fa fb) none = ⊎_elim
        (λ z. let at : slice_get table e ≡ Some Void = ap (slice_get table) z in never (cc))
        (λ z. absurd (none (fits_element (subst (Offers table 9) (sym z) (itself {row = Element 2 0 8} refl tt)) is has fa fb)))
        (union_offers u)

-- WHAT PAIRS LEAN ON
leads_zero : (xs : List (ℕ × ℕ)) → Leads xs 0 0
leads_zero xs a b (receives c d o v) = let z = channel_is 0 Void refl tt c in never (cc)
leads_zero xs a b (sends c d o v) = let z = channel_is 0 Void refl tt c in never (cc)
leads_zero xs a b (inside x e e' h h') = let z = element_is 0 Void refl tt e in never (cc)
leads_zero xs a b (following x e e' h h') = let z = element_is 0 Void refl tt e in never (cc)

leads_one_two : (xs : List (ℕ × ℕ)) → listed xs 0 0 ≡ true → Leads xs 1 2
leads_one_two xs zeros a b (receives c d o v) = absurd (no_channel_one c)
leads_one_two xs zeros a b (sends c d o v) = absurd (no_channel_one c)
leads_one_two xs zeros a b (inside {i} {n} {i'} {n'} x e e' h h') = (parts (listed xs) i n i' n' (element_is 1 (Element 2 0 0) refl tt e) (element_is 2 (Element 6 0 0) refl tt e') zeros zeros).0
leads_one_two xs zeros a b (following {i} {n} {i'} {n'} x e e' h h') = (parts (listed xs) i n i' n' (element_is 1 (Element 2 0 0) refl tt e) (element_is 2 (Element 6 0 0) refl tt e') zeros zeros).1

leads_six_seven : (xs : List (ℕ × ℕ)) → Leads xs 6 7
leads_six_seven xs a b (receives c d o v) = let z = channel_is 6 (Element 2 0 6) refl tt c in never (cc)
leads_six_seven xs a b (sends c d o v) = let z = channel_is 6 (Element 2 0 6) refl tt c in never (cc)
leads_six_seven xs a b (inside x e e' h h') = absurd (no_element_six e)
leads_six_seven xs a b (following x e e' h h') = absurd (no_element_six e)

leads_eight : (xs : List (ℕ × ℕ)) → listed xs 0 0 ≡ true → listed xs 8 8 ≡ true → Leads xs 8 8
leads_eight xs zeros eights a b (receives c d o v) = absurd (no_channel_eight c)
leads_eight xs zeros eights a b (sends c d o v) = absurd (no_channel_eight c)
leads_eight xs zeros eights a b (inside {i} {n} {i'} {n'} x e e' h h') = (parts (listed xs) i n i' n' (element_eight e) (element_eight e') zeros eights).0
leads_eight xs zeros eights a b (following {i} {n} {i'} {n'} x e e' h h') = (parts (listed xs) i n i' n' (element_eight e) (element_eight e') zeros eights).1

one_two_leans : Counts 10 (Leans table 1 2) 2
one_two_leans =
    let xs = (1, 2) ∷ (0, 0) ∷ [] in
    counted xs (leads_one_two xs refl, (leads_zero xs, tt)) 1 2 refl (on_itself, (on_named (inside 1 one two refl refl) on_itself, tt)) 2 refl

six_seven_leans : Counts 10 (Leans table 6 7) 1
six_seven_leans = let xs = (6, 7) ∷ [] in counted xs (leads_six_seven xs, tt) 6 7 refl (on_itself, tt) 1 refl

eight_leans : Counts 10 (Leans table 8 8) 2
eight_leans =
    let xs = (8, 8) ∷ (0, 0) ∷ [] in
    counted xs (leads_eight xs refl refl, (leads_zero xs, tt)) 8 8 refl (on_itself, (on_named (inside 1 nine nine refl refl) on_itself, tt)) 2 refl

pub worked_cases : WorkedCases
worked_cases = (
  (one_below_two, one_two_leans),
  (
    (two_not_below_one, two_shown, two_shown_only),
    (
      four_below_three,
      (
        three_not_below_four,
        (five_below_three, (three_not_below_five, ((six_below_seven, six_seven_leans), ((eight_below_itself, eight_leans), ((eight_not_below_nine, eight_shown, eight_shown_only), (alone_breaks, tt)))))),
      ),
    ),
  ),
)
