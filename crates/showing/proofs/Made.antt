-- What nodes are made of. Assumes nothing.
use Rattle.std.proofs.Common.{◌≡◌, ℕ, ◌^◌, ◌<◌, Bool, true, false, not, ◌&&◌, eqb, ◌⊎◌, List, length, Some, None, Decides, Option, sym, refl, ap, ◌∙◌, subst, inl, inr, ⊎_elim, arith, MatchOption}
use lib.Bits.{bit_and, bit_xor, and_lt, xor_lt, and_le_l}
use lib.Count.{count_trailing_zeros}
use Rattle.std.specs.Option.{option_or}
use Rattle.std.specs.List.{slice_get}
use Rattle.std.proofs.lemmas.Bool.{both_ways, cases_Bool, not-true, not_from_false, cond-true, cond-false, eqb-true, eqb-false, and_parts, and_from}
use Rattle.sets.specs.Sets.{bit}
use Rattle.sets.proofs.Lowest.{bit_zero, at_trailing}
use Rattle.sets.proofs.Words.{differ, bit_of_and, bit_of_xor}
use Rattle.forms.specs.Limits.{label_count}
use Rattle.forms.specs.Rows.{belongs}
use Rattle.forms.specs.declared.Row.{Row}
use Rattle.forms.proofs.Findings.{never}
use Rattle.documents.specs.declared.nodes.Node.{Node}
use Rattle.documents.specs.declared.nodes.Node.TheVariants as node
use Rattle.schema.specs.Rules.{OffersVoid, OffersElement, Bounded, Relation}
use Rattle.schema.proofs.Kept.{small}
use Rattle.verdicts.specs.Reading.{ChannelTaken}
use Rattle.showing.specs.Drafts.Lights.{by_element}
use Rattle.showing.specs.Drafts.Tells.{lacks_label, differs_inside, differs_following}
use Rattle.showing.specs.Drafts.{noted, pair_place, lowest, element_node, lacking_row, difference_from, difference_of_rows, ElementOf, ChannelOf, DiffersIn, ToldBy, Lights, Unlit, Tells, Untold, Through}

-- LABELS
-- the lowest label of a set is one of its labels, and a set with a label has one
pub lowest_belongs : (l x : ℕ) → l < 2 ^ label_count → lowest l ≡ Some x → belongs x l ≡ true
lowest_belongs l x small e = ⊎_elim
    (λ zero. let no = sym e ∙ cond-true (eqb l 0) None (Some (count_trailing_zeros label_count l)) zero in never (cc))
    (λ some.
    let is = sym e ∙ cond-false (eqb l 0) None (Some (count_trailing_zeros label_count l)) some in
    let same : count_trailing_zeros label_count l ≡ x = cc in
    subst (λ y. belongs y l ≡ true) same (at_trailing label_count l small (eqb-false l 0 some)).1)
    (cases_Bool (eqb l 0))

pub lowest_there : (l x : ℕ) → belongs x l ≡ true → (y : ℕ) × (lowest l ≡ Some y)
lowest_there l x b = ⊎_elim
    (λ zero. absurd (both_ways (bit 0 x) (bit_zero x) (subst (λ w. belongs x w ≡ true) (eqb-true l 0 zero) b)))
    (λ some. (count_trailing_zeros label_count l, cond-false (eqb l 0) None (Some (count_trailing_zeros label_count l)) some))
    (cases_Bool (eqb l 0))

-- the labels of a set that are none of the others
without_tells : (l others x : ℕ) → Decides (belongs x (bit_xor l (bit_and l others))) ((belongs x l ≡ true) × (belongs x others ≡ false))
without_tells l others x =
    let e : belongs x (bit_xor l (bit_and l others)) ≡ (bit l x && not (bit others x)) = bit_of_xor l (bit_and l others) x ∙ ap (differ (bit l x)) (bit_of_and l others x) ∙ less (bit l x) (bit others x) in
    (λ h. let (a, b) = and_parts (bit l x) (not (bit others x)) (sym e ∙ h) in (a, not-true (bit others x) b), λ (a, b). e ∙ and_from (bit l x) (not (bit others x)) a (not_from_false (bit others x) b))
  where
    less : (a b : Bool) → differ a (a && b) ≡ (a && not b)
    less true true = refl
    less true false = refl
    less false b = refl

common_tells : (l l' x : ℕ) → Decides (belongs x (bit_and l l')) ((belongs x l ≡ true) × (belongs x l' ≡ true))
common_tells l l' x = (λ h. and_parts (bit l x) (bit l' x) (sym (bit_of_and l l' x) ∙ h), λ (a, b). bit_of_and l l' x ∙ and_from (bit l x) (bit l' x) a b)

-- ELEMENTS
element_some : (x i f : Option ℕ) (v : Node) → Some v ≡ element_node x i f → (a b c : ℕ) × (x ≡ Some a) × (i ≡ Some b) × (f ≡ Some c) × (v ≡ node.Element a b c)
element_some None i f v e = never (cc)
element_some (Some x) None f v e = never (cc)
element_some (Some x) (Some i) None v e = never (cc)
element_some (Some x) (Some i) (Some f) v e = (x, i, f, refl, refl, refl, (cc))

element_none : {x i f : Option ℕ} → None ≡ element_node x i f → (a b c : ℕ) → x ≡ Some a → i ≡ Some b → f ≡ Some c → ⊥
element_none {x} {i} {f} e a b c p q r = let made : element_node x i f ≡ Some (node.Element a b c) = rw (p, q, r) in never (cc)

-- ROWS
module _ (rows : List Row) (bounded : Bounded rows) (numbers : List (Option ℕ)) where
  -- an element row's node with a label that is none of the others, if there is one
  lack_some : (p others e : ℕ) (v : Node) → ElementOf rows p e → Some v ≡ lacking_row numbers others (slice_get rows e)
      → (l i m x a b : ℕ) × OffersElement rows p l i m × (belongs x l ≡ true) × (belongs x others ≡ false) × (noted numbers i ≡ Some a) × (noted numbers m ≡ Some b) × (v ≡ node.Element x a b)
  lack_some p others e v (offers, inh, of) h =
      let (l, i, m, is) = of in
      let rest = bit_xor l (bit_and l others) in
      let (x, a, b, ex, ea, eb, ev) = element_some (lowest rest) (noted numbers i) (noted numbers m) v (h ∙ ap (lacking_row numbers others) is) in
      let one : OffersElement rows p l i m = record { number = e; offered = offers; is = is; inhabited = inh } in
      let low = small rows bounded one in
      let lower : bit_and l others < 2 ^ label_count = omega (arith, low, and_le_l l others) in
      let (there, gone) = (without_tells l others x).0 (lowest_belongs rest x (xor_lt label_count l (bit_and l others) low lower) ex) in
      (l, i, m, x, a, b, one, there, gone, ea, eb, ev)

  lack_none : {p l i m : ℕ} (others : ℕ) (e : OffersElement rows p l i m) → None ≡ lacking_row numbers others (slice_get rows e.number) → (x a b : ℕ) → belongs x l ≡ true → belongs x others ≡ false → noted numbers i ≡ Some a → noted numbers m ≡ Some b → ⊥
  lack_none {l} others e h x a b there gone ea eb =
      let (y, ey) = lowest_there (bit_xor l (bit_and l others)) x ((without_tells l others x).1 (there, gone)) in
      element_none (h ∙ ap (lacking_row numbers others) e.is) y a b ey ea eb

  pub lights_or_not : (r : ℕ) (o : Option Node) → (OffersVoid rows r → ⊥) → ((c : ℕ) → ChannelOf rows r c → ⊥) → Through (ElementOf rows r) (λ e v. v ≡ lacking_row numbers 0 (slice_get rows e)) o → MatchOption o (Unlit rows numbers r) (λ v. Lights rows numbers r v)
  lights_or_not r None voids channels none = record {
    no_void = voids;
    no_channel = channels;
    no_element = λ {l} {i} {m} e x a b there. lack_none 0 e (none e.number (e.offered, e.inhabited, (l, i, m, e.is))) x a b there (bit_zero x);
  }
  lights_or_not r (Some v) voids channels (e, of, h) = let (l, i, m, x, a, b, one, there, _, ea, eb, ev) = lack_some r 0 e v of h in subst (Lights rows numbers r) (sym ev) (by_element one there ea eb)

  module _ (below : Relation) (p q : ℕ) where
    differ_is : {l i m l' i' m' : ℕ} (e : OffersElement rows p l i m) (f : OffersElement rows q l' i' m') → difference_of_rows (length rows) numbers (slice_get rows e.number) (slice_get rows f.number) ≡
        option_or (element_node (lowest (bit_and l l')) (noted numbers (pair_place (length rows) i i')) (noted numbers m)) (element_node (lowest (bit_and l l')) (noted numbers i) (noted numbers (pair_place (length rows) m m')))
    differ_is {l} {i} {m} e f = ap (λ row. difference_of_rows (length rows) numbers row (slice_get rows f.number)) e.is ∙ ap (difference_from (length rows) numbers l i m) f.is

    differ_some : (e : ℕ) (v : Node) → ElementOf rows p e → DiffersIn rows numbers q (slice_get rows e) (Some v) → Tells rows below numbers p q v
    differ_some e v (offers, inh, of) (f, (offers', inh', of'), h) =
        let (l, i, m, is) = of in
        let (l', i', m', is') = of' in
        let one : OffersElement rows p l i m = record { number = e; offered = offers; is = is; inhabited = inh } in
        let two : OffersElement rows q l' i' m' = record { number = f; offered = offers'; is = is'; inhabited = inh' } in
        ⊎_elim
        (λ first.
        let (x, a, b, ex, ea, eb, ev) = element_some (lowest (bit_and l l')) (noted numbers (pair_place (length rows) i i')) (noted numbers m) v first in
        let (there, there') = shared l l' x (small rows bounded one) (small rows bounded two) ex in
        subst (Tells rows below numbers p q) (sym ev) (differs_inside one two there there' ea eb))
        (λ second.
        let (x, a, b, ex, ea, eb, ev) = element_some (lowest (bit_and l l')) (noted numbers i) (noted numbers (pair_place (length rows) m m')) v second in
        let (there, there') = shared l l' x (small rows bounded one) (small rows bounded two) ex in
        subst (Tells rows below numbers p q) (sym ev) (differs_following one two there there' ea eb))
        (or_some _ _ v (h ∙ differ_is one two))
      where
        or_some : (a b : Option Node) (v : Node) → Some v ≡ option_or a b → (Some v ≡ a) ⊎ (Some v ≡ b)
        or_some None b v e = inr e
        or_some (Some a) b v e = inl e

        shared : (l l' x : ℕ) → l < 2 ^ label_count → l' < 2 ^ label_count → lowest (bit_and l l') ≡ Some x → (belongs x l ≡ true) × (belongs x l' ≡ true)
        shared l l' x low low' ex = (common_tells l l' x).0 (lowest_belongs (bit_and l l') x (and_lt label_count l l' low low') ex)

    differ_none : {l i m l' i' m' : ℕ} (e : OffersElement rows p l i m) (f : OffersElement rows q l' i' m') → None ≡ difference_of_rows (length rows) numbers (slice_get rows e.number) (slice_get rows f.number) →
        (x a b : ℕ) → belongs x l ≡ true → belongs x l' ≡ true → noted numbers i ≡ Some a → noted numbers m ≡ Some b → (noted numbers (pair_place (length rows) i i') ≡ None) × (noted numbers (pair_place (length rows) m m') ≡ None)
    differ_none {l} {i} {m} {l'} {i'} {m'} e f h x a b there there' ea eb =
        let (y, ey) = lowest_there (bit_and l l') x ((common_tells l l' x).1 (there, there')) in
        let (first, second) = or_none _ _ (h ∙ differ_is e f) in
        (none_if _ (λ c ec. element_none first y c b ey ec eb), none_if _ (λ c ec. element_none second y a c ey ea ec))
      where
        or_none : (a b : Option Node) → None ≡ option_or a b → (None ≡ a) × (None ≡ b)
        or_none None b e = (refl, e)
        or_none (Some a) b e = never (cc)

        none_if : (o : Option ℕ) → ((c : ℕ) → o ≡ Some c → ⊥) → o ≡ None
        none_if None h = refl
        none_if (Some c) h = absurd (h c refl)

    pub tells_or_not : (o : Option Node) → (OffersVoid rows p → OffersVoid rows q) → ((c : ℕ) → ChannelOf rows p c → ChannelTaken rows below c q) → Through (ElementOf rows p) (λ e w. ToldBy rows numbers q (slice_get rows e) w) o → MatchOption o (Untold rows below numbers p q) (λ v. Tells rows below numbers p q v)
    tells_or_not None voids channels none = record {
      voids = voids;
      channels = channels;
      covers = λ {l} {i} {m} e x a b there ea eb.
          let (labels, tells, h) = (none e.number (e.offered, e.inhabited, (l, i, m, e.is))).0 in
          ⊎_elim (tells x).0 (λ off. absurd (lack_none labels e h x a b there off ea eb)) (cases_Bool (belongs x labels));
      agrees = λ {l} {i} {m} {l'} {i'} {m'} e f. differ_none e f ((none e.number (e.offered, e.inhabited, (l, i, m, e.is))).1 f.number (f.offered, f.inhabited, (l', i', m', f.is)));
    }
    tells_or_not (Some v) voids channels (e, of, told) = ⊎_elim
        (λ (labels, tells, h).
        let (l, i, m, x, a, b, one, there, gone, ea, eb, ev) = lack_some p labels e v of h in
        subst (Tells rows below numbers p q) (sym ev) (lacks_label one there (λ has. both_ways (belongs x labels) gone ((tells x).1 has)) ea eb))
        (differ_some e v of)
        told
