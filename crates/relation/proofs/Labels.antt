-- Label sets that meet, and the labels that a row gives, one offered row after another. Assumes nothing.
use Rattle.std.proofs.Common.{◌≡◌, ℕ, ◌+◌, ◌<◌, ◌≤◌, true, not, eqb, List, length, Some, Decides, sym, ap, ◌∙◌, subst, ⊎_elim, arith}
use lib.Bits.{bit_and, bit_or}
use Rattle.std.specs.List.{slice_get}
use Rattle.std.proofs.lemmas.Bool.{cases_lt, both_ways, or_cases, or_left, or_right, and_parts, and_from, eqb-false, ne_eqb, not-true, not_from_false}
use Rattle.sets.specs.Sets.{bit}
use Rattle.sets.proofs.Words.{bit_of_and, bit_of_or}
use Rattle.sets.proofs.Lowest.{bit_zero}
use Rattle.sets.proofs.Wider.{some_bit}
use Rattle.forms.specs.Rows.{belongs}
use Rattle.forms.specs.declared.Row.{Row}
use Rattle.forms.specs.declared.Row.TheVariants.{Void, Nothing, Channel, Element, Union}
use Rattle.forms.specs.Schema.{Offers, Inhabited}
use Rattle.relation.specs.Admission.{Gives, SharesLabel}
use Rattle.relation.specs.Faults.{label_set_of}
use Rattle.forms.proofs.Findings.{nth_below}

pub meets_decides : (a b : ℕ) → Decides (not (eqb (bit_and a b) 0)) ((x : ℕ) × (belongs x a ≡ true) × (belongs x b ≡ true))
meets_decides a b = (
  λ e. let (x, on) = some_bit (bit_and a b) (eqb-false (bit_and a b) 0 (not-true _ e)) in
      let (p, q) = and_parts (bit a x) (bit b x) (sym (bit_of_and a b x) ∙ on) in
      (x, p, q),
  λ (x, p, q). not_from_false (eqb (bit_and a b) 0) (ne_eqb (bit_and a b) 0 (λ z. both_ways (bit (bit_and a b) x) (ap (λ n. bit n x) z ∙ bit_zero x) (bit_of_and a b x ∙ and_from (bit a x) (bit b x) p q))),
)

module _ (rows : List Row) (p o : ℕ) (row : Row) (is : slice_get rows o ≡ Some row) where
  -- an offered inhabited row gives its labels
  pub gives_labels : Offers rows p o → Inhabited rows o → (l : ℕ) → l ≡ label_set_of row → (x : ℕ) → Decides (belongs x l) (Gives rows p o x)
  gives_labels offered inhabited l e x = (λ h. there row is (subst (λ n. belongs x n ≡ true) e h), λ g. here row is g)
    where
      there : (r : Row) → slice_get rows o ≡ Some r → belongs x (label_set_of r) ≡ true → Gives rows p o x
      there Void at h = absurd (both_ways (bit 0 x) (bit_zero x) h)
      there Nothing at h = absurd (both_ways (bit 0 x) (bit_zero x) h)
      there (Channel k s) at h = absurd (both_ways (bit 0 x) (bit_zero x) h)
      there (Element m i f) at h = record { labels = m; inside = i; following = f; offered = offered; is = at; inhabited = inhabited; has = h }
      there (Union m r) at h = absurd (both_ways (bit 0 x) (bit_zero x) h)

      here : (r : Row) → slice_get rows o ≡ Some r → Gives rows p o x → belongs x l ≡ true
      here r at g =
          let at_g = g.is in
          let same : row ≡ Element g.labels g.inside g.following = cc in
          subst (λ n. belongs x n ≡ true) (sym (e ∙ ap label_set_of same)) g.has

-- the labels that row p gives by the rows before i, none of them twice
pub record Seen (rows : List Row) (p seen i : ℕ) : Type 0 where
  pub has : (e x : ℕ) → e < i → Gives rows p e x → belongs x seen ≡ true
  pub from : (x : ℕ) → belongs x seen ≡ true → (e : ℕ) × (e < i) × Gives rows p e x
  pub apart : (e f x : ℕ) → e < i → f < i → Gives rows p e x → Gives rows p f x → e ≡ f

module _ (rows : List Row) (p : ℕ) where
  module _ (seen i labels : ℕ) (s : Seen rows p seen i) (given : (x : ℕ) → Decides (belongs x labels) (Gives rows p i x)) where
    pub seen_more : ((x : ℕ) × (belongs x seen ≡ true) × (belongs x labels ≡ true) → ⊥) → Seen rows p (bit_or seen labels) (i + 1)
    seen_more clear = record {
      has = λ e x h g. bit_of_or seen labels x ∙ ⊎_elim
          (λ low. or_left (bit seen x) (bit labels x) (s.has e x low g))
          (λ up. or_right (bit seen x) (bit labels x) ((given x).1 (at_i e x h up g)))
          (cases_lt e i);
      from = λ x h. ⊎_elim
          (λ a. let (e, low, g) = s.from x a in (e, more e low, g))
          (λ b. (i, last, (given x).0 b))
          (or_cases (bit seen x) (bit labels x) (sym (bit_of_or seen labels x) ∙ h));
      apart = λ e f x e< f< g h. ⊎_elim
          (λ e-low. ⊎_elim
          (λ f-low. s.apart e f x e-low f-low g h)
          (λ f-up. absurd (clear (x, s.has e x e-low g, (given x).1 (at_i f x f< f-up h))))
          (cases_lt f i))
          (λ e_up. ⊎_elim
          (λ f-low. absurd (clear (x, s.has f x f-low h, (given x).1 (at_i e x e< e_up g))))
          (λ f-up. same e f e< f< e_up f-up)
          (cases_lt f i))
          (cases_lt e i);
    }
      where
        last : i < i + 1
        last = omega arith

        more : (e : ℕ) → e < i → e < i + 1
        more e h = omega arith

        same : (e f : ℕ) → e < i + 1 → f < i + 1 → i ≤ e → i ≤ f → e ≡ f
        same e f a b c d = omega arith

        at_i : (e x : ℕ) → e < i + 1 → i ≤ e → Gives rows p e x → Gives rows p i x
        at_i e x h up g = let eq : e ≡ i = omega arith in subst (λ z. Gives rows p z x) eq g

    pub seen_twice : (x : ℕ) × (belongs x seen ≡ true) × (belongs x labels ≡ true) → SharesLabel rows p
    seen_twice (x, a, b) =
        let (e, low, g) = s.from x a in
        record { one = e; other = i; label = x; first = g; second = (given x).0 b; different = off e low }
      where
        off : (e : ℕ) → e < i → e ≡ i → ⊥
        off e low same = omega arith

  pub seen_all : (seen i : ℕ) → length rows ≤ i → Seen rows p seen i → SharesLabel rows p → ⊥
  seen_all seen i all s h =
      h.different (s.apart h.one h.other h.label (below h.one h.first) (below h.other h.second) h.first h.second)
    where
      below : (e : ℕ) → Gives rows p e h.label → e < i
      below e g = let lt = nth_below rows e g.is in omega arith
