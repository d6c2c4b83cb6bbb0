-- What a row offers can be decided.
use Rattle.forms.proofs.Findings.{never}
pub use Rattle.forms.proofs.Findings.{nth_below as at_below}
use Rattle.std.proofs.Common.{◌≡◌, ℕ, zero, suc, ◌^◌, ◌<◌, Bool, true, false, not, ◌&&◌, eqb, ltb, ◌⊎◌, List, [], ◌∷◌, length, Some, None, Option, refl, subst, inl, inr, ⊎_elim, arith}
use Rattle.forms.specs.Limits.{label_count}
use Rattle.std.proofs.lemmas.Bool.{both_ways, and_parts, and_from, and_cases, cases_Bool, not-false, not-true, lt-ltb, ltb-true, eqb-true, eqb-false, cases_lt}
use Rattle.forms.specs.declared.Row.{Row}
use Rattle.forms.specs.declared.Row.TheVariants.{Void, Nothing, Channel, Element, Union}
use Rattle.std.specs.List.{AllByRecursion, slice_get}
use Rattle.forms.specs.Rows.{belongs}
use Rattle.forms.specs.Schema.{NoUnion, Offers}
use Rattle.schema.specs.Rules.{Bounded}
use Rattle.forms.specs.Schema.Offers.{itself, left, right}
use Rattle.narrowing.proofs.Striking.{each_below, Contained, decided}
pub use Rattle.relation.proofs.Offered.{offered_below, offering_below}
use Rattle.sets.proofs.Nexts.{bit_below}

-- what holds of each row holds of the row with any number
pub nth_all : (P : Row → Type 0) (rows : List Row) → AllByRecursion P rows → (p : ℕ) {row : Row} → slice_get rows p ≡ Some row → P row
nth_all P [] all p e = never (cc)
nth_all P (r ∷ rs) all zero {row} e = let s : r ≡ row = cc in subst P s all.0
nth_all P (r ∷ rs) all (suc p) e = nth_all P rs all.1 p e

-- a label of a label set is one that there is
pub label_below : (x l : ℕ) → l < 2 ^ label_count → belongs x l ≡ true → x < label_count
label_below x l h e = bit_below l label_count x h e

-- a failure at some label of l, or each holds
pub each_label : {F : Type 0} {H : ℕ → Type 0} (l : ℕ) → l < 2 ^ label_count → ((x : ℕ) → belongs x l ≡ true → F ⊎ H x) → F ⊎ ((x : ℕ) → belongs x l ≡ true → H x)
each_label {F} {H} l small test = ⊎_elim inl (λ all. inr (λ x e. all x (label_below x l small e) e))
    (each_below {H = λ x. belongs x l ≡ true → H x} label_count (λ x h. ⊎_elim (λ e. ⊎_elim inl (λ here. inr (λ _. here)) (test x e)) (λ ne. inr (λ e. absurd (both_ways _ ne e))) (cases_Bool (belongs x l))))

-- of the rows that pass over o: another row, or a union whose sides pass over o
passes : (ℕ → Bool) → ℕ → ℕ → Option Row → Bool
passes S o p None = true
passes S o p (Some Void) = not (eqb p o)
passes S o p (Some Nothing) = not (eqb p o)
passes S o p (Some (Channel k s)) = not (eqb p o)
passes S o p (Some (Element l i n)) = not (eqb p o)
passes S o p (Some (Union l r)) = S l && S r

passes_more : (S T : ℕ → Bool) → Contained S T → (o p : ℕ) (r : Option Row) → passes S o p r ≡ true → passes T o p r ≡ true
unfolding passes
passes_more S T part o p None h = h
passes_more S T part o p (Some Void) h = h
passes_more S T part o p (Some Nothing) h = h
passes_more S T part o p (Some (Channel k s)) h = h
passes_more S T part o p (Some (Element l i n)) h = h
passes_more S T part o p (Some (Union l r)) h = let (a, b) = and_parts (S l) (S r) h in and_from _ _ (part l a) (part r b)

module _ (rows : List Row) where
  pass : ℕ → (ℕ → Bool) → ℕ → Bool
  pass o S p = passes S o p (slice_get rows p)

  -- no row passes over what it offers
  never_passed : (S : ℕ → Bool) (o : ℕ) → Contained S (pass o S) → (p : ℕ) → Offers rows p o → S p ≡ true → ⊥
  unfolding pass passes
  never_passed S o good p (itself {row} e nu) h = go row e nu
    where
      itself_other : not (eqb o o) ≡ true → ⊥
      itself_other ne = eqb-false o o (not-true _ ne) refl

      go : (row : Row) → slice_get rows o ≡ Some row → NoUnion row → ⊥
      go Void e nu = itself_other (rw e at (good o h))
      go Nothing e nu = itself_other (rw e at (good o h))
      go (Channel k s) e nu = itself_other (rw e at (good o h))
      go (Element l i n) e nu = itself_other (rw e at (good o h))
      go (Union l r) e nu = nu
  never_passed S o good p (left {l} {r} e u) h = never_passed S o good l u (and_parts (S l) (S r) (rw e at (good p h))).0
  never_passed S o good p (right {l} {r} e u) h = never_passed S o good r u (and_parts (S l) (S r) (rw e at (good p h))).1

module _ (rows : List Row) (bounded : Bounded rows) where
  pub offers_or_not : (p o : ℕ) → Offers rows p o ⊎ (Offers rows p o → ⊥)
  unfolding pass passes
  offers_or_not p o = ⊎_elim
      (λ h. decided (pass rows o) (λ k. ltb k (length rows)) (λ k. k) (length rows) (λ k h. (k, ltb-true k _ h, refl)) (λ S T part k. passes_more S T part o k (slice_get rows k))
      (λ k. Offers rows k o) (λ S known k _ gone. go S known k (slice_get rows k) refl gone) (λ S good. never_passed rows S o good) p (lt-ltb p _ h))
      (λ h. inr (λ u. omega (arith, offering_below rows u)))
      (cases_lt p (length rows))
    where
      go : (S : ℕ → Bool) → ((k : ℕ) → ltb k (length rows) ≡ true → S k ≡ false → Offers rows k o) → (k : ℕ) (r : Option Row) → slice_get rows k ≡ r → passes S o k r ≡ false → Offers rows k o
      go S known k None e gone = absurd (both_ways _ gone refl)
      go S known k (Some Void) e gone = subst (Offers rows k) (eqb-true k o (not-false _ gone)) (itself e tt)
      go S known k (Some Nothing) e gone = subst (Offers rows k) (eqb-true k o (not-false _ gone)) (itself e tt)
      go S known k (Some (Channel c s)) e gone = subst (Offers rows k) (eqb-true k o (not-false _ gone)) (itself e tt)
      go S known k (Some (Element l i n)) e gone = subst (Offers rows k) (eqb-true k o (not-false _ gone)) (itself e tt)
      go S known k (Some (Union l r)) e gone = let (a, b) = (bounded.inside k e).0 in ⊎_elim (λ h. left e (known l (lt-ltb l _ a) h)) (λ h. right e (known r (lt-ltb r _ b) h)) (and_cases (S l) (S r) gone)
