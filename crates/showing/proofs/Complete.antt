-- Where nothing more can be made, each inhabited row has a node, and so has each pair of rows that is not below. Assumes nothing.
use Rattle.std.proofs.Common.{◌≡◌, ℕ, ◌+◌, ◌*◌, ◌<◌, true, not, ◌&&◌, List, length, Some, None, refl, ⊎_elim, mul-one, mul-add, arith, Option}
use Rattle.std.proofs.lemmas.Nat.{mul-add-lt}
use Rattle.std.proofs.lemmas.Bool.{both_ways, cases_Bool, and_parts, and_from, not-true, not_from_false}
use Rattle.forms.specs.Schema.{Offers, Inhabited}
use Rattle.forms.specs.Schema.Offers.{itself, left, right}
use Rattle.forms.specs.Schema.Inhabited.{of_void, of_channel, of_element, of_left, of_right}
use Rattle.forms.specs.declared.Row.{Row}
use Rattle.documents.specs.declared.nodes.Node.{Node}
use Rattle.schema.specs.Rules.{Bounded, OffersElement, Relation, Keeps}
use Rattle.schema.specs.Rules.Names.{inside, following}
use Rattle.schema.specs.Theorems.{Part}
use Rattle.schema.proofs.Inclusion.{element_parts}
use Rattle.relation.proofs.Offered.{inhabited_below}
use Rattle.schema.proofs.Order.{keeps_more, payloads_more}
use Rattle.showing.specs.Drafts.{is_noted, noted, pair_place, Unlit, Untold}
use Rattle.showing.specs.Drawing.{Asked, Noted, Settled}
use Rattle.showing.specs.Showing.{places}
use Rattle.showing.proofs.Noting.{is_noted_none, noted_not, noted_or_not}

-- the places are those of the rows and of the pairs
pub places_are : (n : ℕ) → n * (n + 1) ≡ n + n * n
places_are n = let e = mul-add n n 1 in let o = mul-one n in omega arith

pub row_place : (n r : ℕ) → r < n → r < n * (n + 1)
row_place n r h = let e = places_are n in omega arith

pub pair_place_low : (n p q : ℕ) → p < n → q < n → pair_place n p q < n * (n + 1)
pair_place_low n p q h g = let e = places_are n in let low = mul-add-lt p n q n h g in omega arith

module _ (rows : List Row) (bounded : Bounded rows) (leaned below : Relation) (asked : Asked rows leaned below) (table : List Node) (numbers : List (Option ℕ)) (noting : Noted rows below table numbers)
    (settled : (k : ℕ) → k < places rows → Settled rows leaned below numbers k) where
  abbrev n : ℕ
  n = length rows

  abbrev Has : ℕ → Type 0
  Has k = (m : ℕ) × (noted numbers k ≡ Some m)

  lit : (r : ℕ) → r < n → (Unlit rows numbers r → ⊥) → Has r
  lit r low can = ⊎_elim (λ some. some) (λ none. absurd (can ((settled r (row_place n r low) none).row low))) (noted_or_not numbers r)

  -- whatever offers what an inhabited row offers has a node
  offering_lit : {r : ℕ} → Inhabited rows r → (r' : ℕ) → r' < n → ((o : ℕ) → Offers rows r o → Offers rows r' o) → Has r'
  offering_lit {r} (of_void e) r' low more = lit r' low (λ u. u.no_void (r, more r (itself e tt), e))
  offering_lit {r} (of_channel {k} {s} e) r' low more = lit r' low (λ u. u.no_channel r (more r (itself e tt), (k, s, e)))
  offering_lit {r} (of_element {i} {n = m} x e b hi hm) r' low more =
      let (i<, m<) = (bounded.inside r e).0 in
      let (a, ea) = offering_lit hi i i< (λ o h. h) in
      let (c, ec) = offering_lit hm m m< (λ o h. h) in
      lit r' low (λ u. u.no_element (record { number = r; offered = more r (itself e tt); is = e; inhabited = of_element x e b hi hm }) x a c b ea ec)
  offering_lit (of_left e h) r' low more = offering_lit h r' low (λ o u. more o (left e u))
  offering_lit (of_right e h) r' low more = offering_lit h r' low (λ o u. more o (right e u))

  all_lit : {r : ℕ} → Inhabited rows r → Has r
  all_lit {r} h = offering_lit h r (inhabited_below rows h) (λ o u. u)

  -- the pairs that have no node
  open_pairs : Relation
  open_pairs p q = leaned p q && not (is_noted numbers (pair_place n p q))

  open_from : (p q : ℕ) → leaned p q ≡ true → noted numbers (pair_place n p q) ≡ None → open_pairs p q ≡ true
  unfolding open_pairs
  open_from p q l none = and_from (leaned p q) _ l (not_from_false _ (is_noted_none numbers (pair_place n p q) none))

  -- no pair that is below has one
  below_open : Part below open_pairs
  below_open p q h =
      let l = asked.largest.part p q h in
      let (p<, q<) = asked.of_rows p q l in
      open_from p q l (⊎_elim (λ (m, e). let (d, _, suits) = noting.each (pair_place n p q) m e in absurd ((suits.pair p q p< q< refl).0 h)) (λ none. none) (noted_or_not numbers (pair_place n p q)))

  module _ (p q : ℕ) (l : leaned p q ≡ true) (untold : Untold rows below numbers p q) where
    parts : {k i m : ℕ} (e : OffersElement rows p k i m) → Has i × Has m
    parts e = let (hi, hm) = element_parts rows e.is e.inhabited in (all_lit hi, all_lit hm)

    untold_keeps : Keeps rows open_pairs p q
    untold_keeps = record {
      voids = untold.voids;
      channels = λ {k} {s} c. let (k', t, d, o, pay) = untold.channels c.number (c.offered, (k, s, c.is)) k s c.is in (k', t, d, o, payloads_more below_open k' s t pay);
      covers = λ e x b. let ((a, ea), (c, ec)) = parts e in untold.covers e x a c b ea ec;
      agrees = λ {i} {n = m} {i'} {n' = m'} e e' x b b'.
          let ((a, ea), (c, ec)) = parts e in
          let (one, two) = untold.agrees e e' x a c b b' ea ec in
          (open_from i i' (asked.confined p q i i' l (inside x e e' b b')) one, open_from m m' (asked.confined p q m m' l (following x e e' b b')) two);
    }

  open_keeps : (p q : ℕ) → open_pairs p q ≡ true → Keeps rows open_pairs p q
  unfolding open_pairs
  open_keeps p q h =
      let (l, free) = and_parts (leaned p q) _ h in
      let (p<, q<) = asked.of_rows p q l in
      ⊎_elim
      (λ on. keeps_more below_open (asked.largest.closed p q on))
      (λ off. untold_keeps p q l ((settled (pair_place n p q) (pair_place_low n p q p< q<) (noted_not numbers (pair_place n p q) (not-true _ free))).pair p q p< q< refl l (both_ways (below p q) off)))
      (cases_Bool (below p q))

  -- so a pair that is not below has one
  pub none_left : (p q : ℕ) → leaned p q ≡ true → (below p q ≡ true → ⊥) → noted numbers (pair_place (length rows) p q) ≡ None → ⊥
  unfolding open_pairs
  none_left p q l nb none = nb (asked.largest.largest open_pairs (λ a b h. (and_parts (leaned a b) _ h).0) open_keeps p q (open_from p q l none))
