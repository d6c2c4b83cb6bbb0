-- What holds of a table that is made up of admitted tables, each placed in it as a whole. Assumes nothing.
use Rattle.std.proofs.Common.{◌≡◌, ℕ, ◌+◌, ◌-◌, ◌<◌, ◌≤◌, ltb, List, map, length, get_or, Some, sym, refl, ap, ◌∙◌, subst, ap₂, ⊎_elim, arith}
use lib.ListN.{length-map}
use Rattle.std.specs.List.{slice_get}
use Rattle.std.proofs.lemmas.Bool.{cases_lt, cond-true, lt-ltb}
use Rattle.std.proofs.lemmas.Option.{slice_get-get_or}
use Rattle.forms.specs.Limits.{max_rows, past_table}
use Rattle.forms.specs.Rows.{NumbersBelow, raised, shift, joined, turn, swap}
use Rattle.forms.specs.Schema.{NoUnion, Offers, Inhabited}
use Rattle.forms.specs.Schema.Offers.{itself, left, right}
use Rattle.forms.specs.Schema.Inhabited.{of_void, of_channel, of_element, of_left, of_right}
use Rattle.forms.specs.declared.Row.{Row}
use Rattle.forms.specs.declared.Row.TheVariants.{Void, Nothing, Channel, Element, Union}
use Rattle.forms.specs.declared.Capability.{Capability}
use Rattle.forms.proofs.Findings.{nth_below}
use Rattle.forms.proofs.Sides.{length_joined, from_first, from_second, from_turned}
use Rattle.relation.specs.Admission.{Gives, SharesLabel, Admitted}
use Rattle.relation.specs.Sources.{JoinedIsAdmitted, TurnedIsAdmitted}
use Rattle.relation.proofs.Judging.{sharing_below}
use Rattle.relation.proofs.Offered.{offered_below}

-- the second row is the first with its numbers raised by n; a channel may have another capability
abbrev Alike : ℕ → Row → Row → Type 0
Alike n Void row = row ≡ Void
Alike n Nothing row = row ≡ Nothing
Alike n (Channel k s) row = (k' : Capability) × (row ≡ Channel k' (s + n))
Alike n (Element l i f) row = row ≡ Element l (i + n) (f + n)
Alike n (Union l r) row = row ≡ Union (l + n) (r + n)

-- a table stands in another, from its row n on
pub record Placed (part all : List Row) (n : ℕ) : Type 0 where
  pub admitted : Admitted part
  pub each : (k : ℕ) (row : Row) → slice_get part k ≡ Some row → (row' : Row) × (slice_get all (k + n) ≡ Some row') × Alike n row row'
  pub room : length part + n ≤ length all

module _ (part all : List Row) (n : ℕ) (placed : Placed part all n) where
  -- what row k of the part is, where the whole has a row
  Back : ℕ → Row → Type 0
  Back k Void = slice_get part k ≡ Some Void
  Back k Nothing = slice_get part k ≡ Some Nothing
  Back k (Channel c s) = (c' : Capability) × (s' : ℕ) × (slice_get part k ≡ Some (Channel c' s')) × (s ≡ s' + n) × (s' < length part)
  Back k (Element l i f) = (a b : ℕ) × (slice_get part k ≡ Some (Element l a b)) × (i ≡ a + n) × (f ≡ b + n) × (a < length part) × (b < length part)
  Back k (Union l r) = (a b : ℕ) × (slice_get part k ≡ Some (Union a b)) × (l ≡ a + n) × (r ≡ b + n) × (a < length part) × (b < length part)

  back : (k : ℕ) (row row' : Row) → slice_get part k ≡ Some row → Alike n row row' → NumbersBelow (length part) row → Back k row'
  unfolding Back
  back k Void row' at e low = subst (Back k) (sym e) at
  back k Nothing row' at e low = subst (Back k) (sym e) at
  back k (Channel c s) row' at (c', e) low = subst (Back k) (sym e) (c, s, at, refl, low)
  back k (Element l a b) row' at e (a<, b<) = subst (Back k) (sym e) (a, b, at, refl, refl, a<, b<)
  back k (Union a b) row' at e (a<, b<) = subst (Back k) (sym e) (a, b, at, refl, refl, a<, b<)

  met : (k p : ℕ) (row' : Row) → k < length part → p ≡ k + n → slice_get all p ≡ Some row' → Back k row'
  met k p row' lt e is =
      let at = slice_get-get_or part k Void lt in
      let (row, there, alike) = placed.each k (get_or part k Void) at in
      let same : row ≡ row' = (let there' = ap (slice_get all) e in cc) in
      back k (get_or part k Void) row' at (subst (Alike n (get_or part k Void)) same alike) (placed.admitted.within k (get_or part k Void) at)

  -- a row of the whole that is no union is none of the part
  alone : (k : ℕ) (row' : Row) → Back k row' → NoUnion row' → Offers part k k
  unfolding Back
  alone k Void at nu = itself at tt
  alone k Nothing at nu = itself at tt
  alone k (Channel c s) (_, _, at, _, _) nu = itself at tt
  alone k (Element l i f) (_, _, at, _, _, _, _) nu = itself at tt
  alone k (Union l r) b nu = absurd nu

  -- a row of the part offers in the whole what it offers in the part
  offers : (p o : ℕ) → Offers all p o → (k : ℕ) → k < length part → p ≡ k + n → (j : ℕ) × (o ≡ j + n) × Offers part k j
  unfolding Back
  offers p o (itself {row} e nu) k lt is = (k, is, alone k row (met k p row lt is e) nu)
  offers p o (left {l} {r} e h) k lt is =
      let (a, b, at, l-is, r-is, a<, b<) = met k p (Union l r) lt is e in
      let (j, same, there) = offers l o h a a< l-is in
      (j, same, left at there)
  offers p o (right {l} {r} e h) k lt is =
      let (a, b, at, l-is, r-is, a<, b<) = met k p (Union l r) lt is e in
      let (j, same, there) = offers r o h b b< r-is in
      (j, same, right at there)

  -- and is inhabited in the part if it is in the whole
  inhabited : (p : ℕ) → Inhabited all p → (k : ℕ) → k < length part → p ≡ k + n → Inhabited part k
  unfolding Back
  inhabited p (of_void e) k lt is = of_void (met k p Void lt is e)
  inhabited p (of_channel {k = c} {s} e) k lt is = let (_, _, at, _, _) = met k p (Channel c s) lt is e in of_channel at
  inhabited p (of_element {l} {i} {n = f} x e has hi hf) k lt is =
      let (a, b, at, i-is, f-is, a<, b<) = met k p (Element l i f) lt is e in
      of_element x at has (inhabited i hi a a< i-is) (inhabited f hf b b< f-is)
  inhabited p (of_left {l} {r} e h) k lt is = let (a, _, at, l-is, _, a<, _) = met k p (Union l r) lt is e in of_left at (inhabited l h a a< l-is)
  inhabited p (of_right {l} {r} e h) k lt is = let (_, b, at, _, r-is, _, b<) = met k p (Union l r) lt is e in of_right at (inhabited r h b b< r-is)

  gives : (p e x : ℕ) → Gives all p e x → (k : ℕ) → k < length part → p ≡ k + n → (j : ℕ) × (e ≡ j + n) × Gives part k j x
  unfolding Back
  gives p e x g k lt is =
      let (j, same, offered) = offers p e g.offered k lt is in
      let low = offered_below part offered in
      let (a, b, at, _, _, _, _) = met j e (Element g.labels g.inside g.following) low same g.is in
      (j, same, record { labels = g.labels; inside = a; following = b; offered = offered; is = at; inhabited = inhabited e g.inhabited j low same; has = g.has })

  pub shares_not : (p k : ℕ) → k < length part → p ≡ k + n → SharesLabel all p → ⊥
  shares_not p k lt is s =
      let (j, one, g) = gives p s.one s.label s.first k lt is in
      let (j', other, g') = gives p s.other s.label s.second k lt is in
      placed.admitted.determined k (record { one = j; other = j'; label = s.label; first = g; second = g'; different = λ e. s.different (one ∙ ap (λ y. y + n) e ∙ sym other) })

  numbers_stay : (k : ℕ) (row : Row) → Back k row → NumbersBelow (length all) row
  unfolding Back
  numbers_stay k Void b = tt
  numbers_stay k Nothing b = tt
  numbers_stay k (Channel c s) (_, _, _, is, low) = let room = placed.room in omega arith
  numbers_stay k (Element l i f) (_, _, _, i-is, f-is, a<, b<) = let room = placed.room in (omega arith, omega arith)
  numbers_stay k (Union l r) (_, _, _, l-is, r-is, a<, b<) = let room = placed.room in (omega arith, omega arith)

  pub within_all : (p k : ℕ) (row : Row) → k < length part → p ≡ k + n → slice_get all p ≡ Some row → NumbersBelow (length all) row
  within_all p k row lt is e = numbers_stay k row (met k p row lt is e)

-- row p of the whole is one of a part
pub record OfPart (all : List Row) (p : ℕ) : Type 0 where
  pub part : List Row
  pub from : ℕ
  pub placed : Placed part all from
  pub number : ℕ
  pub below : number < length part
  pub is : p ≡ number + from

pub made_of_parts : (all : List Row) → 0 < length all → ((p : ℕ) → p < length all → OfPart all p) → Admitted all
made_of_parts all some part = record {
  some = some;
  within = λ p row e. let m = part p (nth_below all p e) in within_all m.part all m.from m.placed p m.number row m.below m.is e;
  determined = λ p s. let m = part p (sharing_below all p s) in shares_not m.part all m.from m.placed p m.number m.below m.is s;
}

raised_is : (n m k : ℕ) → k < m → raised n m k ≡ k + n
raised_is n m k h = cond-true (ltb k m) (k + n) past_table (lt-ltb k m h)

shift_alike : (n m : ℕ) (row : Row) → NumbersBelow m row → Alike n row (shift n m row)
shift_alike n m Void h = refl
shift_alike n m Nothing h = refl
shift_alike n m (Channel k s) h = (k, ap (Channel k) (raised_is n m s h))
shift_alike n m (Element l i f) (a, b) = ap₂ (Element l) (raised_is n m i a) (raised_is n m f b)
shift_alike n m (Union l r) (a, b) = ap₂ Union (raised_is n m l a) (raised_is n m r b)

turn_alike : (row : Row) → Alike 0 row (turn row)
turn_alike Void = refl
turn_alike Nothing = refl
turn_alike (Channel k s) = (swap k, ap (Channel (swap k)) (omega arith))
turn_alike (Element l i f) = ap₂ (Element l) (omega arith) (omega arith)
turn_alike (Union l r) = ap₂ Union (omega arith) (omega arith)

module _ (a b : List Row) (good-a : Admitted a) (good-b : Admitted b) (few : length a + length b ≤ max_rows) where
  long : length (joined a b) ≡ length a + length b
  long = length_joined a b few

  first : Placed a (joined a b) 0
  first = record {
    admitted = good-a;
    each = λ k row e. (shift 0 (length a) row, at (k + 0) k (omega arith) row e, shift_alike 0 (length a) row (good-a.within k row e));
    room = omega (arith, long);
  }
    where
      at : (p k : ℕ) → p ≡ k → (row : Row) → slice_get a k ≡ Some row → slice_get (joined a b) p ≡ Some (shift 0 (length a) row)
      at p k same row e = sym (from_first a b p few row (sym (ap (slice_get a) same ∙ e)))

  second : Placed b (joined a b) (length a)
  second = record {
    admitted = good-b;
    each = λ k row e. (shift (length a) (length b) row, at k row e, shift_alike (length a) (length b) row (good-b.within k row e));
    room = omega (arith, long);
  }
    where
      at : (k : ℕ) (row : Row) → slice_get b k ≡ Some row → slice_get (joined a b) (k + length a) ≡ Some (shift (length a) (length b) row)
      at k row e = sym (from_second a b (k + length a) few row (omega arith) (sym (ap (slice_get b) (omega arith) ∙ e)))

  of_side : (p : ℕ) → p < length (joined a b) → OfPart (joined a b) p
  of_side p h = ⊎_elim
      (λ low. record { part = a; from = 0; placed = first; number = p; below = low; is = omega arith })
      (λ up. record { part = b; from = length a; placed = second; number = p - length a; below = omega (arith, long); is = omega arith })
      (cases_lt p (length a))

  joined_some : 0 < length (joined a b)
  joined_some = let s = good-a.some in omega (arith, long)

pub joined_is_admitted : JoinedIsAdmitted
joined_is_admitted a b good-a good-b few = made_of_parts (joined a b) (joined_some a b good-a good-b few) (of_side a b good-a good-b few)

module _ (rows : List Row) (good : Admitted rows) where
  turned : Placed rows (map turn rows) 0
  turned = record {
    admitted = good;
    each = λ k row e. (turn row, at (k + 0) k (omega arith) row e, turn_alike row);
    room = omega (arith, length-map rows turn);
  }
    where
      at : (p k : ℕ) → p ≡ k → (row : Row) → slice_get rows k ≡ Some row → slice_get (map turn rows) p ≡ Some (turn row)
      at p k same row e = sym (from_turned rows p row (sym (ap (slice_get rows) same ∙ e)))

  of_whole : (p : ℕ) → p < length (map turn rows) → OfPart (map turn rows) p
  of_whole p h = record { part = rows; from = 0; placed = turned; number = p; below = omega (arith, length-map rows turn); is = omega arith }

  turned_some : 0 < length (map turn rows)
  turned_some = let s = good.some in omega (arith, length-map rows turn)

pub turned_is_admitted : TurnedIsAdmitted
turned_is_admitted rows good = made_of_parts (map turn rows) (turned_some rows good) (of_whole rows good)
