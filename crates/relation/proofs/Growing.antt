-- Sets of rows that grow, row by row and round by round. Assumes nothing.
use Rattle.std.proofs.Common.{◌≡◌, ℕ, ◌+◌, ◌*◌, ◌/◌, ◌<◌, ◌≤◌, Bool, true, false, not, ◌&&◌, ◌||◌, ltb, ◌≢◌, ◌⊎◌, List, length, take, drop, Some, sym, refl, ap, ap₂, ◌∙◌, subst, inl, inr, ⊎_elim, arith}
use borrow.Rule.Slice.PartMut.{put_mid}
use Rattle.std.specs.List.{slice_get}
use Rattle.std.proofs.lemmas.Bool.{cases_lt, cases_eq, both_ways, or_cases, or_parts, or_right, lt-ltb, ltb-true}
use Rattle.std.proofs.lemmas.Bool.Decides.{nat_tests}
use Rattle.sets.specs.Sets.{member, tally, word}
use Rattle.sets.proofs.Membership.{member_past}
use Rattle.sets.proofs.Parts.{part_member, whole_rest, joined_in, joined_more, joined_same, joined_grows}
use Rattle.sets.proofs.Tallies.{tally_part}
use Rattle.forms.specs.Limits.{max_rows}
use Rattle.forms.specs.declared.Row.{Row}
use Rattle.forms.specs.declared.Row.TheVariants.{Union}
use Rattle.forms.specs.Schema.{Offers}
use Rattle.forms.specs.Schema.Offers.{left, right}
use Rattle.relation.specs.Cells.{cell, Sound, Settled, Grown, RowAdded, Spread}

-- how many words a row's set takes
abbrev row_words : ℕ
row_words = max_rows / word

pub grown_none : (cells : List ℕ) → Grown cells cells false
grown_none cells = record { more = λ k e. e; same = λ _ k. refl; grows = λ e. absurd (both_ways false refl e) }

pub grown_then : (a b c : List ℕ) (x y : Bool) → length b ≡ length a → Grown a b x → Grown b c y → Grown a c (x || y)
grown_then a b c x y len g h = record {
  more = λ k e. h.more k (g.more k e);
  same = λ e k. let (p, q) = or_parts x y e in h.same q k ∙ g.same p k;
  grows = λ e.
      let first = tally_part (member a) (member b) g.more (word * length a) in
      let second = tally_part (member b) (member c) h.more (word * length a) in
      ⊎_elim
      (λ p. omega (arith, g.grows p))
      (λ q. let more : tally (member b) (word * length a) < tally (member c) (word * length a) = subst (λ n. tally (member b) (word * n) < tally (member c) (word * n)) len (h.grows q) in omega arith)
      (or_cases x y e);
}

-- a number past the table has no set
pub added_past : (p k : ℕ) (old : List ℕ) → word * length old ≡ max_rows * max_rows → max_rows ≤ k → RowAdded p k old old false
added_past p k old room past = record {
  growth = grown_none old;
  from = λ q o q< o< e. inl e;
  has = λ o o< e. absurd (both_ways (cell old k o) (member_past old (k * max_rows + o) (omega arith)) e);
}

-- the words of row p are joined with those of row k, and n members are new
module _ (p k : ℕ) (old : List ℕ) (room : word * length old ≡ max_rows * max_rows) (p< : p < max_rows) (k< : k < max_rows) (w v : ℕ) (w-is : w ≡ row_words) (v-is : v ≡ row_words) (others joined : List ℕ) (n : ℕ) where
  abbrev own : List ℕ
  own = take w (drop (p * row_words) old)

  abbrev new : List ℕ
  new = put_mid (p * row_words) w old joined

  pub added_row : length joined ≡ w → others ≡ take v (drop (k * row_words) old)
      → ((j : ℕ) → member joined j ≡ (member own j || (ltb j (word * length own) && member others j)))
      → n ≡ tally (λ j. member others j && not (member own j)) (word * length own)
      → RowAdded p k old new (ltb 0 n)
  added_row long copied members gained = record {
    growth = record {
      more = joined_more old (p * row_words) w (omega arith) (omega arith) others joined long members;
      same = λ e. joined_same old (p * row_words) w (omega arith) (omega arith) others joined long members n gained (none e);
      grows = λ e. joined_grows old (p * row_words) w (omega arith) (omega arith) others joined long members n gained (ltb-true 0 n e);
    };
    from = λ q o q< o< e. ⊎_elim
        (λ same. ⊎_elim (λ x. inl (subst (λ z. cell old z o ≡ true) (sym same) x)) (λ y. inr (same, y))
        (or_cases (cell old p o) (cell old k o) (sym (here o o<) ∙ subst (λ z. cell new z o ≡ true) same e)))
        (λ off. inl (sym (whole_rest old (p * row_words) w (omega arith) (omega arith) joined long (q * max_rows + o) (omega arith) (outside q o o< off)) ∙ e))
        (cases_eq q p);
    has = λ o o< e. here o o< ∙ or_right (cell old p o) (cell old k o) e;
  }
    where
      none : ltb 0 n ≡ false → n ≡ 0
      none e = grind (arith, nat_tests)

      outside : (q o : ℕ) → o < max_rows → q ≢ p → (q * max_rows + o < word * (p * row_words)) ⊎ (word * (p * row_words + w) ≤ q * max_rows + o)
      outside q o o< off = ⊎_elim (λ less. inl (omega arith)) (λ ge. ⊎_elim (λ more. inr (omega arith)) (λ le. absurd (off (omega arith))) (cases_lt p q)) (cases_lt q p)

      here : (o : ℕ) → o < max_rows → cell new p o ≡ (cell old p o || cell old k o)
      here o o< =
          ap (member new) (omega arith)
          ∙ joined_in old (p * row_words) w (omega arith) (omega arith) others joined long members o (omega arith)
          ∙ ap₂ (λ a b. a || b) (ap (member old) (omega arith))
          (ap (λ ws. member ws o) copied ∙ part_member old (k * row_words) v (omega arith) (omega arith) o ∙ ap (λ b. b && member old (word * (k * row_words) + o)) (lt-ltb o (word * v) (omega arith)) ∙ ap (member old) (omega arith))

-- the rows before i have had the sets of their sides added
pub record Spreading (rows : List Row) (old new : List ℕ) (grown : Bool) (i : ℕ) : Type 0 where
  pub growth : Grown old new grown
  pub size : length new ≡ length old
  pub sound : Sound rows old → Sound rows new
  pub settled : grown ≡ false → (p : ℕ) → p < i → Settled rows old p

module _ (rows : List Row) (old : List ℕ) where
  -- a set that is added soundly leaves the sets sound
  added_sound : (p k : ℕ) (a b : List ℕ) (x : Bool) → word * length a ≡ max_rows * max_rows → ((o : ℕ) → Offers rows k o → Offers rows p o) → RowAdded p k a b x → Sound rows a → Sound rows b
  added_sound p k a b x room up r s q o q< o< e = ⊎_elim
      (s q o q< o<)
      (λ (same, there). ⊎_elim
      (λ k<. subst (λ z. Offers rows z o) (sym same) (up o (s k o k< o< there)))
      (λ past. absurd (both_ways (cell a k o) (member_past a (k * max_rows + o) (omega arith)) there))
      (cases_lt k max_rows))
      (r.from q o q< o< e)

  module _ (room : word * length old ≡ max_rows * max_rows) (new : List ℕ) (grown : Bool) (i : ℕ) (s : Spreading rows old new grown i) where
    -- a row that is no union has no sides
    pub spreading_past : ((l r : ℕ) → slice_get rows i ≡ Some (Union l r) → ⊥) → Spreading rows old new grown (i + 1)
    spreading_past leaf = record {
      growth = s.growth;
      size = s.size;
      sound = s.sound;
      settled = λ e p h. ⊎_elim
          (s.settled e p)
          (λ above l r is. let same : p ≡ i = omega arith in absurd (leaf l r (ap (slice_get rows) (sym same) ∙ is)))
          (cases_lt p i);
    }

    pub spreading_more : (l r : ℕ) → slice_get rows i ≡ Some (Union l r) → (mid end : List ℕ) (x y : Bool) → length mid ≡ length new → length end ≡ length mid → RowAdded i l new mid x → RowAdded i r mid end y
        → Spreading rows old end ((grown || x) || y) (i + 1)
    spreading_more l r is mid end x y len-mid len-end first second =
        let size = s.size in
        let two = grown_then old new mid grown x size s.growth first.growth in
        let all = grown_then old mid end (grown || x) y (omega arith) two second.growth in
        record {
          growth = all;
          size = omega arith;
          sound = λ start. added_sound i r mid end y (omega arith) (λ o h. right is h) second (added_sound i l new mid x (omega arith) (λ o h. left is h) first (s.sound start));
          settled = λ e p h.
              let (e-two, e-y) = or_parts (grown || x) y e in
              let (e-grown, e-x) = or_parts grown x e-two in
              ⊎_elim
              (s.settled e-grown p)
              (λ above. let same : p ≡ i = omega arith in subst (Settled rows old) (sym same)
              (here (s.growth.same e-grown) (λ k. first.growth.same e-x k ∙ s.growth.same e-grown k) (λ k. second.growth.same e-y k ∙ first.growth.same e-x k ∙ s.growth.same e-grown k)))
              (cases_lt p i);
        }
      where
        -- nothing grew, so that what was added was there
        here : ((k : ℕ) → member new k ≡ member old k) → ((k : ℕ) → member mid k ≡ member old k) → ((k : ℕ) → member end k ≡ member old k) → Settled rows old i
        here n m e l' r' is' o o< h =
            let both : Union l' r' ≡ Union l r = cc in
            let left-is : l' ≡ l = cc in
            let right-is : r' ≡ r = cc in
            ⊎_elim
            (λ a. sym (m (i * max_rows + o)) ∙ first.has o o< (n (l * max_rows + o) ∙ subst (λ z. cell old z o ≡ true) left-is a))
            (λ b. sym (e (i * max_rows + o)) ∙ second.has o o< (m (r * max_rows + o) ∙ subst (λ z. cell old z o ≡ true) right-is b))
            h

  pub spreading_all : (new : List ℕ) (grown : Bool) (i : ℕ) → length rows ≤ i → Spreading rows old new grown i → Spread rows old new grown
  spreading_all new grown i all s = record {
    growth = s.growth;
    sound = s.sound;
    settled = λ e p h l r is o o< sides. s.growth.same e (p * max_rows + o)
        ∙ s.settled e p (omega arith) l r is o o< (⊎_elim (λ a. inl (sym (s.growth.same e (l * max_rows + o)) ∙ a)) (λ b. inr (sym (s.growth.same e (r * max_rows + o)) ∙ b)) sides);
  }
