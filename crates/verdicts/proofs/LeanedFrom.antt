-- What is done when nothing is pending any more is what the pair leans on. Assumes nothing.
use Rattle.std.proofs.Common.{◌≡◌, ℕ, ◌+◌, ◌-◌, ◌*◌, ◌/◌, ◌%◌, ◌<◌, ◌≤◌, true, false, ◌||◌, eqb, ◌⊎◌, List, length, replicate, is_some, Some, Decides, Option, sym, refl, ap, ◌∙◌, subst, subst₂, inl, inr, ⊎_elim, arith}
use Rattle.std.proofs.lemmas.Nat.{mul-add-lt, div_below, mod_below, div-add-mod'}
use Rattle.std.proofs.lemmas.Bool.{both_ways, cases_Bool, cases_eq, cases_lt, or_cases, or_left, or_right, or_from, eqb-true, eq-eqb, ne_eqb, cond-true, cond-false}
use Rattle.sets.specs.Sets.{member, tally}
use Rattle.sets.proofs.Tallies.{tally_fewer, tally_le}
use Rattle.forms.specs.Limits.{max_rows}
use Rattle.forms.specs.declared.Row.{Row}
use Rattle.sets.proofs.Membership.{zeros_none}
use Rattle.schema.specs.Rules.{Bounded, Names, Leans}
use Rattle.schema.specs.Rules.Leans.{on_itself, on_named}
use Rattle.schema.specs.Theorems.{Confined}
use Rattle.schema.proofs.Leaning.{leans_on}
use Rattle.schema.proofs.Order.{square_in, square_out, square_confined}
use Rattle.verdicts.specs.Naming.{Pended}
use Rattle.verdicts.specs.Pairs.{place_of, related, Leaned}
use Rattle.verdicts.specs.declared.prepared.leaning.Met.{Met}
use Rattle.verdicts.specs.declared.prepared.leaning.Walk.{Walk}
use Rattle.verdicts.specs.Walking.{Notes, MetBy, Takes}
use Rattle.verdicts.proofs.Deciding.{between_parts, between_from, pair_parts, place_div, place_mod, square_small}
use Rattle.verdicts.proofs.Naming.{NamedFor, place_in, place_parts}

module _ (rows : List Row) (starts : List ℕ) where
  abbrev n : ℕ
  n = length rows

  -- some pair of the set leans on the pair at place k
  abbrev LeansAt : ℕ → Type 0
  LeansAt k = (a b : ℕ) × (a < n) × (b < n) × (k ≡ a * n + b) × Leaned rows starts a b

  pub record Leaning (done pending : List ℕ) : Type 0 where
    pub sound_done : (k : ℕ) → member done k ≡ true → LeansAt k
    pub sound_pending : (k : ℕ) → k < n * n → member pending k ≡ true → LeansAt k
    pub apart : (k : ℕ) → member pending k ≡ true → member done k ≡ false
    pub start : (k : ℕ) → k < n * n → member starts k ≡ true → (member done k ≡ true) ⊎ (member pending k ≡ true)
    pub closed : (k j : ℕ) → member done k ≡ true → NamedFor rows (k / n) (k % n) j → (member done j ≡ true) ⊎ (member pending j ≡ true)

  pub leaning_none : (m : ℕ) → 0 < length rows → Leaning (replicate m 0) starts
  leaning_none m some = record {
    sound_done = λ k on. absurd (both_ways _ (zeros_none m k) on);
    sound_pending = λ k low on.
        let a< = div_below k n n some low in
        let b< = mod_below k n some in
        (k / n, k % n, a<, b<, sym (div-add-mod' k n), (k / n, k % n, between_from n (member starts) (k / n) (k % n) a< b< (subst (λ x. member starts x ≡ true) (sym (div-add-mod' k n)) on), on_itself));
    apart = λ k on. zeros_none m k;
    start = λ k low on. inr on;
    closed = λ k j on. absurd (both_ways _ (zeros_none m k) on);
  }

  -- one step of the walk: the pair at place k is taken, and what the rules name for it is noted
  module _ (few : length rows ≤ max_rows) (old taken new : Walk) (pair : ℕ × ℕ) (l : Leaning old.done old.pending) (takes : Takes (length rows) pair old taken) (notes : Notes (NamedFor rows pair.0 pair.1) taken new) where
    abbrev k : ℕ
    k = takes.place

    parts : (k < n * n) × (pair.0 ≡ k / n) × (pair.1 ≡ k % n)
    parts = pair_parts n k pair takes.is

    in_done : (j : ℕ) → member new.done j ≡ (eqb j k || member old.done j)
    in_done j = ap (λ d. member d j) notes.done ∙ takes.put j

    pended : Pended (NamedFor rows (k / n) (k % n)) new.done taken.pending new.pending
    pended =
        let (_, first, second) = parts in
        subst (λ d. Pended (NamedFor rows (k / n) (k % n)) d taken.pending new.pending) (sym notes.done)
        (subst₂ (λ x y. Pended (NamedFor rows x y) taken.done taken.pending new.pending) first second notes.pended)

    more_done : (j : ℕ) → member old.done j ≡ true → member new.done j ≡ true
    more_done j on = in_done j ∙ or_right (eqb j k) (member old.done j) on

    now_done : member new.done k ≡ true
    now_done = in_done k ∙ or_left (eqb k k) (member old.done k) (eq-eqb k k refl)

    from_done : (j : ℕ) → member new.done j ≡ true → (j ≡ k) ⊎ (member old.done j ≡ true)
    from_done j on = ⊎_elim (λ e. inl (eqb-true j k e)) inr (or_cases (eqb j k) (member old.done j) (sym (in_done j) ∙ on))

    -- what was pending is done or pending
    still : (j : ℕ) → member old.pending j ≡ true → (member new.done j ≡ true) ⊎ (member new.pending j ≡ true)
    still j on = ⊎_elim
        (λ same. inl (subst (λ x. member new.done x ≡ true) (sym same) now_done))
        (λ other. inr (pended.more j (takes.rest j ∙ cond-false (eqb j k) false (member old.pending j) (ne_eqb j k other) ∙ on)))
        (cases_eq j k)

    was : (j : ℕ) → member taken.pending j ≡ true → (member old.pending j ≡ true) × (eqb j k ≡ false)
    was j on = ⊎_elim
        (λ e. absurd (both_ways _ (takes.rest j ∙ cond-true (eqb j k) false (member old.pending j) e) on))
        (λ ne. (sym (takes.rest j ∙ cond-false (eqb j k) false (member old.pending j) ne) ∙ on, ne))
        (cases_Bool (eqb j k))

    here : LeansAt k
    here = l.sound_pending k parts.0 takes.there

    -- what is named for the pair at k is leaned on, for that pair is
    named_leans : (j : ℕ) → NamedFor rows (k / n) (k % n) j → LeansAt j
    named_leans j (c, d, h, g, e, named) =
        let (a, b, a<, b<, is, leaned) = here in
        let (p, q, from, leans) = leaned in
        let at_a : k / n ≡ a = ap (λ x. x / n) is ∙ place_div n a b b< in
        let at_b : k % n ≡ b = ap (λ x. x % n) is ∙ place_mod n a b b< in
        (c, d, h, g, e, (p, q, from, leans_on leans (subst₂ (λ x y. Names rows x y c d) at_a at_b named)))

    pub walk_more : Leaning new.done new.pending
    walk_more = record {
      sound_done = λ j on. ⊎_elim (λ same. subst LeansAt (sym same) here) (l.sound_done j) (from_done j on);
      sound_pending = λ j h on. ⊎_elim (λ before. l.sound_pending j h (was j before).0) (λ (named, _). named_leans j named) (pended.from j on);
      apart = λ j on. ⊎_elim (λ pending. let (before, other) = was j pending in in_done j ∙ or_from (eqb j k) (member old.done j) other (l.apart j before)) (λ (_, off). off) (pended.from j on);
      start = λ j h on. ⊎_elim (λ d. inl (more_done j d)) (still j) (l.start j h on);
      closed = λ i j on named. ⊎_elim
          (λ same. pended.has j (subst (λ x. NamedFor rows (x / n) (x % n) j) same named))
          (λ before. ⊎_elim (λ d. inl (more_done j d)) (still j) (l.closed i j before named))
          (from_done i on);
    }

    pub walk_less : (m : ℕ) → m ≡ max_rows * max_rows → m - tally (member new.done) m < m - tally (member old.done) m
    walk_less m e =
        let (low, _, _) = parts in
        let room = square_small n few in
        let small : k < m = omega arith in
        let fewer = tally_fewer (member old.done) (member new.done) more_done k m small now_done (l.apart k takes.there) in
        let most = tally_le (member new.done) m in
        omega arith

  module _ (bounded : Bounded rows) (done pending : List ℕ) (l : Leaning done pending) (none : (j : ℕ) → j < length rows * length rows → member pending j ≡ false) where
    leans_sound : (a b : ℕ) → related n done a b ≡ true → Leaned rows starts a b
    leans_sound a b h =
        let (a<, b<, on) = between_parts n (member done) a b h in
        let (c, d, c<, d<, is, leaned) = l.sound_done (a * n + b) on in
        let at_a : c ≡ a = sym (place_div n c d d<) ∙ ap (λ x. x / n) (sym is) ∙ place_div n a b b< in
        let at_b : d ≡ b = sym (place_mod n c d d<) ∙ ap (λ x. x % n) (sym is) ∙ place_mod n a b b< in
        subst₂ (Leaned rows starts) at_a at_b leaned

    -- what is pending is no pair's
    not_pending : {A : Type 0} (a b : ℕ) → a < n → b < n → member pending (a * n + b) ≡ true → A
    not_pending a b h g on = absurd (both_ways _ (none (a * n + b) (mul-add-lt a n b n h g)) on)

    pub leans_confined : Confined rows (related (length rows) done)
    leans_confined a b c d h named =
        let (a<, b<, on) = between_parts n (member done) a b h in
        let (c<, d<) = square_out rows c d (square_confined rows bounded a b c d (square_in rows a b a< b<) named) in
        ⊎_elim (between_from n (member done) c d c< d<) (not_pending c d c< d<)
        (l.closed (a * n + b) (c * n + d) on (c, d, c<, d<, refl, subst₂ (λ x y. Names rows x y c d) (sym (place_div n a b b<)) (sym (place_mod n a b b<)) named))

    reach : {x y a b : ℕ} → Leans rows x y a b → related n done x y ≡ true → related n done a b ≡ true
    reach on_itself h = h
    reach (on_named named leans) h = reach leans (leans_confined _ _ _ _ h named)

    pub leans_decided : (a b : ℕ) → Decides (related (length rows) done a b) (Leaned rows starts a b)
    leans_decided a b = (
      leans_sound a b,
      λ (p, q, from, leans).
          let (p<, q<, on) = between_parts n (member starts) p q from in
          reach leans (between_from n (member done) p q p< q< (⊎_elim (λ there. there) (not_pending p q p< q<) (l.start (p * n + q) (mul-add-lt p n q n p< q<) on))),
    )

    pub leans_rest : (k : ℕ) → length rows * length rows ≤ k → member done k ≡ false
    leans_rest k high = ⊎_elim
        (λ on. let (a, b, a<, b<, is, _) = l.sound_done k on in let inside = mul-add-lt a n b n a< b< in absurd (omega arith))
        (λ off. off)
        (cases_Bool (member done k))

-- the walk so far: what is leaned on, and which rows were gone through against which sets
pub record Walking (rows : List Row) (channels elements starts : List ℕ) (links parts : Met) (walk : Walk) : Type 0 where
  pub leaning : Leaning rows starts walk.done walk.pending
  pub linked : MetBy rows links walk
  pub parted : MetBy rows parts walk
  pub of_channels : links.cells.now ≡ channels
  pub of_elements : parts.cells.now ≡ elements

-- the place of a pair alone, as a set
pub alone_put : (place : Option ℕ) (m k : ℕ) (new : List ℕ) → place ≡ Some k → ((j : ℕ) → member new j ≡ (eqb j k || member (replicate m 0) j)) → (j : ℕ) → Decides (member new j) (place ≡ Some j)
alone_put place m k new is put j = (
  λ on. ⊎_elim (λ e. is ∙ ap Some (sym (eqb-true j k e))) (λ old. absurd (both_ways _ (zeros_none m j) old)) (or_cases (eqb j k) (member (replicate m 0) j) (sym (put j) ∙ on)),
  λ e. let same : j ≡ k = cc in put j ∙ or_left (eqb j k) (member (replicate m 0) j) (eq-eqb j k same),
)

pub alone_none : (place : Option ℕ) (m : ℕ) → (is_some place ≡ true → ⊥) → (j : ℕ) → Decides (member (replicate m 0) j) (place ≡ Some j)
alone_none place m none j = (λ on. absurd (both_ways _ (zeros_none m j) on), λ e. absurd (none (ap is_some e)))

module _ (rows : List Row) (p q : ℕ) (starts : List ℕ) (alone : (k : ℕ) → Decides (member starts k) (place_of (length rows) (Some (p, q)) ≡ Some k)) where
  alone_is : (a b : ℕ) → related (length rows) starts a b ≡ true → (p < length rows) × (q < length rows) × (a ≡ p) × (b ≡ q)
  alone_is a b h =
      let n = length rows in
      let (a<, b<, on) = between_parts n (member starts) a b h in
      let (c, d, is, c<, d<, e) = place_parts n (Some (p, q)) (a * n + b) ((alone (a * n + b)).0 on) in
      let f : ◌≡◌ {A = ℕ × ℕ} (p, q) (c, d) = cc in
      let at_p : p ≡ c = ap (λ x. x.0) f in
      let at_q : q ≡ d = ap (λ x. x.1) f in
      let at_a : a ≡ c = sym (place_div n a b b<) ∙ ap (λ x. x / n) e ∙ place_div n c d d< in
      let at_b : b ≡ d = sym (place_mod n a b b<) ∙ ap (λ x. x % n) e ∙ place_mod n c d d< in
      (omega arith, omega arith, at_a ∙ sym at_p, at_b ∙ sym at_q)

  module _ (r : List ℕ) (leans : (a b : ℕ) → Decides (related (length rows) r a b) (Leaned rows starts a b)) where
    pub alone_leans : p < length rows → q < length rows → (a b : ℕ) → Decides (related (length rows) r a b) (Leans rows p q a b)
    alone_leans h g a b = (
      λ on. let (c, d, from, l) = (leans a b).0 on in let (_, _, e, f) = alone_is c d from in subst₂ (λ x y. Leans rows x y a b) e f l,
      λ l. (leans a b).1 (p, q, between_from (length rows) (member starts) p q h g ((alone (p * length rows + q)).1 (place_in (length rows) p q h g)), l),
    )

    pub alone_outside : 0 < length rows → ((k : ℕ) → length rows * length rows ≤ k → member r k ≡ false) → (length rows ≤ p) ⊎ (length rows ≤ q) → (k : ℕ) → member r k ≡ false
    alone_outside some rest out k = ⊎_elim
        (λ low. ⊎_elim (λ on. absurd (none low on)) (λ off. off) (cases_Bool (member r k)))
        (rest k)
        (cases_lt k (length rows * length rows))
      where
        none : k < length rows * length rows → member r k ≡ true → ⊥
        none low on =
            let n = length rows in
            let (c, d, from, _) = (leans (k / n) (k % n)).0 (between_from n (member r) (k / n) (k % n) (div_below k n n some low) (mod_below k n some) (subst (λ x. member r x ≡ true) (sym (div-add-mod' k n)) on)) in
            let (h, g, _, _) = alone_is c d from in
            ⊎_elim (λ le. omega arith) (λ le. omega arith) out
