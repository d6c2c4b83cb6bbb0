-- What one step, one round and all of them leave. Assumes nothing.
use Rattle.std.proofs.Common.{◌≡◌, ℕ, ◌+◌, ◌-◌, ◌*◌, ◌<◌, ◌≤◌, Bool, true, false, ◌≢◌, List, [], ◌∷◌, ◌++◌, length, take, drop, set, replicate, Some, None, sym, refl, ap, ◌∙◌, subst, ⊎_elim, arith, length-append, length-set, length-take, Option}
use lib.ListN.{length-replicate}
use Rattle.std.proofs.lemmas.List.{take_more_set, drop-set-lt, drop-drop}
use Rattle.std.proofs.lemmas.Nat.{mul-le}
use Rattle.std.proofs.lemmas.Bool.{both_ways, cases_Bool, cases_eq}
use Rattle.sets.proofs.Tallies.{tally_le}
use Rattle.forms.specs.Limits.{max_rows}
use Rattle.forms.specs.declared.Row.{Row}
use Rattle.forms.proofs.Findings.{never}
use Rattle.documents.specs.Limits.{max_nodes}
use Rattle.documents.specs.Nodes.{StandsFor}
use Rattle.documents.specs.declared.nodes.Node.{Node}
use Rattle.schema.specs.Rules.{Bounded, Determined, Relation}
use Rattle.showing.specs.Drafts.{is_noted, noted, pair_place, Drafts}
use Rattle.showing.specs.Showing.{Witnesses, places}
use Rattle.showing.specs.Drawing.{Asked, Suits, Noted, Holds, Grown, Settled, Visited, Rounded}
use Rattle.showing.proofs.Complete.{none_left}
use Rattle.showing.proofs.Noting.{nothing_noted, noted_here, noted_there, noted_more, noted_fewer}
use Rattle.showing.proofs.Suiting.{drafted_suits}
use Rattle.showing.proofs.Tables.{stands_more, sound_more}

-- NODES ADDED
pub grown_none : (nodes : List Node) (used : ℕ) → Grown nodes nodes used used
grown_none nodes used = record { up = omega arith; same = refl; rest = refl }

pub grown_then : {a b c : List Node} {i j k : ℕ} → Grown a b i j → Grown b c j k → Grown a c i k
grown_then {a} {b} {c} {i} {j} {k} one two = record {
  up = let h = one.up in let g = two.up in omega arith;
  same = two.same ∙ one.same;
  rest = two.rest ∙ further;
}
  where
    further : drop k b ≡ drop k a
    further = let h = two.up in let e : j + (k - j) ≡ k = omega arith in
        ap (λ x. drop x b) (sym e) ∙ sym (drop-drop (k - j) j b) ∙ ap (drop (k - j)) one.rest ∙ drop-drop (k - j) j a ∙ ap (λ x. drop x a) e

grown_one : (nodes : List Node) (used : ℕ) (v : Node) → Grown nodes (set nodes used v) used (used + 1)
grown_one nodes used v = record { up = omega arith; same = length-set nodes used v; rest = drop-set-lt (used + 1) nodes used v (omega arith) }

pub places_few : (n : ℕ) → n ≤ max_rows → n * (n + 1) ≤ max_nodes
places_few n few = mul-le n (n + 1) max_rows (max_rows + 1) few (omega arith)

module _ (rows : List Row) (below : Relation) where
  -- at first there is no node
  pub holds_none : (nodes : List Node) (N : ℕ) → N ≡ max_nodes → places rows ≤ length nodes → Holds rows below nodes 0 (replicate N None)
  holds_none nodes N long room = record {
    room = room;
    within = omega arith;
    noting = record {
      long = length-replicate {A = Option ℕ} N None ∙ long;
      sound = record { each = λ k e. never (cc) };
      counted = omega arith;
      each = λ k m e. let no = nothing_noted N k in never (cc);
    };
  }

  module _ (nodes : List Node) (used : ℕ) (numbers : List (Option ℕ)) (holds : Holds rows below nodes used numbers) where
    used_is : length (take used nodes) ≡ used
    used_is = let h = holds.within in omega (arith, length-take used nodes)

    pub used_low : used ≤ places rows
    used_low = let h = holds.noting.counted in let e = used_is in let g = tally_le (is_noted numbers) (places rows) in omega arith

    -- while a place has none, there is room
    pub used_less : (k : ℕ) → k < places rows → noted numbers k ≡ None → used < places rows
    used_less k low none = let h = holds.noting.counted in let e = used_is in let g = noted_fewer numbers k (places rows) low none in omega arith

    -- one node more
    module _ (bounded : Bounded rows) (determined : Determined rows) (few : length rows ≤ max_rows) (leaned : Relation) (asked : Asked rows leaned below)
        (k : ℕ) (low : k < places rows) (none : noted numbers k ≡ None) (v : Node) (drafts : Drafts rows leaned below numbers k v) where
      abbrev table : List Node
      table = take used nodes

      number_low : used < max_nodes
      number_low = let h = used_less k low none in let g = places_few (length rows) few in omega arith

      place_within : k < length numbers
      place_within = let g = places_few (length rows) few in omega (arith, holds.noting.long)

      one_more : take (used + 1) (set nodes used v) ≡ table ++ (v ∷ [])
      one_more = take_more_set nodes used v (let h = used_less k low none in let r = holds.room in omega arith)

      noting_more : Noted rows below (table ++ (v ∷ [])) (set numbers k (Some used))
      noting_more =
          let (sound, made) = drafted_suits rows bounded determined leaned below asked table numbers holds.noting k v drafts in
          let (d, stands, suits) = made in
          record {
            long = length-set numbers k (Some used) ∙ holds.noting.long;
            sound = sound_more table v rows holds.noting.sound sound;
            counted =
                let h = holds.noting.counted in
                let g = noted_more numbers k used place_within (places rows) low none in
                omega (arith, length-append table (v ∷ []));
            each = λ j m e. ⊎_elim
                (λ same. (
                  d,
                  (
                      let is : Some used ≡ Some m = sym (noted_here numbers k used place_within) ∙ ap (noted (set numbers k (Some used))) (sym same) ∙ e in
                      let number : length table ≡ m = used_is ∙ (cc) in
                      subst (λ x. StandsFor (table ++ (v ∷ [])) x d) number stands),
                  subst (λ x. Suits rows below x d) (sym same) suits,
                ))
                (λ other.
                let (d', stands', suits') = holds.noting.each j m (sym (noted_there numbers k used place_within j other) ∙ e) in
                (d', stands_more table v stands', suits'))
                (cases_eq j k);
          }

      holds_more : Holds rows below (set nodes used v) (used + 1) (set numbers k (Some used))
      holds_more = record {
        room = let h = holds.room in omega (arith, length-set nodes used v);
        within = let h = used_less k low none in let r = holds.room in omega (arith, length-set nodes used v);
        noting = subst (λ t. Noted rows below t (set numbers k (Some used))) (sym one_more) noting_more;
      }

      visited_added : Visited rows leaned below k nodes (set nodes used v) used (used + 1) numbers (set numbers k (Some used)) true
      visited_added = record {
        holds = holds_more;
        grown = grown_one nodes used v;
        others = noted_there numbers k used place_within;
        added = λ _. (refl, noted_here numbers k used place_within);
        idle = λ e. absurd (both_ways true e refl);
      }

      pub visited_by : (after : List Node) (more : ℕ) (new : List (Option ℕ)) → after ≡ set nodes used v → more ≡ used + 1 → new ≡ set numbers k (Some used) → Visited rows leaned below k nodes after used more numbers new true
      visited_by after more new e f g = rw (e, f, g) visited_added

module _ (rows : List Row) (leaned below : Relation) (but : ℕ) where
  module _ (before after : List Node) (used more : ℕ) (numbers new : List (Option ℕ)) (k : ℕ) (rounded : Rounded rows leaned below but k before after used more numbers new) where
    pub rounded_skip : k ≡ but → Rounded rows leaned below but (k + 1) before after used more numbers new
    rounded_skip same = record {
      holds = rounded.holds;
      grown = rounded.grown;
      stays = rounded.stays;
      idle = λ e. let (is, all) = rounded.idle e in (is, λ j low other. all j (omega arith) other);
    }

    pub rounded_more : (after' : List Node) (more' : ℕ) (new' : List (Option ℕ)) (r : Bool) → k ≢ but → Visited rows leaned below k after after' more more' new new' r → Rounded rows leaned below but (k + 1) before after' used more' numbers new'
    rounded_more after' more' new' r other visited = record {
      holds = visited.holds;
      grown = grown_then rounded.grown visited.grown;
      stays = visited.others but (λ e. other (sym e)) ∙ rounded.stays;
      idle = λ e. ⊎_elim
          (λ on. let (plus, _) = visited.added on in let up = rounded.grown.up in absurd (omega arith))
          (λ off.
          let (_, same, is, here) = visited.idle off in
          let (is-old, all) = rounded.idle (sym same ∙ e) in
          (is ∙ is-old, λ j low ne. ⊎_elim (λ at. subst (Settled rows leaned below new') (sym at) here) (λ less. subst (λ x. Settled rows leaned below x j) (sym is) (all j (omega arith) ne)) (cases_eq j k)))
          (cases_Bool r);
    }

-- THE WHOLE
-- a round in which the asked pair had to wait adds a node
pub round_grows : (rows : List Row) → Bounded rows → (leaned below : Relation) → Asked rows leaned below → (p q but : ℕ) → but ≡ pair_place (length rows) p q → leaned p q ≡ true → (below p q ≡ true → ⊥) →
    (after : List Node) (used more : ℕ) (numbers new : List (Option ℕ)) {before : List Node} → noted numbers but ≡ None → Settled rows leaned below numbers but → Rounded rows leaned below but (places rows) before after used more numbers new → used < more
round_grows rows bounded leaned below asked p q but at l nb after used more numbers new none here rounded = ⊎_elim
    (λ same.
    let (is, all) = rounded.idle (sym same) in
    absurd (none_left rows bounded leaned below asked (take more after) new rounded.holds.noting
    (λ k low. ⊎_elim (λ at'. subst (Settled rows leaned below new) (sym at') (subst (λ x. Settled rows leaned below x but) (sym is) here)) (all k low) (cases_eq k but))
    p q l nb (ap (noted new) (sym at) ∙ ap (λ x. noted x but) is ∙ none)))
    (λ other. let up = rounded.grown.up in omega arith)
    (cases_eq used more)

pub shows : (rows : List Row) (below : Relation) (p q but used more : ℕ) (nodes : List Node) (numbers : List (Option ℕ)) → but ≡ pair_place (length rows) p q → p < length rows → q < length rows → Holds rows below nodes more numbers → more ≡ used + 1 → noted numbers but ≡ Some used → Witnesses rows p q (take more nodes)
shows rows below p q but used more nodes numbers at p< q< holds plus e =
    let (d, stands, suits) = holds.noting.each but used e in
    let (_, f, nf) = suits.pair p q p< q< at in
    record {
      sound = holds.noting.sound;
      last = used;
      is_last = sym plus ∙ sym (used_is rows below nodes more numbers holds);
      order = d;
      stands = stands;
      fits = f;
      fits_not = nf;
    }

-- ROUND AFTER ROUND
-- nodes are made, and the asked pair has none yet
pub record Waits (rows : List Row) (below : Relation) (asked : ℕ) (before nodes : List Node) (used : ℕ) (numbers : List (Option ℕ)) : Type 0 where
  pub holds : Holds rows below nodes used numbers
  pub grown : Grown before nodes 0 used
  pub none : noted numbers asked ≡ None

pub waits_none : (rows : List Row) (below : Relation) (asked : ℕ) (nodes : List Node) (used : ℕ) (numbers : List (Option ℕ)) (N : ℕ) → N ≡ max_nodes → used ≡ 0 → numbers ≡ replicate N None → places rows ≤ length nodes → Waits rows below asked nodes nodes used numbers
waits_none rows below asked nodes used numbers N long zero start room =
    rw (zero, start) (record { holds = holds_none rows below nodes N long room; grown = grown_none nodes 0; none = nothing_noted N asked })

module _ (rows : List Row) (leaned below : Relation) (but : ℕ) (before nodes nodes' : List Node) (used used' : ℕ) (numbers numbers' : List (Option ℕ)) (r : Bool)
    (waits : Waits rows below but before nodes used numbers) (visited : Visited rows leaned below but nodes nodes' used used' numbers numbers' r) where
  module _ (off : r ≡ false) (nodes'' : List Node) (used'' : ℕ) (numbers'' : List (Option ℕ)) (rounded : Rounded rows leaned below but (places rows) nodes' nodes'' used' used'' numbers' numbers'') where
    still : noted numbers' but ≡ None
    still = let (_, _, is, _) = visited.idle off in ap (λ x. noted x but) is ∙ waits.none

    pub waits_again : Waits rows below but before nodes'' used'' numbers''
    waits_again = record {
      holds = rounded.holds;
      grown = grown_then (grown_then waits.grown visited.grown) rounded.grown;
      none = rounded.stays ∙ still;
    }

    pub waits_less : Bounded rows → Asked rows leaned below → (p q : ℕ) → but ≡ pair_place (length rows) p q → leaned p q ≡ true → (below p q ≡ true → ⊥) → places rows - used'' < places rows - used
    waits_less bounded asked p q at l nb =
        let (_, same, is, here) = visited.idle off in
        let more = round_grows rows bounded leaned below asked p q but at l nb nodes'' used' used'' numbers' numbers'' still here rounded in
        let low = used_low rows below nodes'' used'' numbers'' rounded.holds in
        omega arith

  module _ (on : r ≡ true) where
    pub ends_shown : (p q : ℕ) → but ≡ pair_place (length rows) p q → p < length rows → q < length rows → Witnesses rows p q (take used' nodes')
    ends_shown p q at p< q< = let (plus, e) = visited.added on in shows rows below p q but used used' nodes' numbers' at p< q< visited.holds plus e

    pub ends_grown : Grown before nodes' 0 used'
    ends_grown = grown_then waits.grown visited.grown
