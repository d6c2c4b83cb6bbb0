-- The published relation is `Below`, on determined tables.
use Rattle.std.proofs.Common.{◌≡◌, ℕ, true, List, subst}
use Rattle.forms.specs.declared.Row.{Row}
use Rattle.forms.specs.Rows.{belongs}
use Rattle.schema.specs.Rules.{Determined, OffersElement, Relation, Keeps}
use Rattle.forms.specs.Schema.Inhabited.{of_element}
use Rattle.schema.specs.Published.{Handle, Simulates, PublishedIsBelow}
use Rattle.schema.proofs.Order.{same_parts}
use Rattle.schema.proofs.Inclusion.{element_parts, element_label}

module _ {rows : List Row} {p l i n : ℕ} where
  of_handle : Handle rows p l i n → OffersElement rows p l i n
  of_handle h = record { number = h.number; offered = h.offered; is = h.is; inhabited = of_element h.labelled.0 h.is h.labelled.1 h.inside h.following }

  to_handle : OffersElement rows p l i n → Handle rows p l i n
  to_handle e = record { number = e.number; offered = e.offered; is = e.is; labelled = element_label rows e.is e.inhabited; inside = (element_parts rows e.is e.inhabited).0; following = (element_parts rows e.is e.inhabited).1 }

simulates_keeps : {rows : List Row} {R : Relation} {p q : ℕ} → Determined rows → Simulates rows R p q → Keeps rows R p q
simulates_keeps {R} determined simulates = record {
  voids = simulates.voids;
  channels = simulates.channels;
  covers = λ e x b.
      let family = simulates.elements (to_handle e) in
      let (j, m, b') = family.covers x b in
      let (l', i', n', h, _, _, _) = family.member j m in
      (l', i', n', of_handle h, b');
  agrees = λ {l} {i} {n} {l'} {i'} {n'} e e' x b b'.
      let family = simulates.elements (to_handle e) in
      let (j, m, b'') = family.covers x b in
      let (l'', i'', n'', h, _, ri, rn) = family.member j m in
      let (s, t) = same_parts determined (of_handle h) e' x b'' b' in
      (subst (λ y. R i y ≡ true) s ri, subst (λ y. R n y ≡ true) t rn);
}

keeps_simulates : {rows : List Row} {R : Relation} {p q : ℕ} → Keeps rows R p q → Simulates rows R p q
keeps_simulates keeps = record {
  voids = keeps.voids;
  channels = keeps.channels;
  elements = λ {l} h. record {
    index = λ x. belongs x l;
    member = λ x b.
        let (l', i', n', e', b') = keeps.covers (of_handle h) x b in
        let (ri, rn) = keeps.agrees (of_handle h) e' x b b' in
        (l', i', n', to_handle e', (x, b, b'), ri, rn);
    covers = λ x b. (x, b, (keeps.covers (of_handle h) x b).4);
  };
}

pub published_is_below : PublishedIsBelow
published_is_below rows determined p q =
    (λ (R, simulates, h). (R, λ a b g. simulates_keeps determined (simulates a b g), h), λ (R, closed, h). (R, λ a b g. keeps_simulates (closed a b g), h))
