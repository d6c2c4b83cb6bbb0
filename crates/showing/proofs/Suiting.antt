-- A node that was drafted for a place stands for a document for it. Assumes nothing.
use Rattle.std.proofs.Common.{◌≡◌, ℕ, ◌<◌, true, List, [], ◌∷◌, ◌++◌, length, Some, refl, subst, subst₂, arith, Option}
use Rattle.forms.specs.Schema.{IsChannel}
use Rattle.forms.specs.Rows.{belongs}
use Rattle.forms.specs.Documents.{Document}
use Rattle.forms.specs.Documents.Document.{void, reference, element}
use Rattle.forms.specs.declared.Row.{Row}
use Rattle.documents.specs.Nodes.{StandsFor, SoundWith}
use Rattle.documents.specs.Nodes.StandsFor.{for_void, for_reference, for_element}
use Rattle.documents.specs.declared.nodes.Node.{Node}
use Rattle.documents.specs.declared.nodes.Node.TheVariants as node
use Rattle.schema.specs.Rules.{Bounded, Determined, OffersChannel, OffersElement, ◌⊑◌, Relation, Payloads, Fits}
use Rattle.schema.specs.Rules.Fits.{fits_void, fits_reference, fits_element}
use Rattle.schema.proofs.Inclusion.{Apart, apart_by_void, apart_by_channel, apart_by_label, apart_by_inside, apart_by_following}
use Rattle.schema.proofs.Kept.{small}
use Rattle.schema.proofs.Offered.{label_below}
use Rattle.schema.proofs.Order.{confined_agrees, reflexive}
use Rattle.showing.specs.Drafts.{noted, pair_place, Lights, Tells, Drafts}
use Rattle.showing.specs.Drafts.Lights.{by_void, by_channel, by_element}
use Rattle.showing.specs.Drafts.Tells.{without_void, lacks_channel, lacks_label, differs_inside, differs_following}
use Rattle.showing.specs.Drafts.Drafts.{of_row, of_pair}
use Rattle.showing.specs.Drawing.{Asked, Suits, Noted}
use Rattle.showing.proofs.Places.{one_pair}
use Rattle.showing.proofs.Tables.{stands_below, stands_more, last_is}

module _ (rows : List Row) (bounded : Bounded rows) (determined : Determined rows) (leaned below : Relation) (asked : Asked rows leaned below) (table : List Node) (numbers : List (Option ℕ)) (noting : Noted rows below table numbers) where
  abbrev n : ℕ
  n = length rows

  -- the node would be sound at the end of the table, and would stand for a document with that property
  abbrev Makes : Node → (Document → Type 0) → Type 0
  Makes v P = SoundWith (IsChannel rows) (length table) v × ((d : Document) × StandsFor (table ++ (v ∷ [])) (length table) d × P d)

  row_noted : (i a : ℕ) → i < n → noted numbers i ≡ Some a → (d : Document) × StandsFor table a d × Fits rows d i
  row_noted i a low e = let (d, stands, suits) = noting.each i a e in (d, stands, suits.row low)

  pair_noted : (p q a : ℕ) → p < n → q < n → noted numbers (pair_place n p q) ≡ Some a → (d : Document) × StandsFor table a d × Apart rows d p q
  pair_noted p q a low low' e =
      let (d, stands, suits) = noting.each (pair_place n p q) a e in
      let (_, f, nf) = suits.pair p q low low' refl in
      (d, stands, (f, nf))

  made_void : (P : Document → Type 0) → P void → Makes node.Void P
  made_void P h = (tt, (void, for_void (last_is table node.Void), h))

  made_reference : (P : Document → Type 0) (c : ℕ) → IsChannel rows c → P (reference c) → Makes (node.Reference c) P
  made_reference P c is h = (is, (reference c, for_reference (last_is table (node.Reference c)), h))

  made_element : (P : Document → Type 0) {p l i m : ℕ} (x a b : ℕ) {d e : Document} → OffersElement rows p l i m → belongs x l ≡ true → StandsFor table a d → StandsFor table b e → P (element x d e) → Makes (node.Element x a b) P
  made_element P {l} x a b {d} {e} of there one two h =
      let v = node.Element x a b in
      ((label_below x l (small rows bounded of) there, stands_below one, stands_below two), (element x d e, for_element (last_is table v) (stands_more table v one) (stands_more table v two), h))

  parts_below : {p l i m : ℕ} → OffersElement rows p l i m → (i < n) × (m < n)
  parts_below e = (bounded.inside e.number e.is).0

  lit : (r : ℕ) (v : Node) → Lights rows numbers r v → Makes v (λ d. Fits rows d r)
  lit r v (by_void h) = made_void (λ d. Fits rows d r) (fits_void h)
  lit r v (by_channel {c} (offers, is)) = made_reference (λ d. Fits rows d r) c is (fits_reference offers is.2 (reflexive rows determined c))
  lit r v (by_element {i} {m} {x} {a} {b} e there ea eb) =
      let (i<, m<) = parts_below e in
      let (d, one, f) = row_noted i a i< ea in
      let (d', two, f') = row_noted m b m< eb in
      made_element (λ d. Fits rows d r) x a b e there one two (fits_element e.offered e.is there f f')

  told : (p q : ℕ) (v : Node) → leaned p q ≡ true → Tells rows below numbers p q v → Makes v (λ d. Apart rows d p q)
  told p q v l (without_void h none) = made_void (λ d. Apart rows d p q) (apart_by_void rows h none)
  told p q v l (lacks_channel {c} (offers, of) none) =
      let (k, s, is) = of in
      let d : OffersChannel rows p k s = record { number = c; offered = offers; is = is } in
      made_reference (λ d. Apart rows d p q) c of (apart_by_channel rows bounded determined below d
      (λ a b names. (confined_agrees rows leaned below asked.confined asked.largest a b (asked.confined p q a b l names)).1)
      (λ k' t e o pay. none (λ k₁ s₁ is₁. let ek : k ≡ k₁ = cc in let es : s ≡ s₁ = cc in (k', t, e, subst (λ x. x ⊑ k') ek o, subst (λ x. Payloads below k' x t) es pay))))
  told p q v l (lacks_label {i} {m} {x} {a} {b} e there none ea eb) =
      let (i<, m<) = parts_below e in
      let (d, one, f) = row_noted i a i< ea in
      let (d', two, f') = row_noted m b m< eb in
      made_element (λ d. Apart rows d p q) x a b e there one two (apart_by_label rows e x there (λ l' i' m' e' there'. none (l', i', m', e', there')) f f')
  told p q v l (differs_inside {i} {m} {i'} {x} {a} {b} e e' there there' ea eb) =
      let (i<, m<) = parts_below e in
      let (d, one, apart) = pair_noted i i' a i< (parts_below e').0 ea in
      let (d', two, f') = row_noted m b m< eb in
      made_element (λ d. Apart rows d p q) x a b e there one two (apart_by_inside rows bounded determined e e' x there there' apart f')
  told p q v l (differs_following {i} {m} {m'} {x} {a} {b} e e' there there' ea eb) =
      let (i<, m<) = parts_below e in
      let (d, one, f) = row_noted i a i< ea in
      let (d', two, apart) = pair_noted m m' b m< (parts_below e').1 eb in
      made_element (λ d. Apart rows d p q) x a b e there one two (apart_by_following rows bounded determined e e' x there there' f apart)

  pub drafted_suits : (k : ℕ) (v : Node) → Drafts rows leaned below numbers k v → Makes v (Suits rows below k)
  drafted_suits k v (of_row low lights) =
      let (sound, more) = lit k v lights in
      let (d, stands, f) = more in
      (sound, (d, stands, record { row = λ _. f; pair = λ p q a b is. absurd (omega arith) }))
  drafted_suits k v (of_pair {p} {q} p< q< l nb tells) =
      let (sound, more) = told p q v l tells in
      let (d, stands, apart) = more in (
        sound,
        (
          d,
          stands,
          record {
            row = λ low. absurd (omega arith);
            pair = λ a b a< b< is. let (ep, eq) = one_pair n p q a b q< b< is in subst₂ (λ x y. (below x y ≡ true → ⊥) × Fits rows d x × (Fits rows d y → ⊥)) ep eq (nb, apart.0, apart.1);
          },
        ),
      )
