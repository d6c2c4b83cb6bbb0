-- Documents by the nodes that stand for them, and their texts by parts. Assumes nothing.
use Rattle.std.proofs.Common.{◌≡◌, ℕ, ◌-◌, ◌<◌, ◌≤◌, leb, List, [], ◌∷◌, ◌++◌, length, get_or, Some, None, Option, MatchOption, decimal, sym, refl, ap, ◌∙◌, subst, ⊎_elim, arith}
use Rattle.std.specs.List.{slice_get}
use Rattle.std.proofs.lemmas.Option.{slice_get-get_or}
use Rattle.std.proofs.lemmas.Bool.{cases_lt, cond-true, cond-false, le-leb, lt-leb}
use Rattle.forms.specs.Limits.{label_count}
use Rattle.forms.specs.Documents.{Document}
use Rattle.forms.specs.Documents.Document.{void, reference, element}
use Rattle.forms.specs.Places.{Lowest}
use Rattle.forms.specs.Splices.{Wrote}
use Rattle.forms.proofs.Splices.{wrote_both}
use Rattle.documents.specs.declared.nodes.Node.{Node}
use Rattle.documents.specs.declared.nodes.Node.TheVariants.{Void, Reference, Element}
use Rattle.documents.specs.declared.writer.Shape.TheVariants.{Branch, Address}
use Rattle.documents.specs.Grammar.{comma_before, spelled_document}
use Rattle.documents.specs.Nodes.{Sound, StandsFor}
use Rattle.documents.specs.Nodes.StandsFor.{for_void, for_reference, for_element}
use Rattle.documents.specs.Spelling.{rest, Shaped}
use Rattle.forms.proofs.Findings.{Fault, never, nth_below}

-- NODES
pub of_void : {nodes : List Node} {k : ℕ} {x : Document} → slice_get nodes k ≡ Some Void → StandsFor nodes k x → x ≡ void
of_void e (for_void h) = refl
of_void e (for_reference h) = never (cc)
of_void e (for_element h p q) = never (cc)

pub of_reference : {nodes : List Node} {k c : ℕ} {x : Document} → slice_get nodes k ≡ Some (Reference c) → StandsFor nodes k x → x ≡ reference c
of_reference e (for_void h) = never (cc)
of_reference {c} e (for_reference {c = c'} h) = let same : c' ≡ c = cc in ap reference same
of_reference e (for_element h p q) = never (cc)

pub of_element : {nodes : List Node} {k l i f : ℕ} {x : Document} → slice_get nodes k ≡ Some (Element l i f) → StandsFor nodes k x → (a b : Document) × (x ≡ element l a b) × StandsFor nodes i a × StandsFor nodes f b
of_element e (for_void h) = never (cc)
of_element e (for_reference h) = never (cc)
of_element {nodes} {l} {i} {f} e (for_element {x = x'} {i = i'} {f = f'} {a} {b} h p q) =
    let el : x' ≡ l = cc in
    let ei : i' ≡ i = cc in
    let ef : f' ≡ f = cc in
    (a, b, ap (λ z. element z a b) el, subst (λ z. StandsFor nodes z a) ei p, subst (λ z. StandsFor nodes z b) ef q)

module _ (nodes : List Node) (k : ℕ) (sound : Sound nodes) (lt : k < length nodes) where
  -- the node that the code has read
  pub is_node : (m : Node) → get_or nodes k Void ≡ m → slice_get nodes k ≡ Some m
  is_node m e = slice_get-get_or nodes k Void lt ∙ ap Some e

  pub look_void : get_or nodes k Void ≡ Void → (x : Document) → StandsFor nodes k x → x ≡ void
  look_void e x h = of_void (is_node Void e) h

  pub look_address : (c : ℕ) → get_or nodes k Void ≡ Reference c → Shaped nodes k (Address c)
  look_address c e = let n = is_node (Reference c) e in (sound.each k n, λ x h. of_reference n h)

  module _ (l i f : ℕ) (e : get_or nodes k Void ≡ Element l i f) where
    parts : (l < label_count) × (i < k) × (f < k)
    parts = sound.each k (is_node (Element l i f) e)

    pub following_within : f < length nodes
    following_within = omega (arith, parts.2)

    pub look_single : get_or nodes f Void ≡ Void → Shaped nodes k (Branch l i None)
    look_single v = (
      parts.0,
      parts.1,
      λ x h.
          let (a, b, is, p, q) = of_element (is_node (Element l i f) e) h in
          (a, is ∙ ap (element l a) (of_void (slice_get-get_or nodes f Void following_within ∙ ap Some v) q), p),
    )

    followed : ((b : Document) → StandsFor nodes f b → comma_before b ≡ 44 ∷ []) → Shaped nodes k (Branch l i (Some f))
    followed some = (parts.0, parts.1, parts.2, λ x h. let (a, b, is, p, q) = of_element (is_node (Element l i f) e) h in (a, b, is, some b q, p, q))

    pub look_then_address : (c : ℕ) → get_or nodes f Void ≡ Reference c → Shaped nodes k (Branch l i (Some f))
    look_then_address c v = followed (λ b q. ap comma_before (of_reference (slice_get-get_or nodes f Void following_within ∙ ap Some v) q))

    pub look_then_element : (m p q : ℕ) → get_or nodes f Void ≡ Element m p q → Shaped nodes k (Branch l i (Some f))
    look_then_element m p q v = followed (λ b h. ap comma_before (of_element (slice_get-get_or nodes f Void following_within ∙ ap Some v) h).2)

-- which node is the lowest that is not sound, in whatever sense: none where all are, from what is found of them by their numbers
module _ (P : ℕ → Node → Type 0) (nodes : List Node) where
  abbrev Here : ℕ → Type 0
  Here k = P k (get_or nodes k Void)

  here_is : (k : ℕ) {m : Node} → slice_get nodes k ≡ Some m → Here k → P k m
  here_is k {m} e here = let same : get_or nodes k Void ≡ m = cc (slice_get-get_or nodes k Void (nth_below nodes k e)) in subst (P k) same here

  pub sound_or_lowest : (All : Type 0) → (((k : ℕ) (m : Node) → slice_get nodes k ≡ Some m → P k m) → All) → (r : Option ℕ)
      → MatchOption r ((k : ℕ) → 0 ≤ k → k < length nodes → Here k) (λ i. (0 ≤ i) × (i < length nodes) × (Here i → ⊥) × ((k : ℕ) → 0 ≤ k → k < i → Here k))
      → MatchOption r All (λ k. Lowest (Fault nodes P) k)
  sound_or_lowest All all None sound = all (λ k m e. here_is k e (sound k (omega arith) (nth_below nodes k e)))
  sound_or_lowest All all (Some i) (_, lt, none, before) = (
    (get_or nodes i Void, slice_get-get_or nodes i Void lt, none),
    λ j h (m, e, ns). ns (here_is j e (before j (omega arith) h)),
  )

-- THE ROOM THAT IS LEFT
rest_some : (room n : ℕ) → n ≤ room → rest room n ≡ Some (room - n)
rest_some room n h = cond-true (leb n room) (Some (room - n)) None (le-leb n room h)

rest_none : (room n : ℕ) → room < n → rest room n ≡ None
rest_none room n h = cond-false (leb n room) (Some (room - n)) None (lt-leb n room h)

pub room_for : (room n left : ℕ) → Some left ≡ rest room n → (n ≤ room) × (left ≡ room - n)
room_for room n left e = ⊎_elim
    (λ lt. let w : Some left ≡ None = e ∙ rest_none room n lt in never (cc))
    (λ le. (le, let w : Some left ≡ Some (room - n) = e ∙ rest_some room n le in cc))
    (cases_lt room n)

pub no_room : (room n : ℕ) → None ≡ rest room n → room < n
no_room room n e = ⊎_elim (λ lt. lt) (λ le. let w : None ≡ Some (room - n) = e ∙ rest_some room n le in never (cc)) (cases_lt room n)

-- WRITING, part by part
module _ (l : ℕ) (a : Document) (o o₁ o₂ o₃ o₄ : List ℕ) (p p₁ p₂ p₃ p₄ : ℕ)
    (label : Wrote o o₁ p (decimal l) p₁) (opens : Wrote o₁ o₂ p₁ (91 ∷ []) p₂) (inside : Wrote o₂ o₃ p₂ (spelled_document a) p₃) (shuts : Wrote o₃ o₄ p₃ (93 ∷ []) p₄) where
  pub wrote_single : (x : Document) → x ≡ element l a void → Wrote o o₄ p (spelled_document x) p₄
  wrote_single x is = subst (λ d. Wrote o o₄ p (spelled_document d) p₄) (sym is)
      (wrote_both o o₁ o₄ p p₁ p₄ (decimal l) (91 ∷ (spelled_document a ++ (93 ∷ []))) label
      (wrote_both o₁ o₂ o₄ p₁ p₂ p₄ (91 ∷ []) (spelled_document a ++ (93 ∷ [])) opens
      (wrote_both o₂ o₃ o₄ p₂ p₃ p₄ (spelled_document a) (93 ∷ []) inside shuts)))

  pub wrote_chain : (x b : Document) (o₅ o₆ : List ℕ) (p₅ p₆ : ℕ) → x ≡ element l a b → comma_before b ≡ 44 ∷ [] → Wrote o₄ o₅ p₄ (44 ∷ []) p₅ → Wrote o₅ o₆ p₅ (spelled_document b) p₆ → Wrote o o₆ p (spelled_document x) p₆
  wrote_chain x b o₅ o₆ p₅ p₆ is ec comma follows =
      let rest-bytes = 93 ∷ (44 ∷ spelled_document b) in
      subst (λ d. Wrote o o₆ p (spelled_document d) p₆) (sym is)
      (subst (λ s. Wrote o o₆ p (decimal l ++ (91 ∷ (spelled_document a ++ (93 ∷ (s ++ spelled_document b))))) p₆) (sym ec)
      (wrote_both o o₁ o₆ p p₁ p₆ (decimal l) (91 ∷ (spelled_document a ++ rest-bytes)) label
      (wrote_both o₁ o₂ o₆ p₁ p₂ p₆ (91 ∷ []) (spelled_document a ++ rest-bytes) opens
      (wrote_both o₂ o₃ o₆ p₂ p₃ p₆ (spelled_document a) rest-bytes inside
      (wrote_both o₃ o₄ o₆ p₃ p₄ p₆ (93 ∷ []) (44 ∷ spelled_document b) shuts
      (wrote_both o₄ o₅ o₆ p₄ p₅ p₆ (44 ∷ []) (spelled_document b) comma follows))))))
