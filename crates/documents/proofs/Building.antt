-- Numbers, elements and lists of a right text, as the reader meets them. Assumes nothing.
use Rattle.std.proofs.Common.{◌≡◌, ℕ, ◌+◌, ◌*◌, ◌%◌, ◌<◌, ◌≤◌, ◌⊎◌, List, [], ◌∷◌, ◌++◌, length, get_or, take, drop, set, decimal, sym, refl, ap, ◌∙◌, subst, inl, inr, ⊎_elim, zero-add, arith, length-append}
use Rattle.std.proofs.Math.Seq.{take-length}
use Rattle.std.proofs.lemmas.List.{append_assoc, append-nil}
use Rattle.forms.specs.Limits.{max_rows}
use Rattle.forms.specs.Documents.{Document}
use Rattle.forms.specs.Documents.Document.{void, reference, element}
use Rattle.forms.specs.Splices.{spliced}
use Rattle.forms.proofs.Splices.{splice_none, splice_one, splice_both, length_splice}
use Rattle.documents.specs.declared.nodes.Node.{Node}
use Rattle.documents.specs.declared.nodes.Node.TheVariants.{Void, Reference, Element}
use Rattle.documents.specs.declared.reader.Reached.{Reached}
use Rattle.documents.specs.Grammar.{comma_before, spelled_document, Small}
use Rattle.documents.specs.Nodes.{size, root, nodes_from, nodes_for}
use Rattle.documents.specs.Built.{NoDigit, Built, ReadsNumber, BuildsList, BuildsItem, BuildsText}
use Rattle.std.proofs.Common.{◌-◌}
use Rattle.forms.proofs.Findings.{never}
use Rattle.documents.proofs.Tables.{length_nodes}
use Rattle.documents.proofs.Texts.{decimal_first, not_comma, closing_no_digit, element_bytes}
use Rattle.forms.proofs.Decimals.{Figures, figures}
use Rattle.forms.proofs.Decimals.Figures.{one, two}

-- a text that is not empty is its first byte and the rest
abbrev pub rest_of : List ℕ → List ℕ
rest_of t = take (length t - 1) (drop 1 t)

pub split : (t : List ℕ) → 1 ≤ length t → t ≡ get_or t 0 0 ∷ rest_of t
split [] h = absurd (omega arith)
split (b ∷ s) h = let same : length (b ∷ s) - 1 ≡ length s = omega arith in ap (λ u. b ∷ u) (sym (ap (λ k. take k s) same ∙ take-length s))

-- two texts that are equal have equal first bytes and equal rests
parts : {b c : ℕ} {s u : List ℕ} → b ∷ s ≡ c ∷ u → (b ≡ c) × (s ≡ u)
parts e = (cc, cc)

-- a number that a text begins with, by its digits
pub number_none : (t : List ℕ) → ((b : ℕ) (s : List ℕ) → t ≡ b ∷ s → (d : ℕ) → d < 10 → b ≡ 48 + d → ⊥) → (m : ℕ) (rest : List ℕ) → ReadsNumber t m rest
number_none t none m rest n tail h e plain = let (d, u, small, is) = decimal_first n h in absurd (none (48 + d) (u ++ tail) (e ∙ ap (λ x. x ++ tail) is) d small refl)

pub number_one : (s : List ℕ) (b d : ℕ) → b ≡ 48 + d → ((c : ℕ) (u : List ℕ) → s ≡ c ∷ u → (e : ℕ) → e < 10 → c ≡ 48 + e → ⊥) → ReadsNumber (b ∷ s) d s
number_one s b d is none n tail h e plain = go (figures n h) e
  where
    go : {f : List ℕ} → Figures n f → b ∷ s ≡ f ++ tail → (d ≡ n) × (s ≡ tail)
    go (one l) e = let (first, rest) = parts e in (omega arith, rest)
    go (two l g) e = let (first, rest) = parts e in absurd (none _ _ rest (n % 10) (omega arith) refl)

pub number_two : (s : List ℕ) (b c d e : ℕ) → b ≡ 48 + d → c ≡ 48 + e → e < 10 → ReadsNumber (b ∷ c ∷ s) (d * 10 + e) s
number_two s b c d e is is' small n tail h spelled plain = go (figures n h) spelled
  where
    go : {f : List ℕ} → Figures n f → b ∷ c ∷ s ≡ f ++ tail → (d * 10 + e ≡ n) × (s ≡ tail)
    go (one l) q = let (first, rest) = parts q in absurd (digit_next tail (sym rest) plain)
      where
        digit_next : (tail : List ℕ) → tail ≡ c ∷ s → NoDigit tail → ⊥
        digit_next [] q plain = never (cc)
        digit_next (x ∷ tail) q plain = let (first, _) = parts q in omega arith
    go (two l g) q = let (first, rest) = parts q in let (second, last) = parts rest in (omega arith, last)

-- what comes first in the text of a document that is not void
first_byte : (d : Document) → Small d → comma_before d ≡ 44 ∷ [] → (s : List ℕ) → (b : ℕ) × (rest : List ℕ) × (spelled_document d ++ s ≡ b ∷ rest) × (b < 91)
first_byte void h e s = never (cc)
first_byte (reference n) h e s = (64, decimal n ++ s, refl, omega arith)
first_byte (element x a b) h e s =
    let (d, u, small, is) = decimal_first x h.0 in
    let rest = 91 ∷ (spelled_document a ++ (93 ∷ (comma_before b ++ (spelled_document b ++ s)))) in
    (48 + d, u ++ rest, element_bytes x a b s ∙ ap (λ t. t ++ rest) is, omega arith)

-- an element's text begins with a digit
label_first : (x : ℕ) (b : ℕ) (s u : List ℕ) → x < max_rows → b ∷ s ≡ decimal x ++ u → b ≡ 64 → ⊥
label_first x b s u h e is = let (d, v, small, f) = decimal_first x h in let (first, _) = parts (e ∙ ap (λ t. t ++ u) f) in omega arith

comma_or_void : (d : Document) → (d ≡ void) ⊎ (comma_before d ≡ 44 ∷ [])
comma_or_void void = inl refl
comma_or_void (reference n) = inr refl
comma_or_void (element x a b) = inr refl

-- THE LIST FUNCTION
pub list_past : (t : List ℕ) (before after : List Node) (used : ℕ) (r : Reached) → length t ≡ 0 → BuildsList t before after used r
list_past t before after used r none d tail h nonvoid e closing some room = let (b, rest, is, _) = first_byte d h nonvoid tail in absurd (omega (arith, none, ap length (e ∙ is)))

pub list_reference : (t s : List ℕ) (before after : List Node) (used row : ℕ) (end : List ℕ) (r : Reached) → t ≡ 64 ∷ s → ReadsNumber s row end → after ≡ set before used (Reference row)
    → r.rest.now ≡ end → r.used ≡ used + 1 → r.root ≡ used → BuildsList t before after used r
list_reference t s before after used row end r is reads wrote pe ue re void tail h nonvoid e closing some room = never (cc)
list_reference t s before after used row end r is reads wrote pe ue re (reference n) tail h nonvoid e closing some room =
    let (_, c) = parts (sym is ∙ e) in
    let (row_is, end_is) = reads n tail h c (closing_no_digit tail closing) in
    record {
      rest = pe ∙ end_is;
      count = ue;
      top = re;
      nodes = wrote ∙ splice_one before used (Reference row) (omega arith) ∙ ap (λ m. spliced before used (Reference m ∷ [])) row_is;
    }
list_reference t s before after used row end r is reads wrote pe ue re (element x a c) tail h nonvoid e closing some room =
    absurd (label_first x 64 s _ h.0 (sym is ∙ e ∙ element_bytes x a c tail) refl)

same_element : (l x i i' f f' : ℕ) → l ≡ x → i ≡ i' → f ≡ f' → Element l i f ≡ Element x i' f'
same_element l x i i' f f' p q r = cc

-- the node of an element closes what lies inside it and what follows it
closed : (x : ℕ) (a b : Document) (before m₁ m₂ after : List Node) (used label : ℕ) (end₁ end₂ : List ℕ) (i y r : Reached) → used + size (element x a b) ≤ length before
    → Built a before m₁ used end₁ i → Built b m₁ m₂ i.used end₂ y → label ≡ x → after ≡ set m₂ y.used (Element label i.root y.root)
    → (r.rest.now ≡ y.rest.now) × (r.used ≡ y.used + 1) × (r.root ≡ y.used) → Built (element x a b) before after used end₂ r
closed x a b before m₁ m₂ after used label end₁ end₂ i y r room inner outer el wrote (pe, ue, re) =
    let n = used + size a in
    let na = nodes_from used a in
    let nb = nodes_from n b in
    let own = Element x (root used a) (root n b) in
    let la : length na ≡ size a = length_nodes a used in
    let lb : length nb ≡ size b = length_nodes b n in
    let outer' : Built b m₁ m₂ n end₂ y = subst (λ k. Built b m₁ m₂ k end₂ y) inner.count outer in
    let fits : used + length na ≤ length before = omega arith in
    let both : m₂ ≡ spliced before used (na ++ nb) = outer'.nodes ∙ ap (λ m. spliced m n nb) inner.nodes ∙ splice_both before used na fits nb n (omega arith) in
    let l2 : length (na ++ nb) ≡ size a + size b = omega (arith, length-append na nb) in
    let fits₂ : used + length (na ++ nb) ≤ length before = omega arith in
    let long : length m₂ ≡ length before = ap length both ∙ length_splice before used (na ++ nb) fits₂ in
    let here : y.used < length m₂ = omega (arith, outer'.count) in
    let same = same_element label x i.root (root used a) y.root (root n b) el inner.top outer'.top in
    record {
      rest = pe ∙ outer'.rest;
      count = omega (arith, outer'.count);
      top = omega (arith, outer'.count);
      nodes = wrote ∙ splice_one m₂ y.used (Element label i.root y.root) here ∙ ap (λ m. spliced m₂ y.used (m ∷ [])) same ∙ ap (λ m. spliced m y.used (own ∷ [])) both
          ∙ splice_both before used (na ++ nb) fits₂ (own ∷ []) y.used (omega (arith, outer'.count)) ∙ ap (λ s. spliced before used s) (append_assoc na nb (own ∷ []));
    }

built_none : (m : List Node) (used : ℕ) (i y : Reached) → (y.rest.now ≡ i.rest.now) × (y.used ≡ i.used) × (y.root ≡ 0) → i.used ≡ used → Built void m m used i.rest.now y
built_none m used i y (py, uy, ry) ue = record { rest = py; count = omega arith; top = ry; nodes = sym (splice_none m used) }

module _ (t : List ℕ) (used label : ℕ) (before m₁ m₂ after : List Node) (i y r : Reached) (not_at : (s : List ℕ) → t ≡ 64 ∷ s → ⊥) (inner : BuildsItem t before m₁ used label i)
    (wrote : after ≡ set m₂ y.used (Element label i.root y.root)) (reached : (r.rest.now ≡ y.rest.now) × (r.used ≡ y.used + 1) × (r.root ≡ y.used)) where
  pub list_more : (more : List ℕ) → i.rest.now ≡ 44 ∷ more → BuildsList more m₁ m₂ i.used y → BuildsList t before after used r
  list_more more comma outer void tail h nonvoid e closing some room = never (cc)
  list_more more comma outer (reference n) tail h nonvoid e closing some room = absurd (not_at _ e)
  list_more more comma outer (element x a c) tail h nonvoid e closing some room =
      let rest = comma_before c ++ (spelled_document c ++ tail) in
      let (el, built) = inner x a rest h.0 h.1 (e ∙ element_bytes x a c tail) some (omega arith) in
      ⊎_elim
      (λ ev. absurd (not_comma tail more closing (sym (built.rest ∙ ap (λ d. comma_before d ++ (spelled_document d ++ tail)) ev) ∙ comma)))
      (λ ec.
      let (_, next) = parts (sym comma ∙ built.rest ∙ ap (λ u. u ++ (spelled_document c ++ tail)) ec) in
      let la = length_nodes a used in
      let fits : used + length (nodes_from used a) ≤ length before = omega arith in
      let long : length m₁ ≡ length before = ap length built.nodes ∙ length_splice before used (nodes_from used a) fits in
      let outer-built = outer c tail h.2 ec next closing (omega (arith, built.count)) (omega (arith, built.count)) in
      closed x a c before m₁ m₂ after used label _ _ i y r room built outer-built el wrote reached)
      (comma_or_void c)

  pub list_last : ((more : List ℕ) → i.rest.now ≡ 44 ∷ more → ⊥) → m₂ ≡ m₁ → (y.rest.now ≡ i.rest.now) × (y.used ≡ i.used) × (y.root ≡ 0) → BuildsList t before after used r
  list_last none same at_end void tail h nonvoid e closing some room = never (cc)
  list_last none same at_end (reference n) tail h nonvoid e closing some room = absurd (not_at _ e)
  list_last none same at_end (element x a c) tail h nonvoid e closing some room =
      let rest = comma_before c ++ (spelled_document c ++ tail) in
      let (el, built) = inner x a rest h.0 h.1 (e ∙ element_bytes x a c tail) some (omega arith) in
      ⊎_elim
      (λ ev.
      let ends : i.rest.now ≡ tail = built.rest ∙ ap (λ d. comma_before d ++ (spelled_document d ++ tail)) ev in
      let empty : Built c m₁ m₂ i.used tail y = subst (λ u. Built c m₁ m₂ i.used u y) ends (subst (λ d. Built d m₁ m₂ i.used i.rest.now y) (sym ev) (subst (λ m. Built void m₁ m i.used i.rest.now y) (sym same) (built_none m₁ i.used i y at_end refl))) in
      closed x a c before m₁ m₂ after used label _ _ i y r room built empty el wrote reached)
      (λ ec. absurd (none (spelled_document c ++ tail) (built.rest ∙ ap (λ u. u ++ (spelled_document c ++ tail)) ec)))
      (comma_or_void c)

-- THE ITEM FUNCTION
module _ (t : List ℕ) (label : ℕ) (end : List ℕ) (reads : ReadsNumber t label end) where
  -- after the label and the opening bracket
  opened : (x : ℕ) (rest : List ℕ) → x < max_rows → t ≡ decimal x ++ (91 ∷ rest) → (label ≡ x) × (drop 1 end ≡ rest)
  opened x rest h e = let (el, ee) = reads x (91 ∷ rest) h e (omega arith) in (el, ap (drop 1) ee)

  pub item_hollow : (before : List Node) (used : ℕ) (shut : List ℕ) (r : Reached) → drop 1 end ≡ 93 ∷ shut → (r.rest.now ≡ shut) × (r.used ≡ used) × (r.root ≡ 0) → BuildsItem t before before used label r
  item_hollow before used shut r shuts (pe, ue, re) x a tail h small e some room =
      let (el, c) = opened x (spelled_document a ++ (93 ∷ tail)) h e in
      ⊎_elim
      (λ ev.
      let (_, last) = parts (sym shuts ∙ c ∙ ap (λ d. spelled_document d ++ (93 ∷ tail)) ev) in (
        el,
        subst (λ d. Built d before before used tail r) (sym ev) (record { rest = pe ∙ last; count = omega arith; top = re; nodes = sym (splice_none before used) }),
      ))
      (λ ec. let (b, rest, is, lt) = first_byte a small ec (93 ∷ tail) in let (first, _) = parts (sym shuts ∙ c ∙ is) in absurd (omega arith))
      (comma_or_void a)

  pub item_filled : (before after : List Node) (used : ℕ) (i r : Reached) → ((shut : List ℕ) → drop 1 end ≡ 93 ∷ shut → ⊥) → BuildsList (drop 1 end) before after used i
      → (r.rest.now ≡ drop 1 i.rest.now) × (r.used ≡ i.used) × (r.root ≡ i.root) → BuildsItem t before after used label r
  item_filled before after used i r filled inner (pe, ue, re) x a tail h small e some room =
      let (el, c) = opened x (spelled_document a ++ (93 ∷ tail)) h e in
      ⊎_elim
      (λ ev. absurd (filled tail (c ∙ ap (λ d. spelled_document d ++ (93 ∷ tail)) ev)))
      (λ ec.
      let built = inner a (93 ∷ tail) small ec c refl some room in
      (el, record { rest = pe ∙ ap (drop 1) built.rest; count = ue ∙ built.count; top = re ∙ built.top; nodes = built.nodes }))
      (comma_or_void a)

-- THE WHOLE TEXT
at_front : (o : List Node) (s : List Node) → spliced o 0 s ≡ s ++ drop (length s) o
at_front o s = ap (λ k. s ++ drop k o) (zero-add (length s))

-- the void node, and then the others
whole : (before m after : List Node) (d : Document) → m ≡ set before 0 Void → length (nodes_for d) ≤ length before → after ≡ spliced m 1 (nodes_from 1 d) → after ≡ nodes_for d ++ drop (length (nodes_for d)) before
whole before m after d first fits e =
    let some : 0 < length before = omega arith in
    e ∙ ap (λ x. spliced x 1 (nodes_from 1 d)) (first ∙ splice_one before 0 Void some) ∙ splice_both before 0 (Void ∷ []) (omega arith) (nodes_from 1 d) 1 (omega arith) ∙ at_front before (nodes_for d)

pub build_some : (text : List ℕ) (before m after : List Node) (r : Reached) → 0 < length text → m ≡ set before 0 Void → length m ≡ length before → BuildsList text m after 1 r → BuildsText text before after
build_some text before m after r some first long builds d h e fits = ⊎_elim
    (λ ev. absurd (omega (arith, ap length e, ap (λ x. length (spelled_document x)) ev)))
    (λ ec. whole before m after d first fits (builds d [] h ec (e ∙ sym (append-nil (spelled_document d))) tt (omega arith) (omega (arith, length_nodes d 1))).nodes)
    (comma_or_void d)

pub build_none : (text : List ℕ) (before m : List Node) → length text ≤ 0 → m ≡ set before 0 Void → BuildsText text before m
build_none text before m none first d h e fits = ⊎_elim
    (λ ev. whole before m m d first fits (sym (ap (λ x. spliced m 1 (nodes_from 1 x)) ev ∙ splice_none m 1)))
    (λ ec. let (b, rest, is, _) = first_byte d h ec [] in absurd (omega (arith, ap length e, ap length (sym (append-nil (spelled_document d)) ∙ is))))
    (comma_or_void d)
