-- The grammar has one text for each document, and one document for each text.
use Rattle.std.proofs.Common.{◌≡◌, ℕ, ◌+◌, ◌/◌, ◌%◌, ◌<◌, List, [], ◌∷◌, ◌++◌, decimal, sym, refl, ap, ◌∙◌, subst, arith}
use Rattle.std.proofs.lemmas.List.{append_assoc, append-nil}
use Rattle.forms.specs.Documents.{Document}
use Rattle.forms.specs.Limits.{max_rows, label_count}
use Rattle.documents.specs.Built.{NoDigit, Closing}
use Rattle.documents.specs.Grammar.{Text, Listed, Bracketed, comma_before, spelled_document, Small, TextsAreSpelled, TextsAreUnambiguous}
use Rattle.forms.specs.Documents.Document.{void, reference, element}
use Rattle.documents.specs.Grammar.Text.{empty, a_list}
use Rattle.documents.specs.Grammar.Listed.{a_reference, an_element, and_more}
use Rattle.documents.specs.Grammar.Bracketed.{brackets}
use Rattle.forms.proofs.Findings.{never}
use Rattle.forms.proofs.Decimals.{Figures, figures}
use Rattle.forms.proofs.Decimals.Figures.{one, two}

-- FROM THE GRAMMAR
-- an element without what follows it
abbrev bare : ℕ → Document → List ℕ
bare x a = decimal x ++ (91 ∷ (spelled_document a ++ (93 ∷ [])))

bare_followed : (x : ℕ) (a : Document) (s : List ℕ) → bare x a ++ s ≡ decimal x ++ (91 ∷ (spelled_document a ++ (93 ∷ s)))
bare_followed x a s = simp append_assoc

mutual
  text_spells : {s : List ℕ} {d : Document} → Text s d → Small d × (s ≡ spelled_document d)
  text_spells empty = (tt, refl)
  text_spells (a_list l) = let (h, _, e) = list_spells l in (h, e)

  list_spells : {s : List ℕ} {d : Document} → Listed s d → Small d × (comma_before d ≡ 44 ∷ []) × (s ≡ spelled_document d)
  list_spells (a_reference h) = (h, refl, refl)
  list_spells (an_element {x} {a} el) = let (h, g, e) = brackets_spell el in ((h, g, tt), refl, e)
  list_spells (and_more {x} {a} {b} el l) =
      let (h, g, e) = brackets_spell el in
      let (hb, c, eb) = list_spells l in
      ((h, g, hb), refl, rw (e, eb, c) (bare_followed x a (44 ∷ spelled_document b)))

  brackets_spell : {s : List ℕ} {x : ℕ} {a : Document} → Bracketed s x a → (x < label_count) × Small a × (s ≡ bare x a)
  brackets_spell (brackets {x} h t) = let (g, e) = text_spells t in (h, g, ap (λ s. decimal x ++ (91 ∷ (s ++ (93 ∷ [])))) e)

-- AND BACK
list_of : {s : List ℕ} {d : Document} → Text s d → comma_before d ≡ 44 ∷ [] → Listed s d
list_of empty e = never (cc)
list_of (a_list l) e = l

element_list : (x : ℕ) (a b : Document) → Bracketed (bare x a) x a → Text (spelled_document b) b → Listed (spelled_document (element x a b)) (element x a b)
element_list x a void el t = an_element el
element_list x a (reference n) el t = rw (← bare_followed x a (44 ∷ spelled_document (reference n))) (and_more el (list_of t refl))
element_list x a (element y c d) el t = rw (← bare_followed x a (44 ∷ spelled_document (element y c d))) (and_more el (list_of t refl))

spells_text : (d : Document) → Small d → Text (spelled_document d) d
spells_text void h = empty
spells_text (reference n) h = a_list (a_reference h)
spells_text (element x a b) h = a_list (element_list x a b (brackets h.0 (spells_text a h.1)) (spells_text b h.2))

pub texts_are_spelled : TextsAreSpelled
texts_are_spelled bytes d = (text_spells, λ (h, e). rw e (spells_text d h))

-- ONE DOCUMENT
figures_one : {m n : ℕ} {f g : List ℕ} → Figures m f → Figures n g → (s t : List ℕ) → NoDigit s → NoDigit t → f ++ s ≡ g ++ t → (m ≡ n) × (s ≡ t)
figures_one {m} {n} (one h) (one g) s t p q e = let e' : 48 + m ≡ 48 + n = cc in (omega arith, cc)
figures_one {m} {n} (one h) (two g k) s t p q e = let e' : s ≡ (48 + n % 10) ∷ t = cc in let l : NoDigit ((48 + n % 10) ∷ t) = rw e' at p in absurd (omega arith)
figures_one {m} {n} (two h k) (one g) s t p q e = let e' : t ≡ (48 + m % 10) ∷ s = cc in let l : NoDigit ((48 + m % 10) ∷ s) = rw e' at q in absurd (omega arith)
figures_one {m} {n} (two h k) (two g l) s t p q e = let e' : 48 + m / 10 ≡ 48 + n / 10 = cc in let e'' : 48 + m % 10 ≡ 48 + n % 10 = cc in (omega arith, cc)

-- a number begins with a digit
pub decimal_first : (n : ℕ) → n < max_rows → (d : ℕ) × (u : List ℕ) × (d < 10) × (decimal n ≡ (48 + d) ∷ u)
decimal_first n h = go (figures n h)
  where
    go : {f : List ℕ} → Figures n f → (d : ℕ) × (u : List ℕ) × (d < 10) × (f ≡ (48 + d) ∷ u)
    go (one l) = (n, [], l, refl)
    go (two l g) = (n / 10, (48 + n % 10) ∷ [], g, refl)

pub closing_no_digit : (s : List ℕ) → Closing s → NoDigit s
closing_no_digit [] c = tt
closing_no_digit (b ∷ s) c = omega arith

-- the bytes of an element with what follows it
pub element_bytes : (x : ℕ) (a b : Document) (s : List ℕ) → spelled_document (element x a b) ++ s ≡ decimal x ++ (91 ∷ (spelled_document a ++ (93 ∷ (comma_before b ++ (spelled_document b ++ s)))))
element_bytes x a b s = simp append_assoc

no_element : (x : ℕ) (a b : Document) (s t : List ℕ) → x < label_count → NoDigit t → spelled_document (element x a b) ++ s ≡ t → ⊥
no_element x a b s t h none e =
    let (d, u, small, is) = decimal_first x h in
    let rest = 91 ∷ (spelled_document a ++ (93 ∷ (comma_before b ++ (spelled_document b ++ s)))) in
    let first : NoDigit ((48 + d) ∷ (u ++ rest)) = subst NoDigit (sym e ∙ element_bytes x a b s ∙ ap (λ y. y ++ rest) is) none in
    omega arith

-- a list that ends is no comma
pub not_comma : (s r : List ℕ) → Closing s → s ≡ 44 ∷ r → ⊥
not_comma s r c e = let z : Closing (44 ∷ r) = rw e at c in omega arith

comma_one : (b c : Document) (s t : List ℕ) → Closing s → Closing t → comma_before b ++ (spelled_document b ++ s) ≡ comma_before c ++ (spelled_document c ++ t) → spelled_document b ++ s ≡ spelled_document c ++ t
comma_one void void s t p q e = e
comma_one void (reference n) s t p q e = absurd (not_comma s _ p e)
comma_one void (element y c d) s t p q e = absurd (not_comma s _ p e)
comma_one (reference m) void s t p q e = absurd (not_comma t _ q (sym e))
comma_one (reference m) (reference n) s t p q e = cc
comma_one (reference m) (element y c d) s t p q e = cc
comma_one (element x a b) void s t p q e = absurd (not_comma t _ q (sym e))
comma_one (element x a b) (reference n) s t p q e = cc
comma_one (element x a b) (element y c d) s t p q e = cc

spelled_one : (d e : Document) → Small d → Small e → (s t : List ℕ) → Closing s → Closing t → spelled_document d ++ s ≡ spelled_document e ++ t → (d ≡ e) × (s ≡ t)
spelled_one void void h g s t p q e = (refl, e)
spelled_one void (reference n) h g s t p q e = let z : Closing (64 ∷ (decimal n ++ t)) = rw e at p in absurd (omega arith)
spelled_one void (element y c d) h g s t p q e = absurd (no_element y c d t s g.0 (closing_no_digit s p) (sym e))
spelled_one (reference m) void h g s t p q e = let z : Closing (64 ∷ (decimal m ++ s)) = rw (← e) at q in absurd (omega arith)
spelled_one (reference m) (reference n) h g s t p q e = let (em, es) = figures_one (figures m h) (figures n g) s t (closing_no_digit s p) (closing_no_digit t q) (cc) in (cc, es)
spelled_one (reference m) (element y c d) h g s t p q e = absurd (no_element y c d t (64 ∷ (decimal m ++ s)) g.0 (omega arith) (sym e))
spelled_one (element x a b) void h g s t p q e = absurd (no_element x a b s t h.0 (closing_no_digit t q) e)
spelled_one (element x a b) (reference n) h g s t p q e = absurd (no_element x a b s (64 ∷ (decimal n ++ t)) h.0 (omega arith) e)
spelled_one (element x a b) (element y c d) h g s t p q e =
    let rest = comma_before b ++ (spelled_document b ++ s) in
    let rest' = comma_before d ++ (spelled_document d ++ t) in
    let (ex, e₁) = figures_one (figures x h.0) (figures y g.0) (91 ∷ (spelled_document a ++ (93 ∷ rest))) (91 ∷ (spelled_document c ++ (93 ∷ rest'))) (omega arith) (omega arith) (sym (element_bytes x a b s) ∙ (e ∙ element_bytes y c d t)) in
    let (ea, e₂) = spelled_one a c h.1 g.1 (93 ∷ rest) (93 ∷ rest') refl refl (cc) in
    let (eb, es) = spelled_one b d h.2 g.2 s t p q (comma_one b d s t p q (cc)) in
    (cc, es)

pub texts_are_unambiguous : TextsAreUnambiguous
texts_are_unambiguous bytes d e t u =
    let (h, p) = text_spells t in
    let (g, q) = text_spells u in
    (spelled_one d e h g [] [] tt tt (simp append-nil (sym p ∙ q))).0
