-- Writes one after another. Assumes nothing.
use Rattle.std.proofs.Common.{◌≡◌, ℕ, ◌+◌, ◌<◌, ◌≤◌, List, [], ◌∷◌, ◌++◌, length, take, drop, set, sym, ap, ◌∙◌, ap₂, add-one, arith, length-append, length-drop, length-take}
use Rattle.std.proofs.lemmas.List.{append_assoc, take-append-drop, take_at, drop_at, drop-drop, set_split}
use Rattle.forms.specs.Splices.{spliced, Wrote}

pub splice_none : {A : Type 0} (o : List A) (p : ℕ) → spliced o p [] ≡ o
splice_none o p = ap (λ k. take p o ++ drop k o) (omega arith) ∙ take-append-drop p o

pub splice_one : {A : Type 0} (o : List A) (p : ℕ) (x : A) → p < length o → set o p x ≡ spliced o p (x ∷ [])
splice_one o p x h = set_split o p x h ∙ ap (λ k. take p o ++ (x ∷ drop k o)) (sym (add-one p))

module _ {A : Type 0} (o : List A) (p : ℕ) (s : List A) (h : p + length s ≤ length o) where
  front : length (take p o ++ s) ≡ p + length s
  front = simp (length-append, length-take) (omega arith)

  grouped : spliced o p s ≡ (take p o ++ s) ++ drop (p + length s) o
  grouped = sym (append_assoc (take p o) s (drop (p + length s) o))

  pub take_splice : take (p + length s) (spliced o p s) ≡ take p o ++ s
  take_splice = ap (take (p + length s)) grouped ∙ take_at (take p o ++ s) (drop (p + length s) o) (p + length s) front

  pub drop_splice : (k : ℕ) → drop (p + length s + k) (spliced o p s) ≡ drop (p + length s + k) o
  drop_splice k =
      sym (drop-drop k (p + length s) (spliced o p s))
      ∙ ap (drop k) (ap (drop (p + length s)) grouped ∙ drop_at (take p o ++ s) (drop (p + length s) o) (p + length s) front)
      ∙ drop-drop k (p + length s) o

  pub splice_both : (t : List A) (q : ℕ) → q ≡ p + length s → spliced (spliced o p s) q t ≡ spliced o p (s ++ t)
  splice_both t q e =
      ap (λ k. take k (spliced o p s) ++ (t ++ drop (k + length t) (spliced o p s))) e
      ∙ ap₂ (λ u v. u ++ (t ++ v)) take_splice (drop_splice (length t))
      ∙ append_assoc (take p o) s (t ++ drop (p + length s + length t) o)
      ∙ ap (λ v. take p o ++ v) (sym (append_assoc s t (drop (p + length s + length t) o)))
      ∙ ap (λ k. take p o ++ ((s ++ t) ++ drop k o)) (omega (arith, length-append s t))

  pub length_splice : length (spliced o p s) ≡ length o
  length_splice = simp (length-append, length-take, length-drop) (omega arith)

pub wrote_none : {A : Type 0} (o : List A) (p : ℕ) → Wrote o o p [] p
wrote_none o p room = (omega arith, sym (splice_none o p))

pub wrote_both : {A : Type 0} (o m n : List A) (p q r : ℕ) (s t : List A) → Wrote o m p s q → Wrote m n q t r → Wrote o n p (s ++ t) r
wrote_both o m n p q r s t first second room =
    let l = length-append s t in
    let fits : p + length s ≤ length o = omega arith in
    let (eq, em) = first fits in
    let long : length m ≡ length o = ap length em ∙ length_splice o p s fits in
    let (er, en) = second (omega arith) in
    (omega arith, en ∙ ap (λ x. spliced x q t) em ∙ splice_both o p s fits t q eq)

-- what is written from the start on stands at the front, and the rest stays
pub wrote_front : {A : Type 0} (o n s : List A) (r : ℕ) → Wrote o n 0 s r → length s ≤ length o → (r ≡ length s) × (n ≡ s ++ drop r o)
wrote_front o n s r wrote fits = let (is, e) = wrote (omega arith) in (omega arith, e ∙ ap (λ k. s ++ drop k o) (sym is))
