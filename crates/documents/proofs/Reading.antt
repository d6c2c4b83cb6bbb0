-- A text that is wrong is wrong at one place, and reading has one outcome.
use Rattle.std.proofs.Common.{◌≡◌, ℕ, zero, suc, ◌+◌, ◌<◌, ◌≤◌, min, true, false, ◌⊎◌, List, [], ◌++◌, length, get_or, take, drop, refl, ap, subst, inl, inr, ⊎_elim, arith}
use Rattle.std.proofs.lemmas.List.{append_assoc, append-nil, take-append-drop, take-take, take_all}
use Rattle.std.proofs.lemmas.Bool.{cases_eq, cases_lt, both_ways}
use Rattle.forms.specs.Documents.{Document}
use Rattle.documents.specs.Grammar.{Text, GoesOn, WrongAt, WrongAtOnePlace, level, OpensTooMany}
use Rattle.forms.specs.Documents.Document.{void}
use Rattle.documents.specs.Grammar.Text.{empty}
use Rattle.documents.specs.Grammar.WrongAt.{at_byte, at_end}
use Rattle.documents.specs.Scan.{is_whole}
use Rattle.documents.specs.Nodes.{nodes_for}
use Rattle.forms.specs.Places.{NoneBelow}
use Rattle.forms.specs.Refusals.{Outcome}
use Rattle.forms.specs.Refusals.Outcome.{refuses, gives}
use Rattle.documents.specs.declared.faults.ReadFault.TheVariants.{TooLong, Wrong, TooDeep, TooManyNodes}
use Rattle.documents.specs.Faults.{read_refusal}
use Rattle.documents.specs.Limits.{max_nodes, max_document, max_levels}
use Rattle.documents.specs.Reading.{Reads, ReadingIsOne}
use Rattle.documents.specs.Reading.Reads.{is_long, is_wrong, is_deep, is_large, is_read}
use Rattle.forms.proofs.Findings.{Decided, decided, both_or_not, below_or_not, least_below, lowest_one}
use Rattle.documents.proofs.Texts.{texts_are_unambiguous}
use Rattle.documents.proofs.Scanning.{scan, goes_on, scan_tells_texts, scan_tells_going_on}

goes_on_front : (u v : List ℕ) → GoesOn (u ++ v) → GoesOn u
goes_on_front u v (rest, d, t) = (v ++ rest, d, subst (λ s. Text s d) (append_assoc u v rest) t)

pub text_goes_on : (bytes : List ℕ) (d : Document) → Text bytes d → GoesOn bytes
text_goes_on bytes d t = ([], d, rw append-nil t)

module _ (bytes : List ℕ) where
  goes_on_lower : (k m : ℕ) → k ≤ m → GoesOn (take m bytes) → GoesOn (take k bytes)
  goes_on_lower k m h g = rw (← take-take k m bytes h) (goes_on_front (take k (take m bytes)) (drop k (take m bytes)) (rw (take-append-drop k (take m bytes)) g))

  pub goes_on_all : (k : ℕ) → GoesOn bytes → GoesOn (take k bytes)
  goes_on_all k g = goes_on_front (take k bytes) (drop k bytes) (rw (take-append-drop k bytes) g)

  -- up to where the bytes are wrong, they go on
  goes_to : {k : ℕ} → WrongAt bytes k → (k ≤ length bytes) × GoesOn (take k bytes)
  goes_to (at_byte h g ng) = (omega arith, g)
  goes_to {k} (at_end e g nt) = (omega arith, goes_on_all k g)

  -- and no further
  no_further : {k : ℕ} → WrongAt bytes k → (m : ℕ) → k < m → m ≤ length bytes → GoesOn (take m bytes) → ⊥
  no_further {k} (at_byte h g ng) m l n g' = ng (goes_on_lower (suc k) m l g')
  no_further (at_end e g nt) m l n g' = omega arith

  not_lower : {j k : ℕ} → WrongAt bytes j → WrongAt bytes k → k ≤ j
  not_lower {j} {k} w v = ⊎_elim (λ l. let (h, g) = goes_to v in absurd (no_further w k l h g)) (λ l. l) (cases_lt j k)

  pub wrong_one : {j k : ℕ} → WrongAt bytes j → WrongAt bytes k → j ≡ k
  wrong_one w v = omega (arith, not_lower w v, not_lower v w)

  pub text_not_wrong : (d : Document) → Text bytes d → {k : ℕ} → WrongAt bytes k → ⊥
  text_not_wrong d t {k} (at_byte h g ng) = ng (goes_on_all (suc k) (text_goes_on bytes d t))
  text_not_wrong d t (at_end e g nt) = nt d t

  text_or_not : Decided ((d : Document) × Text bytes d)
  text_or_not = decided (is_whole (scan bytes)) (scan_tells_texts bytes)

  goes_on_or_not : (k : ℕ) → Decided (GoesOn (take k bytes))
  goes_on_or_not k = decided (goes_on (scan (take k bytes))) (scan_tells_going_on (take k bytes))

  text_or_wrong_from : (left k : ℕ) → k + left ≡ length bytes → GoesOn (take k bytes) → ((d : Document) × Text bytes d) ⊎ ((k : ℕ) × WrongAt bytes k)
  text_or_wrong_from zero k e g = ⊎_elim inl (λ nt. inr (k, at_end (omega arith) (subst GoesOn (take_all k bytes (omega arith)) g) (λ d t. nt (d, t)))) text_or_not
  text_or_wrong_from (suc left) k e g = ⊎_elim (text_or_wrong_from left (suc k) (omega arith)) (λ ng. inr (k, at_byte (omega arith) g ng)) (goes_on_or_not (suc k))

  text_or_wrong : ((d : Document) × Text bytes d) ⊎ ((k : ℕ) × WrongAt bytes k)
  text_or_wrong = text_or_wrong_from (length bytes) 0 (omega arith) ([], void, empty)

  -- for code: where the scan gets stuck, or ends too early
  pub wrong_where_stuck : (k : ℕ) → k < length bytes → goes_on (scan (take k bytes)) ≡ true → goes_on (scan (take (suc k) bytes)) ≡ false → WrongAt bytes k
  wrong_where_stuck k h e ne = at_byte h ((scan_tells_going_on (take k bytes)).0 e) (λ g. both_ways _ ne ((scan_tells_going_on (take (suc k) bytes)).1 g))

  pub wrong_at_the_end : goes_on (scan bytes) ≡ true → is_whole (scan bytes) ≡ false → WrongAt bytes (length bytes)
  wrong_at_the_end e ne = at_end refl ((scan_tells_going_on bytes).0 e) (λ d t. both_ways _ ne ((scan_tells_texts bytes).1 (d, t)))

pub wrong_at_one_place : WrongAtOnePlace
wrong_at_one_place bytes = ⊎_elim
    (λ (d, t). inl (d, t, λ k w. text_not_wrong bytes d t w))
    (λ (k, w). inr (k, w, (λ j v. wrong_one bytes v w), (λ d t. text_not_wrong bytes d t w)))
    (text_or_wrong bytes)

-- READING
module _ (buffer : ℕ) (bytes : List ℕ) where
  opens_or_not : (k : ℕ) → Decided (OpensTooMany bytes k)
  opens_or_not k = ⊎_elim (λ (h, (e, l)). inl (h, e, l)) (λ none. inr (λ (h, e, l). none (h, (e, l))))
      (both_or_not (below_or_not k (length bytes)) (both_or_not (cases_eq (get_or bytes k 0) 91) (cases_eq (level (take k bytes)) max_levels)))

  reads_short : length bytes ≤ max_document → (o : Outcome Document) × Reads buffer bytes o
  reads_short short = ⊎_elim
      (λ (d, t). ⊎_elim
      (λ (k, h, lowest). (refuses (read_refusal (TooDeep k)), is_deep short lowest (goes_on_all bytes (suc k) (text_goes_on bytes d t))))
      (λ none. let nowhere = λ (k : ℕ) (o : OpensTooMany bytes k). none k o.0 o in ⊎_elim (λ large. (refuses (read_refusal TooManyNodes), is_large d short t nowhere large)) (λ fits. (gives d, is_read short t nowhere fits)) (cases_lt (min buffer max_nodes) (length (nodes_for d))))
      (least_below opens_or_not (length bytes)))
      (λ (k, w). ⊎_elim
      (λ (j, h, lowest). (refuses (read_refusal (TooDeep j)), is_deep short lowest (goes_on_lower bytes (suc j) k h (goes_to bytes w).1)))
      (λ none. (refuses (read_refusal (Wrong k)), is_wrong short w none))
      (least_below opens_or_not k))
      (text_or_wrong bytes)

  reads : (o : Outcome Document) × Reads buffer bytes o
  reads = ⊎_elim (λ long. (refuses (read_refusal TooLong), is_long long)) reads_short (cases_lt max_document (length bytes))

  -- what may not hold of one text
  wrong_not_deep : (j k : ℕ) → WrongAt bytes j → NoneBelow (OpensTooMany bytes) j → OpensTooMany bytes k → GoesOn (take (suc k) bytes) → ⊥
  wrong_not_deep j k w none opens g = ⊎_elim (λ l. none k l opens) (λ l. no_further bytes w (suc k) (omega arith) opens.0 g) (cases_lt k j)

  size_one : (d e : Document) → Text bytes d → Text bytes e → length (nodes_for d) ≡ length (nodes_for e)
  size_one d e t u = ap (λ x. length (nodes_for x)) (texts_are_unambiguous bytes d e t u)

  same : {o p : Outcome Document} → Reads buffer bytes o → Reads buffer bytes p → p ≡ o
  same (is_long l) (is_long m) = refl
  same (is_long l) (is_wrong s w none) = absurd (omega arith)
  same (is_long l) (is_deep s low g) = absurd (omega arith)
  same (is_long l) (is_large d s t none m) = absurd (omega arith)
  same (is_long l) (is_read s t none m) = absurd (omega arith)
  same (is_wrong s w none) (is_long l) = absurd (omega arith)
  same (is_wrong s w none) (is_wrong s' w' none') = ap (λ x. refuses (read_refusal (Wrong x))) (wrong_one bytes w' w)
  same (is_wrong {k} s w none) (is_deep {k = j} s' low g) = absurd (wrong_not_deep k j w none low.0 g)
  same (is_wrong s w none) (is_large d s' t none' m) = absurd (text_not_wrong bytes d t w)
  same (is_wrong s w none) (is_read {d} s' t none' m) = absurd (text_not_wrong bytes d t w)
  same (is_deep s low g) (is_long l) = absurd (omega arith)
  same (is_deep {k} s low g) (is_wrong {k = j} s' w none') = absurd (wrong_not_deep j k w none' low.0 g)
  same (is_deep {k} s low g) (is_deep {k = j} s' low' g') = ap (λ x. refuses (read_refusal (TooDeep x))) (lowest_one (OpensTooMany bytes) j k low' low)
  same (is_deep {k} s low g) (is_large d s' t none m) = absurd (none k low.0)
  same (is_deep {k} s low g) (is_read s' t none m) = absurd (none k low.0)
  same (is_large d s t none m) (is_long l) = absurd (omega arith)
  same (is_large d s t none m) (is_wrong s' w none') = absurd (text_not_wrong bytes d t w)
  same (is_large d s t none m) (is_deep {k} s' low g) = absurd (none k low.0)
  same (is_large d s t none m) (is_large d' s' t' none' m') = refl
  same (is_large d s t none m) (is_read {d = e} s' u none' m') = absurd (omega (arith, size_one d e t u))
  same (is_read s t none m) (is_long l) = absurd (omega arith)
  same (is_read {d} s t none m) (is_wrong s' w none') = absurd (text_not_wrong bytes d t w)
  same (is_read s t none m) (is_deep {k} s' low g) = absurd (none k low.0)
  same (is_read {d} s t none m) (is_large e s' u none' m') = absurd (omega (arith, size_one d e t u))
  same (is_read {d} s t none m) (is_read {d = e} s' u none' m') = ap gives (texts_are_unambiguous bytes e d u t)

pub reading_is_one : ReadingIsOne
reading_is_one buffer bytes = let (o, r) = reads buffer bytes in (o, r, λ p r'. same buffer bytes r r')
