-- What a book that holds no pair answers in the worked cases follows from what holds of the worked table. Assumes nothing.
use Rattle.forms.proofs.Findings.{never}
use Rattle.std.proofs.Common.{◌≡◌, ℕ, ◌+◌, ◌*◌, ◌<◌, eqb, List, [], ◌∷◌, length, take, sym, refl, ap, ◌∙◌, subst, inl, ⊎_elim, arith}
use Rattle.std.specs.List.{AllByRecursion}
use Rattle.std.proofs.ByRecursion.{All-weaker}
use Rattle.std.proofs.lemmas.Bool.{both_ways, and_parts, and_from, eqb-true, eq-eqb, cases_lt}
use Rattle.forms.specs.Documents.{Document}
use Rattle.forms.specs.Refusals.Outcome.{gives}
use Rattle.documents.specs.Nodes.{StandsFor, SoundOver}
use Rattle.documents.specs.Nodes.StandsFor.{for_void, for_reference, for_element}
use Rattle.documents.specs.declared.nodes.Node.{Node}
use Rattle.forms.specs.declared.Row.{Row}
use Rattle.schema.specs.Worked.{Counts}
use Rattle.schema.specs.Rules.{Relation, Below, Leans, Keeps, IsDocument}
use Rattle.schema.specs.Rules.Leans.{on_itself}
use Rattle.schema.specs.Worked.{table, alone, Shows, Case, Holds, cases}
use Rattle.schema.specs.Worked.Case.{below, below_leaning, not_below, shown_only_by, breaks_alone}
use Rattle.schema.proofs.Order.{keeps_more}
use Rattle.schema.proofs.Worked.{worked_cases}
use Rattle.showing.specs.Showing.{Witnesses}
use Rattle.verdicts.specs.Pairs.{InTable}
use Rattle.book.specs.Answers.{Holding, Answered}
use Rattle.book.specs.Calls.{Answer}
use Rattle.book.specs.Calls.Answer.{asked, offered}
use Rattle.book.specs.Calls.Call.{ask}
use Rattle.book.specs.Worked.{Empty, Says, ShowsOnly, OnBook, WorkedOnBooks}
use Rattle.book.specs.declared.types.Verdict.{Verdict}
use Rattle.book.specs.declared.types.Verdict.TheVariants.{Yes, No}
use Rattle.book.proofs.Counting.{counts_same, counts_one}

-- a node of a sound table stands for a document of the table
pub sound_document : (rows : List Row) (nodes : List Node) → SoundOver rows nodes → {k : ℕ} {d : Document} → StandsFor nodes k d → IsDocument rows d
sound_document rows nodes sound (for_void e) = tt
sound_document rows nodes sound {k} (for_reference e) = sound.each k e
sound_document rows nodes sound {k} (for_element e a b) = ((sound.each k e).0, sound_document rows nodes sound a, sound_document rows nodes sound b)

module _ (p q : ℕ) (p< : p < length table) (q< : q < length table) where
  says : (v : Verdict) → ((w : Verdict) → (w ≡ Yes → Below table p q) → (Below table p q → w ≡ Yes) → w ≡ v) → Says p q v
  says v is R answer none (o, e, a) =
      let (w, new, gave, verdict, _) = a.inside (p<, q<) in let same = is w verdict.below.0 verdict.below.1 in (new, (cc))

  says_yes : Below table p q → Says p q Yes
  says_yes is_below = says Yes (λ w to from. from is_below)

  says_no : (Below table p q → ⊥) → Says p q No
  says_no not = says No (λ w to from. grind (arith, to, not))

  says_leaning : (k : ℕ) → Below table p q → Counts (length table) (Leans table p q) k → (R : Relation) (answer : Answer) → Empty R → Answered table (Holding R) (ask p q) answer → answer ≡ asked (gives (Yes, k))
  says_leaning k is_below leans R answer none (o, e, a) =
      let (w, new, gave, verdict, count) = a.inside (p<, q<) in
      let same : new ≡ k = counts_one (length table) new k (Leans table p q) (counts_same _ _ (λ x y ((_, h), off). ⊎_elim (λ (_, l). l) (λ old. absurd (off old)) h) (λ x y l. ((tt, inl ((p<, q<), l)), both_ways _ (none x y))) count) leans in
      let yes = verdict.below.1 is_below in cc

  shows_only : (d : Document) → (Below table p q → ⊥) → ((e : Document) → Shows p q e → e ≡ d) → ShowsOnly p q d
  shows_only d not only R R' buffer after o k none then (o₂, after₂, e, a) gave =
      let as_no : Holding R' p q × (Below table p q → ⊥) = ((then p q).1 (tt, inl ((p<, q<), on_itself)), not) in
      ⊎_elim
      (λ few. let (refused, _) = a.few (p<, q<) as_no few in never (cc))
      (λ enough. let (j, is, _, w, _, _) = a.shows (p<, q<) as_no enough in shown_by after₂ k after j (cc) (cc) w)
      (cases_lt (length buffer) (length table * (length table + 1)))
    where
      shown_by : (after₂ : List Node) (k : ℕ) (after : List Node) (j : ℕ) → k ≡ j → after ≡ after₂ → Witnesses table p q (take j after₂) → (last : ℕ) × (last + 1 ≡ length (take k after)) × StandsFor (take k after) last d
      shown_by after₂ k after j e f w =
          let v : Witnesses table p q (take k after) = rw (e, f) w in
          let is-it = only v.order (record { is = sound_document table (take k after) v.sound v.stands; fits = v.fits; fits_not = v.fits_not }) in
          (v.last, v.is_last, subst (StandsFor (take k after) v.last) is-it v.stands)

  breaks_alone_by : (Keeps table (alone p q) p q → ⊥) → OnBook (breaks_alone p q)
  breaks_alone_by not R words answer none shaped same (o, e, a) = e ∙ ap offered (a.broken shaped p q (record {
    has = same p q ∙ and_from (eqb p p) (eqb q q) (eq-eqb p p refl) (eq-eqb q q refl);
    broken = λ keeps. not (keeps_more (λ x y h. sym (same x y) ∙ h) keeps);
    lowest = λ x y less h.
        let (at_p, at_q) = and_parts (eqb x p) (eqb y q) (sym (same x y) ∙ h) in
        absurd (omega (arith, eqb-true x p at_p, eqb-true y q at_q));
  }))

-- the numbers of a case are those of rows
WithinTable : Case → Type 0
WithinTable (below p q) = InTable table p q
WithinTable (below_leaning p q k) = InTable table p q
WithinTable (not_below p q) = InTable table p q
WithinTable (shown_only_by p q d) = InTable table p q
WithinTable (breaks_alone p q) = InTable table p q

on_book : (case : Case) → WithinTable case × Holds case → OnBook case
unfolding WithinTable
on_book (below p q) ((a, b), h) = says_yes p q a b h
on_book (below_leaning p q k) ((a, b), (h, leans)) = says_leaning p q a b k h leans
on_book (not_below p q) ((a, b), h) = says_no p q a b h
on_book (shown_only_by p q d) ((a, b), (h, _, only)) = (says_no p q a b h, shows_only p q a b d h only)
on_book (breaks_alone p q) ((a, b), h) = breaks_alone_by p q a b h

all_both : {A : Type 0} (P Q : A → Type 0) (xs : List A) → AllByRecursion P xs → AllByRecursion Q xs → AllByRecursion (λ x. P x × Q x) xs
all_both P Q [] a b = tt
all_both P Q (x ∷ xs) a b = ((a.0, b.0), all_both P Q xs a.1 b.1)

pub on_books : WorkedOnBooks
unfolding WithinTable
on_books = All-weaker (λ c. WithinTable c × Holds c) OnBook on_book cases (all_both WithinTable Holds cases (omega arith) worked_cases)
