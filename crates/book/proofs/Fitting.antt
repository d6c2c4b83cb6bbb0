-- What an open book does at a fit. Assumes nothing.
use Rattle.forms.proofs.Findings.{never}
use Rattle.std.proofs.Common.{arith, rules, ◌≡◌, ℕ, ◌<◌, Bool, List, length, Decides, refl, subst, inl}
use Rattle.forms.specs.Buffers.{rows_of}
use Rattle.forms.specs.Documents.{Document}
use Rattle.forms.specs.Refusals.{Refusal}
use Rattle.forms.specs.Refusals.Outcome.{refuses, gives}
use Rattle.forms.specs.Schema.{IsChannel}
use Rattle.forms.specs.declared.Row.{Row}
use Rattle.documents.specs.Nodes.{StandsFor}
use Rattle.documents.specs.declared.nodes.Node.{Node}
use Rattle.schema.specs.Rules.{Below}
use Rattle.schema.specs.Rules.Leans.{on_itself}
use Rattle.schema.proofs.Offered.{at_below}
use Rattle.verdicts.specs.Pairs.{related, Leaned}
use Rattle.fitting.specs.Fittable.{Fittable, Unfit}
use Rattle.fitting.specs.Marks.{Referred, Among, ItsDocument, Marked, TellsRoot}
use Rattle.fitting.proofs.Fitted.{fits_by_below}
use Rattle.fitting.proofs.Refusing.{fittable_or_one_fault}
use Rattle.book.specs.Answers.{Adds, FitAnswered}
use Rattle.book.specs.Calls.Answer.{fitted}
use Rattle.book.specs.Calls.Call.{fit}
use Rattle.book.specs.Doing.{Done}
use Rattle.book.specs.Keeping.{Grew}
use Rattle.book.specs.Ledgers.{ledger_rows, Holds}
use Rattle.book.specs.declared.ledger.Ledger.{Ledger}
use Rattle.book.proofs.Asking.{kept_then, held_more, newly}
use Rattle.book.proofs.Telling.{nothing_done}

-- an order that can be fitted has no fault, and another has one
module _ (rows : List Row) (nodes : List Node) (root row marks : ℕ) where
  pub fit_or_fault : Fittable rows nodes root row marks → (e : Refusal) → Unfit rows nodes root row marks e → ⊥
  fit_or_fault fits e unfit = grind (arith, fittable_or_one_fault rows nodes root row marks)

  one_fault : (e f : Refusal) → Unfit rows nodes root row marks e → Unfit rows nodes root row marks f → e ≡ f
  one_fault e f x y = grind (arith, fittable_or_one_fault rows nodes root row marks)

-- what is told of the one document of a node, in other words
its_document : {nodes : List Node} {i : ℕ} {P Q : Document → Type 0} → ItsDocument nodes i P → ((d : Document) → StandsFor nodes i d → P d → Q d) → ItsDocument nodes i Q
its_document x to = search (rules, to)

module _ (l : Ledger) (nodes : List Node) (root row : ℕ) (marks : List ℕ) where
  abbrev rows : List Row
  rows = ledger_rows l

  pub fit_refused : (e : Refusal) → Unfit (ledger_rows l) nodes root row (length marks) e → Done l (fit nodes root row marks) (fitted (refuses e) marks) l
  fit_refused e unfit = nothing_done l (fit nodes root row marks) (fitted (refuses e) marks) tt (λ a b (fits, _). fit_or_fault rows nodes root row (length marks) fits e unfit)
      (refuses e, marks, refl, search (rules, fit_or_fault rows nodes root row (length marks), one_fault rows nodes root row (length marks) e) depth 9)

  module _ (l' : Ledger) (same : l'.prepared ≡ l.prepared) (fits : Fittable (ledger_rows l) nodes root row (length marks)) (pairs : List ℕ)
      (wanted : (a b : ℕ) → Decides (related (length (ledger_rows l)) pairs a b) ((a < length (ledger_rows l)) × Referred nodes a × IsChannel (ledger_rows l) b))
      (new : ℕ) (grew : Grew (ledger_rows l) (Leaned (ledger_rows l) pairs) l.held l'.held new) where
    -- a row that is referred to is a channel row
    referred : (c : ℕ) → Referred nodes c → c < length rows
    referred c (i, e) = let (_, _, is) = fits.sound.each i e in at_below rows c is

    to : (a b : ℕ) → Leaned rows pairs a b → Adds rows (fit nodes root row marks) a b
    to a b (c, d, from, leans) = let (_, refers, is) = (wanted c d).0 from in (fits, (c, d, refers, is, leans))

    from : (a b : ℕ) → Adds rows (fit nodes root row marks) a b → Leaned rows pairs a b
    from a b (_, (c, d, refers, is, leans)) = (c, d, (wanted c d).1 (referred c refers, refers, is), leans)

    -- at referenced rows and channel rows, what is yes is what is below
    tells : (c d : ℕ) → Referred nodes c → IsChannel rows d → Decides (related (length rows) l'.yes c d) (Below rows c d)
    tells c d refers is = (kept_then l l' same).tells c d ((grew.holds c d).1 (inl (c, d, (wanted c d).1 (referred c refers, refers, is), on_itself)))

    pub fit_done : (answer : Bool) (after : List ℕ) → Marked (ledger_rows l') (Among (length (ledger_rows l')) l'.yes) nodes after → TellsRoot (ledger_rows l') (Among (length (ledger_rows l')) l'.yes) nodes root row answer →
        length after ≡ length marks → Done l (fit nodes root row marks) (fitted (gives (answer, new)) after) l'
    fit_done answer after marked told long =
        let marked-then = subst (λ t. Marked (rows_of t.table) (Among (length (rows_of t.table)) l'.yes) nodes after) same marked in
        let told-then = subst (λ t. TellsRoot (rows_of t.table) (Among (length (rows_of t.table)) l'.yes) nodes root row answer) same told in
        let by-below = fits_by_below rows nodes (Among (length rows) l'.yes) tells in
        let answers : FitAnswered rows (Holds l) nodes root row marks (gives (answer, new)) after = record {
          unfit = λ e unfit. absurd (fit_or_fault rows nodes root row (length marks) fits e unfit);
          fits = λ _. (answer, new, refl, its_document told-then (λ d st x. search (rules, by-below root d st) depth 9), newly l l' same (fit nodes root row marks) (Leaned rows pairs) new tt to from grew);
          marked = λ _. ((λ i low. its_document (marked-then i low) (λ d st x. search (rules, by-below i d st) depth 9)), long);
        } in
        record {
          answered = (gives (answer, new), after, refl, answers);
          held_after = held_more l l' same (fit nodes root row marks) (Leaned rows pairs) new tt to from grew;
          table = same;
          unchanged = λ e h. never (cc);
        }
