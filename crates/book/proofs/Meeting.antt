-- What a book does at a call, from what its ledger does, and that it stays over its rows. Assumes nothing.
use Rattle.std.proofs.Common.{◌≡◌, ℕ, List, Ok, Err, Result, IsErrAnd, sym, refl, ap, ◌∙◌, subst, Decides}
use Rattle.std.proofs.Math.Logic.{∥∥₁_elim, ∥∥₁_map}
use Rattle.std.specs.Coded.{Coded, Coded-set, code_by, coded×, coded_list, coded_ℕ}
use Rattle.std.proofs.lemmas.Result.{err_from_is_err_and}
use Rattle.forms.specs.Buffers.{rows_of}
use Rattle.forms.specs.Refusals.{Refusal, number, values}
use Rattle.forms.specs.Refusals.Outcome.{refuses}
use Rattle.forms.specs.Refusals.Refusal.{refusal}
use Rattle.forms.specs.contracts.Row.{the_row as row_row}
use Rattle.forms.specs.declared.Row.{Row}
use Rattle.relation.specs.Faults.{admission_refusal}
use Rattle.relation.specs.declared.AdmissionFault.{AdmissionFault}
use Rattle.relation.proofs.Judging.{no_fault, one_fault}
use Rattle.book.specs.Answers.{After, Answered}
use Rattle.book.specs.Books.{Over, Met, ShutAnswered}
use Rattle.book.specs.Calls.{Call, Answer}
use Rattle.book.specs.Doing.{Done}
use Rattle.book.specs.Faults.{book_refusal, outcome}
use Rattle.book.specs.Ledgers.{Pages, ledger_rows, holds, HoldsIn}
use Rattle.book.specs.declared.ledger.Ledger.{Ledger}
use Rattle.book.specs.declared.types.BookFault.{BookFault}
use Rattle.book.specs.declared.types.BookFault.TheVariants.{NotAdmitted}

same_refusal : (e : Refusal) → refusal (number e) (values e) ≡ e
same_refusal (refusal n vs) = refl

refusals : Coded Refusal
refusals = code_by (ℕ × List ℕ) (coded× coded_ℕ (coded_list coded_ℕ)) (λ e. (number e, values e)) (λ x. refusal x.0 x.1) same_refusal

-- what passes a fault of admission up is refused as admission refuses
pub passed : {A : Type 0} (r : Result A BookFault) (fault : AdmissionFault) → IsErrAnd r (λ e. e ≡ NotAdmitted fault) → outcome r ≡ refuses (admission_refusal fault)
passed r fault h = let (e, is, same) = err_from_is_err_and r h in ap outcome is ∙ ap (λ f. refuses (book_refusal f)) same

module _ (rows : List Row) (pages : Pages) (over : ∥ Over rows pages ∥₁) where
  no : {P : Type 0} → (Over rows pages → ⊥) → P
  no h = absurd (∥∥₁_elim over (λ x y. absurd x) h)

  pub over_then : (l l' : Ledger) → pages ≡ Ok l → l'.prepared ≡ l.prepared → ∥ Over rows (Ok l') ∥₁
  over_then l l' is same = ∥∥₁_map over (λ o. let (admitted, table) = subst (Over rows) is o in (admitted, ap (λ t. rows_of t.table) same ∙ table))

  module _ (call : Call) (answer : Answer) where
    pub open_met : (l l' : Ledger) → pages ≡ Ok l → Done l call answer l' → Met rows pages call answer (Ok l')
    open_met l l' is done =
        let table : ledger_rows l ≡ rows = ∥∥₁_elim over (Coded-set (coded_list row_row.coded) _ _) (λ o. (subst (Over rows) is o).1) in
        record {
          answered = λ _. subst (λ p. Answered rows (HoldsIn p) call answer) (sym is) (subst (λ r. Answered r (λ a b. HoldsIn (Ok l) a b) call answer) table done.answered);
          held_after = λ _. subst (λ p. (a b : ℕ) → Decides (holds l' a b) (After rows (HoldsIn p) call a b)) (sym is) (subst (λ r. (a b : ℕ) → Decides (holds l' a b) (After r (λ a b. HoldsIn (Ok l) a b) call a b)) table done.held_after);
          shut = λ e finds. no (λ o. no_fault rows (subst (Over rows) is o).0 e finds);
          unchanged = λ e refused. ap Ok (done.unchanged e refused) ∙ sym is;
        }

    pub open_stays : (l : Ledger) → pages ≡ Ok l → Done l call answer l → Met rows pages call answer pages
    open_stays l is done = subst (Met rows pages call answer) (sym is) (open_met l l is done)

    pub shut_met : (fault : AdmissionFault) → pages ≡ Err fault → ShutAnswered (admission_refusal fault) call answer → Met rows pages call answer pages
    shut_met fault is refused = record {
      answered = λ admitted. no (λ o. no_fault rows admitted (admission_refusal fault) (subst (Over rows) is o));
      held_after = λ admitted. no (λ o. no_fault rows admitted (admission_refusal fault) (subst (Over rows) is o));
      shut = λ e finds.
          let same : e ≡ admission_refusal fault = ∥∥₁_elim over (Coded-set refusals _ _) (λ o. one_fault rows (admission_refusal fault) e (subst (Over rows) is o) finds) in
          subst (λ f. ShutAnswered f call answer) (sym same) refused;
      unchanged = λ e h. refl;
    }
