-- Which refusal each fault of a book is, and what a call gives. Assumes nothing.
use Rattle.std.specs.Prelude.{[], ◌∷◌, Ok, Err, Result}
use Rattle.forms.specs.Refusals.{Refusal, Outcome}
use Rattle.forms.specs.Refusals.Refusal.{refusal}
use Rattle.forms.specs.Refusals.Outcome.{refuses, gives}
use Rattle.fitting.specs.Faults.{fit_refusal}
use Rattle.relation.specs.Faults.{admission_refusal}
use Rattle.showing.specs.Faults.{show_refusal}
use Rattle.verdicts.specs.Faults.{row_refusal}
use Rattle.book.specs.declared.types.BookFault.{BookFault}
use Rattle.book.specs.declared.types.BookFault.TheVariants.{NotAdmitted, NoRow, RelationLength, BitOutside, RuleBroken, NotShown, NotFitted}

abbrev pub book_refusal : BookFault → Refusal
book_refusal (NotAdmitted fault) = admission_refusal fault
book_refusal (NoRow fault) = row_refusal fault
book_refusal RelationLength = refusal 22 []
book_refusal BitOutside = refusal 23 []
book_refusal (RuleBroken p q) = refusal 24 (p ∷ (q ∷ []))
book_refusal (NotShown fault) = show_refusal fault
book_refusal (NotFitted fault) = fit_refusal fault

-- what a call gives: its result, or the refusal that its fault is
abbrev pub outcome : {A : Type 0} → Result A BookFault → Outcome A
outcome (Ok a) = gives a
outcome (Err e) = refuses (book_refusal e)
