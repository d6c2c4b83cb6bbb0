-- What rows a book is over, and what it does at a call. Assumes nothing.
use Rattle.std.specs.Prelude.{◌≡◌, ℕ, List, Ok, Err, Decides}
use Rattle.forms.specs.Refusals.{Refusal}
use Rattle.forms.specs.Refusals.Outcome.{refuses}
use Rattle.forms.specs.declared.Row.{Row}
use Rattle.relation.specs.Admission.{Admitted, Finds}
use Rattle.relation.specs.Faults.{admission_refusal}
use Rattle.book.specs.Answers.{After, Answered}
use Rattle.book.specs.Calls.{Call, Answer, Refuses}
use Rattle.book.specs.Calls.Answer.{asked, offered, looked_up, counted, handed_out, shown, fitted, cleared}
use Rattle.book.specs.Calls.Call.{ask, offer, look_up, held, hands_out, show, fit, clear}
use Rattle.book.specs.Ledgers.{Pages, ledger_rows, holds_in, HoldsIn}

-- The pages of a book over the rows: an open one has their table, and a shut one the fault that admission finds in them.
abbrev pub Over : List Row → Pages → Type 0
Over rows (Ok l) = Admitted rows × (ledger_rows l ≡ rows)
Over rows (Err fault) = Finds rows (admission_refusal fault)

-- Every call on a shut book gives admission's refusal, and buffers keep what they had.
abbrev pub ShutAnswered : Refusal → Call → Answer → Type 0
ShutAnswered e (ask p q) answer = answer ≡ asked (refuses e)
ShutAnswered e (offer words) answer = answer ≡ offered (refuses e)
ShutAnswered e (look_up p q) answer = answer ≡ looked_up (refuses e)
ShutAnswered e held answer = answer ≡ counted (refuses e)
ShutAnswered e (hands_out buffer) answer = answer ≡ handed_out (refuses e) buffer
ShutAnswered e (show p q buffer) answer = answer ≡ shown (refuses e) buffer
ShutAnswered e (fit nodes root row marks) answer = answer ≡ fitted (refuses e) marks
ShutAnswered e clear answer = answer ≡ cleared (refuses e)

-- What a book over the rows does at a call.
pub record Met (rows : List Row) (before : Pages) (call : Call) (answer : Answer) (after : Pages) : Type 0 where
  -- if admission finds no fault, it answers from the pairs that it holds,
  pub answered : Admitted rows → Answered rows (HoldsIn before) call answer
  -- and holds then what is held after the call
  pub held_after : Admitted rows → (a b : ℕ) → Decides (holds_in after a b) (After rows (HoldsIn before) call a b)
  -- if admission finds a fault, every answer is that refusal
  pub shut : (e : Refusal) → Finds rows e → ShutAnswered e call answer
  -- a refusal changes nothing
  pub unchanged : (e : Refusal) → Refuses answer e → after ≡ before
