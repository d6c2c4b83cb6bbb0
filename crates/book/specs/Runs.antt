-- What a book answers to any list of calls: a law over whole runs. Assumes nothing.
use Rattle.std.specs.Prelude.{◌≡◌, ℕ, ◌+◌, ◌*◌, ◌<◌, ◌≤◌, ◌≢◌, ◌⊎◌, false, Decides, List, ◌++◌, length, take, drop, Some}
use Rattle.std.specs.List.{slice_get, sum_by}
use Rattle.forms.specs.Refusals.{Refusal}
use Rattle.forms.specs.Refusals.Outcome.{refuses, gives}
use Rattle.forms.specs.declared.Row.{Row}
use Rattle.relation.specs.Admission.{Admitted, Finds}
use Rattle.schema.specs.Rules.{Relation}
use Rattle.schema.specs.Worked.{Counts}
use Rattle.verdicts.specs.Pairs.{InTable}
use Rattle.book.specs.Answers.{Pairs, Holding, HeldAsYes, Adds, After, Answered}
use Rattle.book.specs.Books.{Met, ShutAnswered}
use Rattle.book.specs.Calls.{Call, Answer}
use Rattle.book.specs.Calls.Answer.{asked, offered, looked_up, counted, handed_out, shown, fitted, cleared}
use Rattle.book.specs.Calls.Call.{ask, offer, look_up, held, hands_out, clear}
use Rattle.book.specs.Ledgers.{Pages, holds_in}
use Rattle.book.specs.declared.types.Verdict.{Verdict}

-- The pair is held after the calls since the making: one of them adds it, and no clearing stands behind that one.
pub record HeldBy (rows : List Row) (calls : List Call) (a b : ℕ) : Type 0 where
  pub place : ℕ
  pub call : Call
  pub made : slice_get calls place ≡ Some call
  pub adds : Adds rows call a b
  pub since : (j : ℕ) → place < j → slice_get calls j ≢ Some clear

-- how many new pairs an answer reports
abbrev pub new_pairs : Answer → ℕ
new_pairs (asked (gives r)) = r.1
new_pairs (asked (refuses e)) = 0
new_pairs (offered (gives new)) = new
new_pairs (offered (refuses e)) = 0
new_pairs (looked_up o) = 0
new_pairs (counted o) = 0
new_pairs (handed_out o after) = 0
new_pairs (shown o after) = 0
new_pairs (fitted (gives r) after) = r.1
new_pairs (fitted (refuses e) after) = 0
new_pairs (cleared o) = 0

-- the answer at place i is that of a clearing
abbrev pub ClearedAt : List Answer → ℕ → Type 0
ClearedAt answers i = slice_get answers i ≡ Some (cleared (gives tt))

-- The answers report so many new pairs since the making or the last clearing.
pub record Reported (answers : List Answer) (m : ℕ) : Type 0 where
  -- the counting starts at the making or just behind a clearing, behind which there is no other
  pub start : ℕ
  pub begins : (start ≡ 0) ⊎ ((i : ℕ) × (start ≡ i + 1) × ClearedAt answers i)
  pub last : (i : ℕ) → start ≤ i → ClearedAt answers i → ⊥
  pub total : m ≡ sum_by new_pairs (drop start answers)

-- Every open book over the rows, whatever pairs R it holds, takes the relation when it is offered, and holds then the pairs of H that are yes.
abbrev pub TakenByAll : List Row → Pairs → List ℕ → Type 0
TakenByAll rows H words = (R : Relation) (answer : Answer) → Answered rows (Holding R) (offer words) answer →
    (new : ℕ) × (answer ≡ offered (gives new)) × ((p q : ℕ) → InTable rows p q → HeldAsYes rows H p q → After rows (Holding R) (offer words) p q)

-- A run of calls on an open book.
pub record OpenRun (rows : List Row) (calls : List Call) (answers : List Answer) : Type 0 where
  pub long : length answers ≡ length calls
  -- each answer is the one that the definitions give for the pairs held after the calls before it
  pub each : (k : ℕ) (call : Call) (answer : Answer) → slice_get calls k ≡ Some call → slice_get answers k ≡ Some answer → Answered rows (HeldBy rows (take k calls)) call answer
  -- an asked pair is held just after
  pub held_after_ask : (k p q : ℕ) → slice_get calls k ≡ Some (ask p q) → InTable rows p q → HeldBy rows (take (k + 1) calls) p q
  -- a look-up just after an ask tells the verdict that was asked
  pub asked_held : (k p q : ℕ) (v : Verdict) (new : ℕ) (answer : Answer) → slice_get calls k ≡ Some (ask p q) → slice_get answers k ≡ Some (asked (gives (v, new))) →
      slice_get calls (k + 1) ≡ Some (look_up p q) → slice_get answers (k + 1) ≡ Some answer → answer ≡ looked_up (gives (Some v))
  -- what was handed out is taken by every open book over equal rows
  pub handed_taken : (k many : ℕ) (buffer after : List ℕ) → slice_get calls k ≡ Some (hands_out buffer) → slice_get answers k ≡ Some (handed_out (gives many) after) → TakenByAll rows (HeldBy rows (take k calls)) after
  -- at every time the new pairs that were reported since the making or the last clearing are as many as the pairs held, and at most the number of rows squared
  pub adds_up : (k : ℕ) → k ≤ length calls → (m : ℕ) × Reported (take k answers) m × Counts (length rows) (HeldBy rows (take k calls)) m × (m ≤ length rows * length rows)
  -- and that number is what held answers
  pub counts : (k : ℕ) (answer : Answer) → slice_get calls k ≡ Some held → slice_get answers k ≡ Some answer → (m : ℕ) × Reported (take k answers) m × (answer ≡ counted (gives m))

-- A run of calls on a shut book: every answer is admission's refusal, and buffers keep what they had.
pub record ShutRun (fault : Refusal) (calls : List Call) (answers : List Answer) : Type 0 where
  pub long : length answers ≡ length calls
  pub each : (k : ℕ) (call : Call) (answer : Answer) → slice_get calls k ≡ Some call → slice_get answers k ≡ Some answer → ShutAnswered fault call answer

-- The law over runs: over rows that are admitted the calls run on an open book, from its making on; over others on a shut one.
pub record Law (rows : List Row) (calls : List Call) (answers : List Answer) : Type 0 where
  pub on_open : Admitted rows → OpenRun rows calls answers
  pub on_shut : (fault : Refusal) → Finds rows fault → ShutRun fault calls answers

-- Some calls were made on a book over the rows since its making: their answers keep the law, and an open book holds the pairs that they add since the last clearing.
pub record Run (rows : List Row) (pages : Pages) (calls : List Call) (answers : List Answer) : Type 0 where
  pub law : Law rows calls answers
  pub holds : Admitted rows → (a b : ℕ) → Decides (holds_in pages a b) (HeldBy rows calls a b)

-- Calls in a row, each of which a book over the rows meets; `pages k` is what it has after k of them.
pub record Chain (rows : List Row) (pages : ℕ → Pages) (calls : List Call) (answers : List Answer) : Type 0 where
  pub long : length answers ≡ length calls
  pub each : (k : ℕ) (call : Call) (answer : Answer) → slice_get calls k ≡ Some call → slice_get answers k ≡ Some answer → Met rows (pages k) call answer (pages (k + 1))

-- From a book that holds no pair, any calls in a row keep the law; and calls in a row after a run go on with it.
pub record ChainsKeepTheLaw : Type 0 where
  pub fresh : (rows : List Row) (pages : ℕ → Pages) (calls : List Call) (answers : List Answer) → ((a b : ℕ) → holds_in (pages 0) a b ≡ false) → Chain rows pages calls answers → Run rows (pages (length calls)) calls answers
  pub going_on : (rows : List Row) (pages : ℕ → Pages) (earlier calls : List Call) (before answers : List Answer) → Run rows (pages 0) earlier before → Chain rows pages calls answers →
      Run rows (pages (length calls)) (earlier ++ calls) (before ++ answers)
