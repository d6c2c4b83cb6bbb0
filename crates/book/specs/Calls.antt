-- The calls on a book and their answers, with what the caller's buffers hold before and after. Assumes nothing.
use Rattle.std.specs.Prelude.{◌≡◌, ℕ, Bool, List, Option}
use Rattle.forms.specs.Refusals.{Refusal, Outcome}
use Rattle.forms.specs.Refusals.Outcome.{refuses}
use Rattle.documents.specs.declared.nodes.Node.{Node}
use Rattle.book.specs.declared.types.Verdict.{Verdict}

pub data Call : Type 0 where
  -- is the first row below the second?
  ask : ℕ → ℕ → Call
  -- here is a relation
  offer : List ℕ → Call
  -- what is held of this pair?
  look_up : ℕ → ℕ → Call
  -- how many pairs are held?
  held : Call
  -- the pairs held as yes, into a buffer
  hands_out : List ℕ → Call
  -- an order that fits the first row and not the second, into a buffer
  show : ℕ → ℕ → List Node → Call
  -- nodes, a root, a row, and marks: which node fits which row?
  fit : List Node → ℕ → ℕ → List ℕ → Call
  -- hold no pair
  clear : Call

pub data Answer : Type 0 where
  -- the verdict and the number of new pairs
  asked : Outcome (Verdict × ℕ) → Answer
  -- the number of new pairs
  offered : Outcome ℕ → Answer
  looked_up : Outcome (Option Verdict) → Answer
  counted : Outcome ℕ → Answer
  -- the number of pairs, and the buffer
  handed_out : Outcome ℕ → List ℕ → Answer
  -- the number of nodes, and the buffer
  shown : Outcome ℕ → List Node → Answer
  -- whether the root fits, the number of new pairs, and the marks
  fitted : Outcome (Bool × ℕ) → List ℕ → Answer
  cleared : Outcome (Unit {0}) → Answer

-- the answer is that refusal
abbrev pub Refuses : Answer → Refusal → Type 0
Refuses (asked o) e = o ≡ refuses e
Refuses (offered o) e = o ≡ refuses e
Refuses (looked_up o) e = o ≡ refuses e
Refuses (counted o) e = o ≡ refuses e
Refuses (handed_out o after) e = o ≡ refuses e
Refuses (shown o after) e = o ≡ refuses e
Refuses (fitted o after) e = o ≡ refuses e
Refuses (cleared o) e = o ≡ refuses e
