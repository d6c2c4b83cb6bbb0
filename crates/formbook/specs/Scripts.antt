-- Which lines of a script are calls, what its calls are, and what is told of them. Assumes nothing.
use Rattle.std.specs.Prelude.{◌≡◌, ℕ, ◌<◌, Bool, not, ◌&&◌, ◌==◌, List, [], ◌∷◌, ◌++◌, length, map, filter, nat_eq, codes}
use Rattle.std.specs.List.{AllZip, enumerate_from, starts_with}
use Rattle.std.specs.Str.{trim}
use Rattle.std.specs.Str.Lines.{lines}
use Rattle.forms.specs.declared.Row.{Row}
use Rattle.book.specs.Calls.{Call as BookCall}
use Rattle.book.specs.Runs.{Law}
use Rattle.replay.specs.Exchanges.{call_of, answer_of}
use Rattle.replay.specs.declared.exchange.Call.{Call}
use Rattle.formbook.specs.Spelling.{LineSpells, SpellsNone}
use Rattle.formbook.specs.declared.replaying.Line.{Line}
use Rattle.formbook.specs.declared.replaying.Mistake.{Mistake}
use Rattle.formbook.specs.declared.replaying.Played.{Played}
use Rattle.formbook.specs.declared.replaying.Unplayed.{Unplayed}
use Rattle.formbook.specs.declared.replaying.Unplayed.TheVariants.{Mistakes, NoMemory}

-- A line is a call unless, without the white space around it, it is empty or begins with #.
abbrev pub is_call_line : List ℕ → Bool
is_call_line line = not (length line == 0) && not (starts_with nat_eq line (codes "#"))

-- the lines of a script that are calls, in their order: each with its number, from 0, and without the white space around it
abbrev pub call_lines : List ℕ → List (ℕ × List ℕ)
call_lines script = filter (λ line. is_call_line line.1) (map (λ line. (line.0, trim line.1)) (enumerate_from 0 (lines script)))

-- Each line spells the call at its place, and there are as many calls as lines.
abbrev pub LinesSpell : ℕ → List Line → List Call → Type 0
LinesSpell n = AllZip (λ (line : Line) call. LineSpells n line.text.now (call_of call))

-- These are the mistakes of the lines, in their order: none spells a call, or memory ran out over it. Each other line spells a call.
pub data AreMistakes (n : ℕ) : List Line → List Mistake → Type 0 where
  none : AreMistakes n [] []
  spells : {lines : List Line} {mistakes : List Mistake} (line : Line) (call : BookCall) → AreMistakes n lines mistakes → LineSpells n line.text.now call → AreMistakes n (lines ++ (line ∷ [])) mistakes
  mistaken : {lines : List Line} {mistakes : List Mistake} (m : Mistake) → AreMistakes n lines mistakes → SpellsNone n m.line.text.now m.unread → AreMistakes n (lines ++ (m.line ∷ [])) (mistakes ++ (m ∷ []))

-- why a script was not performed
abbrev pub Hinders : ℕ → List Line → Unplayed → Type 0
Hinders n lines (Mistakes v) = (0 < length v.items) × AreMistakes n lines v.items
Hinders n lines NoMemory = Unit {0}

-- The answers are those of a book over the rows, from its making on, to calls that the lines spell; there are as many as lines.
pub record IsRun (rows : List Row) (lines : List Line) (played : Played) : Type 0 where
  pub long : length played.answers.items ≡ length lines
  pub answered : (calls : List Call) × LinesSpell (length rows) lines calls × Law rows (map call_of calls) (map answer_of played.answers.items)
