-- A scan of document text, byte by byte: what may come next. Assumes nothing.
use Rattle.std.specs.Prelude.{ℕ, zero, suc, ◌+◌, ◌-◌, ◌*◌, Bool, true, false, cond, ◌&&◌, Some, None, Option, ◌==◌, nat_le, nat_lt}
use Rattle.forms.specs.Limits.{max_rows, label_count}
use Rattle.documents.specs.declared.scan.Phase.{Phase}
use Rattle.documents.specs.declared.scan.Scan.{Scan}
use Rattle.documents.specs.declared.scan.Phase.TheVariants.{MayBegin as may_begin, MustBegin as must_begin, InLabel as in_label, AfterAt as after_at, InRow as in_row, AfterElement as after_element}

-- so many brackets are open, and the scan is there in a list
abbrev pub at : ℕ → Phase → Scan
at n p = record { level = n; phase = p }

-- After some bytes: where the scan is, or none, where no text goes on so.
abbrev pub State : Type 0
State = Option Scan

-- the list may end here
abbrev pub may_end : Phase → Bool
may_end may_begin = true
may_end must_begin = false
may_end (in_label v) = false
may_end after_at = false
may_end (in_row v) = true
may_end after_element = true

abbrev pub is_digit : ℕ → Bool
is_digit b = nat_le 48 b && nat_le b 57

-- a digit may follow the digits that make v: they are not 0, and the number stays below the limit
abbrev pub may_follow : ℕ → ℕ → ℕ → Bool
may_follow limit v b = is_digit b && (nat_le 1 v && nat_lt (v * 10 + (b - 48)) limit)

-- a bracket is closed
abbrev pub closed : ℕ → State
closed zero = None
closed (suc n) = Some (at n after_element)

-- an item begins
abbrev pub begun : ℕ → ℕ → State
begun n b = cond (is_digit b) (Some (at n (in_label (b - 48)))) (cond (b == 64) (Some (at n after_at)) None)

-- a byte other than ]
abbrev pub moved : ℕ → Phase → ℕ → State
moved n may_begin b = begun n b
moved n must_begin b = begun n b
moved n (in_label v) b = cond (b == 91) (Some (at (suc n) may_begin)) (cond (may_follow label_count v b) (Some (at n (in_label (v * 10 + (b - 48))))) None)
moved n after_at b = cond (is_digit b) (Some (at n (in_row (b - 48)))) None
moved n (in_row v) b = cond (may_follow max_rows v b) (Some (at n (in_row (v * 10 + (b - 48))))) None
moved n after_element b = cond (b == 44) (Some (at n must_begin)) None

abbrev pub step : State → ℕ → State
step None b = None
step (Some s) b = cond (b == 93) (cond (may_end s.phase) (closed s.level) None) (moved s.level s.phase b)

-- the text may end here, with so many brackets open
abbrev pub ends_at : ℕ → Phase → Bool
ends_at zero p = may_end p
ends_at (suc n) p = false

abbrev pub is_whole : State → Bool
is_whole (Some s) = ends_at s.level s.phase
is_whole None = false
