-- What single layers of a comparison find. Assumes nothing.
use Rattle.std.specs.Prelude.{ℕ, ◌<◌, ◌≤◌, List}
use Rattle.forms.specs.declared.Row.{Row}
use Rattle.relation.specs.Admission.{Admitted}
use Rattle.verdicts.specs.Pairs.{InTable}
use Rattle.book.specs.Answers.{IsVerdict}
use Rattle.book.specs.Ledgers.{Pages, HoldsIn}
use Rattle.book.specs.declared.types.Verdict.TheVariants.{No}
use Rattle.compare.specs.declared.faults.Side.{Side}
use Rattle.compare.specs.declared.faults.Side.TheVariants.{Ours, Theirs}

-- of tables with n and m rows, p is no row of ours, or else q is none of theirs
abbrev pub OutsideOf : ℕ → ℕ → ℕ → ℕ → Side → Type 0
OutsideOf n m p q Ours = n ≤ p
OutsideOf n m p q Theirs = (p < n) × (m ≤ q)

-- a book with these pages over admitted rows holds a pair of them, and its verdict is no
pub record HeldNo (rows : List Row) (pages : Pages) (p q : ℕ) : Type 0 where
  pub admitted : Admitted rows
  pub within : InTable rows p q
  pub held : HoldsIn pages p q
  pub verdict : IsVerdict rows p q No
