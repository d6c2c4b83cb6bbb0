-- What an open book keeps can be had from its ghost field, since all of it can be decided. Assumes nothing.
use Rattle.std.proofs.Common.{arith, ◌≡◌, ℕ, Bool, true, false, ◌⊎◌, List, length, inl, inr, ⊎_elim}
use Rattle.std.proofs.lemmas.Bool.{cases_Bool, cases_eq}
use Rattle.sets.specs.Sets.{member}
use Rattle.schema.specs.Rules.{Bounded, Determined, Below, Keeps}
use Rattle.forms.specs.declared.Row.{Row}
use Rattle.schema.specs.Rules.{Relation}
use Rattle.forms.proofs.Findings.{decided}
use Rattle.schema.proofs.Findings.{holds_or_not}
use Rattle.schema.proofs.Kept.{not_both, keeps_or_fails}
use Rattle.schema.proofs.Order.{below_decides}
use Rattle.verdicts.specs.Facts.{known, decides_known, bounded_of, determined_of}
use Rattle.verdicts.specs.Pairs.{related}
use Rattle.verdicts.proofs.Deciding.{between_parts}
use Rattle.book.specs.Keeping.{PairSet, Kept}
use Rattle.book.specs.Ledgers.{ledger_rows}
use Rattle.book.specs.declared.ledger.Ledger.{Ledger}

false_or_not : (b : Bool) → (b ≡ false) ⊎ (b ≡ false → ⊥)
false_or_not b = grind (arith, cases_Bool b)

keeps_or_not : (rows : List Row) → Bounded rows → (R : Relation) (a b : ℕ) → Keeps rows R a b ⊎ (Keeps rows R a b → ⊥)
keeps_or_not rows bounded R a b = ⊎_elim (λ fails. inr (λ keeps. not_both keeps fails)) inl (keeps_or_fails rows bounded R a b)

pub below_or_not : (rows : List Row) → Bounded rows → (words : List ℕ) (a b : ℕ) → related (length rows) words a b ≡ true → Below rows a b ⊎ (Below rows a b → ⊥)
below_or_not rows bounded words a b h =
    let (a<, b<, _) = between_parts (length rows) (member words) a b h in decided _ (below_decides rows bounded a b a< b<)

module _ (l : Ledger) where
  abbrev rows : List Row
  rows = ledger_rows l

  pub bounded : Bounded (ledger_rows l)
  bounded = bounded_of l.prepared

  pub determined : Determined (ledger_rows l)
  determined = determined_of l.prepared

  abbrev All : Type 0
  All = Kept rows l.held l.yes l.settled

  set_of : (words : List ℕ) → (All → PairSet (length rows) words) → PairSet (length rows) words
  set_of words get = record { room = known (cases_eq _ _) l.kept (λ k. (get k).room); clear = λ k h. known (false_or_not (member words k)) l.kept (λ all. (get all).clear k h) }

  pub kept_of : Kept (ledger_rows l) l.held l.yes l.settled
  kept_of = record {
    held_set = set_of l.held (λ k. k.held_set);
    yes_set = set_of l.yes (λ k. k.yes_set);
    settled_set = set_of l.settled (λ k. k.settled_set);
    yes_held = λ a b h. known (holds_or_not _) l.kept (λ k. k.yes_held a b h);
    tells = λ a b h. decides_known _ (below_or_not rows bounded l.held a b h) l.kept (λ k. k.tells a b h);
    closed = λ a b h. known (keeps_or_not rows bounded (related (length rows) l.yes) a b) l.kept (λ k. k.closed a b h);
    settled_held = λ a b h. known (holds_or_not _) l.kept (λ k. k.settled_held a b h);
    confined = λ a b c d h named. known (holds_or_not _) l.kept (λ k. k.confined a b c d h named);
  }
