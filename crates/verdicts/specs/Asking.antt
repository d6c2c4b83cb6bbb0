-- The rule of the pairs of rows that keep the rules within a set, and that it is lawful. Assumes nothing.
use Rattle.std.specs.Prelude.{ℕ, ◌+◌, ◌*◌, ◌/◌, ◌%◌, Bool, not, ◌&&◌, ◌||◌, List, length, Decides, nat_lt}
use Rattle.std.proofs.Math.Logic.{⊎_elim}
use Rattle.std.proofs.lemmas.Bool.{cases_Bool, and_parts, and_from, or_cases, or_left, or_right}
use Rattle.forms.specs.declared.Row.{Row}
use Rattle.narrowing.specs.Narrowing.{Within, Lawful}
use Rattle.schema.specs.Rules.{Bounded, Relation, Keeps}
use Rattle.schema.specs.Theorems.{Part}
use Rattle.schema.proofs.Findings.{told, told_true, told_false}
use Rattle.schema.proofs.Kept.{not_both, keeps_or_fails}
use Rattle.schema.proofs.Order.{keeps_more}
use Rattle.verdicts.specs.Pairs.{between}

pub between_more : (n : ℕ) (S T : ℕ → Bool) → Within S T → Part (between n S) (between n T)
between_more n S T within p q h =
    let (a, more) = and_parts (nat_lt p n) (nat_lt q n && S (p * n + q)) h in
    let (b, c) = and_parts (nat_lt q n) (S (p * n + q)) more in
    and_from (nat_lt p n) (nat_lt q n && T (p * n + q)) a (and_from (nat_lt q n) (T (p * n + q)) b (within (p * n + q) c))

module _ (rows : List Row) (bounded : Bounded rows) where
  -- the pair keeps the rules within R
  unfoldable pub kept : Relation → ℕ → ℕ → Bool
  kept R p q = told (keeps_or_fails rows bounded R p q)

  pub kept_decides : (R : Relation) (p q : ℕ) → Decides (kept R p q) (Keeps rows R p q)
  unfolding kept
  kept_decides R p q = (told_true (keeps_or_fails rows bounded R p q), λ keeps. ⊎_elim (λ e. e) (λ ne. absurd (not_both keeps (told_false (keeps_or_fails rows bounded R p q) ne))) (cases_Bool (told (keeps_or_fails rows bounded R p q))))

  -- yes to the pairs that keep the rules within the set, and to the places that are no pair's
  abbrev pub asks : (ℕ → Bool) → ℕ → Bool
  asks S k = not (nat_lt k (length rows * length rows)) || kept (between (length rows) S) (k / length rows) (k % length rows)

  pub asks_lawful : Lawful asks
  asks_lawful S T within k h = ⊎_elim
      (or_left (not (nat_lt k (length rows * length rows))) (kept (between (length rows) T) (k / length rows) (k % length rows)))
      (λ yes. or_right (not (nat_lt k (length rows * length rows))) (kept (between (length rows) T) (k / length rows) (k % length rows))
      ((kept_decides (between (length rows) T) (k / length rows) (k % length rows)).1 (keeps_more (between_more (length rows) S T within) ((kept_decides (between (length rows) S) (k / length rows) (k % length rows)).0 yes))))
      (or_cases (not (nat_lt k (length rows * length rows))) (kept (between (length rows) S) (k / length rows) (k % length rows)) h)
