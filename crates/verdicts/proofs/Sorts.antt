-- That the tests of a row's sort tell it. Assumes nothing.
use Rattle.std.specs.Prelude.{◌≡◌, ℕ, true, false, List, Some, None, Decides, Option, refl}
use Rattle.std.specs.List.{slice_get}
use Rattle.std.proofs.lemmas.Bool.{both_ways}
use Rattle.forms.proofs.Findings.{never}
use Rattle.forms.specs.declared.Capability.{Capability}
use Rattle.forms.specs.declared.Row.{Row}
use Rattle.forms.specs.declared.Row.TheVariants.{Void, Nothing, Channel, Element, Union}
use Rattle.verdicts.specs.Kinds.{void_row, channel_row, element_row}
use Rattle.forms.specs.Schema.{IsChannel}
use Rattle.verdicts.specs.Ready.{IsVoid, IsElement}

yes : {P : Type 0} → P → Decides true P
yes p = (λ h. p, λ q. refl)

no : {P : Type 0} → (P → ⊥) → Decides false P
no np = (λ h. absurd (both_ways false refl h), λ p. absurd (np p))

-- each test tells of a row, or of none, whether it is of its sort
sorts : (r : Option Row) → Decides (void_row r) (r ≡ Some Void) × Decides (channel_row r) ((k : Capability) × (s : ℕ) × (r ≡ Some (Channel k s))) × Decides (element_row r) ((l i n : ℕ) × (r ≡ Some (Element l i n)))
sorts None = (no (λ e. never (cc)), no (λ (k, s, e). never (cc)), no (λ (l, i, n, e). never (cc)))
sorts (Some Void) = (yes refl, no (λ (k, s, e). never (cc)), no (λ (l, i, n, e). never (cc)))
sorts (Some Nothing) = (no (λ e. never (cc)), no (λ (k, s, e). never (cc)), no (λ (l, i, n, e). never (cc)))
sorts (Some (Channel c t)) = (no (λ e. never (cc)), yes (c, t, refl), no (λ (l, i, n, e). never (cc)))
sorts (Some (Element x a b)) = (no (λ e. never (cc)), no (λ (k, s, e). never (cc)), yes (x, a, b, refl))
sorts (Some (Union a b)) = (no (λ e. never (cc)), no (λ (k, s, e). never (cc)), no (λ (l, i, n, e). never (cc)))

module _ (rows : List Row) (o : ℕ) where
  pub void_tells : Decides (void_row (slice_get rows o)) (IsVoid rows o)
  void_tells = (sorts (slice_get rows o)).0

  pub channel_tells : Decides (channel_row (slice_get rows o)) (IsChannel rows o)
  channel_tells = (sorts (slice_get rows o)).1

  pub element_tells : Decides (element_row (slice_get rows o)) (IsElement rows o)
  element_tells = (sorts (slice_get rows o)).2
