-- The pairs that the rules name for two rows, as tests, and what is pending after they were noted. Assumes nothing.
use Rattle.std.specs.Prelude.{◌≡◌, ℕ, Bool, true, false, cond, ◌⊎◌, List, [], ◌∷◌, length, Some, None, Option}
use Rattle.std.specs.List.{slice_get}
use Rattle.sets.specs.Sets.{member}
use Rattle.forms.specs.declared.Row.{Row}
use Rattle.forms.specs.declared.Row.TheVariants.{Void, Nothing, Channel, Element, Union}
use Rattle.forms.specs.declared.Capability.{Capability}
use Rattle.forms.specs.declared.Capability.TheVariants.{In, Out, Both}
use Rattle.verdicts.specs.Pairs.{place_of}
use Rattle.verdicts.specs.Ready.{in_row}
use Rattle.verdicts.specs.Tests.{meeting}

abbrev pub Two : Type 0
Two = Option (ℕ × ℕ) × Option (ℕ × ℕ)

abbrev pub neither : Two
neither = (None, None)

-- the two, one after the other
abbrev pub both : Two → List (Option (ℕ × ℕ))
both named = named.0 ∷ named.1 ∷ []

-- the payloads of two channels in the order of capabilities: forward, backward, or both ways
abbrev pub names_of_payloads : Capability → Capability → ℕ → ℕ → Two
names_of_payloads In In s t = (Some (s, t), None)
names_of_payloads In Out s t = neither
names_of_payloads In Both s t = neither
names_of_payloads Out In s t = neither
names_of_payloads Out Out s t = (None, Some (t, s))
names_of_payloads Out Both s t = neither
names_of_payloads Both In s t = (Some (s, t), None)
names_of_payloads Both Out s t = (None, Some (t, s))
names_of_payloads Both Both s t = (Some (s, t), Some (t, s))

abbrev pub names_by_channel : Capability → ℕ → Option Row → Two
names_by_channel k s None = neither
names_by_channel k s (Some Void) = neither
names_by_channel k s (Some Nothing) = neither
names_by_channel k s (Some (Channel k' t)) = names_of_payloads k k' s t
names_by_channel k s (Some (Element l i n)) = neither
names_by_channel k s (Some (Union l r)) = neither

-- the parts of two elements with a common label
abbrev pub names_by_element : ℕ → ℕ → ℕ → Option Row → Two
names_by_element l i n None = neither
names_by_element l i n (Some Void) = neither
names_by_element l i n (Some Nothing) = neither
names_by_element l i n (Some (Channel k s)) = neither
names_by_element l i n (Some (Element l' i' n')) = cond (meeting l l') (Some (i, i'), Some (n, n')) neither
names_by_element l i n (Some (Union l' r)) = neither

abbrev pub named_by : Option Row → Option Row → Two
named_by None other = neither
named_by (Some Void) other = neither
named_by (Some Nothing) other = neither
named_by (Some (Channel k s)) other = names_by_channel k s other
named_by (Some (Element l i n)) other = names_by_element l i n other
named_by (Some (Union l r)) other = neither

-- the rules name the pair at place k for two rows
abbrev pub NamedAt : ℕ → Option Row → Option Row → ℕ → Type 0
NamedAt n c d k = (place_of n (named_by c d).0 ≡ Some k) ⊎ (place_of n (named_by c d).1 ≡ Some k)

-- the rules name the pair at place k for one of the rows in a set and one of those in another
abbrev pub NamedAmong : List Row → (ℕ → Bool) → (ℕ → Bool) → ℕ → Type 0
NamedAmong rows f g k = (c d : ℕ) × (f c ≡ true) × (g d ≡ true) × NamedAt (length rows) (slice_get rows c) (slice_get rows d) k

-- the rules name the pair at place k for row c and one of the rows in the set of row q
abbrev pub NamedWith : List Row → List ℕ → ℕ → ℕ → ℕ → Type 0
NamedWith rows cells c q k = (d : ℕ) × (in_row cells q d ≡ true) × NamedAt (length rows) (slice_get rows c) (slice_get rows d) k

-- of the rows c and q that met has, the pairs that are named are done or pending
abbrev pub Noted : List Row → List ℕ → List ℕ → List ℕ → List ℕ → Type 0
Noted rows cells met done pending = (c q k : ℕ) → in_row met c q ≡ true → NamedWith rows cells c q k → (member done k ≡ true) ⊎ (member pending k ≡ true)

-- the places that P names are pending now, but for those that are done
pub record Pended (P : ℕ → Type 0) (done old new : List ℕ) : Type 0 where
  pub more : (k : ℕ) → member old k ≡ true → member new k ≡ true
  pub from : (k : ℕ) → member new k ≡ true → (member old k ≡ true) ⊎ (P k × (member done k ≡ false))
  pub has : (k : ℕ) → P k → (member done k ≡ true) ⊎ (member new k ≡ true)
