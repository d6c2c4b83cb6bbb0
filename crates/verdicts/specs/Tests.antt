-- The tests by which the rules are decided, row against row. Assumes nothing.
use Rattle.std.specs.Prelude.{ℕ, Bool, true, false, not, ◌&&◌, ◌||◌, Some, None, Option, ◌==◌, bit_and}
use Rattle.forms.specs.declared.Row.{Row}
use Rattle.forms.specs.declared.Row.TheVariants.{Void, Nothing, Channel, Element, Union}
use Rattle.forms.specs.declared.Capability.{Capability}
use Rattle.forms.specs.declared.Capability.TheVariants.{In, Out, Both}
use Rattle.schema.specs.Rules.{Relation}

-- the second capability is at least the first, and the payloads compare as it asks: forward, backward, or both ways
abbrev pub capable : Capability → Capability → Bool → Bool → Bool
capable In In forward backward = forward
capable In Out forward backward = false
capable In Both forward backward = false
capable Out In forward backward = false
capable Out Out forward backward = backward
capable Out Both forward backward = false
capable Both In forward backward = forward
capable Both Out forward backward = backward
capable Both Both forward backward = forward && backward

-- a row takes the channel with that capability and payload
abbrev pub takes : Relation → Capability → ℕ → Option Row → Bool
takes R k s None = false
takes R k s (Some Void) = false
takes R k s (Some Nothing) = false
takes R k s (Some (Channel k' t)) = capable k k' (R s t) (R t s)
takes R k s (Some (Element l i n)) = false
takes R k s (Some (Union l r)) = false

-- two label sets have a label in common
abbrev pub meeting : ℕ → ℕ → Bool
meeting a b = not (bit_and a b == 0)

-- where an element row shares a label with that one, its parts are above
abbrev pub agrees_at : Relation → ℕ → ℕ → ℕ → Option Row → Bool
agrees_at R l i n None = true
agrees_at R l i n (Some Void) = true
agrees_at R l i n (Some Nothing) = true
agrees_at R l i n (Some (Channel k s)) = true
agrees_at R l i n (Some (Element l' i' n')) = not (meeting l l') || (R i i' && R n n')
agrees_at R l i n (Some (Union l' r)) = true

abbrev pub agrees : Relation → Option Row → Option Row → Bool
agrees R None other = true
agrees R (Some Void) other = true
agrees R (Some Nothing) other = true
agrees R (Some (Channel k s)) other = true
agrees R (Some (Element l i n)) other = agrees_at R l i n other
agrees R (Some (Union l r)) other = true
