-- Two elements with one label and different insides: their union is not below itself.
use Rattle.forms.proofs.Findings.{never}
use Rattle.std.proofs.Common.{List, [], ◌∷◌, refl, arith}
use Rattle.forms.specs.Rows.{NumbersBelow, Labelled}
use Rattle.forms.specs.declared.Row.{Row}
use Rattle.forms.specs.declared.Row.TheVariants.{Void, Channel, Element, Union}
use Rattle.forms.specs.declared.Capability.TheVariants.{In}
use Rattle.schema.specs.Rules.{OffersElement, Below}
use Rattle.forms.specs.Schema.Offers.{itself, left, right}
use Rattle.forms.specs.Schema.Inhabited.{of_void, of_channel, of_element}
use Rattle.schema.specs.Theorems.{ReflexiveNeedsDetermined}
use Rattle.schema.proofs.Offered.{nth_all}
use Rattle.schema.proofs.Inclusion.{channel_alone}

abbrev table : List Row
table = Void ∷ Channel In 0 ∷ Element 1 0 0 ∷ Element 1 1 0 ∷ Union 2 3 ∷ []

one_inside : OffersElement table 4 1 0 0
one_inside = record { number = 2; offered = left refl (itself refl tt); is = refl; inhabited = of_element 0 refl refl (of_void refl) (of_void refl) }

other_inside : OffersElement table 4 1 1 0
other_inside = record { number = 3; offered = right refl (itself refl tt); is = refl; inhabited = of_element 0 refl refl (of_channel refl) (of_void refl) }

not_below_itself : Below table 4 4 → ⊥
not_below_itself (R, closed, h) =
    let both = (closed 4 4 h).agrees one_inside other_inside 0 refl refl in
    let (v, u, is) = (closed 0 1 both.0).voids (0, itself refl tt, refl) in
    let alone = channel_alone table {c = 1} {k = In} {s = 0} refl u in
    never (cc)

pub reflexive_needs_determined : ReflexiveNeedsDetermined
reflexive_needs_determined = (table, record { inside = λ p {row} e. nth_all (λ r. NumbersBelow 5 r × Labelled r) table (omega arith) p e }, 4, omega arith, not_below_itself)
