-- Which refusal each fault of admission is. Assumes nothing.
use Rattle.std.specs.Prelude.{ℕ, [], ◌∷◌}
use Rattle.forms.specs.declared.Row.{Row}
use Rattle.forms.specs.declared.Row.TheVariants.{Void, Nothing, Channel, Element, Union}
use Rattle.forms.specs.Refusals.{Refusal}
use Rattle.forms.specs.Refusals.Refusal.{refusal}
use Rattle.relation.specs.declared.AdmissionFault.{AdmissionFault}
use Rattle.relation.specs.declared.AdmissionFault.TheVariants.{NoRows, NumberOutside, LabelTwice}

abbrev pub admission_refusal : AdmissionFault → Refusal
admission_refusal NoRows = refusal 11 []
admission_refusal (NumberOutside p) = refusal 12 (p ∷ [])
admission_refusal (LabelTwice p) = refusal 13 (p ∷ [])

-- the label set of an element row; of another row the empty one
abbrev pub label_set_of : Row → ℕ
label_set_of Void = 0
label_set_of Nothing = 0
label_set_of (Channel k s) = 0
label_set_of (Element l i f) = l
label_set_of (Union l r) = 0
