-- What a prepared table tells of its rows: the labels that one gives, and whether a channel is taken. Assumes nothing.
use Rattle.std.specs.Prelude.{◌≡◌, ℕ, true, List, Some}
use Rattle.std.specs.List.{slice_get}
use Rattle.forms.specs.Rows.{belongs}
use Rattle.forms.specs.declared.Capability.{Capability}
use Rattle.forms.specs.declared.Row.{Row}
use Rattle.forms.specs.declared.Row.TheVariants.{Channel}
use Rattle.schema.specs.Rules.{OffersChannel, OffersElement, ◌⊑◌, Relation, Payloads}

-- if row c is a channel row, q offers a channel row that it is below within R
abbrev pub ChannelTaken : List Row → Relation → ℕ → ℕ → Type 0
ChannelTaken rows R c q = (k : Capability) (s : ℕ) → slice_get rows c ≡ Some (Channel k s) → (k' : Capability) × (t : ℕ) × OffersChannel rows q k' t × (k ⊑ k') × Payloads R k' s t

-- p offers an inhabited element row that has label x
abbrev pub LabelledBy : List Row → ℕ → ℕ → Type 0
LabelledBy rows p x = (l i n : ℕ) × OffersElement rows p l i n × (belongs x l ≡ true)
