-- A table of nodes can be fitted, or has exactly one fault. Assumes nothing.
use Rattle.std.proofs.Common.{◌≡◌, ℕ, ◌*◌, ◌⊎◌, List, length, refl, ap, inl, inr, ⊎_elim, arith}
use Rattle.std.proofs.lemmas.Bool.{cases_lt, cases_eq, cases_Bool, both_ways}
use Rattle.std.specs.List.{slice_get}
use Rattle.forms.specs.Limits.{label_count}
use Rattle.forms.specs.Places.{Lowest}
use Rattle.forms.specs.Refusals.{Refusal}
use Rattle.forms.specs.Schema.{IsChannel}
use Rattle.forms.specs.declared.Row.{Row}
use Rattle.forms.proofs.Findings.{Decided, both_or_not, below_or_not, lowest_one, faulty}
use Rattle.documents.specs.Limits.{max_nodes}
use Rattle.documents.specs.Nodes.{SoundWith, SoundOver}
use Rattle.documents.specs.declared.nodes.Node.{Node}
use Rattle.documents.specs.declared.nodes.Node.TheVariants.{Void, Reference, Element}
use Rattle.verdicts.specs.Kinds.{channel_row}
use Rattle.verdicts.proofs.Sorts.{channel_tells}
use Rattle.fitting.specs.Faults.{fit_refusal}
use Rattle.fitting.specs.Fittable.{row_words, UnsoundOver, Fittable, Unfit, FittableOrOneFault}
use Rattle.fitting.specs.Fittable.Unfit.{no_row, is_many, is_unsound, is_outside, is_unequal}
use Rattle.verdicts.specs.declared.faults.RowFault.TheVariants.{Outside}
use Rattle.fitting.specs.declared.faults.FitFault.TheVariants.{NoRow, ManyNodes, Unsound, RootOutside, MarksLength}

module _ (rows : List Row) where
  channel_or_not : (c : ℕ) → Decided (IsChannel rows c)
  channel_or_not c = ⊎_elim (λ e. inl ((channel_tells rows c).0 e)) (λ e. inr (λ h. both_ways (channel_row (slice_get rows c)) e ((channel_tells rows c).1 h))) (cases_Bool (channel_row (slice_get rows c)))

  sound_or_not : (k : ℕ) (m : Node) → Decided (SoundWith (IsChannel rows) k m)
  sound_or_not k Void = inl tt
  sound_or_not k (Reference c) = channel_or_not c
  sound_or_not k (Element x i f) = ⊎_elim (λ (a, (b, c)). inl (a, b, c)) (λ none. inr (λ (a, b, c). none (a, (b, c)))) (both_or_not (below_or_not x label_count) (both_or_not (below_or_not i k) (below_or_not f k)))

  module _ (nodes : List Node) (root row marks : ℕ) where
    sound_everywhere : SoundOver rows nodes → {k : ℕ} → Lowest (UnsoundOver rows nodes) k → ⊥
    sound_everywhere sound {k} ((m, e, ns), _) = ns (sound.each k e)

    -- an order with a fault cannot be fitted
    pub unfit_not : {e : Refusal} → Unfit rows nodes root row marks e → Fittable rows nodes root row marks → ⊥
    unfit_not (no_row h) f = absurd (omega arith)
    unfit_not (is_many i h) f = absurd (omega arith)
    unfit_not (is_unsound i h low) f = sound_everywhere f.sound low
    unfit_not (is_outside i h s o) f = absurd (omega arith)
    unfit_not (is_unequal i h s w ne) f = ne f.one_each

    -- the first fault that is found is the only one
    same_fault : {e f : Refusal} → Unfit rows nodes root row marks e → Unfit rows nodes root row marks f → f ≡ e
    same_fault (no_row h) (no_row g) = refl
    same_fault (no_row h) (is_many i g) = absurd (omega arith)
    same_fault (no_row h) (is_unsound i g low) = absurd (omega arith)
    same_fault (no_row h) (is_outside i g s o) = absurd (omega arith)
    same_fault (no_row h) (is_unequal i g s w ne) = absurd (omega arith)
    same_fault (is_many i h) (no_row g) = absurd (omega arith)
    same_fault (is_many i h) (is_many j g) = refl
    same_fault (is_many i h) (is_unsound j g low) = absurd (omega arith)
    same_fault (is_many i h) (is_outside j g s o) = absurd (omega arith)
    same_fault (is_many i h) (is_unequal j g s w ne) = absurd (omega arith)
    same_fault (is_unsound i h low) (no_row g) = absurd (omega arith)
    same_fault (is_unsound i h low) (is_many j g) = absurd (omega arith)
    same_fault (is_unsound {k} i h low) (is_unsound {k = j} i' g low') = ap (λ x. fit_refusal (Unsound x)) (lowest_one (UnsoundOver rows nodes) j k low' low)
    same_fault (is_unsound i h low) (is_outside j g s o) = absurd (sound_everywhere s low)
    same_fault (is_unsound i h low) (is_unequal j g s w ne) = absurd (sound_everywhere s low)
    same_fault (is_outside i h s o) (no_row g) = absurd (omega arith)
    same_fault (is_outside i h s o) (is_many j g) = absurd (omega arith)
    same_fault (is_outside i h s o) (is_unsound j g low) = absurd (sound_everywhere s low)
    same_fault (is_outside i h s o) (is_outside j g s' o') = refl
    same_fault (is_outside i h s o) (is_unequal j g s' w ne) = absurd (omega arith)
    same_fault (is_unequal i h s w ne) (no_row g) = absurd (omega arith)
    same_fault (is_unequal i h s w ne) (is_many j g) = absurd (omega arith)
    same_fault (is_unequal i h s w ne) (is_unsound j g low) = absurd (sound_everywhere s low)
    same_fault (is_unequal i h s w ne) (is_outside j g s' o) = absurd (omega arith)
    same_fault (is_unequal i h s w ne) (is_unequal j g s' w' ne') = refl

    judged : Fittable rows nodes root row marks ⊎ ((e : Refusal) × Unfit rows nodes root row marks e)
    judged = ⊎_elim
        (λ within. ⊎_elim
        (λ many. inr (fit_refusal ManyNodes, is_many within many))
        (λ few. ⊎_elim
        (λ (k, lowest). inr (fit_refusal (Unsound k), is_unsound within few lowest))
        (λ all. let sound : SoundOver rows nodes = record { each = λ k {m} e. all k m e } in ⊎_elim
        (λ inside. ⊎_elim
        (λ equal. inl (record { row_within = within; few = few; sound = sound; root_within = inside; one_each = equal }))
        (λ unequal. inr (fit_refusal MarksLength, is_unequal within few sound inside unequal))
        (cases_eq marks (length nodes * row_words)))
        (λ outside. inr (fit_refusal RootOutside, is_outside within few sound outside))
        (cases_lt root (length nodes)))
        (faulty nodes (SoundWith (IsChannel rows)) sound_or_not))
        (cases_lt max_nodes (length nodes)))
        (λ past. inr (fit_refusal (NoRow Outside), no_row past))
        (cases_lt row (length rows))

pub fittable_or_one_fault : FittableOrOneFault
fittable_or_one_fault rows nodes root row marks = ⊎_elim
    (λ f. inl (f, λ e u. unfit_not rows nodes root row marks u f))
    (λ (e, u). inr (unfit_not rows nodes root row marks u, (e, u, λ g v. same_fault rows nodes root row marks u v)))
    (judged rows nodes root row marks)
