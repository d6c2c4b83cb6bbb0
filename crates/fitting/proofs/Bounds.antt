-- A label set as a set of numbers. Assumes nothing.
use Rattle.std.proofs.Common.{◌≡◌, ℕ, ◌^◌, ◌<◌, [], ◌∷◌, sym, ◌∙◌, ⊎_elim, arith}
use Rattle.std.proofs.lemmas.Bool.{cases_Bool, cases_lt}
use Rattle.sets.specs.Sets.{member}
use Rattle.sets.proofs.Membership.{member_at, member_past}
use Rattle.forms.specs.Limits.{label_count}
use Rattle.forms.specs.Rows.{belongs}
use Rattle.schema.proofs.Offered.{label_below}

-- a label set is a set of one word
pub one_word : (labels label : ℕ) → labels < 2 ^ label_count → member (labels ∷ []) label ≡ belongs label labels
one_word labels label fit = ⊎_elim
    (λ low. member_at (labels ∷ []) 0 label label low (omega arith) (omega arith))
    (λ past. member_past (labels ∷ []) label (omega arith) ∙ ⊎_elim (λ on. absurd (let low = label_below label labels fit on in omega arith)) sym (cases_Bool (belongs label labels)))
    (cases_lt label label_count)
