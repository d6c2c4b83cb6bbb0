-- What the tests of the rules tell. Assumes nothing.
use Rattle.std.proofs.Common.{◌≡◌, ℕ, Bool, true, eqb, Decides, sym, ap, ◌∙◌, ⊎_elim}
use lib.Bits.{bit_or}
use Rattle.std.proofs.lemmas.Bool.{both_ways, cases_Bool, eqb-true, eqb-false, or_right}
use Rattle.std.proofs.lemmas.Bool.Decides.{same_from_decides}
use Rattle.sets.specs.Sets.{bit}
use Rattle.sets.proofs.Words.{bit_of_or}
use Rattle.sets.proofs.Wider.{gained}
use Rattle.forms.specs.Rows.{belongs}
use Rattle.relation.proofs.Labels.{meets_decides}
use Rattle.verdicts.specs.Tests.{meeting}

pub meets_is : (a b : ℕ) (r : Bool) → Decides r ((x : ℕ) × (belongs x a ≡ true) × (belongs x b ≡ true)) → r ≡ meeting a b
meets_is a b r d = same_from_decides r (meeting a b) d (meets_decides a b)

pub covers_decides : (all some : ℕ) → Decides (eqb (bit_or all some) all) ((x : ℕ) → belongs x some ≡ true → belongs x all ≡ true)
covers_decides all some = (
  λ e x b. ap (λ w. bit w x) (sym (eqb-true (bit_or all some) all e)) ∙ bit_of_or all some x ∙ or_right (bit all x) (bit some x) b,
  λ within. ⊎_elim (λ e. e) (λ ne. let (x, off, on) = gained all some (λ same. eqb-false (bit_or all some) all ne (sym same)) in absurd (both_ways (bit all x) off (within x on))) (cases_Bool (eqb (bit_or all some) all)),
)
