-- What a question comes to: its first fault, or what is found in the one table of ours and theirs. Assumes nothing.
use Rattle.std.proofs.Common.{◌≡◌, ℕ, ◌≤◌, true, eqb, List, map, length, is_err, IsErrAnd, Ok, Err, Result, refl, ap, ◌∙◌, arith}
use Rattle.std.proofs.lemmas.List.{length-map}
use Rattle.std.proofs.lemmas.Bool.{cond_both}
use Rattle.forms.specs.Rows.{turn}
use Rattle.forms.specs.declared.Row.{Row}
use Rattle.forms.proofs.Findings.{never}
use Rattle.relation.specs.Admission.{Admitted}
use Rattle.relation.proofs.Sources.{joined_is_admitted, turned_is_admitted}
use Rattle.compare.specs.Comparing.{Found, Refused}
use Rattle.compare.specs.Questions.{Asked}
use Rattle.compare.specs.Layers.{OutsideOf}
use Rattle.compare.specs.Reasons.{Read, Refusable, Comparable, facing, together}
use Rattle.compare.specs.Reasons.Refusable.{our_row, their_row}
use Rattle.compare.specs.Reports.{report}
use Rattle.compare.specs.declared.comparing.Finding.{Finding}
use Rattle.compare.specs.declared.faults.CompareFault.{CompareFault}
use Rattle.compare.specs.declared.faults.CompareFault.TheVariants.{Row as NoRow}
use Rattle.compare.specs.declared.faults.Side.{Side}
use Rattle.compare.specs.declared.faults.Side.TheVariants.{Ours, Theirs}
use Rattle.verdicts.specs.declared.faults.RowFault.TheVariants.{Outside}

-- a fault that is passed up, of the first layer that refuses
pub refused : {x : Asked} {buffer : List ℕ} {r : Result Finding CompareFault} {f e : CompareFault} → (is_err r ≡ true) × IsErrAnd r (λ g. g ≡ f) → f ≡ e → Refusable x e → ((g : CompareFault) → Refusable x g → (report e).layer ≤ (report g).layer) → Refused x buffer buffer r
refused {r = Ok v} (is, _) same h first = never (cc)
refused {r = Err g} {f} {e} (_, by) same h first = (e, record { refused = h; first = first }, ap Err (by ∙ same), refl)

-- theirs that face ours are as many, and admitted if they are
pub length_facing : (t : ℕ) (b : List Row) → length (facing t b) ≡ length b
length_facing t b = cond_both (eqb t 0) b (map turn b) (λ y. length y ≡ length b) (λ _. refl) (λ _. length-map b turn)

pub found_at : {S T : List Row} {p q v w : ℕ} → S ≡ T → p ≡ v → q ≡ w → (before after : List ℕ) (r : Result Finding CompareFault) → Found S p q before after r → Found T v w before after r
found_at table first second before after r h = rw (← table, ← first, ← second) h

pub outside_row : {x : Asked} {a b : List Row} → Read x a b → (n m : ℕ) → n ≡ length a → m ≡ length b → (side : Side) → OutsideOf n m x.p x.q side → Refusable x (NoRow side Outside)
outside_row r n m own other Ours out = our_row r (omega arith)
outside_row r n m own other Theirs (within, out) = their_row r (omega arith) (omega arith)

pub together_admitted : {x : Asked} {a b : List Row} → Comparable x a b → Admitted (together x a b)
together_admitted {x} {a} {b} c =
    joined_is_admitted a (facing x.t b) c.ours_admitted
    (cond_both (eqb x.t 0) b (map turn b) Admitted (λ _. c.theirs_admitted) (λ _. turned_is_admitted b c.theirs_admitted)) (omega (arith, c.few, length_facing x.t b))
