use Rattle.std.proofs.Common.{◌≡◌, ◌+◌, ◌<◌, ◌≤◌, length, sym, ap, ap₂, ◌∙◌, subst, inl, inr, arith}
use Rattle.forms.specs.Limits.{max_rows}
use Rattle.forms.specs.Rows.{joined}
use Rattle.relation.specs.Admission.{Admitted}
use Rattle.texts.specs.Calls.{text_rows}
use Rattle.compare.specs.Facing.{faced}
use Rattle.compare.specs.Questions.{asked}
use Rattle.compare.specs.Reasons.{Read, Comparable, together}
use Rattle.compare.specs.Reasons.Refusable.{our_text, their_text, our_table, their_table, too_many}
use Rattle.compare.specs.declared.faults.CompareFault.TheVariants.{Text, Admission, Joining, Row as NoRow}
use Rattle.compare.proofs.Reasons.{from_first, not_first, not_second, not_third, not_fourth, not_fifth}
use Rattle.compare.proofs.Settling.{refused, found_at, length_facing, outside_row, together_admitted}
use Rattle.compare.proofs.comparing.compared.Goals as goal
use Rattle.compare.proofs.comparing.compared.Goals.{In_ok-joined}

pub returns-in_err-ours : goal.returns-in_err-ours
returns-in_err-ours c =
    let (side, j) = c.in_err-ours.ensures in
    inl (refused c.from_residual.ensures (ap (λ s. Text s c.in_err-ours.field-0.0.fault) side) (our_text j) (λ _ h. from_first h))

pub returns-in_err-theirs : goal.returns-in_err-theirs
returns-in_err-theirs c =
    let (side, j) = c.in_err-theirs.ensures in
    inl (refused c.from_residual-in_err-theirs.ensures (ap (λ s. Text s c.in_err-theirs.field-0.0.fault) side) (their_text j)
    (λ _ h. omega (arith, from_first h, not_first c.in_ok-ours.ensures h)))

pub returns-in_err-admitted : goal.returns-in_err-admitted
returns-in_err-admitted c =
    let (side, found) = c.in_err-admitted.ensures in
    inl (refused c.from_residual-in_err-admitted.ensures (ap (λ s. Admission s c.in_err-admitted.field-0.0.fault) side) (our_table c.in_ok-ours.ensures found)
    (λ _ h. omega (arith, from_first h, not_first c.in_ok-ours.ensures h, not_second c.in_ok-theirs.ensures h)))

pub returns-in_err-admitted-2 : goal.returns-in_err-admitted-2
returns-in_err-admitted-2 c =
    let (side, found) = c.in_err-admitted-2.ensures in
    let ours = c.in_ok-ours.ensures in
    inl (refused c.from_residual-in_err-admitted-2.ensures (ap (λ s. Admission s c.in_err-admitted-2.field-0.0.fault) side) (their_table c.in_ok-theirs.ensures found)
    (λ _ h. omega (arith, from_first h, not_first ours h, not_second c.in_ok-theirs.ensures h, not_third ours c.in_ok-admitted.ensures h)))

pub returns-in_err-joined : goal.returns-in_err-joined
returns-in_err-joined c =
    let (which, many) = c.in_err-joined.ensures in
    let ours = c.in_ok-ours.ensures in
    let theirs = c.in_ok-theirs.ensures in
    inl (refused c.from_residual-in_err-joined.ensures (ap Joining which)
    (too_many (record { ours_read = ours; theirs_read = theirs }) (omega (arith, ap (λ y. length y) c.of.ensures, length_facing c.args.question.t (text_rows c.in_ok-theirs.theirs))))
    (λ _ h. omega (arith, from_first h, not_first ours h, not_second theirs h, not_third ours c.in_ok-admitted.ensures h, not_fourth theirs c.in_ok-admitted-2.ensures h)))

read_both : (c : In_ok-joined) → Read (asked c.args.question) (text_rows c.in_ok-ours.ours) (text_rows c.in_ok-theirs.theirs)
read_both c = record { ours_read = c.in_ok-ours.ensures; theirs_read = c.in_ok-theirs.ensures }

lengths : (c : In_ok-joined) →
    (length (text_rows c.in_ok-joined.joined.first) ≡ length (text_rows c.in_ok-ours.ours))
    × (length (faced c.in_ok-joined.joined.second) ≡ length (text_rows c.in_ok-theirs.theirs))
    × (length (text_rows c.in_ok-ours.ours) + length (text_rows c.in_ok-theirs.theirs) ≤ max_rows)
lengths c =
    let (first, second, few) = c.in_ok-joined.ensures in
    let faces = ap (λ s. length (faced s)) second ∙ ap (λ y. length y) c.of.ensures ∙ length_facing c.args.question.t (text_rows c.in_ok-theirs.theirs) in
    (ap (λ s. length (text_rows s)) first, faces, omega (arith, ap (λ s. length (faced s)) second))

pub returns-in_err-pair : goal.returns-in_err-pair
returns-in_err-pair c =
    let j = (goal.at.returns-in_err-pair c).In_ok-joined in
    let (fault, out) = c.in_err-pair.ensures in
    let (own, other, few) = lengths j in
    let ours = c.in_ok-ours.ensures in
    let theirs = c.in_ok-theirs.ensures in
    inl (refused c.from_residual-in_err-pair.ensures (ap (λ f. NoRow c.in_err-pair.field-0.0.side f) fault) (outside_row (read_both j) _ _ own other _ out)
    (λ _ h. omega (arith, from_first h, not_first ours h, not_second theirs h, not_third ours c.in_ok-admitted.ensures h, not_fourth theirs c.in_ok-admitted-2.ensures h, not_fifth (read_both j) few h)))

comparable : (c : In_ok-joined) → c.args.question.p < length (text_rows c.in_ok-joined.joined.first) → c.args.question.q < length (faced c.in_ok-joined.joined.second) →
    Comparable (asked c.args.question) (text_rows c.in_ok-ours.ours) (text_rows c.in_ok-theirs.theirs)
comparable c p< q< =
    let (own, other, few) = lengths c in
    record { read = read_both c; ours_admitted = c.in_ok-admitted.ensures; theirs_admitted = c.in_ok-admitted-2.ensures; few = few; first = omega arith; second = omega arith }

same_table : (c : In_ok-joined) → joined (text_rows c.in_ok-joined.joined.first) (faced c.in_ok-joined.joined.second) ≡ together (asked c.args.question) (text_rows c.in_ok-ours.ours) (text_rows c.in_ok-theirs.theirs)
same_table c =
    let (first, second, _) = c.in_ok-joined.ensures in ap₂ joined (ap text_rows first) (ap faced second ∙ c.of.ensures)

pub ask-requires-clause-admitted : goal.ask-requires-clause-admitted
ask-requires-clause-admitted c =
    let j = (goal.at.ask-requires-clause-admitted c).In_ok-joined in
    let (p<, q<, _, _) = c.in_ok-pair.ensures in
    subst Admitted (sym (same_table j)) (together_admitted (comparable j p< q<))

pub returns : goal.returns
returns c =
    let j = (goal.at.returns c).In_ok-joined in
    let (p<, q<, first, second) = c.in_ok-pair.ensures in
    inr (_, _, comparable j p< q<, found_at (same_table j) first (second ∙ ap (λ n. n + c.args.question.q) (lengths j).0) _ _ _ c.ask.ensures)
