use Rattle.std.proofs.Common.{rules, None, Some, sym, subst, arith}
use Rattle.std.specs.Option.{MatchOption}
use Rattle.std.proofs.lemmas.Iterator.{first_from_Range}
use Rattle.forms.specs.Buffers.{rows_of}
use Rattle.forms.specs.Laws.{buffer_laws}
use Rattle.forms.specs.Places.{Nowhere, Lowest}
use Rattle.relation.specs.Admission.{SharesLabel}
use Rattle.relation.proofs.Judging.{sharing_below}
use Rattle.relation.proofs.admission.sharing.Goals as goal
use borrow.Author.Tests.{tests}

pub returns-in_err-p : goal.returns-in_err-p
returns-in_err-p c =
    let rows = rows_of c.args.table.now in
    let none = first_from_Range (record { start = 0; end = c.count.result }) _ _ None (SharesLabel rows) (λ p. SharesLabel rows p → ⊥) c.in_err-p.ensures.ran (λ x q k. search (rules, tests)) (λ x q k. search (rules, tests)) in
    subst (λ r. MatchOption r (Nowhere (SharesLabel rows)) (Lowest (SharesLabel rows))) (sym c.from_residual.ensures) (λ p h. none p (omega (arith, c.count.ensures)) (let low = sharing_below rows p h in omega (arith, c.count.ensures)) h)

pub overflow_cast-result : goal.overflow_cast-result
overflow_cast-result c =
    let rows = rows_of c.args.table.now in
    let (_, low, _, _) = first_from_Range (record { start = 0; end = c.count.result }) _ _ (Some c.in_ok-p.p) (SharesLabel rows) (λ p. SharesLabel rows p → ⊥) c.in_ok-p.ensures.ran (λ x q k. search (rules, tests)) (λ x q k. search (rules, tests)) in
    omega (arith, c.count.ensures, (buffer_laws c.args.table.now).few)

pub returns : goal.returns
returns c =
    let rows = rows_of c.args.table.now in
    let (_, _, shares, before) = first_from_Range (record { start = 0; end = c.count.result }) _ _ (Some c.in_ok-p.p) (SharesLabel rows) (λ p. SharesLabel rows p → ⊥) c.in_ok-p.ensures.ran (λ x q k. search (rules, tests)) (λ x q k. search (rules, tests)) in
    (shares, λ j less. before j (omega (arith, c.count.ensures)) less)
