use Rattle.std.proofs.Common.{◌≡◌, ◌+◌, length, Some, None, sym, ap, ◌∙◌, arith}
use Rattle.std.proofs.lemmas.Grind.{common_steps}
use Rattle.std.proofs.lemmas.Result.{err_from_is_err_and}
use Rattle.documents.specs.declared.faults.ReadFault.TheVariants.{Wrong}
use Rattle.documents.proofs.Judging.{scanned_more, scanned_few, found_stuck, found_deep, found_whole, found_short}
use Rattle.documents.proofs.scan.judge.Goals as goal

pub returns-in_err-scan : goal.returns-in_err-scan
returns-in_err-scan c =
    let stuck : c.next.result ≡ None = grind (arith, common_steps) in
    let is : c.in_err-scan.field-0.0 ≡ Wrong c.loop-place.place = grind (arith, common_steps) in
    let p = err_from_is_err_and c.from_residual.result c.from_residual.ensures.1 in
    rw (p.1, p.2, is) (found_stuck c.args.text.now c.loop-place.place c.loop-place.scan c.loop-place.nodes c.loop-place.invariant c.loop-place-test.true (sym stuck ∙ c.next.ensures))

pub returns-then-scan-gt-MAX_LEVELS : goal.returns-then-scan-gt-MAX_LEVELS
returns-then-scan-gt-MAX_LEVELS c =
    let moved : c.next.result ≡ Some c.in_ok-scan.scan = grind (arith, common_steps) in
    found_deep c.args.text.now c.loop-place.place c.loop-place.scan c.loop-place.nodes c.loop-place.invariant c.loop-place-test.true c.in_ok-scan.scan (sym moved ∙ c.next.ensures) c.if-scan-gt-MAX_LEVELS.true

pub overflow_add-nodes : goal.overflow_add-nodes
overflow_add-nodes c =
    let few = scanned_few c.args.text.now c.loop-place.place c.loop-place.scan c.loop-place.nodes c.loop-place.invariant c.loop-place-test.true c.nodes_of-nodes.result c.nodes_of-nodes.ensures in
    omega (arith, few, c.well_formed)

pub loop-place-preserved : goal.loop-place-preserved
loop-place-preserved c =
    let moved : c.next.result ≡ Some c.in_ok-scan.scan = grind (arith, common_steps) in
    scanned_more c.args.text.now c.loop-place.place c.loop-place.scan c.loop-place.nodes c.loop-place.invariant c.loop-place-test.true c.in_ok-scan.scan _ (sym moved ∙ c.next.ensures) c.if-scan-gt-MAX_LEVELS.false
    (ap (λ r. c.loop-place.nodes + r) c.nodes_of-nodes.ensures)

pub returns-then-is_whole : goal.returns-then-is_whole
returns-then-is_whole c =
    let all : c.loop-place.place ≡ length c.args.text.now = omega arith in
    found_whole c.args.text.now c.loop-place.place c.loop-place.scan c.loop-place.nodes c.loop-place.invariant all (sym c.if-is_whole.ensures)

pub returns-else-is_whole : goal.returns-else-is_whole
returns-else-is_whole c =
    let all : c.loop-place.place ≡ length c.args.text.now = omega arith in
    found_short c.args.text.now c.loop-place.place c.loop-place.scan c.loop-place.nodes c.loop-place.invariant all (sym c.if-is_whole.ensures)
