use Rattle.std.proofs.Common.{arith}
use Rattle.std.proofs.lemmas.Result.{err_from_is_err_and}
use Rattle.forms.proofs.Findings.{nth_below}
use Rattle.fitting.specs.Fittable.Unfit.{no_row, is_many, is_unsound, is_outside, is_unequal}
use Rattle.fitting.proofs.Refusing.{fittable_or_one_fault}
use Rattle.fitting.proofs.checking.check.Goals as goal

pub returns-in_err-find_row : goal.returns-in_err-find_row
returns-in_err-find_row c =
    let p = err_from_is_err_and c.from_residual.result c.from_residual.ensures.1 in
    let (is, past) = c.in_err-find_row.ensures in
    record { checked = rw (p.1, p.2, is) (no_row past); one = fittable_or_one_fault }

pub overflow_cast-result : goal.overflow_cast-result
overflow_cast-result c = let ((m, e, _), _) = c.in-Some.ensures in omega (arith, nth_below c.args.order.now.nodes.now c.in-Some.node e)

pub returns-then-nodes-gt-MAX_NODES : goal.returns-then-nodes-gt-MAX_NODES
returns-then-nodes-gt-MAX_NODES c = record { checked = is_many c.in_ok-find_row.ensures c.if-nodes-gt-MAX_NODES.true; one = fittable_or_one_fault }

pub returns-in-Some : goal.returns-in-Some
returns-in-Some c = record { checked = is_unsound c.in_ok-find_row.ensures c.if-nodes-gt-MAX_NODES.false c.in-Some.ensures; one = fittable_or_one_fault }

pub returns-then-root-nodes : goal.returns-then-root-nodes
returns-then-root-nodes c = record { checked = is_outside c.in_ok-find_row.ensures c.if-nodes-gt-MAX_NODES.false c.in_default.ensures c.if-root-nodes.true; one = fittable_or_one_fault }

pub returns-then-marks-nodes : goal.returns-then-marks-nodes
returns-then-marks-nodes c = record { checked = is_unequal c.in_ok-find_row.ensures c.if-nodes-gt-MAX_NODES.false c.in_default.ensures c.if-root-nodes.false c.if-marks-nodes.true; one = fittable_or_one_fault }

pub returns : goal.returns
returns c = record {
  checked = record { row_within = c.in_ok-find_row.ensures; few = c.if-nodes-gt-MAX_NODES.false; sound = c.in_default.ensures; root_within = c.if-root-nodes.false; one_each = c.if-marks-nodes.false };
  one = fittable_or_one_fault;
}
