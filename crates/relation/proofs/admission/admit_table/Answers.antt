use Rattle.forms.specs.Buffers.{rows_of}
use Rattle.std.proofs.Common.{sym, ◌∙◌, arith}
use Rattle.relation.specs.Admission.Finds.{no_rows, number_outside, label_twice}
use Rattle.relation.proofs.Judging.{all_inside}
use Rattle.relation.proofs.admission.admit_table.Goals as goal

pub returns-then-count-eq0 : goal.returns-then-count-eq0
returns-then-count-eq0 c = no_rows (sym c.count.ensures ∙ c.if-count-eq0.true)

pub returns-in-Some : goal.returns-in-Some
returns-in-Some c = number_outside c.in-Some.ensures

pub returns-in-Some-sharing : goal.returns-in-Some-sharing
returns-in-Some-sharing c = label_twice c.in_default.ensures c.in-Some-sharing.ensures

pub returns-in-None : goal.returns-in-None
returns-in-None c = (record { some = omega (arith, c.count.ensures); within = all_inside (rows_of c.args.table.now) c.in_default.ensures; determined = c.in-None.ensures }, c.analyze_table-analysis.ensures)
