use Rattle.std.proofs.Common.{subst}
use Rattle.relation.specs.Judged.{Judged}
use Rattle.relation.proofs.Judging.{judged_once}
use Rattle.relation.proofs.admission.admit.Goals as goal

pub returns : goal.returns
returns g c =
    let rows = g.S.FormSource.rows c.args.source.now in
    let judged : Judged rows c.admit_table.result = subst (λ rs. Judged rs c.admit_table.result) c.of.ensures c.admit_table.ensures in
    record { judged = judged; one = judged_once rows c.admit_table.result judged }
