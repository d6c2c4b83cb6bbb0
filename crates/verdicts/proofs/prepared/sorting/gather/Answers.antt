use Rattle.forms.specs.Buffers.{rows_of}
use Rattle.verdicts.proofs.Preparing.{picked_among}
use Rattle.verdicts.proofs.prepared.sorting.gather.Goals as goal

pub returns : goal.returns
returns g c =
    picked_among (rows_of c.args.table.now) c.args.analysis.now g.test c.offered.result.now c.rows_of_sort-rows.result c.among.result
    c.offered.ensures c.rows_of_sort-rows.ensures c.among.ensures
