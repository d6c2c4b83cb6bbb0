use Rattle.forms.specs.Buffers.{rows_of}
use Rattle.verdicts.specs.Facts.{admitted_of}
use Rattle.verdicts.proofs.LeanedFrom.{alone_leans, alone_outside}
use Rattle.verdicts.proofs.prepared.Prepared.leaned.Goals as goal

pub returns : goal.returns
returns c =
    let t = c.args.self.now in
    let rows = rows_of t.table in
    let made = c.leaned_from.ensures in
    record {
      leans = alone_leans rows c.args.pair.0 c.args.pair.1 c.alone.result c.alone.ensures c.leaned_from.result made.leans;
      confined = made.confined;
      outside = alone_outside rows c.args.pair.0 c.args.pair.1 c.alone.result c.alone.ensures c.leaned_from.result made.leans (admitted_of t).some made.rest;
      rest = made.rest;
    }
