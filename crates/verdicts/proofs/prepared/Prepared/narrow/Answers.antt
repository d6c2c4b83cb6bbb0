use Rattle.std.proofs.Common.{length}
use Rattle.sets.specs.Sets.{member}
use Rattle.forms.specs.Buffers.{rows_of}
use Rattle.schema.proofs.Order.{confined_agrees}
use Rattle.verdicts.specs.Facts.{bounded_of}
use Rattle.verdicts.specs.Pairs.{related}
use Rattle.verdicts.proofs.Deciding.{largest_within, rest_stays}
use Rattle.verdicts.proofs.prepared.Prepared.narrow.Goals as goal

pub returns : goal.returns
returns c =
    let t = c.args.self.now in
    let rows = rows_of t.table in
    let old = c.args.pairs.now in
    let new = c.narrow.new.set in
    let is = largest_within rows (bounded_of t) (member old) (member new) c.narrow.ensures in
    record {
      largest = is;
      confined = λ within. confined_agrees rows (related (length rows) old) (related (length rows) new) within is;
      rest = rest_stays rows (bounded_of t) (member old) (member new) c.narrow.ensures;
    }
