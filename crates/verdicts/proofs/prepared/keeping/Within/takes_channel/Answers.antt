use Rattle.std.proofs.Common.{length, Some, sym, ap, ◌∙◌}
use Rattle.forms.specs.Buffers.{rows_of}
use Rattle.verdicts.specs.Pairs.{related}
use Rattle.verdicts.proofs.Keeping.{taken_tells}
use Rattle.verdicts.proofs.prepared.keeping.Within.takes_channel.Goals as goal

pub returns-in-Some-Channel : goal.returns-in-Some-Channel
returns-in-Some-Channel c =
    let t = c.args.self.now.prepared.now in
    let arm = c.in-Some-Channel in
    taken_tells t (related (length (rows_of t.table)) c.args.self.now.pairs.now) c.args.pair.0 c.args.pair.1 arm.payload arm.capability c.taken.result (sym c.row.ensures ∙ arm.is ∙ ap Some arm.field-0-is) c.taken.ensures
