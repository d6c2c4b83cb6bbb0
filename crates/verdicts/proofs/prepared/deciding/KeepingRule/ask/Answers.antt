use Rattle.std.proofs.Common.{sym, ◌∙◌}
use Rattle.forms.specs.Buffers.{rows_of}
use Rattle.verdicts.specs.Facts.{bounded_of}
use Rattle.verdicts.proofs.Deciding.{ask_is}
use Rattle.verdicts.proofs.prepared.deciding.KeepingRule.ask.Goals as goal

pub returns-in-Some : goal.returns-in-Some
returns-in-Some c =
    let t = c.args.self.now.prepared.now in
    ask_is (rows_of t.table) (bounded_of t) c.args.set.now c.args.place c.in-Some.pair c.keeps.result (sym c.pair_at.ensures ∙ c.in-Some.is) c.keeps.ensures
