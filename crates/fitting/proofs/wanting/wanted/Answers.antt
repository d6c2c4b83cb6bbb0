use Rattle.std.proofs.Common.{rules}
use Rattle.forms.specs.Buffers.{rows_of}
use Rattle.fitting.proofs.References.{wanted_all}
use Rattle.fitting.proofs.wanting.wanted.Goals as goal
use borrow.Author.Tests.{tests}

pub returns : goal.returns
returns c =
    let rows = rows_of c.args.prepared.now.table in
    let made = c.numbers_where.ensures in
    let (wanted, rest) = wanted_all rows c.args.nodes.now c.count-n.result c.count-n.ensures.is c.count-n.ensures.few c.referred-rows.result c.referred-rows.ensures
    _ _ c.numbers_where.result made.passed made.others (λ k low h. search (rules, tests)) (λ k low h. search (rules, tests)) in
    record { wanted = wanted; rest = rest }
