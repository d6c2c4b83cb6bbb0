use Rattle.std.proofs.Common.{rules, arith}
use Rattle.schema.specs.Rules.{OffersVoid}
use Rattle.forms.specs.Buffers.{rows_of}
use Rattle.schema.proofs.Offered.{offering_below}
use Rattle.sets.proofs.Picking.{picked_all}
use Rattle.fitting.proofs.rows.Fitting.void_rows.Goals as goal
use borrow.Author.Tests.{tests}

pub returns : goal.returns
returns c =
    let rows = rows_of c.args.self.now.prepared.now.table in
    picked_all _ _ (OffersVoid rows) c.numbers_where.result c.count.result c.numbers_where.ensures.passed c.numbers_where.ensures.others
    (λ k h. search (rules, tests)) (λ k h. search (rules, tests)) (λ k v. omega (arith, offering_below rows v.1))
