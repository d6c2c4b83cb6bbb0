use Rattle.std.proofs.Common.{rules, ◌≡◌, ℕ, true, ap}
use Rattle.sets.specs.Sets.{member}
use Rattle.sets.proofs.Going.{decides_all}
use Rattle.book.proofs.ledger.Ledger.is_settled.Goals as goal
use borrow.Author.Tests.{tests}

pub returns : goal.returns
returns c =
    let Yes : ℕ → Type 0 = λ k. member c.args.self.now.settled k ≡ true in
    decides_all (λ s. member s.words.now) (λ s. s.start) (member c.args.pairs.now) c.of.ensures.start (λ k. ap (λ ws. member ws k) c.of.ensures.set) Yes c.all.ensures.ran (λ x q k. search (rules, tests)) (λ x q k. search (rules, tests))
