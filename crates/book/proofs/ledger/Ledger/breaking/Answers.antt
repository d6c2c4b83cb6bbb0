use Rattle.std.proofs.Common.{rules, ℕ, ap}
use Rattle.sets.specs.Sets.{member}
use Rattle.sets.proofs.Going.{lowest_found}
use Rattle.verdicts.specs.Facts.{admitted_of}
use Rattle.book.specs.Ledgers.{ledger_rows}
use Rattle.book.specs.Relations.{Stands}
use Rattle.book.proofs.Offering.{none_found, first_found}
use Rattle.book.proofs.ledger.Ledger.breaking.Goals as goal
use borrow.Author.Tests.{tests}

pub returns-in_err-k : goal.returns-in_err-k
returns-in_err-k c =
    let words = c.args.relation.now in
    let Kept : ℕ → Type 0 = Stands (ledger_rows c.args.self.now) words in
    let found = lowest_found (λ s. member s.words.now) (λ s. s.start) (member words) c.of.ensures.start (λ k. ap (λ ws. member ws k) c.of.ensures.set) (λ k. Kept k → ⊥) Kept c.find.ensures.ran (λ x q k. search (rules, tests)) (λ x q k. search (rules, tests)) in
    rw c.from_residual.ensures (none_found (ledger_rows c.args.self.now) words (admitted_of c.args.self.now.prepared).some found c.in_err-k.was)

pub returns : goal.returns
returns c =
    let words = c.args.relation.now in
    let Kept : ℕ → Type 0 = Stands (ledger_rows c.args.self.now) words in
    let found = lowest_found (λ s. member s.words.now) (λ s. s.start) (member words) c.of.ensures.start (λ k. ap (λ ws. member ws k) c.of.ensures.set) (λ k. Kept k → ⊥) Kept c.find.ensures.ran (λ x q k. search (rules, tests)) (λ x q k. search (rules, tests)) in
    first_found (ledger_rows c.args.self.now) words (admitted_of c.args.self.now.prepared).some c.in_ok-k.k c.pair_at.result found c.in_ok-k.was c.pair_at.ensures
