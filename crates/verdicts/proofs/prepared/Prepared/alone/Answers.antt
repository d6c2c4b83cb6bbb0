use Rattle.std.proofs.Common.{ℕ, ◌*◌, ◌/◌, length, is_some, Some, sym, refl, ap, arith}
use Rattle.std.proofs.lemmas.Bool.{both_ways}
use Rattle.sets.specs.Sets.{word}
use Rattle.forms.specs.Buffers.{rows_of}
use Rattle.forms.specs.Limits.{max_rows}
use Rattle.verdicts.specs.Pairs.{place_of}
use Rattle.verdicts.proofs.LeanedFrom.{alone_put, alone_none}
use Rattle.verdicts.proofs.prepared.Prepared.alone.Goals as goal

abbrev words : ℕ
words = max_rows * max_rows / word

pub returns-in-Some : goal.returns-in-Some
returns-in-Some c =
    let low = c.in-Some.ensures.small c.in-Some.k refl in
    alone_put (place_of (length (rows_of c.args.self.now.table)) (Some c.args.pair)) words c.in-Some.k c.put.new.words (sym c.in-Some.ensures.is) (c.put.ensures.within (omega arith) (omega arith))

pub returns-in_default : goal.returns-in_default
returns-in_default c = alone_none (place_of (length (rows_of c.args.self.now.table)) (Some c.args.pair)) words (λ e. both_ways _ (ap is_some (sym c.in_default.ensures.is)) e)
