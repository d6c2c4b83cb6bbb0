use Rattle.std.proofs.Common.{◌≡◌, List, ℕ, true, length, ap, ◌∙◌, arith}
use Rattle.std.proofs.lemmas.Bool.{both_ways}
use lib.ListN.{length-replicate}
use Rattle.book.specs.Relations.{words_for}
use Rattle.sets.specs.Sets.{member}
use Rattle.sets.proofs.Membership.{zeros_none}
use Rattle.formbook.specs.Spelling.{ArePairs}
use Rattle.formbook.proofs.Loops.{so_far, all_at}
use Rattle.formbook.proofs.Pairs.{pairs_more}
use Rattle.formbook.proofs.scripting.Reader.put_pairs.Goals as goal

pub loop-word-init : goal.loop-word-init
loop-word-init c =
    let none : (bit : ℕ) → member c.args.relation.now bit ≡ true → ⊥ = λ bit m. both_ways _ (ap (λ (v : List ℕ). member v bit) c.requires ∙ zeros_none _ bit) m in
    record { long = ap length c.requires ∙ length-replicate (words_for c.args.self.now.count) 0; pairs = tt; bits = λ bit. (λ m. absurd (none bit m), λ h. absurd h) }

pub loop-word-preserved : goal.loop-word-preserved
loop-word-preserved c =
    so_far (λ v. ArePairs c.args.self.now.count v c.put.new.words) c.args.words.now c.loop-word.word-index _ (omega arith)
    (pairs_more c.args.self.now.count (omega arith) _ _ c.in_ok-read_bit.field-0 c.in_ok-read_bit.ensures c.loop-word.relation c.put.new.words c.loop-word.invariant c.put.auto.words c.put.ensures.within)

pub returns-in_err-read_bit : goal.returns-in_err-read_bit
returns-in_err-read_bit c =
    let none : (relation : List ℕ) → ArePairs c.args.self.now.count c.args.words.now relation → ⊥ = λ relation are. c.in_err-read_bit.ensures _ (all_at _ c.args.words.now c.loop-word.word-index _ are.pairs (omega arith)).1 in
    grind (arith, none)
