use Rattle.std.proofs.Common.{◌≡◌, ℕ, List, length, Contains, eqb, refl, inr, arith}
use Rattle.std.proofs.lemmas.Bool.Decides.{nat_tests}
use Rattle.std.proofs.lemmas.List.Sums.{fails_before_first}
use Rattle.std.specs.List.{position_or_len}
use Rattle.formbook.proofs.scripting.read_copies.Goals as goal

lacks : (byte : ℕ) (text : List ℕ) → position_or_len (λ b. eqb b byte) text ≡ length text → Contains text byte → ⊥
lacks byte text none (k, inside, there) = grind (arith, nat_tests, fails_before_first (λ b. eqb b byte) text k byte (omega arith))

pub returns-in_ok-read_one-in-None : goal.returns-in_ok-read_one-in-None
returns-in_ok-read_one-in-None c = inr (lacks 42 c.args.word.now (c.in-None.ensures.byte (omega arith) (λ w o h. h)), c.in_ok-read_one-in-None.ensures, refl)
