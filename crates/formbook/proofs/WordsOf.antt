-- What splitting at white space gives are the words of a text. Assumes nothing.
use Rattle.std.proofs.Common.{◌≡◌, ℕ, List, [], ◌∷◌, sym, subst}
use Rattle.std.specs.Prelude.{⊤}
use Rattle.std.specs.Iterator.{DrainsIf}
use Rattle.std.specs.Str.{NoCharPasses}
use Rattle.std.specs.Char.{is_not_whitespace}
use Rattle.std.specs.Str.Iter.{split_whitespace_rest, split_whitespace_steps}
use Rattle.std.specs.declared.str.SplitWhitespace.{SplitWhitespace}
use Rattle.formbook.specs.Words.{Words, AreWords}

words_of : (it : SplitWhitespace) (words : Words) → DrainsIf split_whitespace_steps ⊤ it words → AreWords (split_whitespace_rest it) words
words_of it [] (t, yields, done) = subst (λ s. NoCharPasses is_not_whitespace (split_whitespace_rest s)) (sym yields) (done tt).1.1
words_of it (w ∷ words) (t, yields, done) =
    let (j, step, more) = yields in
    (step.0, split_whitespace_rest j, step.1, step.2, step.3, step.4, step.5, words_of j words (t, more, done))

pub collected : (it : SplitWhitespace) (line : List ℕ) (xs words : Words) → split_whitespace_rest it ≡ line → words ≡ xs → DrainsIf split_whitespace_steps ⊤ it xs → AreWords line words
collected it line xs words rest same drained = subst (λ v. AreWords v words) rest (subst (λ v. AreWords (split_whitespace_rest it) v) (sym same) (words_of it xs drained))
