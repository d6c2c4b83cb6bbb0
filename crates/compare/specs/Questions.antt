-- A question about two row texts, as definitions take it. Assumes nothing.
use Rattle.std.specs.Prelude.{ℕ, List}
use Rattle.compare.specs.declared.questions.Question.{Question}

-- our text and theirs, a row of each, and whether theirs is turned
pub record Asked : Type 0 where
  pub ours : List ℕ
  pub theirs : List ℕ
  pub p : ℕ
  pub q : ℕ
  pub t : ℕ

-- the question that a value in memory asks
abbrev pub asked : Question → Asked
asked x = record { ours = x.ours.now; theirs = x.theirs.now; p = x.p; q = x.q; t = x.t }
