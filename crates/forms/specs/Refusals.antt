-- What a call gives: a refusal, by its number and its values, or a result. Assumes nothing.
use Rattle.std.specs.Prelude.{ℕ, List}

pub data Refusal : Type 0 where
  refusal : ℕ → List ℕ → Refusal

abbrev pub number : Refusal → ℕ
number (refusal n vs) = n

abbrev pub values : Refusal → List ℕ
values (refusal n vs) = vs

pub data Outcome (A : Type 0) : Type 0 where
  refuses : Refusal → Outcome A
  gives : A → Outcome A
