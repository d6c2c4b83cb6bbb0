-- What a question tells, which its ghost member holds as a mere fact: all of it can be decided, so it can be had. Assumes nothing.
use Rattle.std.proofs.Common.{◌≡◌, Bool, true, ◌⊎◌, ◌≢◌, length, inl, inr, ⊎_elim}
use Rattle.std.proofs.lemmas.Bool.{both_ways, cases_Bool}
use Rattle.sets.specs.Sets.{member}
use Rattle.schema.proofs.Order.{rules_are_decided}
use Rattle.verdicts.specs.Facts.{known, bounded_of}
use Rattle.verdicts.proofs.Deciding.{between_parts}
use Rattle.showing.specs.Drawing.{Asked}
use Rattle.showing.specs.Questions.{rows_asked, leaned_in, below_in}
use Rattle.showing.specs.declared.drawn.Question.{Question}

true_or_not : (b : Bool) → (b ≡ true) ⊎ (b ≢ true)
true_or_not b = ⊎_elim inl (λ e. inr (both_ways b e)) (cases_Bool b)

pub asked_of : (q : Question) → Asked (rows_asked q) (leaned_in q) (below_in q)
asked_of q = record {
  of_rows = λ a b h. let (a<, b<, _) = between_parts (length (rows_asked q)) (member q.leaned.now) a b h in (a<, b<);
  confined = λ a b c d h named. known (true_or_not (leaned_in q c d)) q.asked (λ x. x.confined a b c d h named);
  largest = record {
    part = λ a b h. known (true_or_not (leaned_in q a b)) q.asked (λ x. x.largest.part a b h);
    closed = λ a b h. known (rules_are_decided (rows_asked q) (bounded_of q.prepared.now) (below_in q) a b).2 q.asked (λ x. x.largest.closed a b h);
    largest = λ R part closed a b h. known (true_or_not (below_in q a b)) q.asked (λ x. x.largest.largest R part closed a b h);
  };
}
