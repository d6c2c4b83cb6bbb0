-- What the largest part of all pairs tells. Assumes nothing.
use Rattle.std.proofs.Common.{◌≡◌, ℕ, ◌+◌, ◌*◌, ◌<◌, true, ltb, List, length, ◌∙◌, ⊎_elim}
use Rattle.std.proofs.lemmas.Nat.{mul-add-lt}
use Rattle.std.proofs.lemmas.Bool.{both_ways, lt-ltb}
use Rattle.std.proofs.lemmas.Bool.Decides.{Decides-like}
use Rattle.sets.specs.Sets.{member}
use Rattle.forms.specs.declared.Row.{Row}
use Rattle.schema.specs.Rules.{Bounded, Determined, Relation, Below, Included}
use Rattle.schema.specs.Theorems.{Part, LargestWithin}
use Rattle.schema.specs.Published.{Subschema}
use Rattle.schema.proofs.Order.{square_in, square_out, square_confined, confined_agrees, reflexive, transitive}
use Rattle.schema.proofs.Inclusion.{below_or_witness, below_is_inclusion}
use Rattle.schema.proofs.Published.{published_is_below}
use Rattle.verdicts.specs.Pairs.{related, all_pairs, Tells, Witnessed, Transitive}
use Rattle.verdicts.proofs.Deciding.{between_parts, between_from}

module _ (rows : List Row) (bounded : Bounded rows) (determined : Determined rows) (all words : List ℕ)
    (has : (k : ℕ) → member all k ≡ ltb k (length rows * length rows)) (is : LargestWithin rows (related (length rows) all) (related (length rows) words)) where
  abbrev n : ℕ
  n = length rows

  abbrev R : Relation
  R = related n words

  from_all : Part (all_pairs n) (related n all)
  from_all p q h = let (a, b) = square_out rows p q h in between_from n (member all) p q a b (has (p * n + q) ∙ lt-ltb (p * n + q) (n * n) (mul-add-lt p n q n a b))

  pub verdicts_largest : LargestWithin rows (all_pairs (length rows)) (related (length rows) words)
  verdicts_largest = record {
    part = λ p q h. let (a, b, _) = between_parts n (member words) p q h in square_in rows p q a b;
    closed = is.closed;
    largest = λ S part closed. is.largest S (λ p q h. from_all p q (part p q h)) closed;
  }

  pub verdicts_below : Tells rows (related (length rows) words) (Below rows)
  verdicts_below p q a b = confined_agrees rows (all_pairs n) R (square_confined rows bounded) verdicts_largest p q (square_in rows p q a b)

  pub verdicts_included : Tells rows (related (length rows) words) (Included rows)
  verdicts_included p q a b = let (to, from) = below_is_inclusion rows bounded determined p q a b in Decides-like _ to from (verdicts_below p q a b)

  pub verdicts_published : Tells rows (related (length rows) words) (Subschema rows)
  verdicts_published p q a b = let (to, from) = published_is_below rows determined p q in Decides-like _ from to (verdicts_below p q a b)

  pub verdicts_witness : Witnessed rows (related (length rows) words)
  verdicts_witness p q a b off = ⊎_elim (λ below. absurd (both_ways (R p q) off ((verdicts_below p q a b).1 below))) (λ w. w) (below_or_witness rows bounded determined p q a b)

  pub verdicts_reflexive : (p : ℕ) → p < length rows → related (length rows) words p p ≡ true
  verdicts_reflexive p h = (verdicts_below p p h h).1 (reflexive rows determined p)

  pub verdicts_transitive : Transitive (related (length rows) words)
  verdicts_transitive p q s e f =
      let (a, b, _) = between_parts n (member words) p q e in
      let (_, c, _) = between_parts n (member words) q s f in
      (verdicts_below p s a c).1 (transitive rows bounded p q s a b c ((verdicts_below p q a b).0 e) ((verdicts_below q s b c).0 f))
