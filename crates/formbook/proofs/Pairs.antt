-- A relation that a loop has put the pairs of some words into, one word further. Assumes nothing.
use Rattle.std.proofs.Common.{◌≡◌, ℕ, ◌*◌, ◌<◌, ◌≤◌, true, ◌||◌, ◌⊎◌, eqb, List, [], ◌∷◌, ◌++◌, length, Bor, sym, ◌∙◌, subst, ⊎_elim, inl, inr, arith}
use Rattle.std.proofs.lemmas.Bool.{eqb-true, eq-eqb, or_cases, or_left, or_right}
use Rattle.std.proofs.lemmas.Nat.{mul-add-lt, mul-le}
use Rattle.sets.specs.Sets.{member, top, word}
use Rattle.formbook.specs.Words.{Words}
use Rattle.formbook.specs.Spelling.{IsPair, HasPair, ArePairs}
use Rattle.formbook.proofs.Loops.{all_more}

module _ (n : ℕ) (w : Bor (List ℕ)) (bit : ℕ) where
  parted : (words : Words) → HasPair n (words ++ (w ∷ [])) bit → HasPair n words bit ⊎ IsPair n w.now bit
  parted [] h = ⊎_elim (λ p. inr p) (λ none. absurd none) h
  parted (v ∷ words) h = ⊎_elim (λ p. inl (inl p)) (λ more. ⊎_elim (λ q. inl (inr q)) (λ q. inr q) (parted words more)) h

  joined : (words : Words) → HasPair n words bit ⊎ IsPair n w.now bit → HasPair n (words ++ (w ∷ [])) bit
  joined [] h = ⊎_elim (λ none. absurd none) (λ p. inl p) h
  joined (v ∷ words) h = ⊎_elim (λ q. ⊎_elim (λ p. inl p) (λ more. inr (joined words (inl more))) q) (λ p. inr (joined words (inr p))) h

module _ (n : ℕ) (few : n ≤ 255) (words : Words) (w : Bor (List ℕ)) (k : ℕ) (pair : IsPair n w.now k) (old new : List ℕ) where
  pub pairs_more : ArePairs n words old → length new ≡ length old → (k < word * length old → k < top → (j : ℕ) → member new j ≡ (eqb j k || member old j)) → ArePairs n (words ++ (w ∷ [])) new
  pairs_more before long put =
      let low = mul-add-lt _ n _ n pair.first.1 pair.second.1 in
      let square = mul-le n n 255 255 few few in
      let puts : (j : ℕ) → member new j ≡ (eqb j k || member old j) = put (omega (arith, before.long, pair.place)) (omega (arith, pair.place)) in
      let there : (j : ℕ) → member new j ≡ true → HasPair n words j ⊎ IsPair n w.now j = λ j m. ⊎_elim
      (λ same. inr (subst (λ i. IsPair n w.now i) (sym (eqb-true j k same)) pair))
      (λ had. inl ((before.bits j).0 had))
      (or_cases (eqb j k) (member old j) (sym (puts j) ∙ m)) in
      let back : (j : ℕ) → HasPair n words j ⊎ IsPair n w.now j → member new j ≡ true = λ j h. puts j ∙ ⊎_elim
      (λ had. or_right (eqb j k) (member old j) ((before.bits j).1 had))
      (λ (p : IsPair n w.now j). or_left (eqb j k) (member old j) (eq-eqb j k (p.place ∙ sym pair.place)))
      h in
      record {
        long = long ∙ before.long;
        pairs = all_more _ words w before.pairs (k, pair);
        bits = λ j. (λ m. joined n w j words (there j m), λ h. back j (parted n w j words h));
      }
