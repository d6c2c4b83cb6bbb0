-- The words of one node's marks, written one after another. Assumes nothing.
use Rattle.std.proofs.Common.{rules, ◌≡◌, ℕ, ◌+◌, ◌*◌, ◌/◌, ◌%◌, ◌<◌, ◌≤◌, cond, eqb, ◌≢◌, ◌⊎◌, List, length, get_or, sym, ap, ◌∙◌, inl, inr, ⊎_elim, arith}
use borrow.Rule.Slice.PartMut.{put_mid}
use Rattle.std.proofs.lemmas.List.{places}
use Rattle.std.proofs.lemmas.Bool.{cases_eq, cases_lt, eq-eqb, ne_eqb}
use Rattle.sets.specs.Sets.{bit, member, word, top}
use Rattle.sets.proofs.Membership.{member_at, member_top}
use Rattle.forms.specs.Limits.{max_rows}
use Rattle.documents.specs.Limits.{max_nodes}
use Rattle.relation.specs.Cells.{cell}
use Rattle.fitting.specs.Fittable.{row_words}

module _ (old rows : List ℕ) (start : ℕ) where
  -- the first w words are written from the start on, and no other
  pub record Laid (new : List ℕ) (w : ℕ) : Type 0 where
    pub laid : (k : ℕ) → k < w → get_or new (start + k) 0 ≡ get_or rows k 0
    pub kept : (k : ℕ) → (k < start) ⊎ (start + w ≤ k) → get_or new k 0 ≡ get_or old k 0

-- a part that is written over at once
pub laid_over : (old rows : List ℕ) (start n : ℕ) → start + n ≤ length old → length rows ≡ n → Laid old rows start (put_mid start n old rows) n
laid_over old rows start n room long = record {
  laid = λ k less. search (rules, places);
  kept = λ k. ⊎_elim (λ low. search (rules, places)) (λ high. search (rules, places));
}

-- so the rows are the marks of the node, and the marks of others stay
pub laid_all : (old rows new : List ℕ) (node w : ℕ) → node < max_nodes → w ≡ row_words → Laid old rows (node * row_words) new w
    → (q o : ℕ) → o < max_rows → cell new q o ≡ cond (eqb q node) (member rows o) (cell old q o)
laid_all old rows new node w few all l q o low = ⊎_elim
    (λ is.
    member_at new (node * row_words + o / word) (o % word) (q * max_rows + o) (omega arith) (omega arith) (omega arith)
    ∙ ap (λ x. bit x (o % word)) (l.laid (o / word) (omega arith))
    ∙ sym (member_at rows (o / word) (o % word) o (omega arith) (omega arith) (omega arith))
    ∙ sym (ap (λ b. cond b (member rows o) (cell old q o)) (eq-eqb q node is)))
    (λ other.
    ⊎_elim
    (λ small.
    member_at new (q * row_words + o / word) (o % word) (q * max_rows + o) (omega arith) (omega arith) small
    ∙ ap (λ x. bit x (o % word)) (l.kept (q * row_words + o / word) (outside other))
    ∙ sym (member_at old (q * row_words + o / word) (o % word) (q * max_rows + o) (omega arith) (omega arith) small))
    (λ high. member_top new (q * max_rows + o) high ∙ sym (member_top old (q * max_rows + o) high))
    (cases_lt (q * max_rows + o) top)
    ∙ sym (ap (λ b. cond b (member rows o) (cell old q o)) (ne_eqb q node other)))
    (cases_eq q node)
  where
    outside : q ≢ node → (q * row_words + o / word < node * row_words) ⊎ (node * row_words + w ≤ q * row_words + o / word)
    outside other = ⊎_elim (λ less. inl (omega arith)) (λ ge. inr (past ge other)) (cases_lt q node)
      where
        past : node ≤ q → q ≢ node → node * row_words + w ≤ q * row_words + o / word
        past ge ne = ⊎_elim (λ more. omega arith) (λ le. absurd (ne (omega arith))) (cases_lt node q)
