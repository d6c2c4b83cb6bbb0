-- One node more at the end of a table. Assumes nothing.
use Rattle.std.proofs.Common.{◌≡◌, ℕ, zero, suc, ◌+◌, ◌<◌, List, [], ◌∷◌, ◌++◌, length, Some, ap, ◌∙◌, subst, ⊎_elim, arith}
use Rattle.std.specs.List.{slice_get}
use Rattle.forms.specs.Schema.{IsChannel}
use Rattle.forms.specs.Documents.{Document}
use Rattle.forms.specs.declared.Row.{Row}
use Rattle.forms.proofs.Findings.{never, nth_below}
use Rattle.documents.specs.Nodes.{StandsFor, SoundWith, SoundOver}
use Rattle.documents.specs.Nodes.StandsFor.{for_void, for_reference, for_element}
use Rattle.documents.specs.declared.nodes.Node.{Node}
use Rattle.documents.proofs.Tables.{nth_append, nth_left, nth_right}

-- what stands for a document is a node of the table
pub stands_below : {table : List Node} {k : ℕ} {d : Document} → StandsFor table k d → k < length table
stands_below {table} {k} (for_void e) = nth_below table k e
stands_below {table} {k} (for_reference e) = nth_below table k e
stands_below {table} {k} (for_element e p q) = nth_below table k e

module _ (table : List Node) (v : Node) where
  pub last_is : slice_get (table ++ (v ∷ [])) (length table) ≡ Some v
  last_is = ap (slice_get (table ++ (v ∷ []))) (omega arith) ∙ nth_right table (v ∷ []) 0

  pub stands_more : {k : ℕ} {d : Document} → StandsFor table k d → StandsFor (table ++ (v ∷ [])) k d
  stands_more {k} (for_void e) = for_void (nth_left table (v ∷ []) k e)
  stands_more {k} (for_reference e) = for_reference (nth_left table (v ∷ []) k e)
  stands_more {k} (for_element e p q) = for_element (nth_left table (v ∷ []) k e) (stands_more p) (stands_more q)

  pub sound_more : (rows : List Row) → SoundOver rows table → SoundWith (IsChannel rows) (length table) v → SoundOver rows (table ++ (v ∷ []))
  sound_more rows sound here = record { each = λ k {m} e. ⊎_elim (sound.each k) (λ (j, is, e'). own k j m is e') (nth_append table (v ∷ []) k e) }
    where
      own : (k j : ℕ) (m : Node) → k ≡ length table + j → slice_get (v ∷ []) j ≡ Some m → SoundWith (IsChannel rows) k m
      own k zero m is e = let same : v ≡ m = cc in subst (λ i. SoundWith (IsChannel rows) i m) (omega arith) (subst (SoundWith (IsChannel rows) (length table)) same here)
      own k (suc j) m is e = never (cc)
