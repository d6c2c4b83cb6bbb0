-- What a prepared table keeps of its rows. Assumes nothing.
use Rattle.std.proofs.Common.{◌≡◌, ℕ, ◌<◌, Bool, true, ◌&&◌, ltb, ◌⊎◌, List, Decides, get_or, inl, inr, ⊎_elim}
use Rattle.std.specs.List.{slice_get}
use Rattle.std.proofs.lemmas.Bool.{both_ways, cases_Bool, and_parts, and_from, ltb-true}
use Rattle.forms.proofs.Findings.{decided, both_or_not}
use Rattle.forms.specs.Buffers.{rows_of}
use Rattle.forms.specs.Limits.{max_rows}
use Rattle.forms.specs.Rows.{belongs}
use Rattle.forms.specs.Schema.{IsChannel}
use Rattle.forms.specs.declared.Row.{Row}
use Rattle.narrowing.proofs.Striking.{each_below}
use Rattle.relation.proofs.Inhabitants.{inhabited_or_not}
use Rattle.relation.specs.Cells.{cell}
use Rattle.schema.proofs.Offered.{offers_or_not}
use Rattle.verdicts.specs.Facts.{decides_known, bounded_of, admitted_of}
use Rattle.verdicts.specs.Ready.{in_row, labels_in, IsVoid, IsElement, Sorted, Ready}
use Rattle.verdicts.specs.declared.prepared.Prepared.{Prepared}
use Rattle.verdicts.proofs.Sorts.{void_tells, channel_tells, element_tells}

module _ (t : Prepared) where
  abbrev table_rows : List Row
  table_rows = rows_of t.table

  sorted_of : (Sort : ℕ → Type 0) → ((o : ℕ) → Sort o ⊎ (Sort o → ⊥)) → (cells : List ℕ) → (Ready table_rows t.voids t.channels t.elements t.labels → Sorted table_rows Sort cells) → Sorted table_rows Sort cells
  sorted_of Sort dec cells get p o = decides_known (in_row cells p o)
      (⊎_elim (λ h. inl (h.0, h.1.0, h.1.1)) (λ no. inr (λ (u, inh, of). no (u, (inh, of)))) (both_or_not (offers_or_not table_rows (bounded_of t) p o) (both_or_not (inhabited_or_not table_rows o) (dec o)))) t.ready (λ r. get r p o)

  labels_or_not : (f : ℕ → Bool) → ((e : ℕ) → f e ≡ true → e < max_rows) → (x : ℕ) →
      ((e : ℕ) × (f e ≡ true) × (belongs x (labels_in (slice_get table_rows e)) ≡ true)) ⊎ (((e : ℕ) × (f e ≡ true) × (belongs x (labels_in (slice_get table_rows e)) ≡ true)) → ⊥)
  labels_or_not f low x = ⊎_elim inl (λ none. inr (λ (e, m, h). both_ways _ (none e (low e m)) (and_from _ _ m h)))
      (each_below max_rows (λ e _. ⊎_elim (λ on. let (m, h) = and_parts (f e) _ on in inl (e, m, h)) inr (cases_Bool (f e && belongs x (labels_in (slice_get table_rows e))))))

  pub ready_of : Ready table_rows t.voids t.channels t.elements t.labels
  ready_of = record {
    admitted = admitted_of t;
    empties = sorted_of (IsVoid table_rows) (λ o. decided _ (void_tells table_rows o)) t.voids (λ r. r.empties);
    addresses = sorted_of (IsChannel table_rows) (λ o. decided _ (channel_tells table_rows o)) t.channels (λ r. r.addresses);
    parts = sorted_of (IsElement table_rows) (λ o. decided _ (element_tells table_rows o)) t.elements (λ r. r.parts);
    given = λ p h x. decides_known (belongs x (get_or t.labels p 0)) (labels_or_not (in_row t.elements p) (λ e m. ltb-true e max_rows (and_parts (ltb e max_rows) (cell t.elements p e) m).0) x) t.ready (λ r. r.given p h x);
  }
