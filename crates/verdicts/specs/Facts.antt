-- What a prepared table tells, which its ghost field holds as a mere fact: all of it can be decided, so it can be had. Assumes nothing.
use Rattle.std.specs.Prelude.{Bool, ◌⊎◌, List, length, Decides}
use Rattle.std.proofs.Common.{inl, inr, ⊎_elim}
use Rattle.std.proofs.Math.Logic.{∥∥₁_elim}
use Rattle.std.proofs.lemmas.Bool.{cases_eq}
use Rattle.forms.proofs.Findings.{below_or_not}
use Rattle.forms.specs.Buffers.{rows_of}
use Rattle.forms.specs.Laws.{buffer_laws}
use Rattle.forms.specs.Rows.{Fit}
use Rattle.forms.specs.declared.Row.{Row}
use Rattle.relation.specs.Admission.{Admitted}
use Rattle.schema.specs.Rules.{Bounded, Determined}
use Rattle.relation.proofs.Judging.{inside_or_not}
use Rattle.schema.proofs.Findings.{holds_or_not}
use Rattle.schema.proofs.Offered.{nth_all}
use Rattle.verdicts.specs.declared.prepared.Prepared.{Prepared}

-- what can be decided can be had from the fact that it holds
pub known : {P Q : Type 0} → P ⊎ (P → ⊥) → ∥ Q ∥₁ → (Q → P) → P
known (inl p) t h = p
known (inr np) t h = absurd (∥∥₁_elim t (λ x y. absurd x) (λ q. np (h q)))

pub decides_known : {P Q : Type 0} (b : Bool) → P ⊎ (P → ⊥) → ∥ Q ∥₁ → (Q → Decides b P) → Decides b P
decides_known b dec t h = (λ e. known dec t (λ q. (h q).0 e), λ p. known (holds_or_not b) t (λ q. (h q).1 p))

module _ (t : Prepared) where
  abbrev table_rows : List Row
  table_rows = rows_of t.table

  pub bounded_of : Bounded table_rows
  bounded_of = record {
    inside = λ p {row} e. (known (inside_or_not (length table_rows) row) t.ready (λ r. r.admitted.within p row e), (nth_all Fit table_rows (buffer_laws t.table).fit p e).1);
  }

  pub admitted_of : Admitted table_rows
  admitted_of = record {
    some = known (below_or_not 0 (length table_rows)) t.ready (λ r. r.admitted.some);
    within = λ p row e. (bounded_of.inside p e).0;
    determined = λ p s. ∥∥₁_elim t.ready (λ x y. absurd x) (λ r. r.admitted.determined p s);
  }

  -- no label twice
  pub determined_of : Determined table_rows
  determined_of = record {
    one = λ {p} {l} {i} {n} {l'} {i'} {n'} e e' x b b'. ⊎_elim (λ same. same)
        (λ other. absurd (admitted_of.determined p (record {
          one = e.number;
          other = e'.number;
          label = x;
          first = record { labels = l; inside = i; following = n; offered = e.offered; is = e.is; inhabited = e.inhabited; has = b };
          second = record { labels = l'; inside = i'; following = n'; offered = e'.offered; is = e'.is; inhabited = e'.inhabited; has = b' };
          different = other;
        })))
        (cases_eq e.number e'.number);
  }
