-- What writing rows leaves in the buffer.
use Rattle.std.proofs.Common.{◌≡◌, ℕ, ◌<◌, ◌≤◌, List, length, take, drop, Ok, Err, sym, refl, ap, ◌∙◌, subst, arith}
use Rattle.std.proofs.ByRecursion.{All-weaker}
use Rattle.std.proofs.lemmas.List.{take_at, drop_at}
use Rattle.forms.specs.declared.Row.{Row}
use Rattle.forms.specs.Refusals.Outcome.{refuses, gives}
use Rattle.forms.specs.Rows.{Fit, Labelled, Lawful}
use Rattle.forms.specs.Splices.{Wrote}
use Rattle.texts.specs.declared.RowsFault.{RowsFault}
use Rattle.texts.specs.declared.RowsFault.TheVariants.{NumberOver, NoRoom}
use Rattle.texts.specs.RowText.{spelled, Judged}
use Rattle.texts.specs.Writing.{WritesRows}
use Rattle.texts.specs.Writing.WritesRows.{is_over, is_long, is_written}
use Rattle.texts.specs.Faults.{rows_refusal}
use Rattle.texts.specs.Calls.{TotalFound, RowsWritten}
use Rattle.forms.proofs.Splices.{wrote_front}
use Rattle.texts.proofs.Outcomes.{written_rows_are_right}

pub wrote_over : (rows read : List Row) (before : List ℕ) (e : RowsFault) → read ≡ rows → TotalFound read (Err e) → RowsWritten rows before before (Err e)
wrote_over rows read before e same (k, is, lowest) = (subst (λ f. WritesRows (length before) rows (refuses (rows_refusal f))) (sym is) (subst (λ x. WritesRows (length before) x (refuses (rows_refusal (NumberOver k)))) same (is_over lowest)), refl)

pub wrote_long : (rows read : List Row) (before : List ℕ) (n : ℕ) → read ≡ rows → TotalFound read (Ok n) → length before < n → RowsWritten rows before before (Err NoRoom)
wrote_long rows read before n same (none, is) l = (subst (λ x. WritesRows (length before) x (refuses (rows_refusal NoRoom))) same (is_long none (omega arith)), refl)

pub wrote_all : (rows read : List Row) (before after : List ℕ) (n r : ℕ) → read ≡ rows → TotalFound read (Ok n) → n ≤ length before → Wrote before after 0 (spelled read) r → RowsWritten rows before after (Ok r)
wrote_all rows read before after n r same (none, is) l wrote =
    let (long, filled) = wrote_front before after (spelled read) r wrote (omega arith) in
    let front : take r after ≡ spelled read = ap (take r) filled ∙ take_at (spelled read) (drop r before) r (sym long) in
    let w : WritesRows (length before) rows (gives (spelled read)) = subst (λ x. WritesRows (length before) x (gives (spelled read))) same (is_written none (omega arith)) in
    (subst (λ t. WritesRows (length before) rows (gives t)) (sym front) w, omega (arith, ap length front), ap (drop r) filled ∙ drop_at (spelled read) (drop r before) r (sym long))

pub wrote_right : (rows : List Row) (before after : List ℕ) (r : ℕ) → Lawful rows → RowsWritten rows before after (Ok r) → Judged (take r after) (gives rows)
wrote_right rows before after r lawful w = written_rows_are_right (length before) rows (take r after) lawful.few (All-weaker Fit Labelled (λ x p. p.1) rows lawful.fit) w.0
