use Rattle.std.proofs.Common.{◌≡◌, ℕ, true, length, Decides, sym, ap, ◌∙◌, subst}
use Rattle.std.specs.List.{slice_get}
use Rattle.forms.specs.Buffers.{rows_of}
use Rattle.schema.specs.Rules.{Relation}
use Rattle.verdicts.specs.Pairs.{related}
use Rattle.verdicts.specs.Ready.{in_row}
use Rattle.verdicts.specs.Tests.{agrees}
use Rattle.verdicts.proofs.Keeping.{own_agrees}
use Rattle.verdicts.proofs.prepared.keeping.Within.element_agrees.Goals as goal

pub returns-then-has : goal.returns-then-has
returns-then-has c =
    let t = c.args.self.now.prepared.now in
    let rows = rows_of t.table in
    let e = c.args.pair.0 in
    let q = c.args.pair.1 in
    let R : Relation = related (length rows) c.args.self.now.pairs.now in
    subst (λ b. Decides b ((f : ℕ) → in_row t.elements q f ≡ true → agrees R (slice_get rows e) (slice_get rows f) ≡ true))
    (sym (c.agrees.ensures ∙ ap (λ r. agrees R r (slice_get rows e)) c.row-row.ensures))
    (own_agrees t R q e (sym c.has.ensures ∙ c.if-has.true))
