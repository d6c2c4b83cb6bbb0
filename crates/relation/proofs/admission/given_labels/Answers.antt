use Rattle.forms.specs.Laws.{buffer_laws}
use Rattle.forms.specs.Buffers.{rows_of}
use Rattle.std.proofs.Common.{ap, ◌∙◌, get_or, sym, arith}
use Rattle.std.proofs.lemmas.Option.{slice_get-get_or}
use Rattle.std.proofs.lemmas.Bool.{and_parts}
use Rattle.sets.specs.Sets.{member}
use Rattle.forms.specs.declared.Row.TheVariants.{Void}
use Rattle.relation.specs.Cells.{cell}
use Rattle.relation.specs.Faults.{label_set_of}
use Rattle.relation.proofs.Labels.{gives_labels}
use Rattle.relation.proofs.admission.given_labels.Goals as goal

pub returns-then-counts : goal.returns-then-counts
returns-then-counts c =
    let rows = (rows_of c.args.table.now) in
    let a = c.args.analysis.now in
    let p = c.args.p in
    let o = c.args.o in
    let (offered, inhabited) = and_parts (cell a.offered p o) (member a.inhabited o) (sym c.if-counts.ensures) in
    gives_labels rows p o (get_or rows o Void) (slice_get-get_or rows o Void c.requires.second)
    ((c.requires.analyzed.offers p o (omega (arith, (buffer_laws c.args.table.now).few)) (omega (arith, (buffer_laws c.args.table.now).few))).0 offered)
    ((c.requires.analyzed.inhabited o).0 inhabited)
    c.element_labels.result (c.element_labels.ensures ∙ ap (λ rs. label_set_of (get_or rs o Void)) c.rows.ensures.is)
