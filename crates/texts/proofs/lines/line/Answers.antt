use Rattle.std.proofs.Common.{sym, refl}
use Rattle.std.proofs.lemmas.Result.{err_from_is_err_and}
use Rattle.forms.specs.declared.Row.TheVariants.{Void, Nothing}
use Rattle.texts.specs.declared.kinds.Kind.TheVariants.{Void as void, Nothing as nothing, Channel as channel, Element as element, Union as union}
use Rattle.texts.proofs.LineSteps.{kind_wrong, whole_line, line_fields, line_blanks}
use Rattle.texts.proofs.lines.line.Goals as goal

pub returns-in_err-kind : goal.returns-in_err-kind
returns-in_err-kind c = let p = err_from_is_err_and c.from_residual.result c.from_residual.ensures.1 in rw (p.1, p.2) (kind_wrong c.args.text.now c.in_err-kind.field-0.0 c.in_err-kind.ensures)

pub returns-in_err-blanks-in-Void : goal.returns-in_err-blanks-in-Void
returns-in_err-blanks-in-Void c = let p = err_from_is_err_and c.from_residual-in_err-blanks-in-Void.result c.from_residual-in_err-blanks-in-Void.ensures.1 in rw (p.1, p.2) (line_blanks c.args.text.now c.in_ok-kind.first.now c.in_ok-kind.kind void c.in-Void.is c.in_ok-kind.ensures refl c.in_err-blanks-in-Void.field-0.0 c.in_err-blanks-in-Void.ensures)

pub returns-in_ok-blanks-in-Void : goal.returns-in_ok-blanks-in-Void
returns-in_ok-blanks-in-Void c =
    let (e, stop) = c.in_ok-kind.ensures in
    ((tt, tt), whole_line Void c.in_ok-kind.kind c.args.text.now c.in_ok-kind.first.now c.in_ok-blanks-in-Void.field-0.now e stop (sym c.in-Void.is) c.in_ok-blanks-in-Void.ensures)

pub returns-in_err-blanks-in-Nothing : goal.returns-in_err-blanks-in-Nothing
returns-in_err-blanks-in-Nothing c = let p = err_from_is_err_and c.from_residual-in_err-blanks-in-Nothing.result c.from_residual-in_err-blanks-in-Nothing.ensures.1 in rw (p.1, p.2) (line_blanks c.args.text.now c.in_ok-kind.first.now c.in_ok-kind.kind nothing c.in-Nothing.is c.in_ok-kind.ensures refl c.in_err-blanks-in-Nothing.field-0.0 c.in_err-blanks-in-Nothing.ensures)

pub returns-in_ok-blanks-in-Nothing : goal.returns-in_ok-blanks-in-Nothing
returns-in_ok-blanks-in-Nothing c =
    let (e, stop) = c.in_ok-kind.ensures in
    ((tt, tt), whole_line Nothing c.in_ok-kind.kind c.args.text.now c.in_ok-kind.first.now c.in_ok-blanks-in-Nothing.field-0.now e stop (sym c.in-Nothing.is) c.in_ok-blanks-in-Nothing.ensures)

pub returns-in-Channel : goal.returns-in-Channel
returns-in-Channel c = line_fields c.args.text.now c.in_ok-kind.first.now c.in_ok-kind.kind channel c.in-Channel.is c.in_ok-kind.ensures c.channel_fields.result c.channel_fields.ensures

pub returns-in-Element : goal.returns-in-Element
returns-in-Element c = line_fields c.args.text.now c.in_ok-kind.first.now c.in_ok-kind.kind element c.in-Element.is c.in_ok-kind.ensures c.element_fields.result c.element_fields.ensures

pub returns-in-Union : goal.returns-in-Union
returns-in-Union c = line_fields c.args.text.now c.in_ok-kind.first.now c.in_ok-kind.kind union c.in-Union.is c.in_ok-kind.ensures c.union_fields.result c.union_fields.ensures
