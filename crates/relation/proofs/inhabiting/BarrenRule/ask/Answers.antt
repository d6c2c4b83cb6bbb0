use Rattle.std.proofs.Common.{length, Some, sym, ap, ◌∙◌, arith}
use Rattle.std.proofs.lemmas.Bool.Decides.{nat_tests}
use Rattle.std.proofs.lemmas.Option.{slice_get-get_or, slice_get_past}
use Rattle.sets.specs.Sets.{member}
use Rattle.relation.specs.Barren.{barren_at}
use Rattle.relation.proofs.inhabiting.BarrenRule.ask.Goals as goal

pub returns-in-Some : goal.returns-in-Some
returns-in-Some c =
    let rows = c.args.self.now.rows.now in
    let row = c.in-Some.row.now in
    let (_, _, _, (within, is), _) = c.in-Some.ensures.lookup in
    c.is_barren.ensures ∙ sym (ap (barren_at (length rows) (member c.args.set.now)) (slice_get-get_or rows c.args.place row within ∙ ap Some (sym (is row))))

pub returns-in-None : goal.returns-in-None
returns-in-None c =
    let rows = c.args.self.now.rows.now in
    sym (ap (barren_at (length rows) (member c.args.set.now)) (slice_get_past rows c.args.place (grind (arith, nat_tests, c.in-None.ensures.lookup.0))))
