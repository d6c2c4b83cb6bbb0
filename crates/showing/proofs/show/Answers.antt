use Rattle.std.proofs.Common.{length, sym, refl, ◌∙◌, arith}
use Rattle.std.proofs.lemmas.Bool.{both_ways}
use Rattle.std.proofs.lemmas.Result.{err_from_is_err_and}
use Rattle.sets.specs.Sets.{member}
use Rattle.forms.specs.Buffers.{rows_of}
use Rattle.schema.specs.Rules.Leans.{on_itself}
use Rattle.verdicts.proofs.Deciding.{between_parts}
use Rattle.showing.specs.Showing.Unshowable.{no_row, is_below, is_few}
use Rattle.showing.proofs.show.Goals as goal

pub invariant_of-question : goal.invariant_of-question
invariant_of-question c =
    let rows = rows_of c.args.prepared.now.table in
    record {
      asked = ∣ record {
        of_rows = λ a b h. let (a<, b<, _) = between_parts (length rows) (member c.leaned-leaned.result) a b h in (a<, b<);
        confined = c.leaned-leaned.ensures.confined;
        largest = c.narrow.ensures.largest;
      } ∣₁;
    }

pub returns-in_err-in_table : goal.returns-in_err-in_table
returns-in_err-in_table c =
    let p = err_from_is_err_and c.from_residual.result c.from_residual.ensures.1 in
    let (is, none) = c.in_err-in_table.ensures in
    rw (p.1, p.2, is) (no_row none, refl)

pub returns-then-relates : goal.returns-then-relates
returns-then-relates c =
    let (p<, q<) = c.in_ok-in_table.ensures in
    let leans = (c.leaned-leaned.ensures.leans p< q< c.args.pair.0 c.args.pair.1).1 on_itself in
    let tells = c.narrow.ensures.confined c.leaned-leaned.ensures.confined c.args.pair.0 c.args.pair.1 leans in
    (is_below (p<, q<) (tells.0 (sym c.relates.ensures ∙ c.if-relates.true)), refl)

pub returns-then-nodes-most_nodes : goal.returns-then-nodes-most_nodes
returns-then-nodes-most_nodes c =
    let (p<, q<) = c.in_ok-in_table.ensures in
    let leans = (c.leaned-leaned.ensures.leans p< q< c.args.pair.0 c.args.pair.1).1 on_itself in
    let tells = c.narrow.ensures.confined c.leaned-leaned.ensures.confined c.args.pair.0 c.args.pair.1 leans in
    (is_few (p<, q<) (λ b. both_ways c.relates.result c.if-relates.false (c.relates.ensures ∙ tells.1 b)) (omega arith), refl)

pub draw-requires : goal.draw-requires
draw-requires c =
    let (p<, q<) = c.in_ok-in_table.ensures in
    record {
      leans = (c.leaned-leaned.ensures.leans p< q< c.args.pair.0 c.args.pair.1).1 on_itself;
      apart = λ h. both_ways c.relates.result c.if-relates.false (c.relates.ensures ∙ h);
      room = omega arith;
    }

pub returns : goal.returns
returns c =
    let (p<, q<) = c.in_ok-in_table.ensures in
    let leans = (c.leaned-leaned.ensures.leans p< q< c.args.pair.0 c.args.pair.1).1 on_itself in
    let tells = c.narrow.ensures.confined c.leaned-leaned.ensures.confined c.args.pair.0 c.args.pair.1 leans in (
      record { pair = (p<, q<); not_below = λ b. both_ways c.relates.result c.if-relates.false (c.relates.ensures ∙ tells.1 b); enough = omega arith },
      c.draw.ensures.few,
      c.draw.ensures.shows,
      c.draw.ensures.rest,
      c.draw.ensures.same,
    )
