use Rattle.std.proofs.Common.{ℕ, subst, arith}
use Rattle.std.specs.Bool.{Decides}
use Rattle.sets.specs.Sets.{member}
use Rattle.forms.specs.Schema.{Inhabited}
use Rattle.relation.proofs.Inhabitants.{inhabited_all}
use Rattle.relation.proofs.inhabiting.inhabited_rows.Goals as goal

pub returns : goal.returns
returns c =
    let rows = c.rows-rows.result.now in
    let all = member c.first-all.result in
    subst (λ rs. (p : ℕ) → Decides (member c.take_away.new.rest p) (Inhabited rs p)) c.rows-rows.ensures.is
    (inhabited_all rows all (c.first-all.ensures.all (omega (arith, c.rows-rows.ensures.few)) (omega (arith, c.rows-rows.ensures.few))) (member c.narrow.new.set) (member c.take_away.new.rest) c.narrow.ensures c.take_away.ensures)
