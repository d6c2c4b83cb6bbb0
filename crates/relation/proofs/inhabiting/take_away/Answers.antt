use Rattle.std.proofs.Common.{sym, subst, ◌∙◌}
use Rattle.sets.specs.Sets.{member}
use Rattle.relation.proofs.Inhabitants.{Rest, rest_more, rest_all}
use Rattle.relation.proofs.inhabiting.take_away.Goals as goal

pub loop-p-preserved : goal.loop-p-preserved
loop-p-preserved c =
    let step = c.in-Some.ensures.steps in
    let (from, there, skip) = step.next in
    let old = member c.args.rest.now in
    let set = c.args.set.now in
    let same = c.loop-p.invariant.set in
    record {
      set = λ j. step.same j ∙ same j;
      rest = subst (Rest old set c.remove.new.words) (sym step.behind)
          (rest_more old set c.loop-p.rest c.remove.new.words c.loop-p.p-iterator.start c.in-Some.p from (sym (same c.in-Some.p) ∙ there) (λ j low less. sym (same j) ∙ skip j low less) c.loop-p.invariant.rest c.remove.ensures);
    }

pub returns : goal.returns
returns c = rest_all (member c.args.rest.now) c.args.set.now c.loop-p.rest c.loop-p.p-iterator.start (λ j low. sym (c.loop-p.invariant.set j) ∙ c.in-None.ensures.steps.next j low) c.loop-p.invariant.rest
