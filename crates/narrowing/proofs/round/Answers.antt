use Rattle.std.proofs.Common.{ℕ, ◌+◌, Bool, List, sym, ◌∙◌, subst, arith}
use Rattle.sets.proofs.Membership.{member_within}
use Rattle.narrowing.proofs.Rounds.{Going, going_past, going_drop}
use Rattle.narrowing.proofs.round.Goals as goal
use Rattle.narrowing.proofs.round.Goals.{then-not-ask, else-not-ask}

pub overflow_add-from : goal.overflow_add-from
overflow_add-from g c = let (h, k) = member_within c.loop-place.set c.in-Some.place c.in-Some.ensures.1 in omega arith

pub loop-place-smaller : goal.loop-place-smaller
loop-place-smaller g c =
    let (from, there, _) = c.in-Some.ensures in
    let (h, _) = member_within c.args.set.now c.in-Some.place (c.loop-place.invariant.within c.in-Some.place there) in
    omega arith

pub loop-place-preserved : goal.loop-place-preserved
loop-place-preserved g c =
    let says = g.R.Rule.says c.args.rule.now in
    let old = c.args.set.now in
    let new = c.loop-place.set in
    let k = c.in-Some.place in
    let (_, there, skip) = c.in-Some.ensures in
    let P : List ℕ → Bool → Type 0 = λ ws b. Going says old ws b (k + 1) in
    elim c.if-not-ask.branch [
      | then-not-ask w ↦
          subst (λ ws. P ws c.if-not-ask.struck) (sym w.set-is) (subst (λ b. P w.remove.new.words b) (sym w.struck-is)
          (going_drop says old new c.loop-place.struck c.loop-place.from c.loop-place.invariant w.remove.new.words k (g.R.Rule.lawful c.args.rule.now) there
          (sym c.ask.ensures ∙ w.if-not-ask.true) w.remove.ensures))
      | else-not-ask w ↦
          subst (λ ws. P ws c.if-not-ask.struck) (sym w.set-is) (subst (λ b. P new b) (sym w.struck-is)
          (going_past says old new c.loop-place.struck c.loop-place.from c.loop-place.invariant k skip (sym c.ask.ensures ∙ w.if-not-ask.false)))
    ]
