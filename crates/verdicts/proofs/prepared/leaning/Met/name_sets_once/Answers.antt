use Rattle.std.proofs.Common.{ℕ, List, Bor, sym, subst, ◌∙◌}
use Rattle.sets.proofs.Going.{step_found}
use Rattle.forms.specs.Buffers.{rows_of}
use Rattle.verdicts.specs.Naming.{NamedWith}
use Rattle.verdicts.specs.Ready.{in_row}
use Rattle.verdicts.specs.RowSets.{row_set}
use Rattle.verdicts.specs.Walking.{Notes}
use Rattle.verdicts.proofs.Pending.{Before, noting_more}
use Rattle.verdicts.proofs.prepared.leaning.Met.name_sets_once.Goals as goal

pub loop-c-preserved : goal.loop-c-preserved
loop-c-preserved c =
    let N : ℕ → ℕ → Type 0 = λ o. NamedWith (rows_of c.args.prepared.now.table) c.args.self.now.cells.now o c.args.pair.1 in
    let f = in_row c.args.self.now.cells.now c.args.pair.0 in
    let s = c.loop-c.c-iterator in
    let step = c.in-Some.ensures.steps in
    let set = c.loop-c.invariant.set in
    let named = subst (λ (cells : Bor (List ℕ)). Notes (NamedWith (rows_of c.args.prepared.now.table) cells.now c.in-Some.c c.args.pair.1) c.loop-c.walk c.name_once.new.walk) c.loop-c.invariant.same c.name_once.ensures.pended in
    record {
      set = λ o. step.same o ∙ set o;
      noting = subst (λ from. Notes (Before f N from) c.args.walk.now c.name_once.new.walk) (sym step.behind)
          (noting_more f N c.args.walk.now c.loop-c.walk c.name_once.new.walk s.start c.in-Some.c (step_found row_set (λ s. s.start) f s c.next.new.self set c.in-Some.c step) c.loop-c.invariant.noting named);
      noted = c.name_once.ensures.noted;
      same = c.name_once.ensures.same ∙ c.loop-c.invariant.same;
    }
