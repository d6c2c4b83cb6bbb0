use Rattle.std.proofs.Common.{◌≡◌, ℕ, ◌*◌, ◌/◌, ◌<◌, false, List, length, Bor, sym, refl, ap, ◌∙◌, subst}
use Rattle.sets.specs.Sets.{word, member}
use Rattle.forms.specs.Buffers.{rows_of}
use Rattle.forms.specs.Laws.{buffer_laws}
use Rattle.forms.specs.Limits.{max_rows}
use Rattle.verdicts.specs.Facts.{bounded_of, admitted_of}
use Rattle.verdicts.specs.declared.prepared.leaning.Walk.{Walk}
use Rattle.verdicts.proofs.LeanedFrom.{Leaning, leaning_none, walk_more, walk_less, leans_decided, leans_confined, leans_rest}
use Rattle.verdicts.proofs.Pending.{none_met, met_still, pair_named}
use Rattle.verdicts.proofs.prepared.Prepared.leaned_from.Goals as goal

pub loop-pair-init : goal.loop-pair-init
loop-pair-init c =
    let t = c.args.self.now in
    record {
      leaning = leaning_none (rows_of t.table) c.args.starts (max_rows * max_rows / word) (admitted_of t).some;
      linked = none_met (rows_of t.table) c.of-links.result _ c.of-links.ensures.none;
      parted = none_met (rows_of t.table) c.of-parts.result _ c.of-parts.ensures.none;
      of_channels = c.of-links.ensures.sets;
      of_elements = c.of-parts.ensures.sets;
    }

pub loop-pair-smaller : goal.loop-pair-smaller
loop-pair-smaller c =
    let t = c.args.self.now in
    let i = c.loop-pair.invariant in
    let named = pair_named t c.in-Some.pair c.loop-pair.links c.loop-pair.parts i.of_channels i.of_elements c.name_sets_once.ensures.pended c.name_sets_once-in-Some.ensures.pended in
    walk_less (rows_of t.table) c.args.starts (buffer_laws t.table).few c.loop-pair.walk c.take_lowest.new.walk c.name_sets_once-in-Some.new.walk c.in-Some.pair c.loop-pair.invariant.leaning
    c.in-Some.ensures named (max_rows * max_rows) refl

pub loop-pair-preserved : goal.loop-pair-preserved
loop-pair-preserved c =
    let t = c.args.self.now in
    let i = c.loop-pair.invariant in
    let named = pair_named t c.in-Some.pair c.loop-pair.links c.loop-pair.parts i.of_channels i.of_elements c.name_sets_once.ensures.pended c.name_sets_once-in-Some.ensures.pended in
    record {
      leaning = walk_more (rows_of t.table) c.args.starts (buffer_laws t.table).few c.loop-pair.walk c.take_lowest.new.walk c.name_sets_once-in-Some.new.walk c.in-Some.pair c.loop-pair.invariant.leaning
          c.in-Some.ensures named;
      linked = met_still (rows_of t.table) c.name_sets_once.new.self c.name_sets_once-in-Some.ensures.pended c.name_sets_once.ensures.noted;
      parted = c.name_sets_once-in-Some.ensures.noted;
      of_channels = ap (λ (cells : Bor (List ℕ)). cells.now) c.name_sets_once.ensures.same ∙ i.of_channels;
      of_elements = ap (λ (cells : Bor (List ℕ)). cells.now) c.name_sets_once-in-Some.ensures.same ∙ i.of_elements;
    }

pub returns : goal.returns
returns c =
    let t = c.args.self.now in
    let rows = rows_of t.table in
    let rest = c.in_default.ensures in
    let w = c.take_lowest.new.walk in
    let same = sym rest.same in
    let none = subst (λ (w : Walk). (j : ℕ) → j < length rows * length rows → member w.pending j ≡ false) same rest.none in
    let l = subst (λ (w : Walk). Leaning rows c.args.starts w.done w.pending) same c.loop-pair.invariant.leaning in
    record {
      leans = leans_decided rows c.args.starts (bounded_of t) w.done w.pending l none;
      confined = leans_confined rows c.args.starts (bounded_of t) w.done w.pending l none;
      rest = leans_rest rows c.args.starts (bounded_of t) w.done w.pending l none;
    }
