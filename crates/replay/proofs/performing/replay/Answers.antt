use Rattle.std.proofs.Common.{◌≡◌, [], ◌++◌, length, vec_items, sym, refl, ap, ◌∙◌, append_assoc, append-nil, arith}
use Rattle.std.specs.Vec.Iter.{into_iter_items}
use Rattle.std.proofs.lemmas.List.{nil_from_length}
use Rattle.book.proofs.Runs.{run_none}
use Rattle.replay.proofs.Runs.{run_push, length_push, room_more}
use Rattle.replay.proofs.performing.replay.Goals as goal

pub push_reserved-requires : goal.push_reserved-requires
push_reserved-requires g c =
    room_more c.loop-call.yielded (into_iter_items c.loop-call.call-iterator) (into_iter_items c.into_iter-call-iterator.result) c.in-Some.call (into_iter_items c.next.new.self) (vec_items c.loop-call.answers)
    _ _ c.args.calls.len
    c.loop-call.invariant.items c.in-Some.ensures.steps.0 c.loop-call.answers.ok.0 c.loop-call.invariant.long
    (ap length c.into_iter-call-iterator.ensures.into_iter_gives.0 ∙ sym c.args.calls.ok.0)
    (omega (arith, c.loop-call.invariant.capacity, c.clear.ensures.capacity, c.capacity.ensures, c.len.ensures, c.if-capacity-len.false))

pub loop-call-init : goal.loop-call-init
loop-call-init g c =
    let b = c.new-book.result in
    record {
      source = refl;
      run = rw c.clear.ensures.items (run_none (g.S.FormSource.rows b.source) b.pages c.new-book.ensures.empty);
      items = refl;
      capacity = refl;
      long = ap length c.clear.ensures.items;
    }

pub loop-call-preserved : goal.loop-call-preserved
loop-call-preserved g c =
    let bs = vec_items c.loop-call.answers in
    let done = c.perform-answer.ensures in
    record {
      source = done.source ∙ c.loop-call.invariant.source;
      run = run_push _ _ _ c.loop-call.yielded bs (vec_items c.push_reserved.new.self) c.in-Some.call c.perform-answer.result c.push_reserved.ensures.items c.loop-call.invariant.run (rw (← c.loop-call.invariant.source) done.meets);
      items = append_assoc c.loop-call.yielded _ _ ∙ ap (λ v. c.loop-call.yielded ++ v) (sym c.in-Some.ensures.steps.0) ∙ c.loop-call.invariant.items;
      capacity = c.push_reserved.ensures.capacity ∙ c.loop-call.invariant.capacity;
      long = length_push c.loop-call.yielded bs (vec_items c.push_reserved.new.self) c.in-Some.call c.perform-answer.result c.push_reserved.ensures.items c.loop-call.invariant.long;
    }

pub returns : goal.returns
returns g c =
    let left = c.loop-call.call-iterator in
    let nil : into_iter_items left ≡ [] = nil_from_length _ (omega (arith, c.in-None.ensures.steps.0, left.rest.ok.0)) in
    let all : c.loop-call.yielded ≡ vec_items c.args.calls =
    sym (append-nil c.loop-call.yielded) ∙ ap (λ v. c.loop-call.yielded ++ v) (sym nil) ∙ c.loop-call.invariant.items ∙ c.into_iter-call-iterator.ensures.into_iter_gives.0 in (
      omega (arith, c.capacity.ensures, c.len.ensures, c.if-capacity-len.false),
      c.loop-call.invariant.source ∙ c.new-book.ensures.source,
      rw (← all, ← c.new-book.ensures.source) c.loop-call.invariant.run,
    )
