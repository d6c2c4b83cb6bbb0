use Rattle.std.proofs.Common.{refl, ◌∙◌}
use Rattle.replay.proofs.Buffers.{refilled}
use Rattle.replay.proofs.performing.perform.Goals as goal

pub returns-in-HandOut : goal.returns-in-HandOut
returns-in-HandOut g c =
    let v = c.in-HandOut.buffer in
    record {
      source = refl;
      meets = rw (c.in-HandOut.is, refilled c.hand_out-handed.new.buffer v.items v.len (c.hand_out-handed.auto.buffer ∙ c.deref_mut.ensures.len), ← c.deref_mut.ensures.value) c.hand_out-handed.ensures;
    }

pub returns-in-Show : goal.returns-in-Show
returns-in-Show g c =
    let v = c.in-Show.buffer in
    record {
      source = refl;
      meets = rw (c.in-Show.is, refilled c.show-shown.new.nodes v.items v.len (c.show-shown.auto.nodes ∙ c.deref_mut-in-Show.ensures.len), ← c.deref_mut-in-Show.ensures.value) c.show-shown.ensures;
    }

pub returns-in-Fit : goal.returns-in-Fit
returns-in-Fit g c =
    let v = c.in-Fit.marks in
    let long = c.fit-fitted.auto.marks ∙ c.deref_mut-in-Fit.ensures.len in
    record {
      source = c.fit-fitted.ensures.source;
      meets = rw (c.in-Fit.is, refilled c.fit-fitted.new.marks v.items v.len long, ← c.deref-in-Fit.ensures.value, ← c.deref_mut-in-Fit.ensures.value) c.fit-fitted.ensures.meets;
    }
