use Rattle.forms.specs.Buffers.{rows_of}
use Rattle.std.proofs.Common.{false, refl, arith}
use Rattle.std.proofs.lemmas.Bool.{both_ways}
use Rattle.std.proofs.lemmas.Bool.Decides.{not_from_Decides}
use Rattle.relation.proofs.Labels.{seen_more, seen_twice, seen_all}
use Rattle.relation.proofs.admission.shares.Goals as goal

pub returns-then-meets : goal.returns-then-meets
returns-then-meets c = (
  λ _. seen_twice (rows_of c.args.table.now) c.args.p c.loop-o.seen c.loop-o.o c.given_labels-labels.result c.loop-o.invariant c.given_labels-labels.ensures (c.meets.ensures.0 c.if-meets.true),
  λ _. refl,
)

pub loop-o-preserved : goal.loop-o-preserved
loop-o-preserved c = seen_more (rows_of c.args.table.now) c.args.p c.loop-o.seen c.loop-o.o c.given_labels-labels.result c.loop-o.invariant c.given_labels-labels.ensures (not_from_Decides c.meets.result c.meets.ensures c.if-meets.false)

pub returns : goal.returns
returns c = (
  λ e. absurd (both_ways false refl e),
  λ h. absurd (seen_all (rows_of c.args.table.now) c.args.p c.loop-o.seen c.loop-o.o (omega (arith, c.count-o-end.ensures)) c.loop-o.invariant h),
)
