use Rattle.std.proofs.Common.{◌+◌, List, length, sym, subst}
use Rattle.forms.specs.Buffers.{rows_of}
use Rattle.documents.specs.declared.nodes.Node.{Node}
use Rattle.verdicts.specs.Pairs.{related}
use Rattle.showing.specs.Drawing.{Rounded}
use Rattle.showing.specs.declared.drawn.Drawn.{Drawn}
use Rattle.showing.proofs.Drawing.{rounded_skip, rounded_more}
use Rattle.showing.proofs.drawn.Drawn.round.Goals as goal
use Rattle.showing.proofs.drawn.Drawn.round.Goals.{then-k-but, else-k-but}

pub loop-k-preserved : goal.loop-k-preserved
loop-k-preserved c =
    let rows = rows_of c.args.question.now.prepared.now.table in
    let leaned = related (length rows) c.args.question.now.leaned.now in
    let below = related (length rows) c.args.question.now.below.now in
    let k = c.loop-k.k in
    let before = c.args.nodes.now in
    let start = c.args.self.now in
    let Goal : List Node → Drawn → Type 0 = λ nodes d. Rounded rows leaned below c.args.but (k + 1) before nodes start.used d.used start.numbers d.numbers in
    elim c.if-k-but.branch [
      | then-k-but w ↦ subst (λ x. Goal x c.if-k-but.self) (sym w.nodes-is) (subst (Goal w.visit.new.nodes) (sym w.self-is)
          (rounded_more rows leaned below c.args.but before c.loop-k.nodes start.used c.loop-k.self.used start.numbers c.loop-k.self.numbers k c.loop-k.invariant
          w.visit.new.nodes w.visit.new.self.used w.visit.new.self.numbers w.visit.result w.if-k-but.true w.visit.ensures))
      | else-k-but w ↦ subst (λ x. Goal x c.if-k-but.self) (sym w.nodes-is) (subst (Goal c.loop-k.nodes) (sym w.self-is)
          (rounded_skip rows leaned below c.args.but before c.loop-k.nodes start.used c.loop-k.self.used start.numbers c.loop-k.self.numbers k c.loop-k.invariant w.if-k-but.false))
    ]
