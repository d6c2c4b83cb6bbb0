use Rattle.std.proofs.Common.{[], ◌∷◌, decimal, sym, subst}
use Rattle.forms.specs.Splices.{Wrote}
use Rattle.forms.proofs.Splices.{wrote_both}
use Rattle.documents.specs.declared.writer.Shape.TheVariants.{Branch}
use Rattle.documents.specs.Grammar.{spelled_document}
use Rattle.documents.specs.Spelling.{Shaped}
use Rattle.documents.proofs.Shapes.{wrote_single, wrote_chain}
use Rattle.documents.proofs.writer.Table.+write.Goals as goal

pub returns-in-Address : goal.returns-in-Address
returns-in-Address t c = λ x h.
    let (_, is) = c.in-Address.ensures in
    let out = c.args.out.now in
    subst (λ d. Wrote out c.put_number.new.out c.args.place (spelled_document d) c.put_number.result) (sym (is x h))
    (wrote_both out c.put-at.new.out c.put_number.new.out c.args.place c.put-at.result c.put_number.result (64 ∷ []) (decimal c.in-Address.row) c.put-at.ensures.0 c.put_number.ensures.0)

pub returns-in-None : goal.returns-in-None
returns-in-None t c = λ x h.
    let (_, _, shape) = subst (λ f. Shaped c.args.self.now.nodes.now c.args.k (Branch c.in-Branch.label c.in-Branch.inside f)) c.in-None.is c.in-Branch.ensures in
    let (a, is, p) = shape x h in
    wrote_single c.in-Branch.label a c.args.out.now c.put_number-opens.new.out c.put-start.new.out c.write-end.new.out c.put-shut.new.out
    c.args.place c.put_number-opens.result c.put-start.result c.write-end.result c.put-shut.result c.put_number-opens.ensures.0 c.put-start.ensures.0 (c.write-end.ensures a p) c.put-shut.ensures.0 x is

pub returns-in-Some : goal.returns-in-Some
returns-in-Some t c = λ x h.
    let (_, _, _, shape) = subst (λ f. Shaped c.args.self.now.nodes.now c.args.k (Branch c.in-Branch.label c.in-Branch.inside f)) c.in-Some.is c.in-Branch.ensures in
    let (a, b, is, comma, p, q) = shape x h in
    wrote_chain c.in-Branch.label a c.args.out.now c.put_number-opens.new.out c.put-start.new.out c.write-end.new.out c.put-shut.new.out
    c.args.place c.put_number-opens.result c.put-start.result c.write-end.result c.put-shut.result c.put_number-opens.ensures.0 c.put-start.ensures.0 (c.write-end.ensures a p) c.put-shut.ensures.0
    x b c.put-comma.new.out c.write.new.out c.put-comma.result c.write.result is comma c.put-comma.ensures.0 (c.write.ensures b q)
