use Rattle.std.proofs.Common.{◌≡◌, [], ◌∷◌, subst}
use Rattle.forms.specs.Splices.{Wrote}
use Rattle.texts.specs.RowText.{letter, kind}
use Rattle.texts.proofs.Laying.{wrote_line}
use Rattle.texts.proofs.bytes.put_row.Goals as goal

pub returns : goal.returns
returns c =
    let kind_is : c.from-2.result ≡ letter (kind c.args.row) = cc in
    wrote_line c.args.row c.args.out.now c.put-after.new.out c.put-first.new.out c.put_first-behind.new.out c.put-second.new.out c.put_second-past.new.out c.put-third.new.out c.put_third-end.new.out c.put.new.out
    c.args.place c.put-after.result c.put-first.result c.put_first-behind.result c.put-second.result c.put_second-past.result c.put-third.result c.put_third-end.result c.put.result
    (subst (λ b. Wrote c.args.out.now c.put-after.new.out c.args.place (b ∷ []) c.put-after.result) kind_is c.put-after.ensures.0)
    c.put-first.ensures.0 c.put_first-behind.ensures c.put-second.ensures.0 c.put_second-past.ensures c.put-third.ensures.0 c.put_third-end.ensures c.put.ensures.0
