use Rattle.std.proofs.Common.{◌+◌, ◌/◌, ◌%◌, [], ◌∷◌, decimal, sym, subst, arith}
use Rattle.std.proofs.lemmas.Fmt.{decimal_step}
use Rattle.forms.specs.Splices.{Wrote}
use Rattle.forms.proofs.Splices.{wrote_both}
use Rattle.forms.proofs.bytes.+put_digits.Goals as goal

pub returns : goal.returns
returns t c =
    let n = c.args.number in
    let first = c.put_digits-next in
    let last = c.put-2 in
    subst (λ s. Wrote c.args.out.now last.new.out c.args.place s last.result) (sym (decimal_step n c.if-number-lt10.false (omega arith)))
    (wrote_both c.args.out.now first.new.out last.new.out c.args.place first.result last.result (decimal (n / 10)) ((48 + n % 10) ∷ []) first.ensures last.ensures.0)
