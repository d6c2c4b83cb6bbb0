use Rattle.std.proofs.Common.{◌+◌, ◌*◌, ◌∷◌, length, get_or, sym, ap, ◌∙◌, subst, arith}
use Rattle.documents.specs.Built.{ReadsNumber}
use Rattle.documents.proofs.Building.{rest_of, split, number_none, number_one, number_two}
use Rattle.documents.proofs.reader.number.Goals as goal

pub returns-in_default-clause-reads : goal.returns-in_default-clause-reads
returns-in_default-clause-reads c = number_none c.args.text.now (λ b s e d h is. omega (arith, ap length e, c.in_default.len_below)) _ _

pub returns-in_default-digit-clause-reads : goal.returns-in_default-digit-clause-reads
returns-in_default-digit-clause-reads c = number_none c.args.text.now (λ b s e d h is. c.in_default-digit.ensures d (h, ap (λ u. get_or u 0 0) e ∙ is)) _ _

pub returns-in_default-rest-clause-reads : goal.returns-in_default-rest-clause-reads
returns-in_default-rest-clause-reads c =
    let t = c.args.text.now in
    subst (λ u. ReadsNumber u c.in-Some.tens (rest_of t)) (sym (split t c.in-len1-up.len_at_least))
    (number_one (rest_of t) (get_or t 0 0) c.in-Some.tens c.in-Some.ensures.1 (λ b s e d h is. omega (arith, ap length e, c.in_default-rest.len_below)))

pub returns-in-Some-digit-clause-reads : goal.returns-in-Some-digit-clause-reads
returns-in-Some-digit-clause-reads c =
    let t = c.args.text.now in
    let s = rest_of t in
    subst (λ u. ReadsNumber u (c.in-Some.tens * 10 + c.in-Some-digit.ones) (rest_of s)) (sym (split t c.in-len1-up.len_at_least ∙ ap (λ u. get_or t 0 0 ∷ u) (split s c.in-len1-up-rest.len_at_least)))
    (number_two (rest_of s) (get_or t 0 0) (get_or s 0 0) c.in-Some.tens c.in-Some-digit.ones c.in-Some.ensures.1 c.in-Some-digit.ensures.1 c.in-Some-digit.ensures.0)

pub returns-in-None-clause-reads : goal.returns-in-None-clause-reads
returns-in-None-clause-reads c =
    let t = c.args.text.now in
    subst (λ u. ReadsNumber u c.in-Some.tens (rest_of t)) (sym (split t c.in-len1-up.len_at_least))
    (number_one (rest_of t) (get_or t 0 0) c.in-Some.tens c.in-Some.ensures.1 (λ b s e d h is. c.in-None.ensures d (h, ap (λ u. get_or u 0 0) e ∙ is)))
