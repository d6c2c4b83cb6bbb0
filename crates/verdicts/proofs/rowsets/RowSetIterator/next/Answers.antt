use Rattle.std.proofs.Common.{sym, refl, subst, ◌∙◌, arith}
use Rattle.sets.specs.Sets.{GoesOn}
use Rattle.verdicts.specs.RowSets.{row_set}
use Rattle.verdicts.proofs.rowsets.RowSetIterator.next.Goals as goal

pub returns-in_err-words-clause-steps : goal.returns-in_err-words-clause-steps
returns-in_err-words-clause-steps c =
    let s = c.args.self.now in
    subst (λ r. GoesOn row_set (λ s. s.start) s r s) (sym c.from_residual.ensures) (record { next = λ j _. c.in_err-words.ensures j; same = λ _. refl; behind = refl })

pub returns-in_err-o-clause-steps : goal.returns-in_err-o-clause-steps
returns-in_err-o-clause-steps c =
    let s = c.args.self.now in
    subst (λ r. GoesOn row_set (λ s. s.start) s r s) (sym c.from_residual-in_err-o.ensures)
    (record { next = λ j low. sym (c.in_ok-words.ensures j).0 ∙ c.in_err-o.ensures j low; same = λ _. refl; behind = refl })

pub overflow_cast-o : goal.overflow_cast-o
overflow_cast-o c =
    let (same, small) = c.in_ok-words.ensures c.in_ok-o.field-0 in
    let low = small (sym same ∙ c.in_ok-o.ensures.1) in
    omega arith

pub overflow_add-self : goal.overflow_add-self
overflow_add-self c =
    let (same, small) = c.in_ok-words.ensures c.in_ok-o.field-0 in
    let low = small (sym same ∙ c.in_ok-o.ensures.1) in
    omega arith

pub returns-clause-steps : goal.returns-clause-steps
returns-clause-steps c =
    let is = c.in_ok-words.ensures in
    let (from, there, skip) = c.in_ok-o.ensures in
    record { next = (from, sym (is c.in_ok-o.field-0).0 ∙ there, λ j low less. sym (is j).0 ∙ skip j low less); same = λ _. refl; behind = refl }

pub returns-clause-goes : goal.returns-clause-goes
returns-clause-goes c =
    let (same, small) = c.in_ok-words.ensures c.in_ok-o.field-0 in
    let low = small (sym same ∙ c.in_ok-o.ensures.1) in
    let from = c.in_ok-o.ensures.0 in
    record { on = λ _. (tt, tt, omega arith); keeps = tt; rests = λ _. tt }
