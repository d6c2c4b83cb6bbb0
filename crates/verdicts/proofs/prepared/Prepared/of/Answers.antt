use Rattle.std.proofs.Common.{sym, subst, rules}
use Rattle.relation.specs.Admission.{Admitted}
use Rattle.relation.specs.Judged.{Analyzed}
use Rattle.schema.proofs.Undetermined.{reflexive_needs_determined}
use Rattle.verdicts.proofs.prepared.Prepared.of.Goals as goal

pub sorted-requires : goal.sorted-requires
sorted-requires g c =
    let (admitted, analyzed) = c.in_ok-analysis.ensures.judged in
    let same = sym c.of.ensures in
    record { admitted = subst Admitted same admitted; analyzed = subst (λ rs. Analyzed rs c.in_ok-analysis.analysis) same analyzed }

pub returns-in_err-analysis : goal.returns-in_err-analysis
returns-in_err-analysis g c = record { prepared = search rules; needed = reflexive_needs_determined }

pub returns : goal.returns
returns g c = record { prepared = search rules; needed = reflexive_needs_determined }
