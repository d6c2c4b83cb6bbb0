use Rattle.std.proofs.Common.{ℕ, List, rules, tests}
use Rattle.std.proofs.lemmas.Iterator.{YieldsList-from_map_by}
use Rattle.std.proofs.lemmas.Iterator.Consumers.{map_from_collect, YieldsList-at, YieldsList-from_filter, YieldsList-from_enumerate}
use Rattle.std.proofs.lemmas.Iterator.Splits.{YieldsList-from_lines}
use Rattle.std.specs.Str.{trim}
use Rattle.formbook.specs.Scripts.{is_call_line}
use Rattle.formbook.specs.declared.replaying.Line.{Line}
use Rattle.formbook.proofs.replaying.lines_of.Goals as goal

pub returns : goal.returns
returns c =
    let told : Line → ℕ × List ℕ = λ line. (line.number, line.text.now) in
    let trimmed : ℕ × List ℕ → ℕ × List ℕ = λ p. (p.0, trim p.1) in
    map_from_collect _ c.collect.ensures.ran
    (YieldsList-from_filter _ (λ (p : ℕ × List ℕ). is_call_line p.1)
    (YieldsList-at c.filter.ensures.source
    (YieldsList-from_map_by _ told trimmed
    (YieldsList-at c.map.ensures.source (YieldsList-from_enumerate (YieldsList-at c.enumerate.ensures.source (YieldsList-from_lines c.args.script.now c.lines.ensures.rest)) c.enumerate.ensures.count))
    c.map.ensures.closure
    (λ x r q k. search (rules, tests))))
    c.filter.ensures.closure
    (λ x r q k. search (rules, tests)))
