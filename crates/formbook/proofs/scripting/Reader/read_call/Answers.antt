use Rattle.std.proofs.Common.{◌∙◌, ⊎_elim, inl, inr}
use Rattle.std.proofs.lemmas.Result.{IfOk-weaker, IfErr-weaker, MatchResult-from_both}
use Rattle.replay.specs.Exchanges.{call_of}
use Rattle.replay.specs.declared.exchange.Call.{Call}
use Rattle.formbook.specs.Spelling.{Misses, Spells, LineSpells, SpellsNone}
use Rattle.formbook.proofs.WordsOf.{collected}
use Rattle.formbook.proofs.scripting.Reader.read_call.Goals as goal

pub returns : goal.returns
returns c =
    let n = c.args.self.now.count in
    let words = c.deref.result.now in
    let (xs, drained, made) = c.in_ok-words.ensures.ran in
    let parted = collected c.split_whitespace.result c.args.line.now xs words c.split_whitespace.ensures.rest (c.deref.ensures.value ∙ made.0) drained in
    MatchResult-from_both c.spelled.result (λ (call : Call). LineSpells n c.args.line.now (call_of call)) (SpellsNone n c.args.line.now)
    (IfOk-weaker _ (λ (call : Call). Spells n words (call_of call)) (λ (call : Call). LineSpells n c.args.line.now (call_of call)) (λ call spells. (words, parted, spells)) c.spelled.ensures.spells)
    (IfErr-weaker _ (Misses (Spells n words)) (SpellsNone n c.args.line.now) (λ e why. ⊎_elim {C = SpellsNone n c.args.line.now e} (λ short. inl short) (λ none. inr (words, parted, none)) why) c.spelled.ensures.misses)
