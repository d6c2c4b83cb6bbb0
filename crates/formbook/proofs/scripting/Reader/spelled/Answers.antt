use Rattle.std.proofs.Common.{◌≡◌, ℕ, ◌⊎◌, List, drop, length-drop, codes, sym, subst, ⊎_elim, inl, inr, rules, arith}
use Rattle.std.proofs.lemmas.List.{take_all}
use Rattle.std.proofs.lemmas.Result.{IfErr-weaker}
use Rattle.book.specs.Calls.{Call}
use Rattle.book.specs.Calls.Call.{fit}
use Rattle.documents.specs.declared.nodes.Node.{Node}
use Rattle.formbook.specs.Words.{Words, word}
use Rattle.formbook.specs.Spelling.{FitsOrder, FitsNodes, Spells}
use Rattle.formbook.proofs.scripting.Reader.spelled.Goals.{in_default-via-then-words-lt1, in_default-via-else-words-lt1+then-words-lt2+in_default, in_default-via-else-words-lt1+else-words-lt2+then-words-lt3+in_default, in_default-via-else-words-lt1+else-words-lt2+else-words-lt3+then-words-lt4+in_default, in_default-via-else-words-lt1+else-words-lt2+else-words-lt3+else-words-lt4+then-words-lt5+in_default, in_default-via-else-words-lt1+else-words-lt2+else-words-lt3+else-words-lt4+else-words-lt5+in_default}
use Rattle.formbook.proofs.scripting.Reader.spelled.Goals as goal

only_fits : (n : ℕ) (words : Words) → (word words 0 ≡ codes "fit") ⊎ (word words 0 ≡ codes "fit-nodes") → ((nodes : List Node) (root row : ℕ) (marks : List ℕ) → Spells n words (fit nodes root row marks) → ⊥) → (call : Call) → Spells n words call → ⊥
only_fits n words name none (fit nodes root row marks) spells = none nodes root row marks spells
only_fits n words name none _ spells = grind arith

fit_is : (n : ℕ) (words : Words) → word words 0 ≡ codes "fit" → ((call : Call) → FitsOrder (word words 1) (word words 2) call → ⊥) → (call : Call) → Spells n words call → ⊥
fit_is n words name none = only_fits n words (inl name) (λ nodes root row marks spells. ⊎_elim (λ s. none (fit nodes root row marks) s.1) (λ s. grind (arith, s)) spells)

pub returns-in-fit-clause-misses : goal.returns-in-fit-clause-misses
returns-in-fit-clause-misses c = IfErr-weaker c.read_fit.result _ _ (λ e why. ⊎_elim (λ short. inl short) (λ none. inr (fit_is c.args.self.now.count c.args.words.now (search rules) none)) why) c.read_fit.ensures.misses

nodes_is : (n : ℕ) (words rest : Words) → rest ≡ drop 4 words → word words 0 ≡ codes "fit-nodes" → ((call : Call) → FitsNodes (word words 1) (word words 2) (word words 3) rest call → ⊥) → (call : Call) → Spells n words call → ⊥
nodes_is n words rest same name none = only_fits n words (inr name) (λ nodes root row marks spells. ⊎_elim (λ s. grind (arith, s)) (λ s. none (fit nodes root row marks) (subst (λ v. FitsNodes (word words 1) (word words 2) (word words 3) v (fit nodes root row marks)) (sym same) s.2)) spells)

pub returns-in-text-5-clause-misses : goal.returns-in-text-5-clause-misses
returns-in-text-5-clause-misses c = IfErr-weaker c.read_fit_nodes.result _ _ (λ e why. ⊎_elim (λ short. inl short) (λ none. inr (nodes_is c.args.self.now.count c.args.words.now _ (take_all _ _ (omega (arith, length-drop 4 c.args.words.now))) (search rules) none)) why) c.read_fit_nodes.ensures.misses

pub returns-in_default-clause-misses : goal.returns-in_default-clause-misses
returns-in_default-clause-misses c = elim c.in_default.branch [
  | in_default-via-then-words-lt1 w ↦ inr (λ call spells. grind arith)
  | in_default-via-else-words-lt1+then-words-lt2+in_default w ↦ inr (λ call spells. grind arith)
  | in_default-via-else-words-lt1+else-words-lt2+then-words-lt3+in_default w ↦ inr (λ call spells. grind arith)
  | in_default-via-else-words-lt1+else-words-lt2+else-words-lt3+then-words-lt4+in_default w ↦ inr (λ call spells. grind arith)
  | in_default-via-else-words-lt1+else-words-lt2+else-words-lt3+else-words-lt4+then-words-lt5+in_default w ↦ inr (λ call spells. grind arith)
  | in_default-via-else-words-lt1+else-words-lt2+else-words-lt3+else-words-lt4+else-words-lt5+in_default w ↦ inr (λ call spells. grind arith)
]
