use Rattle.std.proofs.Common.{◌≡◌, ℕ, ◌+◌, ◌-◌, ◌≤◌, List, [], ◌∷◌, ◌++◌, length, slice_index_or, take, replicate, Bor, ap, sym, ◌∙◌, subst, ⊎_elim, inr, arith}
use Rattle.std.proofs.lemmas.Result.{err_from_is_err_and}
use Rattle.std.proofs.lemmas.List.{take_all}
use Rattle.std.specs.List.{AllByRecursion}
use Rattle.documents.specs.declared.nodes.Node.{Node}
use Rattle.formbook.specs.Words.{Words}
use Rattle.formbook.specs.Spelling.{AreCopies, AreNodes, longest}
use Rattle.formbook.specs.Spelling.AreNodes.{none, more}
use Rattle.formbook.proofs.Loops.{so_far, all_more, all_at}
use Rattle.formbook.proofs.scripting.Reader.read_nodes.Goals as goal

few : (text : List ℕ) (node : Node) (times : ℕ) → AreCopies text node times → times ≤ longest
few text node times copies = ⊎_elim (λ (starred, is, (number, within, same)). omega arith) (λ (alone, is, once). omega arith) copies

resized : (old new : List Node) (len grown times : ℕ) (node : Node) → length old ≡ len → grown ≡ len + times → new ≡ take grown old ++ replicate (grown - len) node → new ≡ old ++ replicate times node
resized old new len grown times node long bigger made =
    let rest : grown - len ≡ times = omega arith in
    made ∙ ap (λ v. v ++ replicate (grown - len) node) (take_all grown old (omega arith)) ∙ ap (λ k. old ++ replicate k node) rest

each_copied : (words : Words) (nodes : List Node) → AreNodes words nodes → AllByRecursion (λ w. (copies : Node × ℕ) × AreCopies w.now copies.0 copies.1) words
each_copied _ _ none = tt
each_copied _ _ (more {words} {nodes} w node times before copies) = all_more _ words w (each_copied words nodes before) ((node, times), copies)

pub loop-word-init : goal.loop-word-init
loop-word-init c = subst (λ v. AreNodes [] v) (sym c.new-nodes.ensures.items) none

pub loop-word-preserved : goal.loop-word-preserved
loop-word-preserved c =
    let i = c.loop-word.word-index in
    let words = c.args.words.now in
    let none : Bor (List ℕ) = record { ref_ptr = (0, 0); now = [] } in
    let word = slice_index_or words i none in
    let old = c.loop-word.nodes in
    let times = c.in_ok-node.times in
    let small = few word.now c.in_ok-node.node times c.in_ok-node.ensures in
    let grown = resized old.items c.resize.new.self.items old.len c.saturating_add.result times c.in_ok-node.node (omega (arith, old.ok.0)) (omega (arith, c.saturating_add.ensures, c.len.ensures, old.small)) c.in_ok-resize.ensures.items in
    so_far (λ v. AreNodes v c.resize.new.self.items) words i none (omega arith)
    (subst (λ v. AreNodes (take i words ++ (word ∷ [])) v) (sym grown) (more word c.in_ok-node.node times c.loop-word.invariant c.in_ok-node.ensures))

pub returns-in_err-node : goal.returns-in_err-node
returns-in_err-node c =
    let (e, is, why) = err_from_is_err_and c.from_residual.result c.from_residual.ensures.1 in
    rw is (inr (λ nodes are. c.in_err-node.ensures _ _ (all_at _ c.args.words.now c.loop-word.word-index _ (each_copied _ nodes are) (omega arith)).1))
