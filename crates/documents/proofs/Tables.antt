-- Tables of nodes stand for documents.
use Rattle.std.proofs.Common.{◌≡◌, ℕ, zero, suc, ◌+◌, ◌-◌, ◌<◌, ◌≤◌, List, [], ◌∷◌, ◌++◌, length, Some, refl, ◌∙◌, subst, ⊎_elim, one-add, arith}
use Rattle.std.specs.List.{slice_get}
use Rattle.std.proofs.lemmas.List.{length-append}
use Rattle.std.proofs.lemmas.Bool.{cases_eq}
use Rattle.documents.specs.declared.nodes.Node.{Node}
use Rattle.documents.specs.declared.nodes.Node.TheVariants.{Void, Reference, Element}
use Rattle.forms.specs.Documents.{Document}
use Rattle.documents.specs.Grammar.{Small}
use Rattle.forms.specs.Documents.Document.{void, reference, element}
use Rattle.documents.specs.Nodes.{StandsFor, SoundAt, Sound, size, root, nodes_from, nodes_for, NodesStandForDocuments, NodesStandForOne}
use Rattle.documents.specs.Nodes.StandsFor.{for_void, for_reference, for_element}
use Rattle.forms.proofs.Findings.{never, nth_some}
use Rattle.documents.proofs.Shapes.{of_void, of_reference, of_element}
pub use Rattle.forms.proofs.Findings.{nth_append, nth_left, nth_right}

pub length_nodes : (d : Document) (n : ℕ) → length (nodes_from n d) ≡ size d
length_nodes void n = refl
length_nodes (reference c) n = refl
length_nodes (element x a b) n = simp length-append (omega (arith, length_nodes a n, length_nodes b (n + size a)))

root_below : (d : Document) (n : ℕ) → 1 ≤ n → root n d < n + size d
root_below void n h = omega arith
root_below (reference c) n h = omega arith
root_below (element x a b) n h = omega arith

sound_from : (d : Document) (n : ℕ) → 1 ≤ n → Small d → (k : ℕ) (m : Node) → slice_get (nodes_from n d) k ≡ Some m → SoundAt (n + k) m
sound_from void n h s k m e = never (cc)
sound_from (reference c) n h s zero m e = let e' : Reference c ≡ m = cc in subst (SoundAt (n + 0)) e' s
sound_from (reference c) n h s (suc k) m e = never (cc)
sound_from (element x a b) n h s k m e = ⊎_elim
    (sound_from a n h s.1 k m)
    (λ (j, ej, e₁). ⊎_elim
    (λ e₂. subst (λ i. SoundAt i m) (omega (arith, length_nodes a n)) (sound_from b (n + size a) (omega arith) s.2 j m e₂))
    (λ (i, ei, e₂). own i e₂ (omega (arith, length_nodes a n, length_nodes b (n + size a))))
    (nth_append (nodes_from (n + size a) b) _ j e₁))
    (nth_append (nodes_from n a) _ k e)
  where
    own : (i : ℕ) → slice_get (Element x (root n a) (root (n + size a) b) ∷ []) i ≡ Some m → n + k ≡ n + size a + size b + i → SoundAt (n + k) m
    own zero e g = let e' : Element x (root n a) (root (n + size a) b) ≡ m = cc in subst (SoundAt (n + k)) e' (s.0, omega (arith, root_below a n h), omega (arith, root_below b (n + size a) (omega arith)))
    own (suc i) e g = never (cc)

-- the nodes stand in the table from n on
abbrev Placed : List Node → ℕ → List Node → Type 0
Placed table n ms = (k : ℕ) (m : Node) → slice_get ms k ≡ Some m → slice_get table (n + k) ≡ Some m

placed_right : (table : List Node) (n : ℕ) (xs ys : List Node) (l : ℕ) → length xs ≡ l → Placed table n (xs ++ ys) → Placed table (n + l) ys
placed_right table n xs ys l el placed k m e = subst (λ i. slice_get table i ≡ Some m) (omega arith) (placed (length xs + k) m (nth_right xs ys k ∙ e))

stands_from : (table : List Node) → slice_get table 0 ≡ Some Void → (d : Document) (n : ℕ) → Placed table n (nodes_from n d) → StandsFor table (root n d) d
stands_from table first void n placed = for_void first
stands_from table first (reference c) n placed = for_reference (subst (λ i. slice_get table i ≡ Some (Reference c)) (omega arith) (placed 0 (Reference c) refl))
stands_from table first (element x a b) n placed =
    let own = Element x (root n a) (root (n + size a) b) in
    let right = placed_right table n (nodes_from n a) _ (size a) (length_nodes a n) placed in
    for_element
    (subst (λ i. slice_get table i ≡ Some own) (omega arith) (placed_right table (n + size a) (nodes_from (n + size a) b) (own ∷ []) (size b) (length_nodes b (n + size a)) right 0 own refl))
    (stands_from table first a n (λ k m e. placed k m (nth_left (nodes_from n a) _ k e)))
    (stands_from table first b (n + size a) (λ k m e. right k m (nth_left (nodes_from (n + size a) b) _ k e)))

pub nodes_stand_for_documents : NodesStandForDocuments
nodes_stand_for_documents d s = (record { each = sound }, subst (λ k. StandsFor (nodes_for d) k d) (last d) (stands_from (nodes_for d) refl d 1 placed), omega (arith, length_nodes d 1))
  where
    sound : (k : ℕ) {m : Node} → slice_get (nodes_for d) k ≡ Some m → SoundAt k m
    sound zero {m} e = let e' : Void ≡ m = cc in subst (SoundAt 0) e' tt
    sound (suc k) {m} e = subst (λ i. SoundAt i m) (omega arith) (sound_from d 1 (omega arith) s k m e)

    placed : Placed (nodes_for d) 1 (nodes_from 1 d)
    placed k m e = rw (one-add k) e

    last : (d : Document) → root 1 d ≡ length (nodes_for d) - 1
    last void = omega arith
    last (reference c) = omega arith
    last (element x a b) = omega (arith, length_nodes (element x a b) 1)

-- ONE DOCUMENT
pub stands_one : {nodes : List Node} {k : ℕ} {d e : Document} → StandsFor nodes k d → StandsFor nodes k e → e ≡ d
stands_one (for_void h) u = of_void h u
stands_one (for_reference h) u = of_reference h u
stands_one (for_element h p q) u = let (a, b, is, t, v) = of_element h u in let ea = stands_one p t in let eb = stands_one q v in cc

module _ (nodes : List Node) (sound : Sound nodes) where
  abbrev Stands : ℕ → Type 0
  Stands k = (d : Document) × Small d × StandsFor nodes k d

  -- the node m with number k, if those below it stand for documents
  stands_node : (k : ℕ) (m : Node) → slice_get nodes k ≡ Some m → SoundAt k m → ((j : ℕ) → j < k → Stands j) → Stands k
  stands_node k Void e s below = (void, tt, for_void e)
  stands_node k (Reference c) e s below = (reference c, s, for_reference e)
  stands_node k (Element x i f) e s below =
      let (a, ha, sa) = below i s.1 in
      let (b, hb, sb) = below f s.2 in
      (element x a b, (s.0, ha, hb), for_element e sa sb)

  stands_below : (n : ℕ) → n ≤ length nodes → (k : ℕ) → k < n → Stands k
  stands_below zero h k l = absurd (omega arith)
  stands_below (suc n) h k l = ⊎_elim
      (λ e. let (m, em) = nth_some nodes n h in rw e (stands_node n m em (sound.each n em) (stands_below n (omega arith))))
      (λ ne. stands_below n (omega arith) k (omega arith))
      (cases_eq k n)

pub nodes_stand_for_one : NodesStandForOne
nodes_stand_for_one nodes sound k h = let (d, s, t) = stands_below nodes sound (length nodes) (omega arith) k h in (d, s, t, λ e u. stands_one t u)
