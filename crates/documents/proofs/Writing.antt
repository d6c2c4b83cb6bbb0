-- Writing has one outcome.
use Rattle.std.proofs.Common.{◌≡◌, ℕ, ◌-◌, ◌<◌, min, List, length, sym, refl, ap, subst, inl, inr, ⊎_elim, arith}
use Rattle.std.proofs.lemmas.Bool.{cases_lt}
use Rattle.forms.specs.Limits.{max_rows, label_count}
use Rattle.forms.specs.Places.{Lowest}
use Rattle.forms.specs.Refusals.{Outcome}
use Rattle.forms.specs.Refusals.Outcome.{refuses, gives}
use Rattle.forms.specs.Documents.{Document}
use Rattle.documents.specs.declared.nodes.Node.{Node}
use Rattle.documents.specs.declared.nodes.Node.TheVariants.{Void as VoidNode, Reference, Element as ElementNode}
use Rattle.documents.specs.declared.faults.WriteFault.TheVariants.{ManyNodes, Unsound as unsound_node, RootOutside, TooLong}
use Rattle.documents.specs.Faults.{write_refusal}
use Rattle.documents.specs.Limits.{max_nodes, max_document}
use Rattle.documents.specs.Grammar.{spelled_document}
use Rattle.documents.specs.Nodes.{SoundAt, Sound, StandsFor, nodes_for}
use Rattle.documents.specs.Nodes.StandsFor.{for_void, for_reference, for_element}
use Rattle.documents.specs.Writing.{ReadIsWrittenBack, Unsound, WritesDocument, WritingDocumentsIsOne}
use Rattle.documents.specs.Writing.WritesDocument.{is_many, is_unsound, is_outside, is_long, is_written}
use Rattle.forms.proofs.Findings.{Decided, both_or_not, below_or_not, lowest_one, nth_below, faulty}
use Rattle.documents.proofs.Tables.{stands_one, nodes_stand_for_one, nodes_stand_for_documents}
use Rattle.documents.proofs.Levels.{read_is_spelled}

-- DOCUMENTS
sound_or_not : (k : ℕ) (m : Node) → Decided (SoundAt k m)
sound_or_not k VoidNode = inl tt
sound_or_not k (Reference c) = below_or_not c max_rows
sound_or_not k (ElementNode x i f) = ⊎_elim (λ (a, (b, c)). inl (a, b, c)) (λ none. inr (λ (a, b, c). none (a, (b, c)))) (both_or_not (below_or_not x label_count) (both_or_not (below_or_not i k) (below_or_not f k)))

module _ (room : ℕ) (nodes : List Node) (root : ℕ) where
  writes_document : (o : Outcome (List ℕ)) × WritesDocument room nodes root o
  writes_document = ⊎_elim
      (λ many. (refuses (write_refusal ManyNodes), is_many many))
      (λ few. ⊎_elim
      (λ (k, lowest). (refuses (write_refusal (unsound_node k)), is_unsound few lowest))
      (λ all. let sound : Sound nodes = record { each = λ k {m} e. all k m e } in ⊎_elim
      (λ inside. let (d, _, t, _) = nodes_stand_for_one nodes sound root inside in
      ⊎_elim (λ long. (refuses (write_refusal TooLong), is_long d few sound t long)) (λ fits. (gives (spelled_document d), is_written d few sound t fits)) (cases_lt (min room max_document) (length (spelled_document d))))
      (λ outside. (refuses (write_refusal RootOutside), is_outside few sound outside))
      (cases_lt root (length nodes)))
      (faulty nodes SoundAt sound_or_not))
      (cases_lt max_nodes (length nodes))

  sound_everywhere : Sound nodes → {k : ℕ} → Lowest (Unsound nodes) k → ⊥
  sound_everywhere sound {k} ((m, e, ns), _) = ns (sound.each k e)

  stands_inside : {k : ℕ} {d : Document} → StandsFor nodes k d → k < length nodes
  stands_inside {k} (for_void e) = nth_below nodes k e
  stands_inside {k} (for_reference e) = nth_below nodes k e
  stands_inside {k} (for_element e _ _) = nth_below nodes k e

  text_one : {d e : Document} → StandsFor nodes root d → StandsFor nodes root e → spelled_document e ≡ spelled_document d
  text_one t u = ap spelled_document (stands_one t u)

  same_document : {o p : Outcome (List ℕ)} → WritesDocument room nodes root o → WritesDocument room nodes root p → p ≡ o
  same_document (is_many h) (is_many h') = refl
  same_document (is_many h) (is_unsound f low) = absurd (omega arith)
  same_document (is_many h) (is_outside f s o) = absurd (omega arith)
  same_document (is_many h) (is_long d f s t l) = absurd (omega arith)
  same_document (is_many h) (is_written d f s t l) = absurd (omega arith)
  same_document (is_unsound f low) (is_many h) = absurd (omega arith)
  same_document (is_unsound {k} f low) (is_unsound {k = j} f' low') = ap (λ x. refuses (write_refusal (unsound_node x))) (lowest_one (Unsound nodes) j k low' low)
  same_document (is_unsound f low) (is_outside f' s o) = absurd (sound_everywhere s low)
  same_document (is_unsound f low) (is_long d f' s t l) = absurd (sound_everywhere s low)
  same_document (is_unsound f low) (is_written d f' s t l) = absurd (sound_everywhere s low)
  same_document (is_outside f s o) (is_many h) = absurd (omega arith)
  same_document (is_outside f s o) (is_unsound f' low) = absurd (sound_everywhere s low)
  same_document (is_outside f s o) (is_outside f' s' o') = refl
  same_document (is_outside f s o) (is_long d f' s' t l) = absurd (omega (arith, stands_inside t))
  same_document (is_outside f s o) (is_written d f' s' t l) = absurd (omega (arith, stands_inside t))
  same_document (is_long d f s t l) (is_many h) = absurd (omega arith)
  same_document (is_long d f s t l) (is_unsound f' low) = absurd (sound_everywhere s low)
  same_document (is_long d f s t l) (is_outside f' s' o) = absurd (omega (arith, stands_inside t))
  same_document (is_long d f s t l) (is_long d' f' s' t' l') = refl
  same_document (is_long d f s t l) (is_written d' f' s' t' l') = absurd (omega (arith, ap length (text_one t t')))
  same_document (is_written d f s t l) (is_many h) = absurd (omega arith)
  same_document (is_written d f s t l) (is_unsound f' low) = absurd (sound_everywhere s low)
  same_document (is_written d f s t l) (is_outside f' s' o) = absurd (omega (arith, stands_inside t))
  same_document (is_written d f s t l) (is_long d' f' s' t' l') = absurd (omega (arith, ap length (text_one t t')))
  same_document (is_written d f s t l) (is_written d' f' s' t' l') = ap gives (text_one t t')

pub writing_documents_is_one : WritingDocumentsIsOne
writing_documents_is_one room nodes root = let (o, w) = writes_document room nodes root in (o, w, λ p w'. same_document room nodes root w w')

pub read_is_written_back : ReadIsWrittenBack
read_is_written_back buffer room bytes d reads short =
    let (h, e, long, _, fits) = (read_is_spelled buffer bytes d).0 reads in
    let (sound, stands, _) = nodes_stand_for_documents d h in
    subst (λ t. WritesDocument room (nodes_for d) (length (nodes_for d) - 1) (gives t)) (sym e) (is_written d (omega arith) sound stands (omega (arith, ap length e)))
