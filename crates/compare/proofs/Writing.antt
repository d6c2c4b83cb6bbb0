-- An order that tells two rows apart, written as text. Assumes nothing.
use Rattle.std.proofs.Common.{◌≡◌, ℕ, ◌+◌, ◌-◌, ◌<◌, ◌≤◌, min, List, length, take, length-take, Ok, Err, Result, refl, ap, ◌∙◌, subst, arith}
use Rattle.forms.specs.Documents.{Document}
use Rattle.forms.specs.Documents.Document.{void, reference, element}
use Rattle.forms.specs.Limits.{max_rows}
use Rattle.forms.specs.Refusals.{Outcome, number}
use Rattle.forms.specs.Refusals.Outcome.{refuses, gives}
use Rattle.forms.specs.Schema.{IsChannel}
use Rattle.forms.specs.declared.Row.{Row}
use Rattle.forms.proofs.Findings.{never, nth_below}
use Rattle.documents.specs.Answers.{WrittenInto}
use Rattle.documents.specs.Faults.{write_refusal}
use Rattle.documents.specs.Grammar.{Small, spelled_document}
use Rattle.documents.specs.Limits.{max_nodes, max_document}
use Rattle.documents.specs.Nodes.{StandsFor, SoundWith, SoundAt, SoundOver, Sound}
use Rattle.documents.specs.Writing.{WritesDocument}
use Rattle.documents.specs.Writing.WritesDocument.{is_many, is_unsound, is_outside, is_long, is_written}
use Rattle.documents.specs.declared.faults.WriteFault.{WriteFault}
use Rattle.documents.specs.declared.faults.WriteFault.TheVariants.{TooLong}
use Rattle.documents.specs.declared.nodes.Node.{Node}
use Rattle.documents.specs.declared.nodes.Node.TheVariants.{Void, Reference, Element}
use Rattle.documents.proofs.Tables.{stands_one}
use Rattle.documents.proofs.Texts.{texts_are_spelled}
use Rattle.showing.proofs.Drawing.{places_few}
use Rattle.schema.specs.Rules.{IsDocument}
use Rattle.showing.specs.Showing.{Witnesses, places}
use Rattle.book.specs.Answers.{IsVerdict}
use Rattle.book.specs.declared.types.Verdict.TheVariants.{No}
use Rattle.book.proofs.Worked.{sound_document}
use Rattle.compare.specs.Comparing.{Refutes, Found}
use Rattle.compare.specs.declared.comparing.Finding.{Finding}
use Rattle.compare.specs.declared.comparing.Finding.TheVariants.{No as NoOrder}
use Rattle.compare.specs.declared.faults.CompareFault.{CompareFault}
use Rattle.compare.specs.declared.faults.CompareFault.TheVariants.{Writing}
use Rattle.compare.proofs.Asking.{Shows}

-- what writing an order means for a comparison
abbrev pub written : Result ℕ WriteFault → Result Finding CompareFault
written (Ok n) = Ok (NoOrder n)
written (Err e) = Err (Writing e)

module _ (rows : List Row) (few : length rows ≤ max_rows) where
  channel_low : (c : ℕ) → IsChannel rows c → c < max_rows
  channel_low c (k, s, e) = let h = nth_below rows c e in omega arith

  sound_node : (k : ℕ) (m : Node) → SoundWith (IsChannel rows) k m → SoundAt k m
  sound_node k Void h = tt
  sound_node k (Reference c) h = channel_low c h
  sound_node k (Element x i f) h = h

  -- and text can spell it
  sound_table : (nodes : List Node) → SoundOver rows nodes → Sound nodes
  sound_table nodes s = record { each = λ k {m} e. sound_node k m (s.each k e) }

  small_document : (d : Document) → IsDocument rows d → Small d
  small_document void h = tt
  small_document (reference c) h = channel_low c h
  small_document (element x a b) (l, ha, hb) = (l, small_document a ha, small_document b hb)

too_long : (e : WriteFault) → write_refusal e ≡ write_refusal TooLong → e ≡ TooLong
too_long TooLong e = refl
too_long _ e = let z = ap number e in absurd (omega arith)

-- a sound table of few nodes, of which one stands for an order: writing gives the order's text, or it is too long
module _ (room root : ℕ) (nodes : List Node) (order : Document) (few : length nodes ≤ max_nodes) (sound : Sound nodes) (in_table : root < length nodes) (stands : StandsFor nodes root order) where
  as_text : (o : Outcome (List ℕ)) → WritesDocument room nodes root o → (text : List ℕ) → o ≡ gives text → (text ≡ spelled_document order) × (length text ≤ min room max_document)
  as_text o (is_written d h s at fits) text e =
      let is : text ≡ spelled_document d = cc in
      (is ∙ ap spelled_document (stands_one stands at), rw is fits)
  as_text o _ text e = never (cc)

  as_fault : (o : Outcome (List ℕ)) → WritesDocument room nodes root o → (e : WriteFault) → o ≡ refuses (write_refusal e) → (e ≡ TooLong) × (min room max_document < length (spelled_document order))
  as_fault o (is_unsound {k} h (at, _)) e is = let (m, there, not) = at in absurd (not (sound.each k there))
  as_fault o (is_long d h s at long) e is = (too_long e (cc), subst (λ x. min room max_document < length (spelled_document x)) (stands_one stands at) long)
  as_fault o (is_written d h s at fits) e is = never (cc)
  as_fault o (is_many h) e is = absurd (omega arith)
  as_fault o (is_outside h s out) e is = absurd (omega arith)

module _ (rows : List Row) (p q : ℕ) (nodes : List Node) (few : length rows ≤ max_rows) (low : length nodes ≤ places rows) (w : Witnesses rows p q nodes) (no : IsVerdict rows p q No) (root : ℕ) (is : root + 1 ≡ length nodes) where
  refutes : (text : List ℕ) → text ≡ spelled_document w.order → Refutes rows p q text
  refutes text e =
      let order = sound_document rows nodes w.sound w.stands in
      record { nodes = nodes; shows = w; few = low; is_order = order; means = (texts_are_spelled text w.order).1 (small_document rows few w.order order, e) }

  stands : StandsFor nodes root w.order
  stands = let last : w.last ≡ root = omega (arith, w.is_last) in rw (← last) w.stands

  nodes_few : length nodes ≤ max_nodes
  nodes_few = omega (arith, places_few (length rows) few)

  -- what is found by writing the order
  wrote : (before after : List ℕ) (r : Result ℕ WriteFault) → WrittenInto nodes root before after r → Found rows p q before after (written r)
  wrote before after (Ok n) (text, writes, long, e) =
      let (same, fits) = as_text (length before) root nodes w.order nodes_few (sound_table rows few nodes w.sound) (omega arith) stands (gives text) writes text refl in
      (no, text, refutes text same, fits, long, e)
  wrote before after (Err e) (writes, same) =
      let (which, over) = as_fault (length before) root nodes w.order nodes_few (sound_table rows few nodes w.sound) (omega arith) stands (refuses (write_refusal e)) writes e refl in
      (no, spelled_document w.order, refutes (spelled_document w.order) refl, over, ap Writing which, same)

-- what is found by writing the order that a book shows
pub found : {rows : List Row} {p q : ℕ} → length rows ≤ max_rows → IsVerdict rows p q No → (nodes : List Node) (k : ℕ) → Shows rows p q nodes k → (before after : List ℕ) (r : Result ℕ WriteFault) → WrittenInto (take k nodes) (k - 1) before after r → Found rows p q before after (written r)
found {rows} {p} {q} few verdict nodes k s = wrote rows p q (take k nodes) few (omega (arith, s.few, length-take k nodes)) s.witnesses verdict (k - 1) (omega (arith, s.within, s.some, length-take k nodes))
