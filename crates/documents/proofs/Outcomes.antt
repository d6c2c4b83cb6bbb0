-- Each way through the reader and the writer, as the outcome of reading and writing. Assumes nothing.
use Rattle.std.proofs.Common.{◌≡◌, ℕ, ◌-◌, ◌<◌, ◌≤◌, min, true, false, ltb, List, ◌++◌, length, take, drop, Some, None, Ok, Err, Result, sym, refl, ap, ◌∙◌, subst, arith}
use Rattle.std.proofs.lemmas.Bool.{ltb-true, ltb-false}
use Rattle.std.proofs.lemmas.List.{take_at}
use Rattle.forms.specs.Refusals.Outcome.{gives}
use Rattle.documents.specs.declared.nodes.Node.{Node}
use Rattle.documents.specs.declared.faults.ReadFault.{ReadFault}
use Rattle.documents.specs.declared.faults.ReadFault.TheVariants.{TooLong as LongText, Wrong, TooDeep, TooManyNodes}
use Rattle.documents.specs.Limits.{max_nodes, max_document}
use Rattle.documents.specs.Nodes.{nodes_for}
use Rattle.documents.specs.Reading.Reads.{is_wrong, is_deep, is_large, is_read}
use Rattle.documents.specs.Writing.{WritesDocument}
use Rattle.documents.specs.Judged.{JudgedAs}
use Rattle.documents.specs.Built.{BuildsText}
use Rattle.documents.specs.Answers.{ReadInto, WritesBack, WrittenInto, ReadsBack}
use Rattle.forms.specs.Documents.{Document}
use Rattle.forms.specs.Splices.{Wrote}
use Rattle.documents.specs.declared.faults.WriteFault.TheVariants.{RootOutside, TooLong}
use Rattle.documents.specs.Grammar.{spelled_document}
use Rattle.documents.specs.Nodes.{Sound, StandsFor}
use Rattle.documents.specs.Spelling.{rest}
use Rattle.documents.specs.Writing.WritesDocument.{is_outside, is_long as writes_long, is_written as writes_text}
use Rattle.forms.proofs.Splices.{wrote_front}
use Rattle.documents.proofs.Texts.{texts_are_spelled}
use Rattle.documents.proofs.Tables.{nodes_stand_for_one}
use Rattle.documents.proofs.Levels.{read_is_spelled}
use Rattle.documents.proofs.Shapes.{room_for, no_room}
use Rattle.documents.proofs.Writing.{read_is_written_back}

module _ (bytes : List ℕ) (before : List Node) (short : length bytes ≤ max_document) where
  pub read_refused : (e : ReadFault) → JudgedAs bytes (Err e) → ReadInto bytes before before (Err e)
  read_refused (Wrong k) (w, none) = (is_wrong short w none, refl)
  read_refused (TooDeep k) (lowest, on) = (is_deep short lowest on, refl)
  read_refused LongText none = absurd none
  read_refused TooManyNodes none = absurd none

  pub read_large : (n : ℕ) → JudgedAs bytes (Ok n) → true ≡ ltb (min (length before) max_nodes) n → ReadInto bytes before before (Err TooManyNodes)
  read_large n (d, t, none, is) e = let large = ltb-true (min (length before) max_nodes) n (sym e) in (is_large d short t none (omega arith), refl)

  pub read_done : (n : ℕ) (after : List Node) → JudgedAs bytes (Ok n) → false ≡ ltb (min (length before) max_nodes) n → BuildsText bytes before after → ReadInto bytes before after (Ok n)
  read_done n after (d, t, none, is) e builds =
      let fits = ltb-false (min (length before) max_nodes) n (sym e) in
      let (h, spelled) = (texts_are_spelled bytes d).0 t in
      (d, is_read short t none (omega arith), is, builds d h spelled (omega arith) ∙ ap (λ k. nodes_for d ++ drop k before) (sym is))

-- what was read is written back
pub written_back : (bytes : List ℕ) (before after : List Node) (r : Result ℕ ReadFault) → ReadInto bytes before after r → WritesBack bytes after r
written_back bytes before after (Err e) h = tt
written_back bytes before after (Ok n) (d, reads, is, e) = λ room fits.
    let front : take n after ≡ nodes_for d = ap (take n) e ∙ take_at (nodes_for d) (drop n before) n (sym is) in
    let last : length (nodes_for d) - 1 ≡ n - 1 = omega arith in
    subst (λ k. WritesDocument room (take n after) k (gives bytes)) last (subst (λ ms. WritesDocument room ms (length (nodes_for d) - 1) (gives bytes)) (sym front) (read_is_written_back (length before) room bytes d reads fits))

-- WRITING
module _ (nodes : List Node) (root : ℕ) (before : List ℕ) (few : length nodes ≤ max_nodes) (sound : Sound nodes) where
  pub write_outside : length nodes ≤ root → WrittenInto nodes root before before (Err RootOutside)
  write_outside past = (is_outside few sound past, refl)

  module _ (within : root < length nodes) (room : ℕ) (min-is : room ≡ min (length before) max_document) where
    pub write_long : ((x : Document) → StandsFor nodes root x → None ≡ rest room (length (spelled_document x))) → WrittenInto nodes root before before (Err TooLong)
    write_long none = let (d, _, stands, _) = nodes_stand_for_one nodes sound root within in (writes_long d few sound stands (omega (arith, no_room room (length (spelled_document d)) (none d stands))), refl)

    pub write_done : (left n : ℕ) (after : List ℕ) → ((x : Document) → StandsFor nodes root x → Some left ≡ rest room (length (spelled_document x)))
        → ((x : Document) → StandsFor nodes root x → Wrote before after 0 (spelled_document x) n) → WrittenInto nodes root before after (Ok n) × ReadsBack nodes root after (Ok n)
    write_done left n after some wrote =
        let (d, small, stands, _) = nodes_stand_for_one nodes sound root within in
        let text = spelled_document d in
        let (fits, _) = room_for room (length text) left (some d stands) in
        let (long, filled) = wrote_front before after text n (wrote d stands) (omega arith) in
        let front : take n after ≡ text = ap (take n) filled ∙ take_at text (drop n before) n (sym long) in (
          (text, writes_text d few sound stands (omega arith), long, filled),
          (d, stands, λ buffer shallow room'. (read_is_spelled buffer (take n after) d).1 (small, front, omega (arith, ap length front), shallow, room')),
        )
