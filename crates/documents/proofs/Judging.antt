-- A scan of a text, byte by byte, finds where it is wrong or too deep, or how many nodes its document takes.
use Rattle.std.proofs.Common.{Some, None, Ok, Err, ◌≡◌, ℕ, suc, ◌+◌, ◌/◌, ◌%◌, ◌<◌, ◌≤◌, true, false, cond, List, ◌∷◌, ◌++◌, length, get_or, take, decimal, count_by, sym, refl, ap, ◌∙◌, subst, add-one, arith, length-take, below_more}
use Rattle.std.proofs.lemmas.List.{take_all}
use Rattle.std.proofs.lemmas.List.Sums.{sum_by-cons, sum_by-append, sum_by_more, count_by-le-length}
use Rattle.std.proofs.lemmas.Bool.Decides.{nat_tests}
use Rattle.forms.specs.Documents.{Document}
use Rattle.forms.specs.Documents.Document.{void, reference, element}
use Rattle.forms.specs.Places.{NoneBelow}
use Rattle.documents.specs.declared.scan.Scan.{Scan}
use Rattle.documents.specs.declared.faults.ReadFault.TheVariants.{Wrong, TooDeep}
use Rattle.documents.specs.Limits.{max_levels}
use Rattle.documents.specs.Grammar.{comma_before, spelled_document, Small, level, OpensTooMany}
use Rattle.documents.specs.Scan.{State, step, is_whole}
use Rattle.documents.specs.Nodes.{size}
use Rattle.documents.specs.Judged.{marks, JudgedAs}
use Rattle.forms.proofs.Decimals.{Figures, figures}
use Rattle.forms.proofs.Decimals.Figures.{one, two}
use Rattle.documents.proofs.Texts.{texts_are_spelled}
use Rattle.documents.proofs.Scanning.{scan, goes_on, move, scan_more, scan_tells_texts, scan_tells_going_on}
use Rattle.documents.proofs.Levels.{shift, depth, move_level, over_by_bracket, scan_tells_level}
use Rattle.documents.proofs.Reading.{wrong_where_stuck, wrong_at_the_end}
use Rattle.documents.proofs.Tables.{length_nodes}

-- NODES. A document takes as many nodes as its text has bytes that begin one.
abbrev mark : ℕ → ℕ
mark b = cond (marks b) 1 0

abbrev pub marked : List ℕ → ℕ
marked bytes = count_by marks bytes

digit_marks_none : (d : ℕ) → d < 10 → marks (48 + d) ≡ false
digit_marks_none d h = grind (arith, nat_tests)

figures_mark_none : {n : ℕ} {f : List ℕ} → Figures n f → marked f ≡ 0
figures_mark_none {n} (one h) = rw (digit_marks_none n h) refl
figures_mark_none {n} (two l h) = rw (digit_marks_none (n / 10) h, digit_marks_none (n % 10) (omega arith)) refl

comma_marks_none : (d : Document) → marked (comma_before d) ≡ 0
comma_marks_none void = refl
comma_marks_none (reference c) = refl
comma_marks_none (element x a b) = refl

marked_size : (d : Document) → Small d → marked (spelled_document d) ≡ size d
marked_size void h = refl
marked_size (reference c) h = omega (arith, sum_by-cons mark 64 (decimal c), figures_mark_none (figures c h))
marked_size (element x a b) h =
    let behind = comma_before b ++ spelled_document b in
    omega (
      arith,
      sum_by-append mark (decimal x) (91 ∷ (spelled_document a ++ (93 ∷ behind))),
      figures_mark_none (figures x h.0),
      sum_by-cons mark 91 (spelled_document a ++ (93 ∷ behind)),
      sum_by-append mark (spelled_document a) (93 ∷ behind),
      marked_size a h.1,
      sum_by-cons mark 93 behind,
      sum_by-append mark (comma_before b) (spelled_document b),
      comma_marks_none b,
      marked_size b h.2,
    )

opens_not : (n b m : ℕ) → shift n b ≡ m → m ≤ max_levels → b ≡ 91 → n ≡ max_levels → ⊥
opens_not n b m e few opens full = grind (arith, nat_tests)

-- THE LOOP. After i bytes:
pub record Scanned (bytes : List ℕ) (i : ℕ) (s : Scan) (nodes : ℕ) : Type 0 where
  pub state : scan (take i bytes) ≡ Some s
  pub shallow : s.level ≤ max_levels
  pub none : NoneBelow (OpensTooMany bytes) i
  pub count : nodes ≡ marked (take i bytes) + 1

module _ (bytes : List ℕ) (i : ℕ) (s : Scan) (nodes : ℕ) (scanned : Scanned bytes i s nodes) where
  abbrev byte : ℕ
  byte = get_or bytes i 0

  module _ (within-bytes : i < length bytes) where
    after : (u : State) → u ≡ step (Some s) byte → scan (take (i + 1) bytes) ≡ u
    after u e = scan_more bytes i within-bytes ∙ ap (λ u. step u byte) scanned.state ∙ sym e

    alive : goes_on (scan (take i bytes)) ≡ true
    alive = rw scanned.state refl

    -- how the level moves
    moved_to : (t : Scan) → Some t ≡ step (Some s) byte → shift s.level byte ≡ t.level
    moved_to t e = let moves = move_level (move s.level byte s.phase) (ap goes_on (sym e)) in moves.0 ∙ ap depth (sym e)

    level_is : level (take i bytes) ≡ s.level
    level_is = scan_tells_level (take i bytes) s.level s.phase scanned.state

    pub found_stuck : None ≡ step (Some s) byte → JudgedAs bytes (Err (Wrong i))
    found_stuck e = (wrong_where_stuck bytes i within-bytes alive (ap goes_on (ap (λ k. scan (take k bytes)) (sym (add-one i)) ∙ after None e)), scanned.none)

    pub found_deep : (t : Scan) → Some t ≡ step (Some s) byte → max_levels < t.level → JudgedAs bytes (Err (TooDeep i))
    found_deep t e over =
        let (opens, full) = over_by_bracket s.level byte scanned.shallow (omega (arith, moved_to t e)) in
        (((within-bytes, opens, level_is ∙ full), scanned.none), (scan_tells_going_on (take (suc i) bytes)).0 (ap goes_on (ap (λ k. scan (take k bytes)) (sym (add-one i)) ∙ after (Some t) e)))

    pub scanned_more : (t : Scan) (nodes' : ℕ) → Some t ≡ step (Some s) byte → t.level ≤ max_levels → nodes' ≡ nodes + cond (marks byte) 1 0 → Scanned bytes (i + 1) t nodes'
    scanned_more t nodes' e few c = record {
      state = after (Some t) e;
      shallow = few;
      none = below_more (λ j. OpensTooMany bytes j → ⊥) i scanned.none (λ (h, opens, full). opens_not s.level byte t.level (moved_to t e) few opens (sym level_is ∙ full));
      count = omega (arith, sum_by_more mark bytes i 0 within-bytes, scanned.count);
    }

  -- at the end
  module _ (all : i ≡ length bytes) where
    scanned_all : scan bytes ≡ Some s
    scanned_all = ap scan (sym (take_all i bytes (omega arith))) ∙ scanned.state

    pub found_whole : is_whole (Some s) ≡ true → JudgedAs bytes (Ok nodes)
    found_whole e =
        let (d, t) = (scan_tells_texts bytes).0 (ap is_whole scanned_all ∙ e) in
        let (h, spelled) = (texts_are_spelled bytes d).0 t in
        (d, t, (λ k o. scanned.none k (omega (arith, o.0)) o), omega (arith, scanned.count, ap marked (take_all i bytes (omega arith)), ap marked spelled, marked_size d h, length_nodes d 1))

    pub found_short : is_whole (Some s) ≡ false → JudgedAs bytes (Err (Wrong (length bytes)))
    found_short e = (wrong_at_the_end bytes (ap goes_on scanned_all) (ap is_whole scanned_all ∙ e), subst (NoneBelow (OpensTooMany bytes)) all scanned.none)

  -- the count stays small
  pub scanned_few : i < length bytes → (r : ℕ) → r ≡ cond (marks byte) 1 0 → nodes + r ≤ length bytes + 1
  scanned_few h r e =
      omega (arith, count_by-le-length marks (take (i + 1) bytes), sum_by_more mark bytes i 0 h, length-take (i + 1) bytes, scanned.count)
