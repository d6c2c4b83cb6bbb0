-- Levels of brackets: of bytes, of a scan, and of a document.
use Rattle.std.proofs.Common.{Some, None, ◌≡◌, ℕ, zero, suc, ◌+◌, ◌-◌, ◌/◌, ◌%◌, ◌<◌, ◌≤◌, min, max, true, cond, eqb, List, [], ◌∷◌, ◌++◌, length, get_or, take, decimal, count_by, sym, refl, ap, ◌∙◌, ⊎_elim, arith}
use Rattle.std.proofs.lemmas.List.{append_assoc}
use Rattle.std.proofs.lemmas.List.Sums.{sum_by-cons}
use Rattle.std.proofs.lemmas.Bool.{cases_lt}
use Rattle.std.proofs.lemmas.Bool.Decides.{nat_tests}
use Rattle.forms.specs.Documents.{Document}
use Rattle.documents.specs.Grammar.{comma_before, spelled_document, Small, level, levels}
use Rattle.forms.specs.Documents.Document.{void, reference, element}
use Rattle.documents.specs.Scan.{at, State, step}
use Rattle.documents.specs.declared.scan.Phase.{Phase}
use Rattle.documents.specs.declared.scan.Phase.TheVariants.{MayBegin as may_begin}
use Rattle.documents.specs.Nodes.{nodes_for}
use Rattle.forms.specs.Refusals.Outcome.{gives}
use Rattle.documents.specs.Limits.{max_nodes, max_document, max_levels}
use Rattle.documents.specs.Reading.{Reads, LevelsAreOpened, ReadIsSpelled}
use Rattle.documents.specs.Reading.Reads.{is_read}
use Rattle.forms.proofs.Findings.{never}
use Rattle.forms.proofs.Decimals.{Figures, figures}
use Rattle.forms.proofs.Decimals.Figures.{one, two}
use Rattle.documents.proofs.Texts.{texts_are_spelled}
use Rattle.documents.proofs.Scanning.{run, scan, goes_on, Move, move, run_stuck, scan_tells_going_on}
use Rattle.documents.proofs.Scanning.Move.{nowhere, closes, opens, to_label, to_row, on_label, into_row, on_row, on_list}
use Rattle.documents.proofs.Reading.{goes_on_all, text_goes_on}

-- the level after a byte, and after bytes
abbrev pub shift : ℕ → ℕ → ℕ
shift n b = cond (eqb b 91) (suc n) (cond (eqb b 93) (n - 1) n)

abbrev after : ℕ → List ℕ → ℕ
after n [] = n
after n (b ∷ w) = after (shift n b) w

abbrev pub depth : State → ℕ
depth (Some s) = s.level
depth None = 0

abbrev opened : List ℕ → ℕ
opened w = count_by (λ b. eqb b 91) w

abbrev shut : List ℕ → ℕ
shut w = count_by (λ b. eqb b 93) w

abbrev pub MovesLevel : ℕ → ℕ → ℕ → Type 0
MovesLevel n b m = (shift n b ≡ m) × (n + cond (eqb b 91) 1 0 ≡ m + cond (eqb b 93) 1 0)

pub move_level : {n b : ℕ} {p : Phase} {s : State} → Move n p b s → goes_on s ≡ true → MovesLevel n b (depth s)
move_level nowhere e = never (cc)
move_level (closes {n} h) e = (omega arith, omega arith)
move_level (opens {n}) e = (refl, omega arith)
move_level {n} {b} (to_label f h) e = (grind (arith, nat_tests), grind (arith, nat_tests))
move_level {n} (to_row f) e = (refl, refl)
move_level {n} {b} (on_label (d, l, g)) e = (grind (arith, nat_tests), grind (arith, nat_tests))
move_level {n} {b} (into_row h) e = (grind (arith, nat_tests), grind (arith, nat_tests))
move_level {n} {b} (on_row (d, l, g)) e = (grind (arith, nat_tests), grind (arith, nat_tests))
move_level on_list e = (refl, refl)

alive_before : (s : State) (w : List ℕ) → goes_on (run s w) ≡ true → goes_on s ≡ true
alive_before (Some s) w e = refl
alive_before None w e = let z : goes_on None ≡ true = rw (run_stuck w) at e in never (cc)

level_run : (w : List ℕ) (s : State) → goes_on (run s w) ≡ true → (after (depth s) w ≡ depth (run s w)) × (depth s + opened w ≡ depth (run s w) + shut w)
level_run [] s e = (refl, refl)
level_run (b ∷ w) None e = let z : goes_on None ≡ true = rw (run_stuck w) at e in never (cc)
level_run (b ∷ w) (Some s) e =
    let (h, g) = move_level (move s.level b s.phase) (alive_before (step (Some s) b) w e) in
    let (i, j) = level_run w (step (Some s) b) e in
    (ap (λ m. after m w) h ∙ i, omega (arith, sum_by-cons (λ x. cond (eqb x 91) 1 0) b w, sum_by-cons (λ x. cond (eqb x 93) 1 0) b w))

-- where bytes go on, the scan tells their level
pub scan_tells_level : (bytes : List ℕ) (n : ℕ) (p : Phase) → scan bytes ≡ Some (at n p) → level bytes ≡ n
scan_tells_level bytes n p e = let (_, h) = level_run bytes (Some (at 0 may_begin)) (rw e refl) in let g : depth (scan bytes) ≡ n = rw e refl in omega arith

-- the level of bytes that go on
level_after : (bytes : List ℕ) → goes_on (scan bytes) ≡ true → level bytes ≡ after 0 bytes
level_after bytes e = let (g, h) = level_run bytes (Some (at 0 may_begin)) e in omega arith

-- the highest level on the way
abbrev peak : ℕ → List ℕ → ℕ
peak n [] = n
peak n (b ∷ w) = max n (peak (shift n b) w)

peak_from : (w : List ℕ) (n : ℕ) → n ≤ peak n w
peak_from [] n = omega arith
peak_from (b ∷ w) n = omega arith

after_append : (u v : List ℕ) (n : ℕ) → after n (u ++ v) ≡ after (after n u) v
after_append [] v n = refl
after_append (b ∷ u) v n = after_append u v (shift n b)

peak_append : (u v : List ℕ) (n : ℕ) → peak n (u ++ v) ≡ max (peak n u) (peak (after n u) v)
peak_append [] v n = omega (arith, peak_from v n)
peak_append (b ∷ u) v n = omega (arith, peak_append u v (shift n b))

-- from level n the bytes rise by m levels, and come back
abbrev Rises : ℕ → List ℕ → ℕ → Type 0
Rises n w m = (after n w ≡ n) × (peak n w ≡ n + m)

rises_join : (n : ℕ) (u v : List ℕ) (l m : ℕ) → Rises n u l → Rises n v m → Rises n (u ++ v) (max l m)
rises_join n u v l m (a, p) (b, q) = (rw (after_append u v n, a) b, rw (peak_append u v n, a) (omega arith))

rises_brackets : (n : ℕ) (w : List ℕ) (m : ℕ) → Rises (suc n) w m → Rises n (91 ∷ (w ++ (93 ∷ []))) (suc m)
rises_brackets n w m (a, p) = (rw (after_append w (93 ∷ []) (suc n), a) (omega arith), rw (peak_append w (93 ∷ []) (suc n), a) (omega arith))

digit_stays : (n d : ℕ) → d < 10 → shift n (48 + d) ≡ n
digit_stays n d h = grind (arith, nat_tests)

rises_figures : (n : ℕ) {x : ℕ} {f : List ℕ} → Figures x f → Rises n f 0
rises_figures n {x} (one h) = let e = digit_stays n x h in (e, omega arith)
rises_figures n {x} (two l h) = let e = digit_stays n (x / 10) h in let g = digit_stays n (x % 10) (omega arith) in (rw (e, g) refl, rw (e, g) (omega arith))

rises_comma : (n : ℕ) (d : Document) → Rises n (comma_before d) 0
rises_comma n void = (refl, omega arith)
rises_comma n (reference c) = (refl, omega arith)
rises_comma n (element x a b) = (refl, omega arith)

element_parts : (x : ℕ) (a b : Document) → spelled_document (element x a b) ≡ decimal x ++ ((91 ∷ (spelled_document a ++ (93 ∷ []))) ++ (comma_before b ++ spelled_document b))
element_parts x a b = simp append_assoc

rises_document : (d : Document) → Small d → (n : ℕ) → Rises n (spelled_document d) (levels d)
rises_document void h n = (refl, omega arith)
rises_document (reference c) h n = let (a, p) = rises_figures n (figures c h) in (a, omega arith)
rises_document (element x a b) h n = rw (element_parts x a b)
    (let (e, p) = rises_join n (decimal x) _ 0 _ (rises_figures n (figures x h.0))
    (rises_join n (91 ∷ (spelled_document a ++ (93 ∷ []))) _ (suc (levels a)) _ (rises_brackets n (spelled_document a) (levels a) (rises_document a h.1 (suc n)))
    (rises_join n (comma_before b) (spelled_document b) 0 (levels b) (rises_comma n b) (rises_document b h.2 n))) in
    (e, omega arith))

-- a level too many comes by a bracket, from the highest level that there may be
pub over_by_bracket : (n b : ℕ) → n ≤ max_levels → max_levels < shift n b → (b ≡ 91) × (n ≡ max_levels)
over_by_bracket n b few over = (grind (arith, nat_tests), grind (arith, nat_tests))

-- the peak is past 64 just where a bracket opens a 65th level
abbrev Opens : ℕ → List ℕ → ℕ → Type 0
Opens n w k = (k < length w) × (get_or w k 0 ≡ 91) × (after n (take k w) ≡ max_levels)

peak_of_opens : (w : List ℕ) (n k : ℕ) → Opens n w k → max_levels < peak n w
peak_of_opens [] n k (h, e, l) = absurd (omega arith)
peak_of_opens (b ∷ w) n zero (h, e, l) = let g : shift n b ≡ suc n = rw e refl in omega (arith, peak_from w (shift n b))
peak_of_opens (b ∷ w) n (suc k) (h, e, l) = omega (arith, peak_of_opens w (shift n b) k (omega arith, e, l))

opens_of_peak : (w : List ℕ) (n : ℕ) → n ≤ max_levels → max_levels < peak n w → (k : ℕ) × Opens n w k
opens_of_peak [] n h g = absurd (omega arith)
opens_of_peak (b ∷ w) n h g = ⊎_elim
    (λ over. let (bracket, full) = over_by_bracket n b h over in (0, (omega arith, bracket, full)))
    (λ under. let (k, (l, e, i)) = opens_of_peak w (shift n b) under (omega arith) in (suc k, (omega arith, e, i)))
    (cases_lt max_levels (shift n b))

pub levels_are_opened : LevelsAreOpened
levels_are_opened bytes d t = (
  λ few k (l, e, at-64). let g = peak_of_opens bytes 0 k (l, e, sym (level_after (take k bytes) (alive k)) ∙ at-64) in omega (arith, highest),
  λ none. ⊎_elim (λ over. let (k, (l, e, at-64)) = opens_of_peak bytes 0 (omega arith) over in absurd (none k (l, e, level_after (take k bytes) (alive k) ∙ at-64))) (λ under. omega (arith, highest)) (cases_lt max_levels (peak 0 bytes)),
)
  where
    alive : (k : ℕ) → goes_on (scan (take k bytes)) ≡ true
    alive k = (scan_tells_going_on (take k bytes)).1 (goes_on_all bytes k (text_goes_on bytes d t))

    highest : peak 0 bytes ≡ levels d
    highest = let (h, e) = (texts_are_spelled bytes d).0 t in let (_, p) = rises_document d h 0 in rw e (omega arith)

pub read_is_spelled : ReadIsSpelled
read_is_spelled buffer bytes d = (
  spelling d,
  λ (h, e, short, few, fits). let t = (texts_are_spelled bytes d).1 (h, e) in is_read short t ((levels_are_opened bytes d t).0 few) fits,
)
  where
    spelling : (d : Document) → Reads buffer bytes (gives d) → Small d × (bytes ≡ spelled_document d) × (length bytes ≤ max_document) × (levels d ≤ max_levels) × (length (nodes_for d) ≤ min buffer max_nodes)
    spelling d (is_read short t none fits) = let (h, e) = (texts_are_spelled bytes d).0 t in (h, e, short, (levels_are_opened bytes d t).1 none, fits)
