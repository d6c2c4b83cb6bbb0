-- The scan tells which bytes are texts, and which go on.
use Rattle.std.proofs.Common.{Some, None, ◌≡◌, ℕ, zero, suc, ◌+◌, ◌-◌, ◌*◌, ◌/◌, ◌%◌, ◌^◌, ◌<◌, ◌≤◌, Bool, true, false, cond, eqb, Decides, List, [], ◌∷◌, ◌++◌, length, get_or, take, decimal, sym, refl, ap, ◌∙◌, subst, ap₂, arith}
use Rattle.std.proofs.lemmas.List.{append_assoc, append-nil, take_more}
use Rattle.std.proofs.lemmas.Bool.{cond_both, eqb-true}
use Rattle.std.proofs.lemmas.Bool.Decides.{nat_tests}
use Rattle.std.proofs.lemmas.Fmt.{decimal_digit, decimal_step}
use Rattle.forms.specs.Documents.{Document}
use Rattle.documents.specs.Grammar.{Text, GoesOn, comma_before, spelled_document, Small}
use Rattle.forms.specs.Documents.Document.{void, reference, element}
use Rattle.forms.specs.Limits.{max_rows, label_count}
use Rattle.documents.specs.Scan.{at, State, may_end, is_digit, may_follow, closed, begun, moved, step, is_whole}
use Rattle.documents.specs.declared.scan.Phase.{Phase}
use Rattle.documents.specs.declared.scan.Phase.TheVariants.{MayBegin as may_begin, MustBegin as must_begin, InLabel as in_label, AfterAt as after_at, InRow as in_row, AfterElement as after_element}
use Rattle.forms.proofs.Findings.{never}
use Rattle.forms.proofs.Decimals.{Figures, figures}
use Rattle.forms.proofs.Decimals.Figures.{one, two}
use Rattle.documents.proofs.Texts.{texts_are_spelled}

-- AFTER SOME BYTES: where the scan is
abbrev pub run : State → List ℕ → State
run s [] = s
run s (b ∷ bytes) = run (step s b) bytes

abbrev pub scan : List ℕ → State
scan bytes = run (Some (at 0 may_begin)) bytes

-- and whether it is somewhere
abbrev pub goes_on : State → Bool
goes_on (Some s) = true
goes_on None = false

pub run_append : (s : State) (u v : List ℕ) → run s (u ++ v) ≡ run (run s u) v
run_append s [] v = refl
run_append s (b ∷ u) v = run_append (step s b) u v

pub run_stuck : (u : List ℕ) → run None u ≡ None
run_stuck [] = refl
run_stuck (b ∷ u) = run_stuck u

-- EACH TEXT IS WHOLE
label_begins : (n d : ℕ) → d < 10 → step (Some (at n may_begin)) (48 + d) ≡ Some (at n (in_label d))
label_begins n d h = grind (arith, nat_tests)

label_must_begin : (n d : ℕ) → d < 10 → step (Some (at n must_begin)) (48 + d) ≡ Some (at n (in_label d))
label_must_begin n d h = grind (arith, nat_tests)

row_begins : (n d : ℕ) → d < 10 → step (Some (at n after_at)) (48 + d) ≡ Some (at n (in_row d))
row_begins n d h = grind (arith, nat_tests)

label_goes_on : (n v d : ℕ) → d < 10 → 1 ≤ v → v * 10 + d < label_count → step (Some (at n (in_label v))) (48 + d) ≡ Some (at n (in_label (v * 10 + d)))
label_goes_on n v d h l g = grind (arith, nat_tests)

row_goes_on : (n v d : ℕ) → d < 10 → 1 ≤ v → v * 10 + d < max_rows → step (Some (at n (in_row v))) (48 + d) ≡ Some (at n (in_row (v * 10 + d)))
row_goes_on n v d h l g = grind (arith, nat_tests)

label_read : (n x : ℕ) {f : List ℕ} → x < label_count → Figures x f → run (Some (at n may_begin)) f ≡ Some (at n (in_label x))
label_read n x h (one g) = label_begins n x g
label_read n x h (two l g) = rw (label_begins n (x / 10) g, label_goes_on n (x / 10) (x % 10) (omega arith) l (omega arith)) (ap (λ v. Some (at n (in_label v))) (omega arith))

row_read : (n x : ℕ) {f : List ℕ} → x < max_rows → Figures x f → run (Some (at n after_at)) f ≡ Some (at n (in_row x))
row_read n x h (one g) = row_begins n x g
row_read n x h (two l g) = rw (row_begins n (x / 10) g, row_goes_on n (x / 10) (x % 10) (omega arith) l (omega arith)) (ap (λ v. Some (at n (in_row v))) (omega arith))

-- after a list
pub data Ended (n : ℕ) : State → Type 0 where
  ended : {p : Phase} → may_end p ≡ true → Ended n (Some (at n p))

close_ended : {n : ℕ} {s : State} → Ended (suc n) s → (t : List ℕ) → run s (93 ∷ t) ≡ run (Some (at n after_element)) t
close_ended {n} (ended e) t = ap (λ c. run (cond c (Some (at n after_element)) None) t) e

whole_ended : {s : State} → Ended 0 s → is_whole s ≡ true
whole_ended (ended e) = e

-- a list begins where it must as where it may
must_may : (n : ℕ) {x : ℕ} {f : List ℕ} → Figures x f → (s : List ℕ) → run (Some (at n must_begin)) (f ++ s) ≡ run (Some (at n may_begin)) (f ++ s)
must_may n {x} (one h) s = ap (λ t. run t s) (label_must_begin n x h ∙ sym (label_begins n x h))
must_may n {x} (two l h) s = ap (λ t. run t ((48 + x % 10) ∷ s)) (label_must_begin n (x / 10) h ∙ sym (label_begins n (x / 10) h))

follow_ended : (n : ℕ) (b : Document) → Small b → Ended n (run (Some (at n may_begin)) (spelled_document b)) → Ended n (run (Some (at n after_element)) (comma_before b ++ spelled_document b))
follow_ended n void h e = ended refl
follow_ended n (reference m) h e = e
follow_ended n (element x a b) h e = subst (Ended n) (sym (must_may n (figures x h.0) _)) e

document_read : (d : Document) → Small d → (n : ℕ) → Ended n (run (Some (at n may_begin)) (spelled_document d))
document_read void h n = ended refl
document_read (reference m) h n = rw (row_read n m h (figures m h)) (ended refl)
document_read (element x a b) h n =
    let behind = 93 ∷ (comma_before b ++ spelled_document b) in
    rw (
      run_append (Some (at n may_begin)) (decimal x) (91 ∷ (spelled_document a ++ behind)),
      label_read n x h.0 (figures x h.0),
      run_append (Some (at (suc n) may_begin)) (spelled_document a) behind,
      close_ended (document_read a h.1 (suc n)) (comma_before b ++ spelled_document b),
    )
    (follow_ended n b h.2 (document_read b h.2 n))

text_whole : (bytes : List ℕ) (d : Document) → Text bytes d → is_whole (scan bytes) ≡ true
text_whole bytes d t = let (h, e) = (texts_are_spelled bytes d).0 t in rw e (whole_ended (document_read d h 0))

-- WHAT IS WHOLE IS A TEXT
-- how the scan moves
pub data Begins : Phase → Type 0 where
  it_may : Begins may_begin
  it_must : Begins must_begin

abbrev pub Digit : ℕ → Type 0
Digit b = (48 ≤ b) × (b ≤ 57)

abbrev pub Follows : ℕ → ℕ → ℕ → Type 0
Follows limit v b = Digit b × (1 ≤ v) × (v * 10 + (b - 48) < limit)

pub data Move : ℕ → Phase → ℕ → State → Type 0 where
  nowhere : {n b : ℕ} {p : Phase} → Move n p b None
  closes : {n : ℕ} {p : Phase} → may_end p ≡ true → Move (suc n) p 93 (Some (at n after_element))
  opens : {n v : ℕ} → Move n (in_label v) 91 (Some (at (suc n) may_begin))
  to_label : {n b : ℕ} {p : Phase} → Begins p → Digit b → Move n p b (Some (at n (in_label (b - 48))))
  to_row : {n : ℕ} {p : Phase} → Begins p → Move n p 64 (Some (at n after_at))
  on_label : {n v b : ℕ} → Follows label_count v b → Move n (in_label v) b (Some (at n (in_label (v * 10 + (b - 48)))))
  into_row : {n b : ℕ} → Digit b → Move n after_at b (Some (at n (in_row (b - 48))))
  on_row : {n v b : ℕ} → Follows max_rows v b → Move n (in_row v) b (Some (at n (in_row (v * 10 + (b - 48)))))
  on_list : {n : ℕ} → Move n after_element 44 (Some (at n must_begin))

digit_told : (b : ℕ) → is_digit b ≡ true → Digit b
digit_told b e = grind (arith, nat_tests)

-- for code: what is no digit
pub no_digit : (b : ℕ) → ((d : ℕ) → (d < 10) × (b ≡ 48 + d) → ⊥) → is_digit b ≡ false
no_digit b none = elim (is_digit b) as (λ t. is_digit b ≡ t → is_digit b ≡ false) [
  | true ↦ λ e. let (l, h) = digit_told b e in absurd (none (b - 48) (omega arith, omega arith))
  | false ↦ λ e. e
] refl

follow_told : (limit v b : ℕ) → may_follow limit v b ≡ true → Follows limit v b
follow_told limit v b e = grind (arith, nat_tests)

begun_move : (n b : ℕ) {p : Phase} → Begins p → Move n p b (begun n b)
begun_move n b {p} f = cond_both (is_digit b) _ _ (Move n p b)
    (λ e. to_label f (digit_told b e))
    (λ _. cond_both (eqb b 64) _ _ (Move n p b) (λ e. subst (λ c. Move n p c (Some (at n after_at))) (sym (eqb-true b 64 e)) (to_row f)) (λ _. nowhere))

moved_move : (n b : ℕ) (p : Phase) → Move n p b (moved n p b)
moved_move n b may_begin = begun_move n b it_may
moved_move n b must_begin = begun_move n b it_must
moved_move n b (in_label v) = cond_both (eqb b 91) _ _ (Move n (in_label v) b)
    (λ e. subst (λ c. Move n (in_label v) c (Some (at (suc n) may_begin))) (sym (eqb-true b 91 e)) opens)
    (λ _. cond_both (may_follow label_count v b) _ _ (Move n (in_label v) b) (λ e. on_label (follow_told label_count v b e)) (λ _. nowhere))
moved_move n b after_at = cond_both (is_digit b) _ _ (Move n after_at b) (λ e. into_row (digit_told b e)) (λ _. nowhere)
moved_move n b (in_row v) = cond_both (may_follow max_rows v b) _ _ (Move n (in_row v) b) (λ e. on_row (follow_told max_rows v b e)) (λ _. nowhere)
moved_move n b after_element = cond_both (eqb b 44) _ _ (Move n after_element b) (λ e. subst (λ c. Move n after_element c (Some (at n must_begin))) (sym (eqb-true b 44 e)) on_list) (λ _. nowhere)

closed_move : (n b : ℕ) (p : Phase) → b ≡ 93 → may_end p ≡ true → Move n p b (closed n)
closed_move zero b p e h = nowhere
closed_move (suc n) b p e h = subst (λ c. Move (suc n) p c (Some (at n after_element))) (sym e) (closes h)

pub move : (n b : ℕ) (p : Phase) → Move n p b (step (Some (at n p)) b)
move n b p = cond_both (eqb b 93) _ _ (Move n p b) (λ e. cond_both (may_end p) _ _ (Move n p b) (closed_move n b p (eqb-true b 93 e)) (λ _. nowhere)) (λ _. moved_move n b p)

-- what may complete the list that the scan is in
abbrev Rest : Phase → List ℕ → Type 0
Rest may_begin w = (d : Document) × Small d × (w ≡ spelled_document d)
Rest must_begin w = (d : Document) × Small d × (comma_before d ≡ 44 ∷ []) × (w ≡ spelled_document d)
Rest (in_label v) w = v < label_count → (x : ℕ) × (a b : Document) × Small (element x a b) × (decimal v ++ w ≡ spelled_document (element x a b))
Rest after_at w = (n : ℕ) × (n < max_rows) × (w ≡ decimal n)
Rest (in_row v) w = v < max_rows → (n : ℕ) × (n < max_rows) × (decimal v ++ w ≡ decimal n)
Rest after_element w = (d : Document) × Small d × (w ≡ comma_before d ++ spelled_document d)

-- and what may complete the text
abbrev Finishes : ℕ → Phase → List ℕ → Type 0
Finishes zero p w = Rest p w
Finishes (suc n) p w = (u v : List ℕ) × (w ≡ u ++ (93 ∷ v)) × Rest p u × Finishes n after_element v

rest_end : (p : Phase) → may_end p ≡ true → Rest p []
rest_end may_begin e = (void, tt, refl)
rest_end must_begin e = never (cc)
rest_end (in_label v) e = never (cc)
rest_end after_at e = never (cc)
rest_end (in_row v) e = λ h. (v, h, append-nil (decimal v))
rest_end after_element e = (void, tt, refl)

finishes_more : (n : ℕ) (p q : Phase) (front : List ℕ) → ((u : List ℕ) → Rest q u → Rest p (front ++ u)) → (w : List ℕ) → Finishes n q w → Finishes n p (front ++ w)
finishes_more zero p q front f w r = f w r
finishes_more (suc n) p q front f w (u, v, e, r, fin) = (front ++ u, v, ap (λ x. front ++ x) e ∙ sym (append_assoc front u (93 ∷ v)), f u r, fin)

digit_first : (b : ℕ) → Digit b → decimal (b - 48) ≡ b ∷ []
digit_first b h = decimal_digit (b - 48) (omega arith) ∙ ap (λ c. c ∷ []) (omega arith)

digit_next : (limit v b : ℕ) → limit ≤ 2 ^ 64 → Follows limit v b → decimal (v * 10 + (b - 48)) ≡ decimal v ++ (b ∷ [])
digit_next limit v b small h = let m = v * 10 + (b - 48) in decimal_step m (omega arith) (omega arith) ∙ ap₂ (λ x y. decimal x ++ (y ∷ [])) (omega arith) (omega arith)

-- what each move does to what is left
Before : Phase → Phase → ℕ → Type 0
Before p q b = (u : List ℕ) → Rest q u → Rest p (b ∷ u)

label_before : {p : Phase} (b : ℕ) → Begins p → Digit b → Before p (in_label (b - 48)) b
unfolding Before
label_before b it_may h u r = let (x, a, c, s, e) = r (omega arith) in (element x a c, s, rw (digit_first b h) at e)
label_before b it_must h u r = let (x, a, c, s, e) = r (omega arith) in (element x a c, s, refl, rw (digit_first b h) at e)

row_before : {p : Phase} → Begins p → Before p after_at 64
unfolding Before
row_before it_may u (n, h, e) = (reference n, h, ap (λ w. 64 ∷ w) e)
row_before it_must u (n, h, e) = (reference n, h, refl, ap (λ w. 64 ∷ w) e)

digit_moves : (limit v b : ℕ) (u : List ℕ) → limit ≤ 2 ^ 64 → Follows limit v b → decimal v ++ (b ∷ u) ≡ decimal (v * 10 + (b - 48)) ++ u
digit_moves limit v b u small h = rw (digit_next limit v b small h, append_assoc (decimal v) (b ∷ []) u)

on_label_before : (v b : ℕ) → Follows label_count v b → Before (in_label v) (in_label (v * 10 + (b - 48))) b
unfolding Before
on_label_before v b h u r = λ _. let (x, a, c, s, e) = r h.2 in (x, a, c, s, digit_moves label_count v b u (omega arith) h ∙ e)

on_row_before : (v b : ℕ) → Follows max_rows v b → Before (in_row v) (in_row (v * 10 + (b - 48))) b
unfolding Before
on_row_before v b h u r = λ _. let (n, s, e) = r h.2 in (n, s, digit_moves max_rows v b u (omega arith) h ∙ e)

into_row_before : (b : ℕ) → Digit b → Before after_at (in_row (b - 48)) b
unfolding Before
into_row_before b h u r = let (n, s, e) = r (omega arith) in (n, s, rw (digit_first b h) at e)

list_before : Before after_element must_begin 44
unfolding Before
list_before u (d, s, c, e) = (d, s, rw (c, e) refl)

brackets_before : (v : ℕ) (u : List ℕ) (a : Document) → Small a → u ≡ spelled_document a → (t : List ℕ) → Rest after_element t → Rest (in_label v) (91 ∷ ((u ++ (93 ∷ [])) ++ t))
brackets_before v u a ha ea t (b, hb, eb) = λ h. (v, a, b, (h, ha, hb), rw (append_assoc u (93 ∷ []) t, ea, eb) refl)

module _ (w : List ℕ) (on : (n : ℕ) (p : Phase) → is_whole (run (Some (at n p)) w) ≡ true → Finishes n p w) where
  finishes_move : {n b : ℕ} {p : Phase} {s : State} → Move n p b s → is_whole (run s w) ≡ true → Finishes n p (b ∷ w)
  unfolding Before
  finishes_move nowhere e = let z : is_whole None ≡ true = rw (run_stuck w) at e in never (cc)
  finishes_move (closes {n} {p} h) e = ([], w, refl, rest_end p h, on n after_element e)
  finishes_move (opens {n} {v}) e =
      let (u, t, ew, (a, ha, ea), fin) = on (suc n) may_begin e in
      subst (λ x. Finishes n (in_label v) (91 ∷ x)) (append_assoc u (93 ∷ []) t ∙ sym ew)
      (finishes_more n (in_label v) after_element (91 ∷ (u ++ (93 ∷ []))) (brackets_before v u a ha ea) t fin)
  finishes_move {n} (to_label {b} {p} f h) e = finishes_more n p (in_label (b - 48)) (b ∷ []) (label_before b f h) w (on n (in_label (b - 48)) e)
  finishes_move {n} (to_row {p} f) e = finishes_more n p after_at (64 ∷ []) (row_before f) w (on n after_at e)
  finishes_move {n} (on_label {v} {b} h) e = finishes_more n (in_label v) _ (b ∷ []) (on_label_before v b h) w (on n _ e)
  finishes_move {n} (into_row {b} h) e = finishes_more n after_at _ (b ∷ []) (into_row_before b h) w (on n _ e)
  finishes_move {n} (on_row {v} {b} h) e = finishes_more n (in_row v) _ (b ∷ []) (on_row_before v b h) w (on n _ e)
  finishes_move {n} on_list e = finishes_more n after_element must_begin (44 ∷ []) list_before w (on n must_begin e)

finishes : (w : List ℕ) (n : ℕ) (p : Phase) → is_whole (run (Some (at n p)) w) ≡ true → Finishes n p w
finishes [] zero p e = rest_end p e
finishes [] (suc n) p e = never (cc)
finishes (b ∷ w) n p e = finishes_move w (finishes w) (move n b p) e

pub scan_tells_texts : (bytes : List ℕ) → Decides (is_whole (scan bytes)) ((d : Document) × Text bytes d)
scan_tells_texts bytes = (
  λ e. let (d, h, ed) = finishes bytes 0 may_begin e in (d, (texts_are_spelled bytes d).1 (h, ed)),
  λ (d, t). text_whole bytes d t,
)

-- WHAT GOES ON. Every list can be ended, and then every bracket closed.
to_end : Phase → List ℕ
to_end may_begin = []
to_end must_begin = 64 ∷ 48 ∷ []
to_end (in_label v) = 91 ∷ 93 ∷ []
to_end after_at = 48 ∷ []
to_end (in_row v) = []
to_end after_element = []

ends_list : (n : ℕ) (p : Phase) → Ended n (run (Some (at n p)) (to_end p))
unfolding to_end
ends_list n may_begin = ended refl
ends_list n must_begin = ended refl
ends_list n (in_label v) = ended refl
ends_list n after_at = ended refl
ends_list n (in_row v) = ended refl
ends_list n after_element = ended refl

ends_text : (n : ℕ) {s : State} → Ended n s → (t : List ℕ) × (is_whole (run s t) ≡ true)
ends_text zero h = ([], whole_ended h)
ends_text (suc n) h = let (t, e) = ends_text n (ended {p = after_element} refl) in (93 ∷ t, rw (close_ended h t) e)

completes : (s : State) → goes_on s ≡ true → (t : List ℕ) × (is_whole (run s t) ≡ true)
completes (Some s) e = let (t, h) = ends_text s.level (ends_list s.level s.phase) in (to_end s.phase ++ t, rw (run_append (Some s) (to_end s.phase) t) h)
completes None e = never (cc)

alive : (s : State) (t : List ℕ) → is_whole (run s t) ≡ true → goes_on s ≡ true
alive (Some s) t e = refl
alive None t e = let z : is_whole None ≡ true = rw (run_stuck t) at e in never (cc)

pub scan_tells_going_on : (bytes : List ℕ) → Decides (goes_on (scan bytes)) (GoesOn bytes)
scan_tells_going_on bytes = (
  λ e. let (t, h) = completes (scan bytes) e in let (d, text) = (scan_tells_texts (bytes ++ t)).0 (rw (run_append (Some (at 0 may_begin)) bytes t) h) in (t, d, text),
  λ (t, d, h). alive (scan bytes) t (rw (run_append (Some (at 0 may_begin)) bytes t) at (text_whole (bytes ++ t) d h)),
)

-- FOR CODE: one more byte
pub scan_more : (bytes : List ℕ) (k : ℕ) → k < length bytes → scan (take (k + 1) bytes) ≡ step (scan (take k bytes)) (get_or bytes k 0)
scan_more bytes k h = rw (take_more bytes k 0 h) (run_append (Some (at 0 may_begin)) (take k bytes) (get_or bytes k 0 ∷ []))
