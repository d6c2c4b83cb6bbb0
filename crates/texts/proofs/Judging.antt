-- Every text has one outcome, and a right one is how its rows are spelled.
use Rattle.std.proofs.Common.{◌≡◌, ℕ, zero, suc, ◌+◌, ◌*◌, ◌<◌, ◌≤◌, List, [], ◌∷◌, ◌++◌, length, sym, refl, ap, ◌∙◌, subst, ⊎_elim, arith}
use Rattle.std.specs.List.{AllByRecursion}
use Rattle.std.proofs.lemmas.List.{append_assoc, append-nil, length-append, length_push, flat_map_more}
use Rattle.std.proofs.ByRecursion.{All-push, All-weaker}
use Rattle.std.proofs.lemmas.Bool.{cases_eq, cases_lt}
use Rattle.forms.specs.declared.Row.{Row}
use Rattle.forms.specs.declared.Row.TheVariants.{Void, Nothing, Channel, Element, Union}
use Rattle.texts.specs.RowText.{kind, field_1, field_2, field_3, spelled_row, spelled, Proper, from_stop, RightFields, FirstWrong, RightLines, Judged, JudgementIsOne, RightIsSpelled, SpelledIsShort}
use Rattle.forms.specs.Limits.{max_rows}
use Rattle.forms.specs.Refusals.{Outcome}
use Rattle.forms.specs.Refusals.Outcome.{refuses, gives}
use Rattle.forms.specs.Rows.{NumbersBelow}
use Rattle.texts.specs.declared.TextFault.TheVariants.{TooLong, WrongLine, TooManyLines}
use Rattle.texts.specs.declared.kinds.Kind.{Kind}
use Rattle.texts.specs.Faults.{text_refusal}
use Rattle.texts.specs.Limits.{max_text, label_digits}
use Rattle.texts.specs.RowText.Judged.{is_long, is_wrong, is_more, is_right}
use Rattle.forms.proofs.Findings.{never}
use Rattle.forms.proofs.Decimals.{Figures, figures}
use Rattle.texts.proofs.Numbers.{length_hexadecimal}
use Rattle.forms.proofs.Decimals.Figures.{one, two}
use Rattle.texts.proofs.RightLines.{row_line, line_row, fields_one, rows_line_one, RightLine, line_or_wrong, fewer_fields}

-- LENGTH
figures_short : {n : ℕ} {f : List ℕ} → Figures n f → length f ≤ 2
figures_short (one h) = omega arith
figures_short (two h g) = omega arith

row_short : (r : Row) → NumbersBelow max_rows r → length (field_1 r) + length (field_2 r) + length (field_3 r) ≤ 20
row_short Void p = omega arith
row_short Nothing p = omega arith
row_short (Channel c s) p = omega (arith, figures_short (figures s p))
row_short (Element l i n) p = omega (arith, length_hexadecimal label_digits l, figures_short (figures i p.0), figures_short (figures n p.1))
row_short (Union l r) p = omega (arith, figures_short (figures l p.0), figures_short (figures r p.1))

rows_short : (rows : List Row) → AllByRecursion (NumbersBelow max_rows) rows → length (spelled rows) ≤ 25 * length rows
rows_short [] all = omega arith
rows_short (r ∷ rows) all = let h = row_short r all.0 in let g = rows_short rows all.1 in simp length-append (omega arith)

pub spelled_is_short : SpelledIsShort
spelled_is_short rows few all = omega (arith, rows_short rows all)

-- LINES
lines_one : (n : ℕ) (bytes r r' : List ℕ) → RightLines n bytes r → RightLines n bytes r' → r ≡ r'
lines_one zero bytes r r' e e' = cc
lines_one (suc n) bytes r r' (b, k, ls, fs) (b', k', ls', fs') =
    let e = lines_one n bytes b b' ls ls' in (fields_one 3 k k' b' r r' (subst (λ x. RightFields k 4 x r) e fs) fs').1

longer : (m n : ℕ) → n < m → (bytes rest : List ℕ) → RightLines m bytes rest → (mid : List ℕ) × RightLines n bytes mid × RightLine mid
longer zero n h bytes rest ls = absurd (omega arith)
longer (suc m) n h bytes rest (b, k, ls, fs) = ⊎_elim
    (λ e. rw e (b, ls, (k, rest, fs)))
    (λ ne. longer m n (omega arith) bytes b ls)
    (cases_eq n m)

-- where no right line begins, there are no more right lines
no_more : (m n : ℕ) (bytes rest rest' : List ℕ) → RightLines n bytes rest → (RightLine rest → ⊥) → RightLines m bytes rest' → m ≤ n
no_more m n bytes rest rest' ls none ls' = ⊎_elim
    (λ h. let (mid, lm, right-here) = longer m n h bytes rest' ls' in absurd (none (subst RightLine (lines_one n bytes mid rest lm ls) right-here)))
    (λ h. h)
    (cases_lt n m)

none_at_end : RightLine [] → ⊥
none_at_end (k, rest, fs) = let (k', rest', (b, e, (a, s))) = fewer_fields 4 1 (omega arith) k [] rest fs in never (cc (ap from_stop e))

none_where_wrong : (f : ℕ) (bytes : List ℕ) → FirstWrong f bytes → RightLine bytes → ⊥
none_where_wrong f bytes (h, up_to_lem, no_further) (k, rest, fs) = no_further (fewer_fields 4 (suc f) h k bytes rest fs)

wrong_one : (f g : ℕ) (bytes : List ℕ) → FirstWrong f bytes → FirstWrong g bytes → g ≤ f
wrong_one f g bytes (h, up_to_lem, no_further) (h', (k, rest, fs), no-further') = ⊎_elim (λ l. absurd (no_further (fewer_fields g (suc f) l k bytes rest fs))) (λ l. l) (cases_lt f g)

-- ROWS
lines_rows : (n : ℕ) (bytes rest : List ℕ) → RightLines n bytes rest → (rows : List Row) × (length rows ≡ n) × AllByRecursion Proper rows × (bytes ≡ spelled rows ++ rest)
lines_rows zero bytes rest e = ([], refl, tt, e)
lines_rows (suc n) bytes rest (b, k, ls, fs) =
    let (rows, l, all, e) = lines_rows n bytes b ls in
    let (r, p, eb) = line_row k fs in (
      rows ++ (r ∷ []),
      omega (arith, length_push rows r),
      All-push Proper rows r all p,
      e ∙ (ap (λ x. spelled rows ++ x) eb ∙ (sym (append_assoc (spelled rows) (spelled_row r) rest) ∙ ap (λ x. x ++ rest) (flat_map_more spelled_row [] rows r))),
    )

-- a right line in front
lines_more : (n : ℕ) (k : Kind) (bytes mid rest : List ℕ) → RightFields k 4 bytes mid → RightLines n mid rest → RightLines (suc n) bytes rest
lines_more zero k bytes mid rest fs e = (bytes, k, refl, subst (RightFields k 4 bytes) e fs)
lines_more (suc n) k bytes mid rest fs (b, k', ls, fs') = (b, k', lines_more n k bytes mid b fs ls, fs')

-- the lines of rows, and what follows them
pub lines_of_rows : (rows : List Row) → AllByRecursion Proper rows → (rest : List ℕ) → RightLines (length rows) (spelled rows ++ rest) rest
lines_of_rows [] all rest = refl
lines_of_rows (r ∷ rows) all rest = rw (append_assoc (spelled_row r) (spelled rows) rest)
    (lines_more (length rows) (kind r) (spelled_row r ++ (spelled rows ++ rest)) (spelled rows ++ rest) rest (row_line r all.0 (spelled rows ++ rest)) (lines_of_rows rows all.1 rest))

rows_lines : (rows : List Row) → AllByRecursion Proper rows → RightLines (length rows) (spelled rows) []
rows_lines rows all = subst (λ t. RightLines (length rows) t []) (append-nil (spelled rows)) (lines_of_rows rows all [])

rows_one : (rows rows' : List Row) → AllByRecursion Proper rows → AllByRecursion Proper rows' → spelled rows ≡ spelled rows' → rows ≡ rows'
rows_one [] [] all all' e = refl
rows_one [] (r ∷ rows) all all' e = never (cc)
rows_one (r ∷ rows) [] all all' e = never (cc)
rows_one (r ∷ rows) (r' ∷ rows') all all' e =
    let (h, t) = rows_line_one r r' all.0 all'.0 (spelled rows) (spelled rows') e in
    let es = rows_one rows rows' all.1 all'.1 t in cc

pub right_is_spelled : RightIsSpelled
right_is_spelled bytes rows = (
  spelling rows,
  λ (few, all, e). is_right (rw e (spelled_is_short rows few (All-weaker Proper (NumbersBelow max_rows) (λ r p. p.0) rows all))) few (rw e (rows_lines rows all)) all e,
)
  where
    spelling : (rows : List Row) → Judged bytes (gives rows) → (length rows ≤ max_rows) × AllByRecursion Proper rows × (bytes ≡ spelled rows)
    spelling rows (is_right short few ls all e) = (few, all, e)

-- ONE OUTCOME
module _ (bytes : List ℕ) where
  -- from n right lines on, with room for some more
  judge : (room n : ℕ) (rest : List ℕ) → n + room ≡ max_rows → length bytes ≤ max_text → RightLines n bytes rest → (o : Outcome (List Row)) × Judged bytes o
  judge room n [] e short ls =
      let (rows, l, all, es) = lines_rows n bytes [] ls in
      (gives rows, is_right short (omega arith) (rw l ls) all (es ∙ append-nil (spelled rows)))
  judge zero n (b ∷ rest) e short ls = let h : n ≡ max_rows = omega arith in (refuses (text_refusal TooManyLines), is_more b rest short (rw h at ls))
  judge (suc room) n (b ∷ rest) e short ls = ⊎_elim
      (λ (f, first). (refuses (text_refusal (WrongLine n f)), is_wrong b rest short (omega arith) ls first))
      (λ (k, rest', fs). judge room (suc n) rest' (omega arith) short (b ∷ rest, k, ls, fs))
      (line_or_wrong (b ∷ rest))

  judged : (o : Outcome (List Row)) × Judged bytes o
  judged = ⊎_elim (λ long. (refuses (text_refusal TooLong), is_long long)) (λ short. judge max_rows 0 bytes (omega arith) short refl) (cases_lt max_text (length bytes))

  -- what may not hold of one text
  before_end : (m n b : ℕ) (rest : List ℕ) → RightLines m bytes [] → RightLines n bytes (b ∷ rest) → n < m
  before_end m n b rest ls ls' = ⊎_elim
      (λ e. never (cc (lines_one m bytes [] (b ∷ rest) ls (rw e at ls'))))
      (λ ne. omega (arith, no_more n m bytes [] (b ∷ rest) ls none_at_end ls'))
      (cases_eq n m)

  wrong_not_right : (m n f b : ℕ) (rest : List ℕ) → RightLines n bytes (b ∷ rest) → FirstWrong f (b ∷ rest) → RightLines m bytes [] → ⊥
  wrong_not_right m n f b rest ls w ls' = omega (arith, before_end m n b rest ls' ls, no_more m n bytes _ _ ls (none_where_wrong f _ w) ls')

  wrong_not_more : (n f b : ℕ) (rest rest' : List ℕ) → n < max_rows → RightLines n bytes (b ∷ rest) → FirstWrong f (b ∷ rest) → RightLines max_rows bytes rest' → ⊥
  wrong_not_more n f b rest rest' h ls w ls' = omega (arith, no_more max_rows n bytes _ rest' ls (none_where_wrong f _ w) ls')

  same : {o p : Outcome (List Row)} → Judged bytes o → Judged bytes p → p ≡ o
  same (is_long l) (is_long l') = refl
  same (is_long l) (is_wrong b rest s h ls w) = absurd (omega arith)
  same (is_long l) (is_more b rest s ls) = absurd (omega arith)
  same (is_long l) (is_right s few ls all e) = absurd (omega arith)
  same (is_wrong b rest s h ls w) (is_long l) = absurd (omega arith)
  same (is_wrong {n} {f} b rest s h ls w) (is_wrong {n = n'} {f = f'} b' rest' s' h' ls' w') =
      let en : n' ≡ n = omega (arith, no_more n' n bytes _ _ ls (none_where_wrong f _ w) ls', no_more n n' bytes _ _ ls' (none_where_wrong f' _ w') ls) in
      let w'' : FirstWrong f' (b ∷ rest) = subst (FirstWrong f') (lines_one n bytes _ _ (rw en at ls') ls) w' in
      let ef : f' ≡ f = omega (arith, wrong_one f f' _ w w'', wrong_one f' f _ w'' w) in
      cc
  same (is_wrong {n} {f} b rest s h ls w) (is_more b' rest' s' ls') = absurd (wrong_not_more n f b rest (b' ∷ rest') h ls w ls')
  same (is_wrong {n} {f} b rest s h ls w) (is_right {rows} s' few ls' all e) = absurd (wrong_not_right (length rows) n f b rest ls w ls')
  same (is_more b rest s ls) (is_long l) = absurd (omega arith)
  same (is_more b rest s ls) (is_wrong {n} {f} b' rest' s' h' ls' w') = absurd (wrong_not_more n f b' rest' (b ∷ rest) h' ls' w' ls)
  same (is_more b rest s ls) (is_more b' rest' s' ls') = refl
  same (is_more b rest s ls) (is_right {rows} s' few ls' all e) = absurd (omega (arith, before_end (length rows) max_rows b rest ls' ls))
  same (is_right s few ls all e) (is_long l) = absurd (omega arith)
  same (is_right {rows} s few ls all e) (is_wrong {n} {f} b rest s' h' ls' w') = absurd (wrong_not_right (length rows) n f b rest ls' w' ls)
  same (is_right {rows} s few ls all e) (is_more b rest s' ls') = absurd (omega (arith, before_end (length rows) max_rows b rest ls ls'))
  same (is_right {rows} s few ls all e) (is_right {rows = rows'} s' few' ls' all' e') = ap gives (rows_one rows' rows all' all (sym e' ∙ e))

pub one_outcome : (bytes : List ℕ) {o p : Outcome (List Row)} → Judged bytes o → Judged bytes p → p ≡ o
one_outcome = same

pub judgement_is_one : JudgementIsOne
judgement_is_one bytes = let (o, j) = judged bytes in (o, j, λ p j'. same bytes j j')

-- what every call of reading brings
pub text_laws : JudgementIsOne × RightIsSpelled × SpelledIsShort
text_laws = (judgement_is_one, right_is_spelled, spelled_is_short)
