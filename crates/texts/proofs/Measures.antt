-- Rows measured and written one after another.
use Rattle.std.proofs.Common.{◌≡◌, ℕ, ◌+◌, ◌*◌, ◌<◌, ◌≤◌, List, [], ◌∷◌, ◌++◌, length, get_or, take, Some, decimal, sym, ap, ◌∙◌, subst, ⊎_elim, arith}
use Rattle.std.specs.List.{slice_get}
use Rattle.std.proofs.lemmas.List.{length-append, take_more, take_all, flat_map_more}
use Rattle.std.proofs.lemmas.Option.{slice_get-get_or}
use Rattle.std.proofs.lemmas.Bool.{cases_eq}
use Rattle.forms.specs.declared.Row.{Row}
use Rattle.forms.specs.declared.Row.TheVariants.{Void, Element}
use Rattle.forms.specs.Limits.{max_rows}
use Rattle.forms.specs.Places.{Nowhere, NoneBelow}
use Rattle.forms.specs.Rows.{NumbersBelow}
use Rattle.forms.specs.Splices.{Wrote}
use Rattle.texts.specs.Limits.{label_digits}
use Rattle.texts.specs.RowText.{field_1, field_2, field_3, spelled_row, spelled}
use Rattle.texts.specs.Writing.{NumberOver}
use Rattle.texts.proofs.Numbers.{length_hexadecimal}
use Rattle.forms.proofs.Findings.{nth_below}
use Rattle.forms.proofs.Splices.{wrote_both}

length_line : (row : Row) → length (spelled_row row) ≡ 5 + (length (field_1 row) + (length (field_2 row) + length (field_3 row)))
length_line row = simp length-append (omega arith)

pub line_element : (row : Row) (l i f d g : ℕ) → row ≡ Element l i f → d ≡ length (decimal i) → g ≡ length (decimal f) → 5 + label_digits + d + g ≡ length (spelled_row row)
line_element row l i f d g e is if = omega (arith, length_line (Element l i f), length_hexadecimal label_digits l, ap (λ r. length (spelled_row r)) e)

-- the first i rows are spelled by text of this length
pub record MeasuredTo (rows : List Row) (i total : ℕ) : Type 0 where
  pub small : total ≤ 27 * i
  pub clear : NoneBelow (NumberOver rows) i
  pub value : total ≡ length (spelled (take i rows))

spelled_push : (rows : List Row) (i : ℕ) (row : Row) → i < length rows → row ≡ get_or rows i Void → spelled (take (i + 1) rows) ≡ spelled (take i rows) ++ spelled_row row
spelled_push rows i row l e = ap spelled (take_more rows i Void l ∙ ap (λ r. take i rows ++ (r ∷ [])) (sym e)) ∙ sym (flat_map_more spelled_row [] (take i rows) row)

pub measured_more : (rows : List Row) (i total n : ℕ) (row : Row) → i < length rows → row ≡ get_or rows i Void → MeasuredTo rows i total → NumbersBelow max_rows row → n ≤ 27 → n ≡ length (spelled_row row) → MeasuredTo rows (i + 1) (total + n)
measured_more rows i total n row l e going below few is = record {
  small = omega (arith, going.small);
  clear = λ j h (r, at, over). ⊎_elim
      (λ same. let here : slice_get rows j ≡ Some row = ap (slice_get rows) same ∙ (slice_get-get_or rows i Void l ∙ ap Some (sym e)) in let q : row ≡ r = cc in over (subst (NumbersBelow max_rows) q below))
      (λ other. going.clear j (omega arith) (r, at, over))
      (cases_eq j i);
  value = omega (arith, going.value, ap length (spelled_push rows i row l e), length-append (spelled (take i rows)) (spelled_row row));
}

pub measured_all : (rows : List Row) (i total : ℕ) → length rows ≤ i → MeasuredTo rows i total → Nowhere (NumberOver rows) × (total ≡ length (spelled rows))
measured_all rows i total l going = (λ k (r, at, over). going.clear k (omega (arith, nth_below rows k at)) (r, at, over), going.value ∙ ap (λ x. length (spelled x)) (take_all i rows l))

-- WRITING
pub rows_more : (rows : List Row) (i place next : ℕ) (row : Row) (o m n : List ℕ) → i < length rows → row ≡ get_or rows i Void → Wrote o m 0 (spelled (take i rows)) place → Wrote m n place (spelled_row row) next → Wrote o n 0 (spelled (take (i + 1) rows)) next
rows_more rows i place next row o m n l e a b = subst (λ t. Wrote o n 0 t next) (sym (spelled_push rows i row l e)) (wrote_both o m n 0 place next (spelled (take i rows)) (spelled_row row) a b)
