-- Row buffers as they are filled. Assumes nothing.
use Rattle.std.proofs.Common.{◌≡◌, ℕ, ◌+◌, ◌<◌, ◌≤◌, true, ltb, List, [], ◌∷◌, ◌++◌, length, get_or, take, set, sym, ap, ◌∙◌, ⊎_elim, arith, length-take}
use Rattle.std.proofs.lemmas.Bool.{cases_eq, cond-true, lt-ltb}
use Rattle.std.proofs.lemmas.List.{take_more, get_or-set_same, get_or-set_other}
use Rattle.forms.specs.declared.Row.{Row}
use Rattle.forms.specs.declared.Row.TheVariants.{Void}
use Rattle.forms.specs.declared.buffer.RowBuffer.{RowBuffer}
use Rattle.forms.specs.Limits.{max_rows}
use Rattle.forms.specs.Rows.{fits}
use Rattle.forms.specs.Buffers.{rows_of, pushed}

-- a table of which the first n rows count
module _ (table : List Row) (n : ℕ) (long : length table ≡ max_rows) (within : n ≤ max_rows) where
  pub all_fit : (row : Row) → n < max_rows → fits row ≡ true → ((k : ℕ) → fits (get_or table k Void) ≡ true) → (k : ℕ) → fits (get_or (set table n row) k Void) ≡ true
  all_fit row h here fit k = ⊎_elim
      (λ e. let lt : n < length table = omega arith in ap fits (ap (λ j. get_or (set table n row) j Void) e ∙ get_or-set_same table n row Void lt) ∙ here)
      (λ ne. ap fits (get_or-set_other table n k row Void ne) ∙ fit k)
      (cases_eq k n)

-- one row more where there is room
pub pushed_is : (rows : List Row) (row : Row) → length rows < max_rows → pushed rows row ≡ rows ++ (row ∷ [])
pushed_is rows row h = cond-true (ltb (length rows) max_rows) (rows ++ (row ∷ [])) rows (lt-ltb (length rows) max_rows h)

-- the first i rows of a list are copied: with the next one pushed, the first i + 1 are
pub copied_more : (rows held : List Row) (i : ℕ) (row : Row) → i < length rows → length rows ≤ max_rows → held ≡ take i rows → row ≡ get_or rows i Void → pushed held row ≡ take (i + 1) rows
copied_more rows held i row h le e is =
    let l : length held < max_rows = omega (arith, ap length e, length-take i rows) in
    pushed_is held row l ∙ ap (λ x. x ++ (row ∷ [])) e ∙ ap (λ x. take i rows ++ (x ∷ [])) is ∙ sym (take_more rows i Void h)

-- and so of a buffer, before and after the push
pub buffer_copied_more : (rows : List Row) (i : ℕ) (row : Row) (before after now : RowBuffer) → i < length rows → length rows ≤ max_rows → rows_of before ≡ take i rows → row ≡ get_or rows i Void → rows_of after ≡ pushed (rows_of before) row → now ≡ after → rows_of now ≡ take (i + 1) rows
buffer_copied_more rows i row before after now h le e is push same = ap rows_of same ∙ push ∙ copied_more rows (rows_of before) i row h le e is
