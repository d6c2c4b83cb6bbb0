use Rattle.std.proofs.Common.{◌≡◌, ◌+◌, ◌-◌, ◌*◌, sym, refl, subst, arith}
use borrow.Rule.Slice.PartMut.{put_mid}
use Rattle.fitting.specs.Fittable.{row_words}
use Rattle.fitting.proofs.Laying.{Laid, laid_over, laid_all}
use Rattle.fitting.proofs.marking.write_marks.Goals as goal

pub returns : goal.returns
returns c =
    let old = c.args.marks.now in
    let rows = c.args.rows.now in
    let start = c.args.node * row_words in
    let wide : row_words ≡ start + row_words - start = omega arith in
    laid_all old rows (put_mid start (start + row_words - start) old c.copy_from_slice.new.self) c.args.node row_words c.requires.few refl
    (subst (λ ws. Laid old rows start (put_mid start (start + row_words - start) old ws) row_words) (sym c.copy_from_slice.ensures.after)
    (subst (λ n. Laid old rows start (put_mid start n old rows) row_words) wide (laid_over old rows start row_words (omega (arith, c.requires.room)) c.told-rows)))
