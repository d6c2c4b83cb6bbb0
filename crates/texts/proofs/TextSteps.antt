-- Reading a text line by line.
use Rattle.std.proofs.Common.{◌≡◌, ℕ, ◌<◌, ◌≤◌, ltb, List, [], ◌∷◌, ◌++◌, length, sym, ap, ◌∙◌, subst, arith}
use Rattle.std.specs.List.{AllByRecursion}
use Rattle.std.proofs.lemmas.List.{append_assoc, append-nil, length_push, flat_map_more}
use Rattle.std.proofs.ByRecursion.{All-push}
use Rattle.std.proofs.lemmas.Bool.{cond-true, lt-ltb}
use Rattle.forms.specs.declared.Row.{Row}
use Rattle.forms.specs.Limits.{max_rows}
use Rattle.forms.specs.Refusals.Outcome.{refuses, gives}
use Rattle.forms.specs.Buffers.{pushed}
use Rattle.texts.specs.declared.TextFault.TheVariants.{WrongLine, TooManyLines}
use Rattle.texts.specs.Faults.{text_refusal}
use Rattle.texts.specs.Limits.{max_text}
use Rattle.texts.specs.RowText.{spelled_row, spelled, Proper, FirstWrong, RightLines, Judged}
use Rattle.texts.specs.RowText.Judged.{is_wrong, is_more}
use Rattle.texts.proofs.Judging.{right_is_spelled, lines_of_rows}

-- the lines of these rows are read, and the rest is left
pub record ReadTo (bytes rest : List ℕ) (rows : List Row) : Type 0 where
  pub few : length rows ≤ max_rows
  pub proper : AllByRecursion Proper rows
  pub spelt : bytes ≡ spelled rows ++ rest

pub read_more : (bytes rest next : List ℕ) (rows after : List Row) (row : Row) → ReadTo bytes rest rows → (length rows ≡ max_rows → ⊥) → Proper row × (rest ≡ spelled_row row ++ next) → after ≡ pushed rows row → ReadTo bytes next after
read_more bytes rest next rows after row going room (p, e) is =
    let one = is ∙ cond-true (ltb (length rows) max_rows) (rows ++ (row ∷ [])) rows (lt-ltb (length rows) max_rows (omega (arith, going.few, room))) in
    subst (ReadTo bytes next) (sym one) (record {
      few = omega (arith, length_push rows row, going.few, room);
      proper = All-push Proper rows row going.proper p;
      spelt = going.spelt ∙ (ap (λ t. spelled rows ++ t) e ∙ (sym (append_assoc (spelled rows) (spelled_row row) next) ∙ ap (λ t. t ++ next) (flat_map_more spelled_row [] rows row)));
    })

-- the lines so far are right
right_so_far : (bytes rest : List ℕ) (rows : List Row) → ReadTo bytes rest rows → RightLines (length rows) bytes rest
right_so_far bytes rest rows going = subst (λ t. RightLines (length rows) t rest) (sym going.spelt) (lines_of_rows rows going.proper rest)

pub read_wrong : (bytes rest : List ℕ) (n f : ℕ) (rows : List Row) → ReadTo bytes rest rows → length bytes ≤ max_text → 0 < length rest → n ≡ length rows → (n ≡ max_rows → ⊥) → FirstWrong f rest → Judged bytes (refuses (text_refusal (WrongLine n f)))
read_wrong bytes [] n f rows going short l e room wrong = absurd (omega arith)
read_wrong bytes (b ∷ rest) n f rows going short l e room wrong = is_wrong b rest short (omega (arith, going.few, room)) (subst (λ k. RightLines k bytes (b ∷ rest)) (sym e) (right_so_far bytes (b ∷ rest) rows going)) wrong

pub read_over : (bytes rest : List ℕ) (rows : List Row) → ReadTo bytes rest rows → length bytes ≤ max_text → 0 < length rest → length rows ≡ max_rows → Judged bytes (refuses (text_refusal TooManyLines))
read_over bytes [] rows going short l e = absurd (omega arith)
read_over bytes (b ∷ rest) rows going short l e = is_more b rest short (subst (λ k. RightLines k bytes (b ∷ rest)) e (right_so_far bytes (b ∷ rest) rows going))

pub read_all : (bytes rest : List ℕ) (rows : List Row) → ReadTo bytes rest rows → length rest ≡ 0 → Judged bytes (gives rows)
read_all bytes [] rows going l = (right_is_spelled bytes rows).1 (going.few, going.proper, going.spelt ∙ append-nil (spelled rows))
read_all bytes (b ∷ rest) rows going l = absurd (omega arith)
