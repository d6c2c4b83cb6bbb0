-- Each make of source keeps to the laws of sources. Assumes nothing.
use Rattle.std.specs.Prelude.{◌≡◌, ℕ, ◌+◌, ◌^◌, ◌<◌, ◌≤◌, true, ◌&&◌, List, [], map, length, nat_le, nat_lt, slice_index_or}
use Rattle.std.proofs.Common.{arith, length-append, length-take}
use Rattle.std.proofs.lemmas.List.{length-map}
use Rattle.std.specs.List.{AllByRecursion}
use Rattle.std.proofs.lemmas.Bool.{cond_both, leb-true, ltb-true, and_parts}
use Rattle.std.proofs.ByRecursion.{All-append, All-map, All-weaker, All-take, All-from_get_or}
use Rattle.forms.specs.declared.Row.{Row}
use Rattle.forms.specs.declared.Row.TheVariants.{Void, Nothing, Channel, Element, Union}
use Rattle.forms.specs.declared.buffer.RowBuffer.{RowBuffer}
use Rattle.forms.specs.Limits.{max_rows, numbers, past_table, label_count}
use Rattle.forms.specs.Rows.{Fit, fits, Lawful, raised, shift, sides, joined, turn}
use Rattle.forms.specs.Buffers.{rows_of}

fit_by_test : (row : Row) → fits row ≡ true → Fit row
fit_by_test Void e = (tt, tt)
fit_by_test Nothing e = (tt, tt)
fit_by_test (Channel k s) e = (ltb-true s numbers e, tt)
fit_by_test (Element l i f) e =
    let (a, more) = and_parts (nat_lt i numbers) (nat_lt f numbers && nat_lt l (2 ^ label_count)) e in
    let (b, c) = and_parts (nat_lt f numbers) (nat_lt l (2 ^ label_count)) more in
    ((ltb-true i numbers a, ltb-true f numbers b), ltb-true l (2 ^ label_count) c)
fit_by_test (Union l r) e = let (a, b) = and_parts (nat_lt l numbers) (nat_lt r numbers) e in ((ltb-true l numbers a, ltb-true r numbers b), tt)

pub buffer_laws : (b : RowBuffer) → Lawful (rows_of b)
buffer_laws b = record {
  few = omega (arith, length-take b.count b.table, b.few);
  fit = All-take Fit b.count b.table (All-from_get_or Fit b.table Void (λ k h. fit_by_test (slice_index_or b.table k Void) (b.fit k)));
}

-- a raised number is a byte still
raised_byte : (n m k : ℕ) → n + m ≤ max_rows → raised n m k < numbers
raised_byte n m k h = cond_both (nat_lt k m) (k + n) past_table (λ x. x < numbers) (λ e. omega (arith, ltb-true k m e)) (λ e. omega arith)

shift_fit : (n m : ℕ) → n + m ≤ max_rows → (row : Row) → Fit row → Fit (shift n m row)
shift_fit n m h Void f = f
shift_fit n m h Nothing f = f
shift_fit n m h (Channel k p) f = (raised_byte n m p h, tt)
shift_fit n m h (Element l i g) f = ((raised_byte n m i h, raised_byte n m g h), f.1)
shift_fit n m h (Union p q) f = ((raised_byte n m p h, raised_byte n m q h), tt)

all_shift : (n m : ℕ) → n + m ≤ max_rows → (rows : List Row) → AllByRecursion Fit rows → AllByRecursion Fit (map (shift n m) rows)
all_shift n m h rows all = All-map Fit (shift n m) rows (All-weaker Fit (λ r. Fit (shift n m r)) (shift_fit n m h) rows all)

pub length_sides : (a b : List Row) → length (sides a b) ≡ length a + length b
length_sides a b = simp (length-append, length-map)

pub joined_laws : (a b : List Row) → Lawful a → Lawful b → Lawful (joined a b)
joined_laws a b p q = cond_both (nat_le (length a + length b) max_rows) (sides a b) [] Lawful
    (λ e. let h = leb-true (length a + length b) max_rows e in record {
      few = omega (arith, length_sides a b);
      fit = All-append Fit (map (shift 0 (length a)) a) (map (shift (length a) (length b)) b) (all_shift 0 (length a) (omega arith) a p.fit) (all_shift (length a) (length b) (omega arith) b q.fit);
    })
    (λ e. record { few = omega arith; fit = tt })

turn_fit : (row : Row) → Fit row → Fit (turn row)
turn_fit Void f = f
turn_fit Nothing f = f
turn_fit (Channel k p) f = f
turn_fit (Element l i g) f = f
turn_fit (Union p q) f = f

pub turned_laws : (rows : List Row) → Lawful rows → Lawful (map turn rows)
turned_laws rows p = record {
  few = omega (arith, length-map rows turn, p.few);
  fit = All-map Fit turn rows (All-weaker Fit (λ r. Fit (turn r)) turn_fit rows p.fit);
}
