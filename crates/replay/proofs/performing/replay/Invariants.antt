use Rattle.std.proofs.Common.{◌≡◌, ◌++◌, map, length, vec_items, vec_capacity}
use Rattle.std.specs.Vec.Iter.{into_iter_items}
use Rattle.book.specs.Runs.{Run}
use Rattle.replay.specs.Exchanges.{call_of, answer_of}
use Rattle.replay.proofs.performing.replay.Given as goal

abbrev pub invariant-loop-call : goal.invariant-loop-call
invariant-loop-call g l = record {
  source : l.book.source ≡ l.initial.book.source;
  run : Run (g.S.FormSource.rows l.initial.book.source) l.book.pages (map call_of l.yielded) (map answer_of (vec_items l.answers));
  items : l.yielded ++ into_iter_items l.call-iterator ≡ into_iter_items l.initial.call-iterator;
  capacity : vec_capacity l.answers ≡ vec_capacity l.initial.answers;
  long : length (vec_items l.answers) ≡ length l.yielded;
}
