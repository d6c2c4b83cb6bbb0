-- A run so far on a book that was made for it, in memory. Assumes nothing.
use Rattle.std.proofs.Common.{◌≡◌, ℕ, ◌<◌, ◌≤◌, List, [], ◌∷◌, ◌++◌, map, length, ap, arith, length-append}
use Rattle.std.proofs.lemmas.List.{map_push}
use Rattle.forms.specs.declared.Row.{Row}
use Rattle.book.specs.Books.{Met}
use Rattle.book.specs.Ledgers.{Pages}
use Rattle.book.specs.Runs.{Run}
use Rattle.replay.specs.Exchanges.{call_of, answer_of}
use Rattle.replay.specs.declared.exchange.Answer.{Answer}
use Rattle.replay.specs.declared.exchange.Call.{Call}
use Rattle.book.proofs.Runs.{run_more}

-- one call and its answer more
pub run_push : (rows : List Row) (before after : Pages) (cs : List Call) (bs out : List Answer) (c : Call) (x : Answer) → out ≡ bs ++ (x ∷ []) →
    Run rows before (map call_of cs) (map answer_of bs) → Met rows before (call_of c) (answer_of x) after → Run rows after (map call_of (cs ++ (c ∷ []))) (map answer_of out)
run_push rows before after cs bs out c x is run met = rw (is, map_push answer_of bs x, map_push call_of cs c) (run_more rows before after (map call_of cs) (map answer_of bs) (call_of c) (answer_of x) run met)

pub length_push : {A B : Type 0} (cs : List A) (bs out : List B) (c : A) (x : B) → out ≡ bs ++ (x ∷ []) → length bs ≡ length cs → length out ≡ length (cs ++ (c ∷ []))
length_push cs bs out c x is e = omega (arith, ap length is, length-append bs (x ∷ []), length-append cs (c ∷ []))

-- one place more is wanted where one item more is to come
pub room_more : {A B : Type 0} (cs items all : List A) (c : A) (rest : List A) (bs : List B) (len cap n : ℕ) → cs ++ items ≡ all → items ≡ c ∷ rest → len ≡ length bs → length bs ≡ length cs → length all ≡ n → n ≤ cap → len < cap
room_more cs items all c rest bs len cap n e is l h m le =
    omega (arith, length-append cs items, ap length e, ap length is)
