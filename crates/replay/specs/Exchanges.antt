-- What calls and answers in memory mean: which call, which answer, and what their buffers hold. Assumes nothing.
use Rattle.std.specs.Prelude.{vec_items}
use Rattle.book.specs.Calls.{Call as BookCall, Answer as BookAnswer}
use Rattle.book.specs.Calls.Answer.{asked, offered, looked_up, counted, handed_out, shown, fitted, cleared}
use Rattle.book.specs.Calls.Call.{ask, offer, look_up, held, hands_out, show, fit, clear}
use Rattle.book.specs.Faults.{outcome}
use Rattle.replay.specs.declared.exchange.Answer.{Answer}
use Rattle.replay.specs.declared.exchange.Answer.TheVariants.{Asked, Offered, LookedUp, Counted, HandedOut, Shown, Fitted, Cleared}
use Rattle.replay.specs.declared.exchange.Call.{Call}
use Rattle.replay.specs.declared.exchange.Call.TheVariants.{Ask, Offer, LookUp, Held, HandOut, Show, Fit, Clear}

abbrev pub call_of : Call → BookCall
call_of (Ask pair) = ask pair.0 pair.1
call_of (Offer words) = offer (vec_items words)
call_of (LookUp pair) = look_up pair.0 pair.1
call_of Held = held
call_of (HandOut buffer) = hands_out (vec_items buffer)
call_of (Show pair buffer) = show pair.0 pair.1 (vec_items buffer)
call_of (Fit nodes root row marks) = fit (vec_items nodes) root row (vec_items marks)
call_of Clear = clear

abbrev pub answer_of : Answer → BookAnswer
answer_of (Asked r) = asked (outcome r)
answer_of (Offered r) = offered (outcome r)
answer_of (LookedUp r) = looked_up (outcome r)
answer_of (Counted r) = counted (outcome r)
answer_of (HandedOut r buffer) = handed_out (outcome r) (vec_items buffer)
answer_of (Shown r buffer) = shown (outcome r) (vec_items buffer)
answer_of (Fitted r marks) = fitted (outcome r) (vec_items marks)
answer_of (Cleared r) = cleared (outcome r)
