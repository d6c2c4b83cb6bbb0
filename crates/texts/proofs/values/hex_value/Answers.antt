use Rattle.std.proofs.Common.{inl, inr, arith}
use Rattle.texts.proofs.Digits.{told_hex}
use Rattle.texts.proofs.values.hex_value.Goals as goal
use Rattle.texts.proofs.values.hex_value.Goals.{in_default-via-then-byte-lt97, in_default-via-else-byte-lt97+else-byte-lt103}

pub returns-in_default : goal.returns-in_default
returns-in_default c = elim c.in_default.branch [
  | in_default-via-then-byte-lt97 w ↦ told_hex c.args.byte c.digit.result (inl (omega arith)) c.digit.ensures
  | in_default-via-else-byte-lt97+else-byte-lt103 w ↦ told_hex c.args.byte c.digit.result (inr (omega arith)) c.digit.ensures
]
