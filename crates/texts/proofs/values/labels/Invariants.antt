use Rattle.texts.proofs.Digits.{ReadSoFar}
use Rattle.texts.proofs.values.labels.Given as goal

abbrev pub invariant-loop-byte : goal.invariant-loop-byte
invariant-loop-byte l = ReadSoFar l.field l.byte-index l.value
