use Rattle.verdicts.specs.Kinds.{void_row, channel_row, element_row}
use Rattle.verdicts.proofs.prepared.Prepared.sorted.Given as goal

abbrev pub ghost-gather : goal.ghost-gather
ghost-gather a = void_row

abbrev pub ghost-gather-2 : goal.ghost-gather-2
ghost-gather-2 a = channel_row

abbrev pub ghost-gather-3 : goal.ghost-gather-3
ghost-gather-3 a = element_row
