use Rattle.std.proofs.Common.{arith}
use Rattle.verdicts.proofs.Walks.{words_found}
use Rattle.verdicts.proofs.rowsets.RowSet.words.Goals as goal

pub returns : goal.returns
returns c = words_found c.args.self.now.cells.now c.args.self.now.row (omega arith) c.get.result c.get.ensures.lookup
