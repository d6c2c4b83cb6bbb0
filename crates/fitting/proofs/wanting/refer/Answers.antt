use Rattle.std.proofs.Common.{arith}
use Rattle.fitting.proofs.References.{refers_row, refers_none}
use Rattle.fitting.proofs.wanting.refer.Goals as goal

pub returns-in-Reference : goal.returns-in-Reference
returns-in-Reference c = refers_row c.args.rows.now c.put.new.words c.args.node c.in-Reference.row (let long = c.told-rows in omega arith) c.in-Reference.is c.put.ensures.within c.put.ensures.past

pub returns-in_default : goal.returns-in_default
returns-in_default c = refers_none c.args.rows.now c.args.node c.in_default.not-Reference
