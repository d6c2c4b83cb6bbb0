use Rattle.std.proofs.Common.{arith}
use Rattle.std.proofs.lemmas.Grind.{common_steps}
use Rattle.documents.proofs.Building.{build_some, build_none}
use Rattle.documents.proofs.reader.build.Goals as goal

pub returns-then-not-is_empty : goal.returns-then-not-is_empty
returns-then-not-is_empty c = build_some c.args.text.now c.args.nodes.now c.put.new.nodes c.list.new.nodes c.list.result (grind (arith, common_steps)) c.put.ensures c.put.auto.nodes c.list.ensures.builds

pub returns-else-not-is_empty : goal.returns-else-not-is_empty
returns-else-not-is_empty c = build_none c.args.text.now c.args.nodes.now c.put.new.nodes (grind (arith, common_steps)) c.put.ensures
