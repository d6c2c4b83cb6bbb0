use Rattle.std.proofs.Common.{◌*◌, ◌/◌}
use Rattle.sets.specs.Sets.{word}
use Rattle.sets.proofs.Membership.{zeros_none}
use Rattle.forms.specs.Limits.{max_rows}
use Rattle.verdicts.proofs.prepared.leaning.Met.of.Goals as goal

pub returns-clause-none : goal.returns-clause-none
returns-clause-none c = zeros_none (max_rows * max_rows / word)
