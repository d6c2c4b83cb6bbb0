use Rattle.std.proofs.Common.{◌∙◌}
use Rattle.fitting.proofs.Bounds.{one_word}
use Rattle.fitting.proofs.rows.has_label.Goals as goal

pub returns : goal.returns
returns c = c.test.ensures ∙ one_word c.args.labels c.args.label c.ranges.labels.fits
