-- A whole batch is never too long.
use mathlib.Core.Path.{◌∙◌}
use Rattle.std.proofs.Common.{arith}
use Rattle.sums.proofs.Adding.{list-taken}
use Rattle.sums.proofs.all.Goals as goal

pub returns : goal.returns
returns c = c.sum.ensures ∙ list-taken c.args.t c.args.batch (omega arith)
