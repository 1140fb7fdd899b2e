use mathlib.Core.Path.{◌∙◌}
use Rattle.rules.specs.Record.{append_checks}
use Rattle.card.proofs.record.check_append.Goals as goal

pub returns : goal.returns
unfolding append_checks
returns c = c.check_growth.ensures ∙ rw (c.file_of.ensures, c.record_target-place.ensures)
