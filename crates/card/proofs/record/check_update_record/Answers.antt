use mathlib.Core.Path.{◌∙◌}
use Rattle.rules.specs.Record.{update_record_checks}
use Rattle.card.proofs.record.check_update_record.Goals as goal

pub returns : goal.returns
unfolding update_record_checks
returns c = c.check_record.ensures _ c.check_record_lc-last.ensures ∙ rw (c.file_of-f.ensures, c.record_target-place.ensures)
