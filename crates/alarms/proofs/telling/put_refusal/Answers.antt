use Rattle.digits.proofs.Drawn.{draws-then}
use Rattle.alarms.specs.Report.{refused}
use Rattle.alarms.proofs.telling.put_refusal.Goals as goal

pub returns : goal.returns
unfolding refused
returns c = rw (← c.from.ensures) (draws-then _ _ _ _ _ c.number_field-a.ensures c.number_field.ensures)
