use Rattle.alarms.proofs.Rows.{rows_none, rows_more}
use Rattle.alarms.proofs.telling.put_rows.Goals as goal

pub loop-i-init : goal.loop-i-init
loop-i-init c = rows_none _ _ _

pub loop-i-preserved : goal.loop-i-preserved
loop-i-preserved c = rows_more _ _ c.loop-i.i _ _ _ c.loop-i.invariant c.put_row-end.ensures
