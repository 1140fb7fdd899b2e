use Rattle.alarms.proofs.Rows.{row-none, row-some}
use Rattle.alarms.proofs.telling.put_row.Goals as goal

pub returns-then-count-eq0 : goal.returns-then-count-eq0
returns-then-count-eq0 c = row-none _ _ _ _ c.if-count-eq0.true

pub returns : goal.returns
returns c = row-some _ _ _ _ _ _ _ _ c.if-count-eq0.false c.number_field-a.ensures c.number_field-b.ensures c.number_field-c.ensures c.number_field.ensures
