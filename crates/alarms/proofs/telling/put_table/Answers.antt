use Rattle.digits.proofs.Drawn.{draws-then}
use Rattle.alarms.specs.Feed.{table_of}
use Rattle.alarms.proofs.telling.put_table.Goals as goal

pub returns : goal.returns
unfolding table_of
returns c = draws-then _ _ _ _ _ c.put_all-a.ensures c.put_rows.ensures
