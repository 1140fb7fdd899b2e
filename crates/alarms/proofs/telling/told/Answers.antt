use Rattle.alarms.proofs.Told.{tells-refusal, tells-table}
use mathlib.Core.Path.{ap}
use Rattle.sums.specs.declared.Summed.{Summed}
use Rattle.alarms.proofs.telling.told.Goals as goal

pub returns-then-refusal-ne0 : goal.returns-then-refusal-ne0
returns-then-refusal-ne0 c = tells-refusal _ _ _ _ _ c.closed-last.ensures c.if-refusal-ne0.true c.put_refusal.ensures

pub returns : goal.returns
returns c = tells-table _ _ _ _ _ c.closed-last.ensures _ c.if-refusal-ne0.false (ap (λ (s : Summed). s.totals) c.all.ensures) c.put_table.ensures
