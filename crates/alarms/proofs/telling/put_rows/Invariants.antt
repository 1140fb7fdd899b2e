use mathlib.Core.Path.{◌≡◌}
use lib.ListN.{get_or}
use Rattle.alarms.specs.Report.{rows}
use Rattle.digits.specs.Page.{page, draw}
use Rattle.alarms.proofs.telling.put_rows.Given as goal

abbrev pub invariant-loop-i : goal.invariant-loop-i
invariant-loop-i l = page l.out l.end ≡ draw (rows (λ k. get_or l.t.counts k 0) (λ k. get_or l.t.minutes k 0) l.i) (page l.initial.out l.at)
