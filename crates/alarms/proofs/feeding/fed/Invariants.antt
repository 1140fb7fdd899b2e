use mathlib.Core.Path.{◌≡◌}
use lib.ListN.{drop}
use Rattle.alarms.specs.Feed.{fed_all}
use Rattle.alarms.proofs.feeding.fed.Given as goal

abbrev pub invariant-loop-b : goal.invariant-loop-b
invariant-loop-b l = fed_all l.feed (drop l.b-index l.piece) ≡ fed_all l.initial.feed l.piece
