use Rattle.totals.specs.Reading.{Follows}
use Rattle.totals.proofs.read_all.Given as goal

abbrev pub invariant-loop : goal.invariant-loop
invariant-loop g l = Follows l.initial.feed l.feed
