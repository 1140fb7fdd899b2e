use Rattle.std.proofs.Common.{◌≡◌}
use Rattle.files.specs.Walk.{walk}
use Rattle.files.proofs.walk.walk_on.Given as goal

abbrev pub invariant-loop : goal.invariant-loop
invariant-loop l = l.here ≡ walk l.used l.bytes l.counter
