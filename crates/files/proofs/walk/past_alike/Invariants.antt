use Rattle.std.proofs.Common.{◌≡◌, ◌+◌, ◌-◌, ◌*◌, ◌≤◌, ◌<◌}
use Rattle.files.specs.Walk.{Comes}
use Rattle.files.proofs.walk.past_alike.Given as goal

abbrev pub invariant-loop : goal.invariant-loop
invariant-loop l = (l.step ≡ l.n + 1) × (l.at < l.here) × (l.here + (16 - l.counter) * l.step ≤ l.used) × Comes l.used l.bytes l.here
