use mathlib.Core.Path.{◌≡◌}
use mathlib.Core.Bool.{Bool}
use Prim.Native.Nat.{◌≤◌}
use lib.ListN.{length, get_or}
use Rattle.files.specs.Words.{seek}
use Rattle.files.proofs.find.last_place.Given as goal

abbrev pub invariant-loop-i : goal.invariant-loop-i
invariant-loop-i g l =
    (l.i ≤ length l.xs) × ((p : g.row.T.Denot → Bool) (blank : g.row.T.Denot) → ((x : g.row.T.Denot) (r : Bool) → goal.F-post g l.test x r → r ≡ p x) → seek (λ i. p (get_or l.xs i blank)) (length l.xs) ≡ seek (λ i. p (get_or l.xs i blank)) l.i)
