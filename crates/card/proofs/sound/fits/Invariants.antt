use Prim.Native.Nat.{◌-◌}
use mathlib.Core.Bool.{◌&&◌}
use mathlib.Core.Path.{◌≡◌}
use lib.ListN.{drop}
use Rattle.card.specs.Places.{pin_fits, challenge_fits}
use Rattle.card.proofs.Fitting.{zeros_behind, digits_before}
use Rattle.card.proofs.sound.fits.Given as goal

abbrev pub invariant-loop-i : goal.invariant-loop-i
invariant-loop-i l = ((l.fit.admin && digits_before (l.x.len - l.i) (drop l.i l.x.value)) ≡ pin_fits l.x)
    × ((l.fit.user && digits_before (l.y.len - l.i) (drop l.i l.y.value)) ≡ pin_fits l.y)
    × ((l.fit.challenge && zeros_behind (l.session.len - l.i) (drop l.i l.session.challenge)) ≡ challenge_fits l.session)
