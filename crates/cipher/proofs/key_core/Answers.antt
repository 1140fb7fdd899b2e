use Rattle.cipher.proofs.Halves.{core-half}
use Rattle.cipher.proofs.key_core.Goals as goal

pub returns : goal.returns
returns c = let at = c in
    let args = at.args in
    rw c.from.ensures
    (core-half args.t at.turned.result c.low_half.result args.rc at.ranges.rc.fits at.turned.ensures c.low_half.ensures)
