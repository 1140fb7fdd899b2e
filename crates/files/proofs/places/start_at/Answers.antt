use mathlib.Core.Path.{sym}
use Prim.Native.Nat.{◌<◌}
use lib.Seq.{get_or-take}
use native.Mathlib.Omega.{arith}
use Rattle.files.proofs.Extents.{start_none, start-more}
use Rattle.files.proofs.places.start_at.Goals as goal

pub loop-f-init : goal.loop-f-init
loop-f-init c = (omega arith, sym (start_none c.args.d.files))

pub loop-f-preserved : goal.loop-f-preserved
loop-f-preserved c = let i = c.loop-f.f-index in
    let v = c.loop-f.invariant in
    let s = c.size-sum.ensures in
    let l : i < c.args.n = omega arith in
    (omega (arith, s.low, v), rw (v.1, s.is, get_or-take) (sym (start-more c.args.d.files i)))
