use mathlib.Core.Path.{◌≡◌, ◌∙◌}
use Prim.Native.Nat.{◌+◌, ◌<◌}
use native.Mathlib.Numerals.{add-one}
use lib.ListN.{length}
use lib.Seq.{paste-zero, paste-suc}
use Rattle.files.proofs.Parts.{splice-of-paste}
use native.Mathlib.Omega.{arith}
use Rattle.files.proofs.run.put.Goals as goal

pub loop-i-init : goal.loop-i-init
loop-i-init c = paste-zero c.args.dst.now c.args.at c.args.src.now

pub loop-i-preserved : goal.loop-i-preserved
loop-i-preserved c = let a = c.args in
    let h : a.at + c.loop-i.i < length a.dst.now = omega arith in
    rw (c.loop-i.invariant, add-one) (paste-suc a.dst.now a.at a.src.now c.loop-i.i 0 h (omega arith))

pub returns : goal.returns
returns c = let a = c.args in
    let e : c.loop-i.i ≡ length a.src.now = omega arith in
    c.loop-i.invariant ∙ rw e (splice-of-paste a.dst.now a.src.now a.at)
