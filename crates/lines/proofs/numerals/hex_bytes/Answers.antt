use Prim.Native.Nat.{◌+◌, ◌*◌, ◌/◌, ◌≤◌, ◌<◌}
use mathlib.Core.Path.{◌≡◌}
use lib.ListN.{length}
use native.Mathlib.Omega.{arith}
use Rattle.lines.proofs.Scanning.{filled_none, filled_more, filled-end}
use Rattle.lines.proofs.numerals.hex_bytes.Goals as goal

pub loop-i-init : goal.loop-i-init
loop-i-init c = filled_none c.args.s.now c.args.out.now

pub loop-i-preserved : goal.loop-i-preserved
loop-i-preserved c = let l = c.loop-i in
    let d : 2 * l.i ≡ l.i + l.i = omega arith in
    let h : l.i + l.i + 1 < length c.args.s.now = omega arith in
    let o : l.i < length l.out = omega (arith, l.invariant.size) in
    filled_more c.args.s.now c.args.out.now l.out l.i c.hex_byte.result l.invariant h o (rw d at c.hex_byte.ensures)

pub returns : goal.returns
returns c = let l = c.loop-i in
    let e : length c.args.s.now / 2 ≡ l.i = omega arith in
    let h : length c.args.s.now ≤ l.i + l.i + 1 = omega arith in
    rw e (filled-end c.args.s.now c.args.out.now l.out l.i l.invariant h c.requires.1 c.requires.0)
