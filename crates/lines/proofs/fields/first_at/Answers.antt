use native.Mathlib.Omega.{arith}
use Prim.Native.Nat.{◌≤◌}
use mathlib.Core.Path.{◌≡◌, ◌∙◌}
use lib.ListN.{length}
use Rattle.lines.proofs.Scanning.{first_found, first-passed, first-none}
use Rattle.lines.proofs.fields.first_at.Goals as goal

pub loop-i-init : goal.loop-i-init
loop-i-init c = c.blocks_past-past.ensures

pub returns-then-s-i : goal.returns-then-s-i
returns-then-s-i c = let l = c.loop-i in let a = c.args in
    record { is = first_found a.b a.s.now l.i l.invariant c.loop-i-test.true c.if-s-i.true; low = l.invariant.inside }

pub loop-i-preserved : goal.loop-i-preserved
loop-i-preserved c = let l = c.loop-i in let a = c.args in
    first-passed a.b a.s.now l.i l.invariant c.loop-i-test.true c.if-s-i.false

pub returns : goal.returns
returns c = let l = c.loop-i in let a = c.args in
    let h : length a.s.now ≤ l.i = c.loop-i-test.false in
    let e : length a.s.now ≡ l.i = omega (arith, l.invariant.inside) in
    record { is = e ∙ first-none a.b a.s.now l.i l.invariant h; low = omega arith }
