use mathlib.Core.Path.{◌≡◌, refl, ◌∙◌}
use mathlib.Core.Bool.{Bool, true, false, cond}
use Prim.Native.Nat.{ℕ, ◌≤◌}
use native.Mathlib.Nat.{add-zero}
use native.Mathlib.Omega.{arith}
use lib.Dec.{eqb}
use lib.ListN.{get_or}
use mir.Val.{bool_byte}
use Rattle.lines.proofs.Scanning.{tabs-more, tabs-end}
use Rattle.lines.proofs.fields.tabs.Goals as goal

-- a test as a number
tested : (t : Bool) → bool_byte t ≡ cond t 1 0
tested true = refl
tested false = refl

one : (t : Bool) (m : ℕ) → m ≡ cond t 1 0 → m ≤ 1
one true m e = omega arith
one false m e = omega arith

pub loop-b-init : goal.loop-b-init
loop-b-init c = (omega arith, add-zero _)

pub loop-b-preserved : goal.loop-b-preserved
loop-b-preserved c =
    let l = c.loop-b in
    let t = eqb (get_or c.args.s.now l.b-index 0) 9 in
    let m = c.from-n.ensures ∙ tested t in
    (omega (arith, l.invariant.0, one t c.from-n.result m), tabs-more c.args.s.now l.b-index l.n c.from-n.result l.invariant.1 c.loop-b-test.true m)

pub returns : goal.returns
returns c = let l = c.loop-b in record { is = tabs-end c.args.s.now l.b-index l.n l.invariant.1 c.loop-b-test.false; low = omega (arith, l.invariant.0) }
