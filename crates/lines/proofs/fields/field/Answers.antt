use Prim.Native.Nat.{◌+◌, ◌-◌, ◌<◌}
use mathlib.Core.Path.{◌≡◌, ◌∙◌}
use native.Mathlib.Omega.{arith}
use Rattle.lines.proofs.Scanning.{field_past}
use Rattle.lines.proofs.fields.field.Goals as goal

pub loop-init : goal.loop-init
loop-init c = let z : c.args.n - 0 ≡ c.args.n = omega arith in rw z

pub loop-preserved : goal.loop-preserved
loop-preserved c = let l = c.loop in
    let e : c.args.n - (l.counter + 1) ≡ c.args.n - l.counter - 1 = omega arith in
    let h : 0 < c.args.n - l.counter = omega arith in
    rw (e, c.after-rest.ensures) (field_past (c.args.n - l.counter) l.rest.now h ∙ l.invariant)

pub returns : goal.returns
returns c = let l = c.loop in let z : c.args.n - l.counter ≡ 0 = omega arith in c.before-2.ensures ∙ (rw z at l.invariant)
