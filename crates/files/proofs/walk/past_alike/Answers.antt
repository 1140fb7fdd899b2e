use Rattle.std.proofs.Common.{◌≡◌, sym, ap, ◌∙◌, ◌+◌, ◌-◌, arith}
use Rattle.files.specs.Types.{good_length}
use Rattle.files.proofs.Walks.{comes-on, one-step}
use Rattle.files.proofs.walk.past_alike.Goals as goal

pub returns-then-used-here : goal.returns-then-used-here
returns-then-used-here c = let a = c.args in
    let p = c.requires in
    (omega arith, comes-on a.used a.bytes.now a.at c.from-step.result p.4 p.0 (c.from-step.ensures ∙ sym p.2) (ap good_length c.from-step.ensures ∙ p.3))

pub loop-init : goal.loop-init
loop-init c = let a = c.args in
    let p = c.requires in
    (omega arith, omega arith, omega arith, comes-on a.used a.bytes.now a.at c.from-step.result p.4 p.0 (c.from-step.ensures ∙ sym p.2) (ap good_length c.from-step.ensures ∙ p.3))

pub bounds-bytes-here : goal.bounds-bytes-here
bounds-bytes-here c = let l = c.loop in
    omega (arith, one-step l.here (c.from-step.result + 1) (16 - l.counter) c.args.used (omega arith) l.invariant.2)

pub loop-preserved : goal.loop-preserved
loop-preserved c = let a = c.args in
    let l = c.loop in
    let v = l.invariant in
    let o = one-step l.here (c.from-step.result + 1) (16 - l.counter) a.used (omega arith) v.2 in
    let m : 16 - (l.counter + 1) ≡ 16 - l.counter - 1 = omega arith in
    (v.0, omega arith, rw m o, comes-on a.used a.bytes.now l.here c.from-step.result v.3 (omega arith) (c.from-step.ensures ∙ sym c.if-bytes-here.false) (ap good_length c.from-step.ensures ∙ c.requires.3))
