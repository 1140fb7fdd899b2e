use Rattle.std.proofs.Common.{◌≡◌, sym, ap, ◌∙◌, true, arith, add-one}
use Rattle.files.specs.Walk.{stands, walk}
use Rattle.files.proofs.Walks.{stood, stood-in, walk-on, walk-stopped}
use Rattle.files.proofs.walk.walk_on.Goals as goal

pub bounds-bytes-here : goal.bounds-bytes-here
bounds-bytes-here c = stood-in _ _ _ (sym c.stands.ensures ∙ c.if-not-stands.false)

pub overflow_add-here-in-loop : goal.overflow_add-here-in-loop
overflow_add-here-in-loop c = omega (arith, (stood _ _ _ (sym c.stands.ensures ∙ c.if-not-stands.false)).ends)

pub loop-preserved : goal.loop-preserved
loop-preserved c = let a = c.args in
    let k = c.loop.counter in
    let e : stands a.used a.bytes.now (walk a.used a.bytes.now k) ≡ true = ap (stands a.used a.bytes.now) (sym c.loop.invariant) ∙ sym c.stands.ensures ∙ c.if-not-stands.false in
    rw (add-one k, walk-on a.used a.bytes.now k e, c.from.ensures, c.loop.invariant) (omega arith)

pub returns-then-not-stands : goal.returns-then-not-stands
returns-then-not-stands c = let a = c.args in
    let v = c.loop.invariant in
    v ∙ sym (walk-stopped a.used a.bytes.now c.loop.counter a.n (ap (stands a.used a.bytes.now) (sym v) ∙ sym c.stands.ensures ∙ c.if-not-stands.true) (omega arith))
