use mathlib.Core.Path.{refl, sym, ◌∙◌}
use native.Mathlib.Omega.{arith}
use Rattle.rules.specs.State.{logins}
use Rattle.rules.specs.Pins.{change_touch}
use Rattle.card.specs.Head.{command_of}
use Rattle.card.proofs.Serving.{change-few}
use Rattle.power.specs.Plan.{touch_stores}
use Rattle.stores.proofs.Commands.{held_back, let_through, refused, all-pass}
use Rattle.stores.proofs.call.change.Goals as goal

pub returns-then-is_err : goal.returns-then-is_err
returns-then-is_err c = let a = c.args in
    let k = command_of a.h a.given.now in
    c.no_store.ensures ∙ held_back refl (touch_stores a.card (change_touch k)) a.k (refused _ c.check_change.ensures c.is_err.ensures.value c.if-is_err.true)

pub value_store-requires : goal.value_store-requires
value_store-requires c = let a = c.args in
    (omega (arith, c.pin_named.ensures.low), change-few (logins a.card) (command_of a.h a.given.now) (all-pass _ c.check_change.ensures c.is_err.ensures.value c.if-is_err.false))

pub returns : goal.returns
returns c = let a = c.args in
    let k = command_of a.h a.given.now in
    c.value_store.ensures ∙ rw c.pin_named.ensures.is
    (let_through refl (touch_stores a.card (change_touch k)) a.k (all-pass _ c.check_change.ensures c.is_err.ensures.value c.if-is_err.false))
