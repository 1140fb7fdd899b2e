use mathlib.Core.Path.{refl, sym, ◌∙◌}
use native.Mathlib.Omega.{arith}
use Rattle.rules.specs.State.{logins}
use Rattle.rules.specs.Pins.{reload_touch}
use Rattle.card.specs.Head.{command_of}
use Rattle.card.proofs.Serving.{reload-few}
use Rattle.power.specs.Plan.{touch_stores}
use Rattle.stores.proofs.Commands.{held_back, let_through, refused, all-pass}
use Rattle.stores.proofs.call.reload.Goals as goal

pub returns-then-is_err : goal.returns-then-is_err
returns-then-is_err c = let a = c.args in
    let k = command_of a.h a.given.now in
    c.no_store.ensures ∙ held_back refl (touch_stores a.card (reload_touch k)) a.k (refused _ c.check_reload.ensures c.is_err.ensures.value c.if-is_err.true)

pub reload_store-requires : goal.reload_store-requires
reload_store-requires c = let a = c.args in
    (omega arith, reload-few (logins a.card) (command_of a.h a.given.now) (all-pass _ c.check_reload.ensures c.is_err.ensures.value c.if-is_err.false))

pub returns : goal.returns
returns c = let a = c.args in
    let k = command_of a.h a.given.now in
    c.reload_store.ensures ∙ rw c.tries_at-tries.ensures
    (let_through refl (touch_stores a.card (reload_touch k)) a.k (all-pass _ c.check_reload.ensures c.is_err.ensures.value c.if-is_err.false))
