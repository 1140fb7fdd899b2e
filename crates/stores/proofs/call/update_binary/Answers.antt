use mathlib.Core.Path.{refl, ◌∙◌}
use Rattle.rules.specs.Binary.{update_binary_deed}
use Rattle.card.specs.Head.{command_of}
use Rattle.power.specs.Plan.{deed_stores}
use Rattle.stores.proofs.Commands.{held_back, let_through, refused, all-pass}
use Rattle.stores.proofs.call.update_binary.Goals as goal

pub returns-then-is_err : goal.returns-then-is_err
returns-then-is_err c = let a = c.args in
    let k = command_of a.h a.given.now in
    c.no_store.ensures ∙ held_back refl (deed_stores a.card (update_binary_deed a.card k)) a.k (refused _ c.check_update_binary.ensures c.is_err.ensures.value c.if-is_err.true)

pub returns : goal.returns
returns c = let a = c.args in
    let k = command_of a.h a.given.now in
    c.update_store.ensures ∙ rw (c.offset.ensures.is, c.start.ensures.is, c.binary_target-place.ensures)
    (let_through refl (deed_stores a.card (update_binary_deed a.card k)) a.k (all-pass _ c.check_update_binary.ensures c.is_err.ensures.value c.if-is_err.false))
