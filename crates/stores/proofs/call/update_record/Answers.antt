use mathlib.Core.Path.{refl, sym, ◌∙◌}
use native.Mathlib.Omega.{arith}
use Rattle.rules.specs.Record.{update_record_deed}
use Rattle.card.specs.Head.{command_of}
use Rattle.card.proofs.Serving.{found-given}
use Rattle.power.specs.Plan.{deed_stores}
use Rattle.stores.proofs.Commands.{update-inside, held_back, let_through, refused, all-pass}
use Rattle.stores.proofs.call.update_record.Goals as goal

pub returns-then-is_err : goal.returns-then-is_err
returns-then-is_err c = let a = c.args in
    let k = command_of a.h a.given.now in
    let l = c.record_found-l in
    rw (← l.ensures) (c.no_store.ensures ∙ held_back refl (deed_stores a.card (update_record_deed a.card l.result k)) a.k (refused _ c.check_update_record.ensures c.is_err.ensures.value c.if-is_err.true))

pub overflow_add-at : goal.overflow_add-at
overflow_add-at c = let s = c in
    let a = s.args in
    let few = update-inside a.card a.area.now s.requires.ready (command_of a.h a.given.now) (c.record_found-l.ensures ∙ found-given a.card a.area.now a.h a.given.now) (all-pass _ c.check_update_record.ensures c.is_err.ensures.value c.if-is_err.false) in
    record { fits = omega (arith, few, c.start.ensures.low) }

pub update_store-requires : goal.update_store-requires
update_store-requires c = let s = c in
    let a = s.args in
    let few = update-inside a.card a.area.now s.requires.ready (command_of a.h a.given.now) (c.record_found-l.ensures ∙ found-given a.card a.area.now a.h a.given.now) (all-pass _ c.check_update_record.ensures c.is_err.ensures.value c.if-is_err.false) in
    (omega (arith, few, c.start.ensures.low), s.requires.given_len_bound)

pub returns : goal.returns
returns c = let a = c.args in
    let k = command_of a.h a.given.now in
    let l = c.record_found-l in
    rw (← l.ensures) (c.update_store.ensures ∙ rw (c.start.ensures.is, c.record_target-place.ensures)
    (let_through refl (deed_stores a.card (update_record_deed a.card l.result k)) a.k (all-pass _ c.check_update_record.ensures c.is_err.ensures.value c.if-is_err.false)))
