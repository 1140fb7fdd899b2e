use mathlib.Core.List.{[]}
use mathlib.Core.Path.{refl, ◌∙◌, ◌≡◌}
use Rattle.rules.specs.Record.{record_found}
use Rattle.card.specs.Head.{coded_of, command_of}
use Rattle.stores.specs.Handing.{rest_stores, open_sw}
use Rattle.stores.proofs.Commands.{refused, all-pass, held_back, let_through}
use Rattle.stores.proofs.call.without_code.Goals as goal

pub returns-then-is_err : goal.returns-then-is_err
returns-then-is_err c = let a = c.args in
    let more = rest_stores a.ins a.card (record_found a.card a.area.now (command_of a.h [])) (command_of a.h a.given.now) in
    c.no_store.ensures ∙ held_back refl more a.k (refused _ c.check_open.ensures c.is_err.ensures.value c.if-is_err.true)

pub returns : goal.returns
returns c = let a = c.args in
    let more = rest_stores a.ins a.card (record_found a.card a.area.now (command_of a.h [])) (command_of a.h a.given.now) in
    c.obeyed.ensures ∙ let_through refl more a.k (all-pass _ c.check_open.ensures c.is_err.ensures.value c.if-is_err.false)
