use mathlib.Core.List.{[]}
use mathlib.Core.Path.{refl, ◌∙◌}
use native.Mathlib.Omega.{arith}
use Rattle.rules.specs.Record.{record_found}
use Rattle.rules.specs.List.{rule}
use Rattle.card.specs.Head.{command_of}
use Rattle.card.specs.Coded.{rest}
use Rattle.card.proofs.Serving.{key-whole}
use Rattle.stores.proofs.Commands.{shows-none}
use Rattle.stores.proofs.call.obeyed.Goals as goal

pub authenticate-requires : goal.authenticate-requires
authenticate-requires c = let s = c in key-whole s.args.card s.args.area.now s.requires.ready 0 (omega arith) refl

pub returns-in-UpdateBinary : goal.returns-in-UpdateBinary
unfolding rest rule
returns-in-UpdateBinary c = rw c.in-UpdateBinary.is c.update_binary.ensures

pub returns-in-UpdateRecord : goal.returns-in-UpdateRecord
unfolding rest rule
returns-in-UpdateRecord c = rw c.in-UpdateRecord.is c.update_record.ensures

pub returns-in-AppendRecord : goal.returns-in-AppendRecord
unfolding rest rule
returns-in-AppendRecord c = rw c.in-AppendRecord.is c.append_record.ensures

pub returns-in-Verify : goal.returns-in-Verify
unfolding rest rule
returns-in-Verify c = rw c.in-Verify.is c.verify.ensures

pub returns-in-Authenticate : goal.returns-in-Authenticate
unfolding rest rule
returns-in-Authenticate c = rw c.in-Authenticate.is c.authenticate.ensures

pub returns-in-ChangePin : goal.returns-in-ChangePin
unfolding rest rule
returns-in-ChangePin c = rw c.in-ChangePin.is c.change.ensures

pub returns-in-ReloadPin : goal.returns-in-ReloadPin
unfolding rest rule
returns-in-ReloadPin c = rw c.in-ReloadPin.is c.reload.ensures

pub returns-in-CreateFile : goal.returns-in-CreateFile
unfolding rest rule
returns-in-CreateFile c = rw c.in-CreateFile.is c.create_file.ensures

pub returns-in-Select : goal.returns-in-Select
returns-in-Select c = let a = c.args in
    c.no_store.ensures ∙ shows-none a.ins c.in-Select.is a.card (record_found a.card a.area.now (command_of a.h [])) (command_of a.h a.given.now) a.k
