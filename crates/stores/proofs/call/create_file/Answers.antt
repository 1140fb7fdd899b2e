use mathlib.Core.Path.{refl, sym, ◌∙◌}
use native.Mathlib.Omega.{arith}
use Rattle.rules.specs.Create.{create_deed}
use Rattle.card.specs.Head.{command_of}
use Rattle.power.specs.Plan.{deed_stores}
use Rattle.stores.proofs.Numbers.{same_at}
use Rattle.stores.proofs.Commands.{create-place, create-folder, make-is, found-is, held_back, let_through, refused, all-pass}
use Rattle.stores.proofs.call.create_file.Goals as goal

pub returns-then-is_err : goal.returns-then-is_err
returns-then-is_err c = let a = c.args in
    let k = command_of a.h a.given.now in
    c.no_store.ensures ∙ held_back refl (deed_stores a.card (create_deed a.card k)) a.k (refused _ c.check_create.ensures c.is_err.ensures.value c.if-is_err.true)

pub found_store-requires : goal.found_store-requires
found_store-requires c = let a = c.args in
    omega (arith, c.from.ensures, create-folder a.card (command_of a.h a.given.now) (all-pass _ c.check_create.ensures c.is_err.ensures.value c.if-is_err.false) (sym c.is_folder.ensures ∙ c.if-is_folder.true))

pub returns-then-is_folder : goal.returns-then-is_folder
returns-then-is_folder c = let a = c.args in
    let k = command_of a.h a.given.now in
    c.found_store.ensures
    ∙ same_at (found-is a.card k (sym c.is_folder.ensures ∙ c.if-is_folder.true) c.folder_given-x.ensures c.from.ensures) a.k
    ∙ let_through refl (deed_stores a.card (create_deed a.card k)) a.k (all-pass _ c.check_create.ensures c.is_err.ensures.value c.if-is_err.false)

pub make_store-requires : goal.make_store-requires
make_store-requires c = let a = c.args in (
  omega (arith, c.from-2.ensures, create-place a.card (command_of a.h a.given.now) (all-pass _ c.check_create.ensures c.is_err.ensures.value c.if-is_err.false) (sym c.is_folder.ensures ∙ c.if-is_folder.false)),
  omega (arith, c.end.ensures.low),
  omega (arith, c.size.ensures.low),
)

pub returns : goal.returns
returns c = let a = c.args in
    let k = command_of a.h a.given.now in
    c.make_store.ensures
    ∙ same_at (make-is a.card k (sym c.is_folder.ensures ∙ c.if-is_folder.false) c.file_given-f.ensures c.from-2.ensures c.end.ensures.is c.size.ensures.is) a.k
    ∙ let_through refl (deed_stores a.card (create_deed a.card k)) a.k (all-pass _ c.check_create.ensures c.is_err.ensures.value c.if-is_err.false)
