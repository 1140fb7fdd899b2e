use mathlib.Core.Path.{◌∙◌, ◌≡◌, ap, sym}
use mathlib.Core.Bool.{false, true}
use Prim.Native.Nat.{◌+◌}
use native.Mathlib.Omega.{arith}
use Rattle.rules.specs.Words.{first}
use Rattle.rules.specs.Create.{create_checks, create_deed, is_folder}
use Rattle.rules.specs.Step.{did}
use Rattle.card.specs.Head.{command_of}
use Rattle.card.specs.Parts.{seen}
use Rattle.card.specs.Carried.{with_entry, with_new}
use Rattle.card.proofs.Carrying.{leaves-same, refused-stores}
use Rattle.card.proofs.Serving.{create-few, file-created, folder-created}
use Rattle.card.specs.declared.Carried.{Carried}
use Rattle.card.proofs.Serving.{created-parts}
use Rattle.card.specs.Checks.{checked}
use Rattle.card.proofs.Checking.{passed, refused, refuses}
use Rattle.card.proofs.create.create_file.Goals as goal

pub returns-in-Err : goal.returns-in-Err
returns-in-Err c = λ card es ed ready.
    let a = c.args in
    let k = command_of a.h a.given.now in
    let w = c.check_create in
    let sw : w.result ≡ checked (first (create_checks card k)) = w.ensures ∙ ap checked (created-parts card a.session a.directory k es ed) in
    let e = sym sw ∙ c.in-Err.is in
    refused-stores (first (create_checks card k)) card (did card (create_deed card k)) _ (refused _ e) (refuses _ e) c.same_session.result (leaves-same card a.session es c.same_session.result c.in-Err.refused.sw c.same_session.ensures) a.area.now

pub returns-then-is_folder : goal.returns-then-is_folder
returns-then-is_folder c = λ card es ed ready.
    let a = c.args in
    let k = command_of a.h a.given.now in
    let w = c.check_create in
    let sw : w.result ≡ checked (first (create_checks card k)) = w.ensures ∙ ap checked (created-parts card a.session a.directory k es ed) in
    let this : is_folder k ≡ true = sym c.is_folder.ensures ∙ c.if-is_folder.true in
    folder-created card a.area.now ready a.session es a.directory ed k (passed _ (sym sw ∙ c.in_default.is)) c.with_new.result c.folder_given.result this c.folder_given.ensures (c.with_new.ensures ∙ ap (λ (z : Carried). with_new z c.folder_given.result) c.same_session-then-is_folder.ensures)

pub overflow_add-place : goal.overflow_add-place
overflow_add-place c = let a = c.args in
    let k = command_of a.h a.given.now in
    let few = create-few (seen a.session a.directory) k (sym c.is_folder.ensures ∙ c.if-is_folder.false) (passed _ (sym c.check_create.ensures ∙ c.in_default.is)) in
    record { fits = omega (arith, few) }

pub shape_of-area : goal.shape_of-area
shape_of-area c = c.area-1.given

pub returns : goal.returns
returns c = λ card es ed ready.
    let a = c.args in
    let k = command_of a.h a.given.now in
    let w = c.check_create in
    let sw : w.result ≡ checked (first (create_checks card k)) = w.ensures ∙ ap checked (created-parts card a.session a.directory k es ed) in
    let other : is_folder k ≡ false = sym c.is_folder.ensures ∙ c.if-is_folder.false in
    let x = c.at_place-x in
    let g = c.clear.ensures in
    file-created card a.area.now ready a.session es a.directory ed k (passed _ (sym sw ∙ c.in_default.is)) c.with_entry.result c.file_given-f.result _ c.clear.result other c.file_given-f.ensures
    (rw (x.ensures, c.end.ensures.is) at g)
    (c.with_entry.ensures ∙ ap (λ (z : Carried). with_entry z (a.directory.count + 1) c.file_given-f.result) c.carried-done.ensures)
