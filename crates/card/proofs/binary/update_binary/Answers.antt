use mathlib.Core.Path.{◌∙◌, ◌≡◌, ap, sym}
use native.Mathlib.Omega.{arith}
use Rattle.files.specs.declared.Addressed.{Addressed}
use Rattle.rules.specs.Words.{first}
use Rattle.rules.specs.Binary.{update_binary_checks, update_binary_deed}
use Rattle.rules.specs.Step.{did}
use Rattle.card.specs.Head.{command_of}
use Rattle.card.proofs.Carrying.{leaves-same, refused-stores}
use Rattle.card.proofs.Serving.{binary-updated, update-binary-checked}
use Rattle.card.specs.Checks.{checked}
use Rattle.card.proofs.Checking.{passed, refused, refuses}
use Rattle.card.proofs.binary.update_binary.Goals as goal

pub returns-in-Err : goal.returns-in-Err
returns-in-Err c = λ card es aim ready.
    let a = c.args in
    let k = command_of a.h a.given.now in
    let o = c.offset-from in
    let w = c.check_binary in
    let sw : w.result ≡ checked (first (update_binary_checks card k)) =
    w.ensures ∙ ap checked (update-binary-checked card a.session es k a.x aim o.result o.ensures.is) in
    let e = sym sw ∙ c.in-Err.is in
    refused-stores (first (update_binary_checks card k)) card (did card (update_binary_deed card k)) _ (refused _ e) (refuses _ e) c.same_session.result (leaves-same card a.session es c.same_session.result c.in-Err.refused.sw c.same_session.ensures) a.area.now

pub returns : goal.returns
returns c = λ card es aim ready.
    let a = c.args in
    let k = command_of a.h a.given.now in
    let o = c.offset-from in
    let w = c.check_binary in
    let sw : w.result ≡ checked (first (update_binary_checks card k)) =
    w.ensures ∙ ap checked (update-binary-checked card a.session es k a.x aim o.result o.ensures.is) in
    binary-updated card a.area.now ready a.session es k a.x c.carried.result aim o.result _ _ (passed _ (sym sw ∙ c.in_default.is))
    o.ensures.is c.update_binary.ensures c.carried.ensures
