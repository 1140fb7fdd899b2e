use mathlib.Core.Path.{◌∙◌, ◌≡◌, ap, sym}
use mathlib.Core.List.{[]}
use native.Mathlib.Omega.{arith}
use Rattle.files.specs.declared.Addressed.{Addressed}
use Rattle.rules.specs.Words.{first}
use Rattle.rules.specs.Binary.{read_binary_checks, read_binary_deed}
use Rattle.rules.specs.Step.{did}
use Rattle.card.specs.Head.{command_of}
use Rattle.card.proofs.Carrying.{leaves-same, refused-shows}
use Rattle.card.proofs.Serving.{binary-read, read-binary-checked}
use Rattle.card.specs.Checks.{checked}
use Rattle.card.proofs.Checking.{passed, refused, refuses}
use Rattle.card.proofs.binary.read_binary.Goals as goal

pub returns-in-Err : goal.returns-in-Err
returns-in-Err c = λ card es aim ready.
    let a = c.args in
    let k = command_of a.h [] in
    let o = c.offset-from in
    let n = c.read_count-n in
    let w = c.check_binary in
    let sw : w.result ≡ checked (first (read_binary_checks card k)) =
    w.ensures ∙ ap checked (read-binary-checked card a.session es k a.x aim o.result o.ensures.is n.result n.ensures) in
    let e = sym sw ∙ c.in-Err.is in
    refused-shows (first (read_binary_checks card k)) card (did card (read_binary_deed card k)) _ (refused _ e) (refuses _ e) c.same_session.result (leaves-same card a.session es c.same_session.result c.in-Err.refused.sw c.same_session.ensures) a.area.now a.reply.now

pub returns : goal.returns
returns c = λ card es aim ready.
    let a = c.args in
    let k = command_of a.h [] in
    let o = c.offset-from in
    let n = c.read_count-n in
    let w = c.check_binary in
    let sw : w.result ≡ checked (first (read_binary_checks card k)) =
    w.ensures ∙ ap checked (read-binary-checked card a.session es k a.x aim o.result o.ensures.is n.result n.ensures) in
    binary-read card a.area.now ready a.session es k a.x c.carried.result aim o.result n.result a.reply.now _ _ (passed _ (sym sw ∙ c.in_default.is)) c.requires.0 c.requires.1
    o.ensures.is n.ensures c.read_binary.ensures c.carried.ensures
