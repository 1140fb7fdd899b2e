use mathlib.Core.Path.{◌∙◌, ◌≡◌, ap, sym}
use native.Mathlib.Omega.{arith}
use Rattle.files.specs.declared.Addressed.{Addressed}
use Rattle.rules.specs.Words.{first}
use Rattle.rules.specs.Record.{append_checks, append_deed}
use Rattle.rules.specs.Step.{did}
use Rattle.card.specs.Head.{command_of}
use Rattle.card.specs.Carried.{with_entry}
use Rattle.card.proofs.Carrying.{leaves-same, refused-stores}
use Rattle.card.proofs.Serving.{append-checked, record-appended}
use Rattle.card.specs.declared.Carried.{Carried}
use Rattle.card.specs.Checks.{checked}
use Rattle.card.proofs.Checking.{passed, refused, refuses}
use Rattle.card.proofs.record.append_record.Goals as goal

pub returns-in-Err : goal.returns-in-Err
returns-in-Err c = λ card es aim ready.
    let a = c.args in
    let k = command_of a.h a.given.now in
    let w = c.check_growth in
    let sw : w.result ≡ checked (first (append_checks card k)) = w.ensures ∙ ap checked (append-checked card a.session es k a.x aim) in
    let e = sym sw ∙ c.in-Err.is in
    refused-stores (first (append_checks card k)) card (did card (append_deed card k)) _ (refused _ e) (refuses _ e) c.same_session.result (leaves-same card a.session es c.same_session.result c.in-Err.refused.sw c.same_session.ensures) a.area.now

pub returns : goal.returns
returns c = λ card es aim ready.
    let a = c.args in
    let k = command_of a.h a.given.now in
    let w = c.check_growth in
    let sw : w.result ≡ checked (first (append_checks card k)) = w.ensures ∙ ap checked (append-checked card a.session es k a.x aim) in
    record-appended card a.area.now ready a.session es k a.x c.with_entry.result aim _ c.append_record-left.result (passed _ (sym sw ∙ c.in_default.is))
    c.append_record-left.ensures (c.with_entry.ensures ∙ ap (λ (z : Carried). with_entry z a.x.place c.append_record-left.result.file) c.carried-done.ensures)
