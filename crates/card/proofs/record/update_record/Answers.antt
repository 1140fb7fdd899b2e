use mathlib.Core.Path.{ap, refl, sym, ◌∙◌, ◌≡◌}
use borrow.Author.Rules.{rules}
use Rattle.rules.specs.Words.{first}
use Rattle.rules.specs.Record.{record_found, update_record_checks, update_record_deed}
use Rattle.rules.specs.Step.{did}
use Rattle.card.specs.Head.{command_of}
use Rattle.card.proofs.Carrying.{leaves-same, refused-stores}
use Rattle.card.proofs.Serving.{found-given, found-there, record-updated, update-of, update-record-checked, update-some}
use Rattle.card.specs.Checks.{checked}
use Rattle.card.proofs.Checking.{passed, refused, refuses}
use Rattle.card.proofs.record.update_record.Goals as goal

pub returns-in-Err : goal.returns-in-Err
returns-in-Err c = λ card es aim ready.
    let a = c.args in
    let k = command_of a.h a.given.now in
    let l = c.locate-l in
    let w = c.check_record in
    let sw : w.result ≡ checked (first (update_record_checks card l.result k)) =
    w.ensures _ c.check_record_lc-last.ensures ∙ ap checked (update-record-checked card a.session es k a.x aim l.result _ refl) in
    let e = sym sw ∙ c.in-Err.is in
    rw (found-given card a.area.now a.h a.given.now)
    (refused-stores (first (update_record_checks card (record_found card a.area.now k) k)) card (did card (update_record_deed card (record_found card a.area.now k) k)) _ (refused _ e ∙ update-of card k l.result (record_found card a.area.now k) (λ some. l.ensures ∙ found-there card a.area.now ready k a.x c.from.result aim some (search rules))) (refuses _ e) c.same_session.result (leaves-same card a.session es c.same_session.result c.in-Err.refused.sw c.same_session.ensures) a.area.now)

pub returns : goal.returns
returns c = λ card es aim ready.
    let a = c.args in
    let k = command_of a.h a.given.now in
    let l = c.locate-l in
    let w = c.check_record in
    let sw : w.result ≡ checked (first (update_record_checks card l.result k)) =
    w.ensures _ c.check_record_lc-last.ensures ∙ ap checked (update-record-checked card a.session es k a.x aim l.result _ refl) in
    let pass = passed _ (sym sw ∙ c.in_default.is) in
    let is : l.result ≡ record_found card a.area.now k = l.ensures ∙ found-there card a.area.now ready k a.x c.from.result aim (update-some card k l.result pass) (search rules) in
    rw (found-given card a.area.now a.h a.given.now, ← is)
    (record-updated card a.area.now ready a.session es k a.x c.carried.result aim l.result is _ _ pass c.update_record.ensures c.carried.ensures)
