use mathlib.Core.Path.{◌∙◌, ◌≡◌, ap₂, refl, sym}
use mathlib.Core.List.{[]}
use native.Mathlib.Omega.{arith}
use Rattle.files.specs.Directory.{addressed}
use Rattle.rules.specs.Target.{target}
use Rattle.rules.specs.Effect.{answers}
use Rattle.card.specs.Head.{command_of}
use Rattle.card.specs.Coded.{sfi_asked}
use Rattle.card.proofs.Carrying.{carries-keyed, leaves-same, quiet}
use Rattle.card.proofs.Serving.{key-whole}
use Rattle.card.proofs.Opening.{coded-off, coded-on, opens-heard, parts_are}
use Rattle.card.proofs.Checking.{passed, refused, refuses}
use Rattle.card.proofs.step.coded.Goals as goal

pub hear-heard-requires : goal.hear-heard-requires
hear-heard-requires c = c.requires.h_value.1

pub on_contents-done-requires : goal.on_contents-done-requires
on_contents-done-requires c = c.requires.le_bound

pub returns-in-Err : goal.returns-in-Err
returns-in-Err c = λ card random es ed ex ready tc.
    let a = c.args in
    let heard = c.hear-heard in
    let g = c.given_of-given in
    let v = c.covered_of-covered in
    let t = c.code_of-tail in
    let hears = heard.ensures card es ex (key-whole card a.area.now ready 3 (omega arith) refl) _ c.check_front-front.ensures in
    let opens = opens-heard a.h _ _ _ card heard.result a.ins _ refl tc hears in
    let parts = parts_are a.cmd.now a.h _ _ _ c.requires.h_value.0 g.ensures t.ensures v.ensures in
    let q = c.same_session in
    let e = sym opens.verdict-is ∙ c.in-Err.is in
    let word = c.in-Err.refused.sw in
    rw (← coded-off a.ins card a.area.now a.h _ _ _ random heard.result opens a.cmd.now parts word (refused _ e) (refuses _ e))
    (carries-keyed card random a.area.now a.reply.now (answers word card) q.result _ _ heard.result.left c.leaving.result c.leaving.ensures
    (quiet card random a.area.now a.reply.now (answers word card) q.result refl (leaves-same card a.session es q.result word q.ensures)))

pub returns : goal.returns
unfolding target
returns c = λ card random es ed ex ready tc.
    let a = c.args in
    let heard = c.hear-heard in
    let g = c.given_of-given in
    let v = c.covered_of-covered in
    let t = c.code_of-tail in
    let hears = heard.ensures card es ex (key-whole card a.area.now ready 3 (omega arith) refl) _ c.check_front-front.ensures in
    let opens = opens-heard a.h _ _ _ card heard.result a.ins _ refl tc hears in
    let parts = parts_are a.cmd.now a.h _ _ _ c.requires.h_value.0 g.ensures t.ensures v.ensures in
    let place = c.at_sfi-place in
    let aim : c.addressed-x.result ≡ addressed card.directory (target card (sfi_asked a.ins (command_of a.h []))) =
    c.addressed-x.ensures ∙ ap₂ addressed (sym ed) (place.ensures ∙ rw (c.sfi_asked.ensures, ← es, ← ed)) in
    let w = c.on_contents-done in
    rw (← coded-on a.ins card a.area.now a.h _ _ _ random heard.result opens a.cmd.now parts (passed _ (sym opens.verdict-is ∙ c.in_default.is)))
    (carries-keyed card random a.area.now a.reply.now _ w.result _ _ heard.result.left c.leaving-2.result c.leaving-2.ensures (w.ensures card random es aim ready tc))
