use mathlib.Core.Path.{◌∙◌, ◌≡◌, ap, sym}
use mathlib.Core.List.{[]}
use native.Mathlib.Omega.{arith}
use lib.ListN.{get_or}
use Rattle.rules.specs.declared.Session.{Session}
use Rattle.rules.specs.Words.{first}
use Rattle.rules.specs.State.{logins, marked, right_kept}
use Rattle.rules.specs.Pins.{reload_checks, reload_touch}
use Rattle.rules.specs.Step.{touched}
use Rattle.card.specs.Head.{command_of}
use Rattle.card.proofs.Carrying.{leaves-same, refused-quietly}
use Rattle.card.proofs.Outcomes.{reload-checked, reloaded}
use Rattle.card.specs.Checks.{checked}
use Rattle.card.proofs.Checking.{passed, refused, refuses}
use Rattle.card.proofs.pins.reload.Goals as goal

pub with_credential-requires : goal.with_credential-requires
with_credential-requires c = omega arith

pub returns-in-Err : goal.returns-in-Err
returns-in-Err c = λ card es et long.
    let a = c.args in
    let k = command_of a.h a.given.now in
    let w = c.check_reload in
    let held : marked (get_or a.session.rights 1 0) ≡ marked (right_kept card 1) = ap (λ (z : Session). marked (get_or z.rights 1 0)) (sym es) in
    let is : w.result ≡ checked (first (reload_checks (logins card) k)) =
    w.ensures ∙ rw (c.marked.ensures, held) (ap checked (reload-checked card k)) in
    let e = sym is ∙ c.in-Err.is in
    refused-quietly (first (reload_checks (logins card) k)) card (touched card (reload_touch k) []) _ (refused _ e) (refuses _ e) c.same_session.result (leaves-same card a.session es c.same_session.result c.in-Err.refused.sw c.same_session.ensures)

pub returns : goal.returns
returns c = λ card es et long.
    let a = c.args in
    let k = command_of a.h a.given.now in
    let w = c.check_reload in
    let held : marked (get_or a.session.rights 1 0) ≡ marked (right_kept card 1) = ap (λ (z : Session). marked (get_or z.rights 1 0)) (sym es) in
    let is : w.result ≡ checked (first (reload_checks (logins card) k)) =
    w.ensures ∙ rw (c.marked.ensures, held) (ap checked (reload-checked card k)) in
    reloaded card a.session k c.with_credential.result es a.tries et long (passed _ (sym is ∙ c.in_default.is)) (c.with_credential.ensures ∙ rw (c.credential_of.ensures, c.restored.ensures, c.same_session-done.ensures))
