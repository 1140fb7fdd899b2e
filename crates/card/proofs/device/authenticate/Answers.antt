use mathlib.Core.Path.{◌∙◌, ◌≡◌, ap, subst, sym}
use mathlib.Core.List.{[]}
use native.Mathlib.Omega.{arith}
use borrow.Author.Rules.{rules}
use lib.ListN.{length}
use lib.Seq.{take_all}
use Rattle.rules.specs.Words.{first, same}
use Rattle.rules.specs.State.{challenge, credential, logins, value_of}
use Rattle.rules.specs.Pins.{compared_at}
use Rattle.rules.specs.Device.{authenticate_checks, authenticate_touch, cryptogram}
use Rattle.rules.specs.Step.{touched}
use Rattle.card.specs.Head.{command_of}
use Rattle.card.specs.Carried.{Leaves}
use Rattle.card.proofs.Carrying.{goes_on, leaves-same, refused-quietly}
use Rattle.card.proofs.Outcomes.{authenticate-checked, compared-leaves}
use Rattle.rules.specs.Effect.{Effect}
use Rattle.card.specs.Checks.{checked}
use Rattle.card.proofs.Checking.{passed, refused, refuses}
use Rattle.card.proofs.device.authenticate.Goals as goal

pub compared-requires : goal.compared-requires
compared-requires c = omega arith

pub returns-in-Err : goal.returns-in-Err
returns-in-Err c = λ card es ex whole.
    let a = c.args in
    let k = command_of a.h a.given.now in
    let w = c.check_authenticate in
    let is : w.result ≡ checked (first (authenticate_checks (logins card) (challenge card) k)) =
    w.ensures ∙ rw (← ex, ← es) (ap checked (authenticate-checked card k)) in
    let e = sym is ∙ c.in-Err.is in
    refused-quietly (first (authenticate_checks (logins card) (challenge card) k)) card (touched card (authenticate_touch (logins card) (challenge card) k) []) _ (refused _ e) (refuses _ e) c.same_session.result (leaves-same card a.session es c.same_session.result c.in-Err.refused.sw c.same_session.ensures)

pub returns : goal.returns
returns c = λ card es ex whole.
    let a = c.args in
    let k = command_of a.h a.given.now in
    let w = c.check_authenticate in
    let is : w.result ≡ checked (first (authenticate_checks (logins card) (challenge card) k)) =
    w.ensures ∙ rw (← ex, ← es) (ap checked (authenticate-checked card k)) in
    let g = c.cryptogram in
    let n : length g.result ≡ 16 = search rules in
    let agrees : c.same-agrees.result ≡ same (cryptogram (value_of (credential card 0)) (challenge card)) a.given.now =
    c.same-agrees.ensures ∙ rw (take_all 16 g.result (omega (arith, n)), g.ensures, whole, ex, es) in
    subst (λ (z : Effect). Leaves card z 0 0 c.compared.result)
    (ap (compared_at 0 card) agrees ∙ sym (goes_on (first (authenticate_checks (logins card) (challenge card) k)) card (touched card (authenticate_touch (logins card) (challenge card) k) []) (passed _ (sym is ∙ c.in_default.is))))
    (compared-leaves card a.session 0 a.key c.same-agrees.result c.compared.result es ex (omega arith) c.compared.ensures)
