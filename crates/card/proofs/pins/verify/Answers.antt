use mathlib.Core.Path.{◌∙◌, ◌≡◌, ap, refl, sym}
use borrow.Author.Tests.{eq-eqb, ne_eqb}
use native.Mathlib.Omega.{arith}
use lib.ListN.{get_or}
use Rattle.rules.specs.declared.Session.{Session}
use Rattle.rules.specs.declared.Credential.{Credential}
use Rattle.rules.specs.Words.{first, same}
use Rattle.rules.specs.State.{logins, marked, right_kept, value_of}
use Rattle.rules.specs.Pins.{verify_checks}
use Rattle.card.specs.Head.{command_of}
use Rattle.card.proofs.Carrying.{leaves-same}
use Rattle.card.proofs.Outcomes.{compared-leaves, not-verified, verified, verify-checked}
use Rattle.card.specs.Checks.{checked}
use Rattle.card.proofs.Checking.{passed, refused, refuses}
use Rattle.card.proofs.pins.verify.Goals as goal

pub bounds-session-n : goal.bounds-session-n
bounds-session-n c = omega (arith, c.requires.low)

pub compared-requires : goal.compared-requires
compared-requires c = omega (arith, c.requires.low)

pub returns-in-Err : goal.returns-in-Err
returns-in-Err c = λ card es ex.
    let a = c.args in
    let k = command_of a.h a.given.now in
    let w = c.check_verify in
    let held : marked (get_or a.session.rights a.n 0) ≡ marked (right_kept card a.n) = ap (λ (z : Session). marked (get_or z.rights a.n 0)) (sym es) in
    let is : w.result ≡ checked (first (verify_checks (logins card) k)) =
    w.ensures ∙ rw (c.marked.ensures, held, ← ex) (ap checked (verify-checked card k a.n c.requires.is)) in
    let e = sym is ∙ c.in-Err.is in
    not-verified card k _ (refused _ e) (rw (ne_eqb _ _ (refuses _ e)) refl) c.same_session.result (leaves-same card a.session es c.same_session.result c.in-Err.refused.sw c.same_session.ensures)

pub returns-then-h-eq1 : goal.returns-then-h-eq1
returns-then-h-eq1 c = λ card es ex.
    let a = c.args in
    let k = command_of a.h a.given.now in
    let w = c.check_verify in
    let held : marked (get_or a.session.rights a.n 0) ≡ marked (right_kept card a.n) = ap (λ (z : Session). marked (get_or z.rights a.n 0)) (sym es) in
    let is : w.result ≡ checked (first (verify_checks (logins card) k)) =
    w.ensures ∙ rw (c.marked.ensures, held, ← ex) (ap checked (verify-checked card k a.n c.requires.is)) in
    let p = passed _ (sym is ∙ c.in_default.is) in
    not-verified card k 0x9000 (sym p) (rw (eq-eqb _ _ c.if-h-eq1.true) refl) c.same_session-then-h-eq1.result (leaves-same card a.session es c.same_session-then-h-eq1.result 0x9000 c.same_session-then-h-eq1.ensures)

pub returns : goal.returns
returns c = λ card es ex.
    let a = c.args in
    let k = command_of a.h a.given.now in
    let w = c.check_verify in
    let held : marked (get_or a.session.rights a.n 0) ≡ marked (right_kept card a.n) = ap (λ (z : Session). marked (get_or z.rights a.n 0)) (sym es) in
    let is : w.result ≡ checked (first (verify_checks (logins card) k)) =
    w.ensures ∙ rw (c.marked.ensures, held, ← ex) (ap checked (verify-checked card k a.n c.requires.is)) in
    let p = passed _ (sym is ∙ c.in_default.is) in
    verified card k 0x9000 (sym p) a.n c.same.result (rw (ne_eqb _ _ c.if-h-eq1.false) refl) c.requires.is (c.same.ensures ∙ ap (λ (z : Credential). same (value_of z) a.given.now) (sym ex)) c.compared.result
    (compared-leaves card a.session a.n a.x c.same.result c.compared.result es ex (omega (arith, c.requires.low)) c.compared.ensures)
