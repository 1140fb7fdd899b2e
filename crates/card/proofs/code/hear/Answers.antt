use mathlib.Core.Path.{◌∙◌, ◌≡◌, ap, ap₂, refl, sym}
use Rattle.std.proofs.Common.{Err}
use Rattle.std.specs.Prelude.{Result}
use Rattle.card.specs.declared.Refused.{Refused}
use Rattle.card.specs.Checks.{checked}
use Rattle.card.proofs.Checking.{passed, refused, refuses}
use mathlib.Core.List.{[]}
use Rattle.rules.specs.declared.Session.{Session}
use Rattle.rules.specs.declared.Credential.{Credential}
use Rattle.rules.specs.Words.{or_else}
use Rattle.rules.specs.State.{challenge, credential, login, transport}
use Rattle.rules.specs.Pins.{tries_sw}
use Rattle.rules.specs.Device.{challenge_sw}
use Rattle.card.specs.Head.{coded_of}
use Rattle.card.specs.Parts.{code_under}
use Rattle.card.specs.Coded.{heard_so}
use Rattle.card.proofs.Hearing.{no_code, presented-code, refused-code}
use Rattle.card.proofs.code.hear.Goals as goal

pub returns-then-h-ne-WITH_CODE : goal.returns-then-h-ne-WITH_CODE
returns-then-h-ne-WITH_CODE c = λ card es ex whole sw front.
    let a = c.args in
    let k = coded_of a.h [] a.code.now a.covered.now in
    no_code sw card k _ c.if-h-ne-WITH_CODE.true (ap (λ (z : Credential). heard_so a.front z.tries.left) (sym ex) ∙ ap (λ (z : Result Unit Refused). heard_so z (credential card 3).tries.left) front)

pub returns-in-Err : goal.returns-in-Err
returns-in-Err c = λ card es ex whole sw front.
    let a = c.args in
    let k = coded_of a.h [] a.code.now a.covered.now in
    let asked : c.check_key.result ≡ checked (or_else sw (or_else (tries_sw (login transport card)) (challenge_sw (challenge card)))) =
    c.check_key.ensures sw front ∙ rw (← es, ← ex) in
    let e = sym asked ∙ c.in-Err.is in
    let word : Err c.in-Err.refused ≡ checked c.in-Err.refused.sw = sym e ∙ ap checked (sym (refused _ e)) in
    refused-code sw card k _ c.if-h-ne-WITH_CODE.false c.requires c.in-Err.refused.sw (refused _ e) (refuses _ e)
    (ap (λ (z : Credential). heard_so (Err c.in-Err.refused) z.tries.left) (sym ex) ∙ ap (λ (z : Result Unit Refused). heard_so z (credential card 3).tries.left) word)

pub returns : goal.returns
returns c = λ card es ex whole sw front.
    let a = c.args in
    let k = coded_of a.h [] a.code.now a.covered.now in
    let asked : c.check_key.result ≡ checked (or_else sw (or_else (tries_sw (login transport card)) (challenge_sw (challenge card)))) =
    c.check_key.ensures sw front ∙ rw (← es, ← ex) in
    presented-code sw card k _ c.if-h-ne-WITH_CODE.false c.requires whole 0x9000 (sym (passed _ (sym asked ∙ c.in_default.is))) refl c.is_code_under-right.result
    (c.is_code_under-right.ensures ∙ ap₂ (λ (y : Session) (z : Credential). code_under z.value y a.covered.now a.code.now) (sym es) (sym ex)) (rw (c.unless.ensures, c.tried-after.ensures, ← ex))
