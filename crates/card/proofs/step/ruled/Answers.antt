use mathlib.Core.Path.{◌∙◌, ◌≡◌, ap, refl, sym}
use mathlib.Core.Bool.{false}
use mathlib.Core.List.{List, []}
use Prim.Native.Nat.{◌+◌, ◌-◌}
use lib.ListN.{drop, get_or, take}
use Rattle.rules.specs.declared.Credential.{Credential}
use Rattle.rules.specs.Words.{byte, or_else}
use Rattle.rules.specs.State.{credential, no_credential}
use Rattle.rules.specs.Frame.{class_sw, frame_sw, framed, lc_before}
use Rattle.rules.specs.Record.{record_found}
use Rattle.rules.specs.List.{rule}
use Rattle.card.specs.Head.{coded_of, command_of}
use Rattle.card.specs.Carried.{leaving, same_session}
use Rattle.card.specs.Coded.{heard_so, takes_code}
use Rattle.card.proofs.Carrying.{carries-keyed, leaves-same, quiet-whole}
use Rattle.card.specs.Checks.{checked}
use Rattle.card.proofs.Checking.{passed, refused}
use Rattle.card.proofs.Checking as checking
use Rattle.card.proofs.Opening.{coded-on, head-frames, obeys, opens_plain, parts_are, plain-opened, refuses}
use Rattle.card.proofs.step.ruled.Goals as goal

pub returns-in-Err : goal.returns-in-Err
returns-in-Err c = λ card es ed ex ready.
    let a = c.args in
    let k = command_of a.h [] in
    let f = framed a.cmd.now in
    let is : c.check_opening.result ≡ checked (or_else (frame_sw f) (class_sw f)) = c.check_opening.ensures ∙ ap checked (head-frames a.cmd.now a.h c.requires.h_value) in
    let key : credential card 3 ≡ get_or a.credentials 3 no_credential = ap (λ (y : List Credential). get_or y 3 no_credential) ex in
    let e = sym is ∙ c.in-Err.is in
    rw (← refuses a.ins card (record_found card a.area.now f) f a.random.now (λ z. checking.refuses _ e (refused _ e ∙ z)))
    (quiet-whole card a.random.now a.area.now a.reply.now (or_else (frame_sw f) (class_sw f)) c.same_session.result
    (leaves-same card a.session es c.same_session.result (or_else (frame_sw f) (class_sw f)) (c.same_session.ensures ∙ ap (same_session a.session) (refused _ e))) _ (ap (λ (z : Credential). z.tries.left) (sym key)) c.leaving.result c.leaving.ensures)

pub coded-requires : goal.coded-requires
coded-requires c = let a = c.args in
    let k = command_of a.h [] in
    record { h_value = (c.requires.h_value, passed _ (sym c.check_opening.ensures ∙ c.in_default.is)); le_bound = (c.requires.le_bound.0, c.requires.le_bound.2) }

pub returns-then-takes_code : goal.returns-then-takes_code
returns-then-takes_code c = λ card es ed ex ready.
    let a = c.args in
    let k = command_of a.h [] in
    let f = framed a.cmd.now in
    let is : c.check_opening.result ≡ checked (or_else (frame_sw f) (class_sw f)) = c.check_opening.ensures ∙ ap checked (head-frames a.cmd.now a.h c.requires.h_value) in
    let key : credential card 3 ≡ get_or a.credentials 3 no_credential = ap (λ (y : List Credential). get_or y 3 no_credential) ex in
    rw (← obeys a.ins card (record_found card a.area.now f) f a.random.now (passed _ (sym is ∙ c.in_default.is)))
    (c.coded.ensures card a.random.now es ed key ready (sym c.takes_code.ensures ∙ c.if-takes_code.true))

pub on_others-done-requires : goal.on_others-done-requires
on_others-done-requires c = (c.requires.le_bound.1, c.requires.le_bound.2)

pub returns : goal.returns
returns c = λ card es ed ex ready.
    let a = c.args in
    let k = command_of a.h [] in
    let f = framed a.cmd.now in
    let is : c.check_opening.result ≡ checked (or_else (frame_sw f) (class_sw f)) = c.check_opening.ensures ∙ ap checked (head-frames a.cmd.now a.h c.requires.h_value) in
    let key : credential card 3 ≡ get_or a.credentials 3 no_credential = ap (λ (y : List Credential). get_or y 3 no_credential) ex in
    let tc : takes_code (rule a.ins) ≡ false = sym c.takes_code.ensures ∙ c.if-takes_code.false in
    let w = c.on_others-done in
    let heard = heard_so (checked 0x9000) (credential card 3).tries.left in
    let code = take (byte a.cmd.now 4 - lc_before a.cmd.now) (drop (5 + lc_before a.cmd.now) a.cmd.now) in
    let covered = take (5 + lc_before a.cmd.now) a.cmd.now in
    let opens = opens_plain a.h _ code covered card heard a.ins tc refl in
    let parts = parts_are a.cmd.now a.h _ code covered c.requires.h_value c.given_of-given.ensures refl refl in
    let left = ap (λ (z : Credential). z.tries.left) (sym key) in
    rw (← obeys a.ins card (record_found card a.area.now f) f a.random.now (passed _ (sym is ∙ c.in_default.is)))
    (rw (← coded-on a.ins card a.area.now a.h _ code covered a.random.now heard opens a.cmd.now parts (plain-opened card (coded_of a.h _ code covered) a.ins tc))
    (carries-keyed card a.random.now a.area.now a.reply.now _ w.result _ _ (credential card 3).tries.left c.leaving-2.result (c.leaving-2.ensures ∙ ap (leaving w.result) left)
    (w.ensures card es ed ex ready tc)))
