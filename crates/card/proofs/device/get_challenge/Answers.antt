use mathlib.Core.Path.{◌∙◌, sym}
use mathlib.Core.List.{[]}
use Rattle.rules.specs.Words.{first}
use Rattle.rules.specs.Device.{get_challenge_checks, get_challenge_touch}
use Rattle.rules.specs.Step.{touched}
use Rattle.card.specs.Head.{command_of}
use Rattle.card.proofs.Carrying.{leaves-same, refused_says}
use Rattle.card.proofs.Checking.{passed, refused, refuses}
use Rattle.card.proofs.Serving.{challenge-shown}
use Rattle.card.proofs.device.get_challenge.Goals as goal

pub returns-in-Err : goal.returns-in-Err
returns-in-Err c = λ card es.
    let a = c.args in
    let k = command_of a.h [] in
    let e = sym c.check_get_challenge.ensures ∙ c.in-Err.is in
    refused_says (first (get_challenge_checks k)) card (touched card (get_challenge_touch k) a.random.now) _ (refused _ e) (refuses _ e) c.same_session.result (leaves-same card a.session es c.same_session.result c.in-Err.refused.sw c.same_session.ensures) a.random.now a.reply.now

pub returns : goal.returns
returns c = λ card es.
    let a = c.args in
    let k = command_of a.h [] in
    challenge-shown card a.session es k a.random.now a.reply.now _ _ c.carried.result (passed _ (sym c.check_get_challenge.ensures ∙ c.in_default.is)) c.requires.0 c.requires.1 c.show.ensures c.carried.ensures
