use Rattle.std.proofs.Common.{◌∙◌, sym}
use Rattle.card.proofs.Checking.{goes, stops, raised}
use Rattle.card.proofs.code.check_key.Goals as goal

pub returns-in_err-front : goal.returns-in_err-front
returns-in_err-front c = λ sw h. let k = c.from_residual.ensures in
    raised _ k.0 k.1 ∙ sym (stops _ _ (sym h ∙ c.in_err-front.was))

pub returns-in_err-check_tries : goal.returns-in_err-check_tries
returns-in_err-check_tries c = λ sw h. let k = c.from_residual-in_err-check_tries.ensures in
    raised _ k.0 k.1 ∙ sym (goes _ _ (sym h ∙ c.in_ok-front.was) ∙ stops _ _ (sym c.check_tries.ensures ∙ c.in_err-check_tries.was))

pub returns : goal.returns
returns c = λ sw h. c.check_challenge.ensures ∙ sym (goes _ _ (sym h ∙ c.in_ok-front.was) ∙ goes _ _ (sym c.check_tries.ensures ∙ c.in_ok-check_tries.was))
