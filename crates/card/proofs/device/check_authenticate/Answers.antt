use Rattle.std.proofs.Common.{◌∙◌, sym}
use Rattle.rules.specs.Device.{authenticate_checks}
use Rattle.card.proofs.Checking.{goes, stops, raised}
use Rattle.card.proofs.device.check_authenticate.Goals as goal

pub returns-in_err-check_p : goal.returns-in_err-check_p
unfolding authenticate_checks
returns-in_err-check_p c = let k = c.from_residual.ensures in
    raised _ k.0 k.1 ∙ sym (stops _ _ (sym c.check_p.ensures ∙ c.in_err-check_p.was))

pub returns-in_err-check_lc : goal.returns-in_err-check_lc
unfolding authenticate_checks
returns-in_err-check_lc c = let k = c.from_residual-in_err-check_lc.ensures in
    raised _ k.0 k.1 ∙ sym (goes _ _ (sym c.check_p.ensures ∙ c.in_ok-check_p.was) ∙ stops _ _ (sym c.check_lc.ensures ∙ c.in_err-check_lc.was))

pub returns-in_err-check_tries : goal.returns-in_err-check_tries
unfolding authenticate_checks
returns-in_err-check_tries c = let k = c.from_residual-in_err-check_tries.ensures in
    raised _ k.0 k.1 ∙ sym (goes _ _ (sym c.check_p.ensures ∙ c.in_ok-check_p.was) ∙ goes _ _ (sym c.check_lc.ensures ∙ c.in_ok-check_lc.was) ∙ stops _ _ (sym c.check_tries.ensures ∙ c.in_err-check_tries.was))

pub returns : goal.returns
unfolding authenticate_checks
returns c = c.check_challenge.ensures ∙ sym (goes _ _ (sym c.check_p.ensures ∙ c.in_ok-check_p.was) ∙ goes _ _ (sym c.check_lc.ensures ∙ c.in_ok-check_lc.was) ∙ goes _ _ (sym c.check_tries.ensures ∙ c.in_ok-check_tries.was))
