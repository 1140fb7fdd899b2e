use Rattle.std.proofs.Common.{◌∙◌, sym}
use Rattle.rules.specs.Device.{get_challenge_checks}
use Rattle.card.proofs.Checking.{goes, stops, raised}
use Rattle.card.proofs.device.check_get_challenge.Goals as goal

pub returns-in_err-check_p : goal.returns-in_err-check_p
unfolding get_challenge_checks
returns-in_err-check_p c = let k = c.from_residual.ensures in
    raised _ k.0 k.1 ∙ sym (stops _ _ (sym c.check_p.ensures ∙ c.in_err-check_p.was))

pub returns : goal.returns
unfolding get_challenge_checks
returns c = rw (← c.good_challenge.ensures)
    (c.unless.ensures ∙ sym (goes _ _ (sym c.check_p.ensures ∙ c.in_ok-check_p.was)))
