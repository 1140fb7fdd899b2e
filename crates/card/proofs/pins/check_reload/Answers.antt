use Rattle.std.proofs.Common.{◌∙◌, sym}
use Rattle.rules.specs.Pins.{reload_checks}
use Rattle.card.proofs.Checking.{goes, stops, raised}
use Rattle.card.proofs.pins.check_reload.Goals as goal

pub returns-in_err-check_p : goal.returns-in_err-check_p
unfolding reload_checks
returns-in_err-check_p c = let k = c.from_residual.ensures in
    raised _ k.0 k.1 ∙ sym (stops _ _ (sym c.check_p.ensures ∙ c.in_err-check_p.was))

pub returns-in_err-unless : goal.returns-in_err-unless
unfolding reload_checks
returns-in_err-unless c = let k = c.from_residual-in_err-unless.ensures in
    rw (← c.pin_given.ensures)
    (raised _ k.0 k.1 ∙ sym (goes _ _ (sym c.check_p.ensures ∙ c.in_ok-check_p.was) ∙ stops _ _ (sym c.unless.ensures ∙ c.in_err-unless.was)))

pub returns-in_err-check_held : goal.returns-in_err-check_held
unfolding reload_checks
returns-in_err-check_held c = let k = c.from_residual-in_err-check_held.ensures in
    rw (← c.pin_given.ensures)
    (raised _ k.0 k.1 ∙ sym (goes _ _ (sym c.check_p.ensures ∙ c.in_ok-check_p.was) ∙ goes _ _ (sym c.unless.ensures ∙ c.in_ok-unless.was) ∙ stops _ _ (sym c.check_held.ensures ∙ c.in_err-check_held.was)))

pub returns : goal.returns
unfolding reload_checks
returns c = rw (← c.pin_given.ensures)
    (c.check_digits.ensures ∙ sym (goes _ _ (sym c.check_p.ensures ∙ c.in_ok-check_p.was) ∙ goes _ _ (sym c.unless.ensures ∙ c.in_ok-unless.was) ∙ goes _ _ (sym c.check_held.ensures ∙ c.in_ok-check_held.was)))
