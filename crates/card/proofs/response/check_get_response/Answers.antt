use Rattle.std.proofs.Common.{◌∙◌, sym}
use Rattle.rules.specs.Response.{get_response_checks}
use Rattle.card.proofs.Checking.{goes, stops, raised}
use Rattle.card.proofs.response.check_get_response.Goals as goal

pub returns-in_err-check_p : goal.returns-in_err-check_p
unfolding get_response_checks
returns-in_err-check_p c = let k = c.from_residual.ensures in
    raised _ k.0 k.1 ∙ sym (stops _ _ (sym c.check_p.ensures ∙ c.in_err-check_p.was))

pub returns-in_err-check_case : goal.returns-in_err-check_case
unfolding get_response_checks
returns-in_err-check_case c = let k = c.from_residual-in_err-check_case.ensures in
    raised _ k.0 k.1 ∙ sym (goes _ _ (sym c.check_p.ensures ∙ c.in_ok-check_p.was) ∙ stops _ _ (sym c.check_case.ensures ∙ c.in_err-check_case.was))

pub returns-in_err-unless : goal.returns-in_err-unless
unfolding get_response_checks
returns-in_err-unless c = let k = c.from_residual-in_err-unless.ensures in
    raised _ k.0 k.1 ∙ sym (goes _ _ (sym c.check_p.ensures ∙ c.in_ok-check_p.was) ∙ goes _ _ (sym c.check_case.ensures ∙ c.in_ok-check_case.was) ∙ stops _ _ (sym c.unless.ensures ∙ c.in_err-unless.was))

pub returns : goal.returns
unfolding get_response_checks
returns c = rw (← c.fetch_count.ensures)
    (c.unless-2.ensures ∙ sym (goes _ _ (sym c.check_p.ensures ∙ c.in_ok-check_p.was) ∙ goes _ _ (sym c.check_case.ensures ∙ c.in_ok-check_case.was) ∙ goes _ _ (sym c.unless.ensures ∙ c.in_ok-unless.was)))
