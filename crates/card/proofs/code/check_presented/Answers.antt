use Rattle.std.proofs.Common.{◌∙◌, sym}
use Rattle.card.proofs.Checking.{goes, stops, raised}
use Rattle.card.proofs.code.check_presented.Goals as goal

pub returns-in_err-check_frame : goal.returns-in_err-check_frame
returns-in_err-check_frame c = let k = c.from_residual.ensures in
    raised _ k.0 k.1 ∙ sym (stops _ _ (sym c.check_frame.ensures ∙ c.in_err-check_frame.was))

pub returns-in_err-check_class : goal.returns-in_err-check_class
returns-in_err-check_class c = let k = c.from_residual-in_err-check_class.ensures in
    raised _ k.0 k.1 ∙ sym (goes _ _ (sym c.check_frame.ensures ∙ c.in_ok-check_frame.was) ∙ stops _ _ (sym c.check_class.ensures ∙ c.in_err-check_class.was))

pub returns-in_err-check_front : goal.returns-in_err-check_front
returns-in_err-check_front c = let k = c.from_residual-in_err-check_front.ensures in
    raised _ k.0 k.1 ∙ sym (goes _ _ (sym c.check_frame.ensures ∙ c.in_ok-check_frame.was) ∙ goes _ _ (sym c.check_class.ensures ∙ c.in_ok-check_class.was) ∙ stops _ _ (sym c.check_front.ensures ∙ c.in_err-check_front.was))

pub returns-in_err-check_tries : goal.returns-in_err-check_tries
returns-in_err-check_tries c = let k = c.from_residual-in_err-check_tries.ensures in
    raised _ k.0 k.1 ∙ sym (goes _ _ (sym c.check_frame.ensures ∙ c.in_ok-check_frame.was) ∙ goes _ _ (sym c.check_class.ensures ∙ c.in_ok-check_class.was) ∙ goes _ _ (sym c.check_front.ensures ∙ c.in_ok-check_front.was) ∙ stops _ _ (sym (c.check_tries.ensures ∙ rw (c.tries_at.ensures)) ∙ c.in_err-check_tries.was))

pub returns : goal.returns
returns c = c.check_challenge.ensures ∙ sym (goes _ _ (sym c.check_frame.ensures ∙ c.in_ok-check_frame.was) ∙ goes _ _ (sym c.check_class.ensures ∙ c.in_ok-check_class.was) ∙ goes _ _ (sym c.check_front.ensures ∙ c.in_ok-check_front.was) ∙ goes _ _ (sym (c.check_tries.ensures ∙ rw (c.tries_at.ensures)) ∙ c.in_ok-check_tries.was))
