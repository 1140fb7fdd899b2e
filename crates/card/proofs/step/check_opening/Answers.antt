use Rattle.std.proofs.Common.{◌∙◌, sym}
use Rattle.card.proofs.Checking.{goes, stops, raised}
use Rattle.card.proofs.step.check_opening.Goals as goal

pub returns-in_err-check_frame : goal.returns-in_err-check_frame
returns-in_err-check_frame c = let k = c.from_residual.ensures in
    raised _ k.0 k.1 ∙ sym (stops _ _ (sym c.check_frame.ensures ∙ c.in_err-check_frame.was))

pub returns : goal.returns
returns c = c.check_class.ensures ∙ sym (goes _ _ (sym c.check_frame.ensures ∙ c.in_ok-check_frame.was))
