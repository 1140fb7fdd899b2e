use Rattle.std.proofs.Common.{◌∙◌, sym}
use Rattle.card.proofs.Checking.{goes, stops, raised}
use Rattle.card.proofs.select.check_select.Goals as goal

pub returns-in_err-check_p : goal.returns-in_err-check_p
returns-in_err-check_p c = let k = c.from_residual.ensures in
    raised _ k.0 k.1 ∙ sym (stops _ _ (sym c.check_p.ensures ∙ c.in_err-check_p.was))

pub returns : goal.returns
returns c = c.check_lc.ensures ∙ sym (goes _ _ (sym c.check_p.ensures ∙ c.in_ok-check_p.was))
