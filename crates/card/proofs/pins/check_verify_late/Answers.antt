use Rattle.std.proofs.Common.{◌∙◌, sym}
use borrow.Author.Tests.{ne_eqb}
use Rattle.card.proofs.Checking.{goes, stops, raised}
use Rattle.card.proofs.pins.check_verify_late.Goals as goal

pub returns-in_err-check_tries : goal.returns-in_err-check_tries
returns-in_err-check_tries c = let k = c.from_residual.ensures in
    rw (ne_eqb _ _ c.if-h-eq1.false)
    (raised _ k.0 k.1 ∙ sym (stops _ _ (sym c.check_tries.ensures ∙ c.in_err-check_tries.was)))

pub returns : goal.returns
returns c = rw (ne_eqb _ _ c.if-h-eq1.false)
    (c.check_digits.ensures ∙ sym (goes _ _ (sym c.check_tries.ensures ∙ c.in_ok-check_tries.was)))
