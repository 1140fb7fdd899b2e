use Rattle.std.proofs.Common.{◌∙◌, sym}
use Rattle.card.specs.Checks.{checked}
use Rattle.card.proofs.Checking.{raised, none-left, some-left, is-refusal}
use Rattle.card.proofs.pins.check_query.Goals as goal

pub returns-then-held : goal.returns-then-held
unfolding checked
returns-then-held c = rw c.if-held.true

pub returns-in_err-check_tries : goal.returns-in_err-check_tries
returns-in_err-check_tries c = let k = c.from_residual.ensures in
    rw c.if-held.false
    (raised _ k.0 k.1 ∙ sym (none-left _ _ (sym c.check_tries.ensures ∙ c.in_err-check_tries.was)))

pub returns : goal.returns
returns c = let n = c.count_sw in
    rw (c.if-held.false, n.ensures)
    (some-left _ _ (is-refusal c.args.tries.left) (sym c.check_tries.ensures ∙ c.in_ok-check_tries.was))
