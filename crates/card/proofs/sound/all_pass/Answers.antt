use mathlib.Core.Path.{sym, ◌∙◌}
use Rattle.card.proofs.Passing.{pass-more, pass-end}
use Rattle.card.proofs.sound.all_pass.Goals as goal

pub loop-b-preserved : goal.loop-b-preserved
loop-b-preserved g c = let l = c.loop-b in
    λ p decides. rw (decides _ _ c.test-good.ensures) (pass-more p c.args.bytes.now l.good l.b-index c.loop-b-test.true ∙ l.invariant p decides)

pub returns : goal.returns
returns g c = let l = c.loop-b in
    λ p decides. sym (pass-end p c.args.bytes.now l.good l.b-index c.loop-b-test.false) ∙ l.invariant p decides
