use mathlib.Core.Path.{refl, sym, ◌∙◌}
use mathlib.Core.Bool.{not}
use lib.Dec.{eqb}
use Prim.Native.Nat.{ℕ}
use Rattle.card.proofs.Passing.{pass-more, pass-end}
use Rattle.lines.proofs.fields.lacks.Goals as goal

pub loop-x-init : goal.loop-x-init
loop-x-init c = refl

pub loop-x-preserved : goal.loop-x-preserved
loop-x-preserved c = pass-more (λ (x : ℕ). not (eqb x c.args.b)) c.args.s.now c.loop-x.good c.loop-x.x-index c.loop-x-test.true ∙ c.loop-x.invariant

pub returns : goal.returns
returns c = sym (pass-end (λ (x : ℕ). not (eqb x c.args.b)) c.args.s.now c.loop-x.good c.loop-x.x-index c.loop-x-test.false) ∙ c.loop-x.invariant
