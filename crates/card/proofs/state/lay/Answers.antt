use mathlib.Core.Path.{◌∙◌}
use native.Mathlib.Omega.{arith}
use lib.ListN.{length}
use Rattle.card.proofs.Filling.{laid-front, shown-front}
use Rattle.card.proofs.state.lay.Goals as goal

pub returns : goal.returns
returns c = let a = c.args in
    let n = c.min-n in
    c.show.ensures.left_is ∙ shown-front n.result a.bytes.now a.out.now (omega (arith, n.ensures)) (omega (arith, n.ensures)) ∙ laid-front (length a.out.now) n.result a.bytes.now a.out.now n.ensures
