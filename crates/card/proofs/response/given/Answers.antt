use native.Mathlib.Omega.{arith}
use mathlib.Core.Path.{◌∙◌}
use Rattle.card.proofs.Filling.{shown-front}
use Rattle.card.proofs.Fetching.{enough, gave}
use Rattle.card.proofs.response.given.Goals as goal

pub put_sw-requires : goal.put_sw-requires
put_sw-requires c = omega (arith, c.requires.1, c.requires.2, c.requires.3)

pub slice_bounds-with_waiting-end : goal.slice_bounds-with_waiting-end
slice_bounds-with_waiting-end c = enough c.args.card c.args.all c.args.n c.requires.0 c.requires.2

pub overflow_add-n : goal.overflow_add-n
overflow_add-n c = record { fits = omega (arith, c.requires.1, c.requires.2) }

pub returns : goal.returns
returns c = let a = c.args in
    let p = c.requires in
    gave a.card a.all a.n p.0 p.2 a.reply.now _ _ c.with_waiting-next.result c.answer.result p.1 p.3
    (c.show.ensures.left_is ∙ shown-front a.n _ a.reply.now (omega (arith, p.1, p.2)) (omega (arith, p.1, p.2, p.3))) (c.put_sw.ensures ∙ rw c.wait_sw.ensures) c.with_waiting-next.ensures c.answer.ensures
