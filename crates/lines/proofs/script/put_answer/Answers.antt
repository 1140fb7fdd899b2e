use Prim.Native.Nat.{ℕ}
use mathlib.Core.Path.{ap, ◌∙◌}
use lib.ListN.{take, drop}
use native.Mathlib.Omega.{arith}
use Rattle.lines.proofs.Telling.{answer-put}
use Rattle.lines.proofs.script.put_answer.Goals as goal

pub returns : goal.returns
returns c = let a = c.args in
    answer-put a.bytes.now _ _ a.number a.outcome a.out.now _ _ c.requires.0
    (c.split_at.ensures.front ∙ ap (λ (n : ℕ). take n a.bytes.now) c.saturating_sub.ensures) (c.split_at.ensures.back ∙ ap (λ (n : ℕ). drop n a.bytes.now) c.saturating_sub.ensures)
    (omega arith) (omega arith) c.requires.1 c.put_line.ensures
