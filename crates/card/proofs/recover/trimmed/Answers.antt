use mathlib.Core.Path.{◌≡◌, refl, ◌∙◌}
use lib.ListN.{length}
use native.Mathlib.Omega.{arith}
use borrow.Author.Rules.{rules}
use Rattle.card.proofs.Recovering.{trim-more, trim-end}
use Rattle.card.proofs.recover.trimmed.Goals as goal

pub loop-i-init : goal.loop-i-init
loop-i-init g c = refl

pub loop-i-preserved : goal.loop-i-preserved
loop-i-preserved g c = trim-more c.args.blank c.loop-i.next c.loop-i.i ∙ c.loop-i.invariant

pub returns : goal.returns
returns g c = let n : length c.args.xs ≡ g.row.N = search rules in
    trim-end c.args.blank c.loop-i.next c.args.xs c.loop-i.i c.args.count (omega arith) (c.loop-i.invariant ∙ rw c.from-i.ensures)
