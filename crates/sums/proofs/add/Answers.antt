use mathlib.Core.Path.{sym, ◌∙◌}
use Rattle.sums.proofs.Adding.{good-bounds}
use Rattle.sums.specs.Kept.{more, plus}
use Rattle.sums.proofs.add.Goals as goal

pub returns-then-not-is_good : goal.returns-then-not-is_good
unfolding plus more
returns-then-not-is_good c = rw (sym c.is_good.ensures ∙ c.if-not-is_good.true)

pub place-i-requires : goal.place-i-requires
place-i-requires c = good-bounds _ (sym c.is_good.ensures ∙ c.if-not-is_good.false)

pub returns : goal.returns
unfolding plus more
returns c = rw (c.place-i.ensures.is, c.from.ensures, sym c.is_good.ensures ∙ c.if-not-is_good.false)
