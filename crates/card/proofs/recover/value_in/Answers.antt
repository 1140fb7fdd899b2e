use mathlib.Core.Path.{◌≡◌}
use lib.ListN.{length}
use borrow.Author.Rules.{rules}
use Rattle.card.proofs.Recovering.{value-held}
use Rattle.card.proofs.recover.value_in.Goals as goal

pub returns : goal.returns
returns c = let j = c.args.j in
    let l : length c.args.j.bytes ≡ 17 = search rules in
    rw (c.filled.ensures, value-held j.bytes l)
