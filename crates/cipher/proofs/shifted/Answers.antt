use Rattle.cipher.proofs.Halves.{shifted-rows}
use Rattle.cipher.proofs.shifted.Goals as goal

pub returns : goal.returns
returns c = let hi = c in
    let lo = hi in
    let b = lo in
    shifted-rows b.args.s _ b.merged-a.result b.merged-b.result lo.between.result hi.between-2.result
    b.merged-a.ensures b.merged-b.ensures lo.between.ensures hi.between-2.ensures lo.merged-lo.ensures c.merged-hi.ensures
