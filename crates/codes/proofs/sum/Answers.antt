use Rattle.std.proofs.Common.{◌≡◌, ◌≢◌, ◌<◌, length, get_or, arith, length-set, get_or-set_other, get_or-set_same, below_more}
use Rattle.codes.specs.Padding.{padded}
use Rattle.codes.proofs.Padding.{padded-length}
use Rattle.codes.proofs.Chaining.{added-at}
use Rattle.codes.proofs.sum.Goals as goal

pub loop-i-preserved : goal.loop-i-preserved
loop-i-preserved c =
    let i = c.loop-i.i in
    let inv = c.loop-i.invariant in
    let inside : i < length c.loop-i.block = omega arith in
    let here : get_or c.loop-i.block i 0 ≡ get_or c.args.before i 0 = inv.not_yet i (omega arith) in
    record {
      long = simp length-set inv.long;
      added = below_more _ _ (λ k h. let other : k ≢ i = omega arith in rw get_or-set_other (inv.added k h)) (rw (get_or-set_same, here, c.padded_at.ensures));
      not_yet = λ k h. let other : k ≢ i = omega arith in rw get_or-set_other (inv.not_yet k (omega arith));
    }

pub returns : goal.returns
returns c =
    let inv = c.loop-i.invariant in
    added-at 16 c.loop-i.block c.args.before (padded c.args.rest.now) (omega arith) (omega arith) (omega (arith, padded-length c.args.rest.now))
    (λ k h. inv.added k (omega arith))
