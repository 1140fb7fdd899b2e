use Prim.Native.Nat.{◌+◌, ◌*◌, ◌≤◌, ◌<◌}
use mathlib.Core.Path.{◌≡◌, refl, ap, ◌∙◌}
use lib.ListN.{length}
use borrow.Author.Tests.{not-true, not-false}
use native.Mathlib.Omega.{arith}
use Rattle.power.specs.Plan.{stores_of}
use Rattle.power.specs.Address.{store_at}
use Rattle.stores.specs.Runs.{laid}
use Rattle.stores.proofs.Laying.{there-is, not_there, laid_one}
use Rattle.stores.proofs.run.lay.Goals as goal

pub loop-k-init : goal.loop-k-init
unfolding laid
loop-k-init c = (omega arith, refl)

pub returns-then-not-s : goal.returns-then-not-s
returns-then-not-s c = let a = c.args in
    let xs = stores_of a.card a.area.now a.cmd.now in
    let at : c.served-s.result ≡ store_at xs (a.first + c.loop-k.k) = c.served-s.ensures ∙ ap (store_at xs) (omega arith) in
    let none : length xs ≤ a.first + c.loop-k.k = not_there xs (a.first + c.loop-k.k) c.served-s.result at (not-true _ c.if-not-s.true) in
    record { count-is = omega (arith, none, c.loop-k.invariant.0); out-is = c.loop-k.invariant.1 }

pub loop-k-preserved : goal.loop-k-preserved
loop-k-preserved c = let a = c.args in
    let xs = stores_of a.card a.area.now a.cmd.now in
    let at : c.served-s.result ≡ store_at xs (a.first + c.loop-k.k) = c.served-s.ensures ∙ ap (store_at xs) (omega arith) in
    let one : a.first + c.loop-k.k < length xs = there-is xs (a.first + c.loop-k.k) c.served-s.result at (not-false _ c.if-not-s.false) in
    let room : 3 * c.loop-k.k + 3 ≤ length c.loop-k.out = omega arith in
    (omega (arith, one), (laid_one xs a.first c.loop-k.k a.out.now c.loop-k.out c.served-s.result c.three_bytes-three.result _ at c.three_bytes-three.ensures c.loop-k.invariant.1 room c.store.ensures.left_is).1)
