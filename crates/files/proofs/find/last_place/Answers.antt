use mathlib.Core.Path.{◌≡◌, sym, ap, ◌∙◌}
use Prim.Native.Nat.{◌-◌, ◌<◌}
use native.Mathlib.Omega.{arith}
use lib.ListN.{length, get_or}
use Rattle.std.proofs.lemmas.List.{get_or_default}
use Rattle.files.specs.Words.{seek}
use Rattle.files.proofs.Sought.{seek-none, seek-here, seek-before}
use Rattle.files.proofs.find.last_place.Goals as goal

pub returns-then-test : goal.returns-then-test
returns-then-test g c = λ p blank decides. let l = c.loop-i in
    let xs = c.args.xs.now in
    let h : l.i - 1 < length xs = omega (arith, l.invariant.0, c.loop-i-test.true) in
    let t : c.test.result ≡ p (get_or xs (l.i - 1) blank) = decides _ _ c.test.ensures ∙ ap p (c.index-xs-i.is ∙ get_or_default xs (l.i - 1) _ blank h) in
    sym (l.invariant.1 p blank decides ∙ seek-here (λ i. p (get_or xs i blank)) l.i (omega (arith, c.loop-i-test.true)) (sym t ∙ c.if-test.true))

pub loop-i-preserved : goal.loop-i-preserved
loop-i-preserved g c = let l = c.loop-i in
    let xs = c.args.xs.now in
    let h : l.i - 1 < length xs = omega (arith, l.invariant.0, c.loop-i-test.true) in (
      omega (arith, l.invariant.0),
      λ p blank decides.
          let t : c.test.result ≡ p (get_or xs (l.i - 1) blank) = decides _ _ c.test.ensures ∙ ap p (c.index-xs-i.is ∙ get_or_default xs (l.i - 1) _ blank h) in
          l.invariant.1 p blank decides ∙ seek-before (λ i. p (get_or xs i blank)) l.i (omega (arith, c.loop-i-test.true)) (sym t ∙ c.if-test.false),
    )

pub returns : goal.returns
returns g c = λ p blank decides. let l = c.loop-i in
    let n : l.i ≡ 0 = omega (arith, c.loop-i-test.false) in
    sym (l.invariant.1 p blank decides ∙ ap (seek (λ i. p (get_or c.args.xs.now i blank))) n ∙ seek-none (λ i. p (get_or c.args.xs.now i blank)))
