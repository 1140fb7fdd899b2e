use mathlib.Core.Path.{◌≡◌, sym, ◌∙◌, refl}
use lib.ListN.{length}
use native.Mathlib.Omega.{arith}
use borrow.Author.Rules.{rules}
use Rattle.files.specs.Words.{is_zero}
use Rattle.rules.specs.State.{response_size}
use Rattle.card.proofs.Passing.{pass-more, pass-end}
use Rattle.card.proofs.sound.zero_from.Goals as goal

pub loop-i-init : goal.loop-i-init
loop-i-init c = refl

pub loop-i-preserved : goal.loop-i-preserved
loop-i-preserved c = let l = c.loop-i in
    let s = c.args.response.bytes in
    let n : length s ≡ response_size = search rules in
    let t = c.loop-i-test.true in
    pass-more is_zero s l.good l.i (omega (arith, n, t)) ∙ l.invariant

pub returns : goal.returns
returns c = let l = c.loop-i in
    let s = c.args.response.bytes in
    let n : length s ≡ response_size = search rules in
    let t = c.loop-i-test.false in
    sym (pass-end is_zero s l.good l.i (omega (arith, n, t))) ∙ l.invariant
