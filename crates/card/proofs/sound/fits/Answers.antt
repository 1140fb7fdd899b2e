use mathlib.Core.Path.{◌≡◌, sym, ◌∙◌}
use lib.ListN.{length}
use native.Mathlib.Omega.{arith}
use borrow.Author.Rules.{rules}
use Rattle.card.proofs.Fitting.{place_at, zeros-start, digits-start, zeros-again, digits-again, zeros-end, digits-end}
use Rattle.card.proofs.sound.fits.Goals as goal

pub loop-i-init : goal.loop-i-init
loop-i-init c = let a = c.args in
    (digits-start a.x.value a.x.len, digits-start a.y.value a.y.len, zeros-start a.session.challenge a.session.len)

pub loop-i-preserved : goal.loop-i-preserved
loop-i-preserved c = let l = c.loop-i in
    let a = c.args in
    let t = c.loop-i-test.true in
    let p = place_at l.i t in
    let n : length a.x.value ≡ 16 = search rules in
    let m : length a.y.value ≡ 16 = search rules in
    let k : length a.session.challenge ≡ 16 = search rules in (
      rw (c.fits_pin.ensures, p) (digits-again a.x.value a.x.len l.i (omega (arith, n, t)) l.fit.admin ∙ l.invariant.0),
      rw (c.fits_pin-in-loop-i.ensures, p) (digits-again a.y.value a.y.len l.i (omega (arith, m, t)) l.fit.user ∙ l.invariant.1),
      rw (c.fits_challenge.ensures, p) (zeros-again a.session.challenge a.session.len l.i (omega (arith, k, t)) l.fit.challenge ∙ l.invariant.2),
    )

pub returns : goal.returns
returns c = let l = c.loop-i in
    let a = c.args in
    let t = c.loop-i-test.false in
    let n : length a.x.value ≡ 16 = search rules in
    let m : length a.y.value ≡ 16 = search rules in
    let k : length a.session.challenge ≡ 16 = search rules in (
      sym (digits-end a.x.value a.x.len l.i l.fit.admin (omega (arith, n, t))) ∙ l.invariant.0,
      sym (digits-end a.y.value a.y.len l.i l.fit.user (omega (arith, m, t))) ∙ l.invariant.1,
      sym (zeros-end a.session.challenge a.session.len l.i l.fit.challenge (omega (arith, k, t))) ∙ l.invariant.2,
    )
