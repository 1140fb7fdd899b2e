use mathlib.Core.Path.{◌≡◌, ap, ◌∙◌}
use Prim.Native.Nat.{◌-◌, min}
use lib.ListN.{length}
use native.Mathlib.Omega.{arith}
use Rattle.files.specs.Directory.{start_at}
use Rattle.files.proofs.Extents.{start-most}
use Rattle.files.proofs.places.start.Goals as goal

pub returns : goal.returns
returns c = let a = c.args in
    let n : length a.d.files ≡ 16 = omega arith in
    let e : c.fewer.result ≡ min (a.place - 1) 16 = c.fewer.ensures ∙ ap (λ k. min k 16) (c.less.ensures ∙ ap (λ p. p - 1) c.wide.ensures.is) in
    let h = c.start_at.ensures in
    record { is = h.is ∙ ap (start_at a.d.files) e ∙ start-most a.d.files n (a.place - 1); low = h.low }
