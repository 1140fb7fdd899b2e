use lib.ListN.{length}
use Rattle.rules.specs.Words.{sw_bytes}
use borrow.Author.Tests.{le-leb}
use Rattle.card.proofs.Serving.{stored-all}
use Prim.Native.Nat.{ℕ, ◌+◌, ◌%◌}
use mathlib.Core.Path.{◌≡◌, ap, ◌∙◌}
use mathlib.Core.List.{[], ◌∷◌}
use native.Mathlib.Omega.{arith}
use Rattle.card.proofs.step.put_sw.Goals as goal

pub returns : goal.returns
returns c =
    let a = c.args in
    let bytes : c.to_be_bytes.result ≡ sw_bytes a.sw = c.to_be_bytes.ensures ∙ ap (λ (z : ℕ). z ∷ (a.sw % 256) ∷ []) (omega (arith, c.ranges.sw.fits)) in
    let left = c.store.ensures.left_is in
    stored-all _ a.reply.now _ a.n (sw_bytes a.sw) (le-leb (a.n + 2) (length a.reply.now) c.requires) (rw bytes at left)
