-- The inverse is one: the product of a byte with its inverse is 1, and 0 has 0. A test at each of the 256 bytes, which antt computes.
-- Assumes nothing.
use mathlib.Core.Path.{◌≡◌, refl}
use mathlib.Core.Bool.{Bool, cond}
use Prim.Native.Nat.{ℕ, ◌<◌}
use lib.Dec.{eqb, eqb→eq}
use Rattle.cipher.specs.Field.{times}
use Rattle.cipher.specs.SubBytes.{square, squares, inverse}
use Rattle.cipher.proofs.Entries.{at}

inverts : ℕ → Bool
inverts a = eqb (times a (inverse a)) (cond (eqb a 0) 0 1)

pub product-one : (a : ℕ) → a < 256 → times a (inverse a) ≡ cond (eqb a 0) 0 1
unfolding inverts square squares inverse
product-one a h = eqb→eq (times a (inverse a)) (cond (eqb a 0) 0 1) (at inverts 256 tt a h)

pub zero-itself : inverse 0 ≡ 0
unfolding square squares inverse
zero-itself = refl
