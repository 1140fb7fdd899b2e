-- Bytes as they are written.
-- Assumes nothing.
use Prim.Native.Nat.{ℕ, ◌+◌, ◌≤◌}
use mathlib.Core.List.{List, [], ◌∷◌}
use mathlib.Core.Path.{◌≡◌, refl}
use native.Mathlib.Omega.{arith}
use lib.ListN.{length}
use Rattle.digits.specs.Digits.{hex_of, dash, or_dash}

-- - for none
pub dash-none : (bytes : List ℕ) → length bytes ≡ 0 → dash ≡ or_dash bytes
unfolding or_dash
dash-none [] h = refl
dash-none (b ∷ bs) h = absurd (omega arith)

pub dash-some : (bytes : List ℕ) → (length bytes ≡ 0 → ⊥) → hex_of bytes ≡ or_dash bytes
unfolding or_dash
dash-some [] h = absurd (h refl)
dash-some (b ∷ bs) h = refl

-- two digits a byte
pub hex_of-length : (bs : List ℕ) → length (hex_of bs) ≡ length bs + length bs
unfolding hex_of
hex_of-length [] = refl
hex_of-length (b ∷ bs) = let k = hex_of-length bs in omega arith

pub or_dash-length : (bs : List ℕ) → length (or_dash bs) ≤ length bs + length bs + 1
unfolding or_dash
or_dash-length [] = omega arith
or_dash-length (b ∷ bs) = omega (arith, hex_of-length (b ∷ bs))
