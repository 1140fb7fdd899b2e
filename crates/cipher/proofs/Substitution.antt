-- The S-box in fewer steps, for a test at each of the 256 bytes that antt computes.
-- Assumes nothing.
use mathlib.Core.Path.{◌≡◌, refl, sym, ap, ◌∙◌}
use Prim.Native.Nat.{ℕ, zero, suc, ◌+◌, ◌*◌, ◌/◌, ◌<◌, ◌%◌}
use native.Mathlib.Nat.{mod-lt, zero-lt-suc}
use native.Mathlib.Omega.{arith}
use lib.Bits.{bit_xor, xor_comm, xor_zero_r}
use Rattle.cipher.specs.Field.{add_if, times_bits, times}
use Rattle.cipher.specs.SubBytes.{square, squares, inverse, affine_bit, affine, sbox}

-- the same products in fewer steps: `bit_xor` takes a step for each digit of its first number, so the shorter goes first
abbrev reduced : ℕ → ℕ → ℕ
reduced zero y = y
reduced (suc n) y = bit_xor (suc n * 0x1b) y

reduced-is : (n y : ℕ) → reduced n y ≡ bit_xor y (n * 0x1b)
reduced-is zero y = sym (xor_zero_r y)
reduced-is (suc n) y = xor_comm (suc n * 0x1b) y

abbrev quick_x : ℕ → ℕ
quick_x b = reduced (b / 128) (b * 2 % 256)

abbrev quick_bits : ℕ → ℕ → ℕ → ℕ → ℕ
quick_bits zero b a r = r
quick_bits (suc n) b a r = quick_bits n (b / 2) (quick_x a) (add_if (b % 2) a r)

quick_bits-is : (n b a r : ℕ) → quick_bits n b a r ≡ times_bits n b a r
quick_bits-is zero b a r = refl
quick_bits-is (suc n) b a r =
    quick_bits-is n (b / 2) (quick_x a) (add_if (b % 2) a r) ∙ ap (λ (x : ℕ). times_bits n (b / 2) x (add_if (b % 2) a r)) (reduced-is (a / 128) (a * 2 % 256))

abbrev quick : ℕ → ℕ → ℕ
quick b a = quick_bits 8 b a 0

quick-is : (b a : ℕ) → quick b a ≡ times b a
quick-is b a = quick_bits-is 8 b a 0

abbrev quick_squares : ℕ → ℕ → ℕ
quick_squares zero a = 1
quick_squares (suc n) a = quick (quick a a) (quick_squares n (quick a a))

quick_squares-is : (n a : ℕ) → quick_squares n a ≡ squares n a
unfolding squares square
quick_squares-is zero a = refl
quick_squares-is (suc n) a =
    quick-is (quick a a) (quick_squares n (quick a a)) ∙ ap (times (quick a a)) (quick_squares-is n (quick a a))
    ∙ ap (λ (x : ℕ). times x (squares n x)) (quick-is a a)

-- the S-box in these steps
unfoldable pub quick_sbox : ℕ → ℕ
quick_sbox a = affine (quick_squares 7 a)

pub quick_sbox-is : (a : ℕ) → quick_sbox a ≡ sbox a
unfolding quick_sbox inverse sbox
quick_sbox-is a = ap affine (quick_squares-is 7 a)

-- ---- bytes
pub low : (x : ℕ) → x % 256 < 256
low x = mod-lt x (zero-lt-suc 255)

bit-lt : (x : ℕ) → x % 2 < 2
bit-lt x = mod-lt x (zero-lt-suc 1)

weighed-lt : (a b c d e f g h : ℕ) → a < 2 → b < 2 → c < 2 → d < 2 → e < 2 → f < 2 → g < 2 → h < 2
    → a * 1 + (b * 2 + (c * 4 + (d * 8 + (e * 16 + (f * 32 + (g * 64 + (h * 128 + 0))))))) < 256
weighed-lt a b c d e f g h p q r s t u v w = omega arith

pub sbox-lt : (x : ℕ) → sbox x < 256
unfolding sbox
sbox-lt x =
    let b = affine_bit (inverse x) in
    weighed-lt (b 0) (b 1) (b 2) (b 3) (b 4) (b 5) (b 6) (b 7) (bit-lt _) (bit-lt _) (bit-lt _) (bit-lt _) (bit-lt _) (bit-lt _) (bit-lt _) (bit-lt _)
