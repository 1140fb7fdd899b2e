-- Bit operations in other orders. Two that work on each bit by itself are the same where they are so on bits.
-- Assumes nothing.
use mathlib.Core.Path.{◌≡◌, refl, ap, ap₂, sym, ◌∙◌}
use Prim.Native.Nat.{ℕ, zero, suc, ◌+◌, ◌*◌, ◌/◌, ◌%◌, ◌^◌, ◌<◌}
use native.Mathlib.Nat.{mod-lt, zero-lt-suc, add-zero}
use native.Mathlib.Omega.{arith}
use lib.Arith.{bin_ind}
use lib.Bits.{bit_xor, bit_and, xor_shr, xor_mod, and_shr, and_mod, and_block, xor_block, and_zero_r, xor_zero_r, xor_comm, xor_self}
use lib.Pow.{pow_pos, split, shl-shr}

record Bitwise (f : ℕ → ℕ → ℕ → ℕ) : Type 0 where
  half : (a b c : ℕ) → f a b c / 2 ≡ f (a / 2) (b / 2) (c / 2)
  low : (a b c : ℕ) → f a b c % 2 ≡ f (a % 2) (b % 2) (c % 2)

one : Bitwise (λ (a b c : ℕ). a)
one = record { half = λ a b c. refl; low = λ a b c. refl }

two : Bitwise (λ (a b c : ℕ). b)
two = record { half = λ a b c. refl; low = λ a b c. refl }

three : Bitwise (λ (a b c : ℕ). c)
three = record { half = λ a b c. refl; low = λ a b c. refl }

xored : {f g : ℕ → ℕ → ℕ → ℕ} → Bitwise f → Bitwise g → Bitwise (λ (a b c : ℕ). bit_xor (f a b c) (g a b c))
xored {f} {g} p q = record {
  half = λ a b c. xor_shr (f a b c) (g a b c) 1 ∙ ap₂ bit_xor (p.half a b c) (q.half a b c);
  low = λ a b c. xor_mod (f a b c) (g a b c) 1 ∙ ap₂ bit_xor (p.low a b c) (q.low a b c);
}

anded : {f g : ℕ → ℕ → ℕ → ℕ} → Bitwise f → Bitwise g → Bitwise (λ (a b c : ℕ). bit_and (f a b c) (g a b c))
anded {f} {g} p q = record {
  half = λ a b c. and_shr (f a b c) (g a b c) 1 ∙ ap₂ bit_and (p.half a b c) (q.half a b c);
  low = λ a b c. and_mod (f a b c) (g a b c) 1 ∙ ap₂ bit_and (p.low a b c) (q.low a b c);
}

bit : (a : ℕ) → a % 2 < 2
bit a = mod-lt a (zero-lt-suc 1)

module _ {f g : ℕ → ℕ → ℕ → ℕ} (p : Bitwise f) (q : Bitwise g) (none : (b c : ℕ) → f 0 b c ≡ g 0 b c)
    (e00 : f 1 0 0 ≡ g 1 0 0) (e01 : f 1 0 1 ≡ g 1 0 1) (e10 : f 1 1 0 ≡ g 1 1 0) (e11 : f 1 1 1 ≡ g 1 1 1) where
  on-bits : (x y z : ℕ) → x < 2 → y < 2 → z < 2 → f x y z ≡ g x y z
  on-bits zero y z hx hy hz = none y z
  on-bits (suc zero) zero zero hx hy hz = e00
  on-bits (suc zero) zero (suc zero) hx hy hz = e01
  on-bits (suc zero) (suc zero) zero hx hy hz = e10
  on-bits (suc zero) (suc zero) (suc zero) hx hy hz = e11
  on-bits (suc zero) zero (suc (suc z)) hx hy hz = absurd (let n : ⊥ = omega arith in n)
  on-bits (suc zero) (suc zero) (suc (suc z)) hx hy hz = absurd (let n : ⊥ = omega arith in n)
  on-bits (suc zero) (suc (suc y)) z hx hy hz = absurd (let n : ⊥ = omega arith in n)
  on-bits (suc (suc x)) y z hx hy hz = absurd (let n : ⊥ = omega arith in n)

  same : (a b c : ℕ) → f a b c ≡ g a b c
  same =
      bin_ind (λ (n : ℕ). (b c : ℕ) → f n b c ≡ g n b c) none
      (λ n ih b c. sym (split (f n b c) 1)
      ∙ ap₂ (λ (x y : ℕ). x * 2 + y) (p.half n b c ∙ ih (b / 2) (c / 2) ∙ sym (q.half n b c))
      (p.low n b c ∙ on-bits (n % 2) (b % 2) (c % 2) (bit n) (bit b) (bit c) ∙ sym (q.low n b c))
      ∙ split (g n b c) 1)

pub xor_assoc : (a b c : ℕ) → bit_xor (bit_xor a b) c ≡ bit_xor a (bit_xor b c)
xor_assoc = same (xored (xored one two) three) (xored one (xored two three)) (λ b c. refl) refl refl refl refl

pub and_assoc : (a b c : ℕ) → bit_and (bit_and a b) c ≡ bit_and a (bit_and b c)
and_assoc = same (anded (anded one two) three) (anded one (anded two three)) (λ b c. refl) refl refl refl refl

pub and_xor : (a b c : ℕ) → bit_and (bit_xor a b) c ≡ bit_xor (bit_and a c) (bit_and b c)
and_xor = same (anded (xored one two) three) (xored (anded one three) (anded two three)) (λ b c. refl) refl refl refl refl

pub and_both : (a b c : ℕ) → bit_and (bit_and a b) c ≡ bit_and (bit_and a c) (bit_and b c)
and_both = same (anded (anded one two) three) (anded (anded one three) (anded two three)) (λ b c. refl) refl refl refl refl

-- ---- sums
pub xor-back : (a b : ℕ) → bit_xor a (bit_xor a b) ≡ b
xor-back a b = sym (xor_assoc a a b) ∙ ap (λ (x : ℕ). bit_xor x b) (xor_self a)

pub xor-away : (a b : ℕ) → bit_xor (bit_xor a b) b ≡ a
xor-away a b = xor_assoc a b b ∙ ap (bit_xor a) (xor_self b) ∙ xor_zero_r a

-- a sum of four, from the second on
pub from_second : (x y z w : ℕ) → bit_xor (bit_xor (bit_xor x y) z) w ≡ bit_xor (bit_xor (bit_xor y z) w) x
from_second x y z w = ap (λ (u : ℕ). bit_xor u w) (xor_assoc x y z) ∙ xor_assoc x (bit_xor y z) w ∙ xor_comm x (bit_xor (bit_xor y z) w)

-- two sums of two, added
pub crosswise : (p q r s : ℕ) → bit_xor (bit_xor p q) (bit_xor r s) ≡ bit_xor (bit_xor p r) (bit_xor q s)
crosswise p q r s =
    xor_assoc p q (bit_xor r s)
    ∙ ap (bit_xor p) (sym (xor_assoc q r s) ∙ ap (λ (x : ℕ). bit_xor x s) (xor_comm q r) ∙ xor_assoc r q s)
    ∙ sym (xor_assoc p r (bit_xor q s))

pub xor-shl : (x y k : ℕ) → bit_xor x y * 2 ^ k ≡ bit_xor (x * 2 ^ k) (y * 2 ^ k)
xor-shl x y k =
    sym
    (ap₂ bit_xor (sym (add-zero (x * 2 ^ k))) (sym (add-zero (y * 2 ^ k))) ∙ xor_block k x y 0 0 (pow_pos k) (pow_pos k) ∙ add-zero (bit_xor x y * 2 ^ k))

-- ---- masks moved up
-- the bits of z under a mask that is c places up
pub lift : (z m c : ℕ) → bit_and z (m * 2 ^ c) ≡ bit_and (z / 2 ^ c) m * 2 ^ c
lift z m c =
    ap₂ bit_and (sym (split z c)) (sym (add-zero (m * 2 ^ c))) ∙ and_block c (z / 2 ^ c) m (z % 2 ^ c) 0 (mod-lt z (pow_pos c)) (pow_pos c)
    ∙ ap (λ (x : ℕ). bit_and (z / 2 ^ c) m * 2 ^ c + x) (and_zero_r (z % 2 ^ c)) ∙ add-zero (bit_and (z / 2 ^ c) m * 2 ^ c)

pub raise : (s m c : ℕ) → bit_and s m * 2 ^ c ≡ bit_and (s * 2 ^ c) (m * 2 ^ c)
raise s m c = sym (lift (s * 2 ^ c) m c ∙ ap (λ (x : ℕ). bit_and x m * 2 ^ c) (shl-shr s c))
