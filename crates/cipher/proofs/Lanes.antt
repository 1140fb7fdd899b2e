-- The circuit substitutes every byte of a word. A bit operation on words is one on their low bytes and one on the rest, so what a test
-- shows of all 256 bytes holds of each byte of a word. Assumes nothing.
use mathlib.Core.Path.{◌≡◌, refl, ap, ap₂, sym, ◌∙◌, subst, subst⁻¹}
use mathlib.Core.Bool.{Bool, true, false}
use mathlib.Core.List.{List, [], ◌∷◌, ◌++◌, map}
use Prim.Native.Nat.{ℕ, zero, suc, ◌+◌, ◌*◌, ◌/◌, ◌%◌, ◌^◌, ◌<◌, ◌≤◌}
use native.Mathlib.Nat.{add-zero, zero-add, suc-add, add-suc, not-suc-le-zero, le_of_suc-le-suc}
use native.Mathlib.Nat.{mod-lt, mul_comm, add-mul, zero-mul, mul-le-mul, mul_right_comm, lt_of_le_of_lt, div-div-eq-div-mul, mod-mod}
use lib.Bits.{bit_xor, bit_and, and_zero_r, and_mask, and_le_r, and_block, xor_block, xor_lt, xor_shr, and_shr, xor_mod, and_mod}
use lib.Arith.{digits_div, digits_mod}
use lib.Pow.{split, field, mod-mod-pow, shr-shr}
use lib.Dec.{T, eqb, eqb→eq, leb, leb→le, lit<}
use lib.ListN.{take, drop}
use Rattle.cipher.specs.SubBytes.{sbox}
use Rattle.cipher.specs.KeyExpansion.{sub_word}
use Rattle.cipher.specs.Words.{bytes, OnHalves}
use Rattle.cipher.specs.Circuit.{summing, norming, inverting, multiplying, gathering}
use Rattle.cipher.proofs.Entries.{both, both_left, both_right}
use Rattle.cipher.proofs.Substitution.{quick_sbox, quick_sbox-is, sbox-lt}
use Rattle.cipher.proofs.Gates.{circuit, circuit-map, bits_of, weights}

-- bit 0 of each number; the other bits; the bytes above the lowest
abbrev low_bits : List ℕ → List ℕ
low_bits l = map (λ (a : ℕ). a % 2) l

abbrev halved : List ℕ → List ℕ
halved l = map (λ (a : ℕ). a / 2) l

abbrev upper : List ℕ → List ℕ
upper l = map (λ (a : ℕ). a / 256) l

low_bits-through : (x : List ℕ) → circuit (low_bits x) ≡ low_bits (circuit x)
low_bits-through x = circuit-map (λ (a : ℕ). a % 2) refl (λ a b. xor_mod a b 1) (λ a b. and_mod a b 1) x

halved-through : (x : List ℕ) → circuit (halved x) ≡ halved (circuit x)
halved-through x = circuit-map (λ (a : ℕ). a / 2) refl (λ a b. xor_shr a b 1) (λ a b. and_shr a b 1) x

upper-through : (x : List ℕ) → circuit (upper x) ≡ upper (circuit x)
upper-through x = circuit-map (λ (a : ℕ). a / 256) refl (λ a b. xor_shr a b 8) (λ a b. and_shr a b 8) x

-- ---- the rest of a word, and the low bit of its low byte
bits-rest : (w : ℕ) → upper (bits_of w) ≡ bits_of (w / 256)
bits-rest w =
    let c : (p : ℕ) → w / p / 256 ≡ w / 256 / p = λ p. div-div-eq-div-mul w p 256 ∙ ap (λ (q : ℕ). w / q) (mul_comm p 256) ∙ sym (div-div-eq-div-mul w 256 p) in
    rw (c 2, c 4, c 8, c 16, c 32, c 64, c 128)

low_bit : (w i k : ℕ) → w / 2 ^ k % 2 ≡ w % 2 ^ ((i + 1) + k) / 2 ^ k % 2
low_bit w i k = sym (ap (λ (x : ℕ). x % 2) (field w (i + 1) k) ∙ mod-mod-pow (w / 2 ^ k) i 1)

bits-low : (w : ℕ) → low_bits (bits_of w) ≡ low_bits (bits_of (w % 256))
bits-low w =
    let e0 : w % 2 ≡ w % 256 % 2 = sym (mod-mod-pow w 7 1) in
    let e1 : w / 2 % 2 ≡ w % 256 / 2 % 2 = low_bit w 6 1 in
    let e2 : w / 4 % 2 ≡ w % 256 / 4 % 2 = low_bit w 5 2 in
    let e3 : w / 8 % 2 ≡ w % 256 / 8 % 2 = low_bit w 4 3 in
    let e4 : w / 16 % 2 ≡ w % 256 / 16 % 2 = low_bit w 3 4 in
    let e5 : w / 32 % 2 ≡ w % 256 / 32 % 2 = low_bit w 2 5 in
    let e6 : w / 64 % 2 ≡ w % 256 / 64 % 2 = low_bit w 1 6 in
    let e7 : w / 128 % 2 ≡ w % 256 / 128 % 2 = low_bit w 0 7 in
    cc

circuit-rest : (w : ℕ) → upper (circuit (bits_of w)) ≡ circuit (bits_of (w / 256))
circuit-rest w = sym (upper-through (bits_of w)) ∙ ap circuit (bits-rest w)

circuit-low : (w : ℕ) → low_bits (circuit (bits_of w)) ≡ circuit (low_bits (bits_of (w % 256)))
circuit-low w = sym (low_bits-through (bits_of w)) ∙ ap circuit (bits-low w)

-- ---- the bits put together, byte by byte
abbrev pub pack : ℕ → ℕ → List ℕ → List ℕ → ℕ
pack m acc [] xs = acc
pack m acc (p ∷ ps) [] = acc
pack m acc (p ∷ ps) (a ∷ xs) = pack m (bit_xor acc (bit_and a m * p)) ps xs

abbrev small : List ℕ → Bool
small [] = true
small (p ∷ ps) = both (leb p 128) (small ps)

-- the bits of a under a mask of bytes 1, at the weight p
masked : (m a p : ℕ) → bit_and a (m * 256 + 1) * p ≡ bit_and (a / 256) m * p * 256 + bit_and (a % 2) 1 * p
masked m a p =
    let one : bit_and (a % 256) 1 ≡ bit_and (a % 2) 1 = and_mask (a % 256) 1 ∙ mod-mod-pow a 7 1 ∙ sym (and_mask (a % 2) 1 ∙ mod-mod a 2) in
    ap (λ (x : ℕ). x * p)
    (ap (λ (x : ℕ). bit_and x (m * 256 + 1)) (sym (split a 8)) ∙ and_block 8 (a / 256) m (a % 256) 1 (mod-lt a (lit< tt)) (lit< tt)
    ∙ ap (λ (x : ℕ). bit_and (a / 256) m * 256 + x) one)
    ∙ add-mul (bit_and (a / 256) m * 256) (bit_and (a % 2) 1) p ∙ ap (λ (x : ℕ). x + bit_and (a % 2) 1 * p) (mul_right_comm (bit_and (a / 256) m) 256 p)

weight-lt : (a p : ℕ) → p ≤ 128 → bit_and (a % 2) 1 * p < 256
weight-lt a p h = lt_of_le_of_lt (mul-le-mul (and_le_r (a % 2) 1) h) (lit< tt)

pack-parts : (m : ℕ) (ps xs : List ℕ) (A r : ℕ) → T (small ps) → r < 256
    → pack (m * 256 + 1) (A * 256 + r) ps xs ≡ pack m A ps (upper xs) * 256 + pack 1 r ps (low_bits xs)
pack-parts m [] xs A r t h = refl
pack-parts m (p ∷ ps) [] A r t h = refl
pack-parts m (p ∷ ps) (a ∷ xs) A r t h =
    let g : bit_and (a % 2) 1 * p < 256 = weight-lt a p (leb→le p 128 (both_left (leb p 128) (small ps) t)) in
    ap (λ (x : ℕ). pack (m * 256 + 1) x ps xs) (ap (bit_xor (A * 256 + r)) (masked m a p) ∙ xor_block 8 A (bit_and (a / 256) m * p) r (bit_and (a % 2) 1 * p) h g)
    ∙ pack-parts m ps xs (bit_xor A (bit_and (a / 256) m * p)) (bit_xor r (bit_and (a % 2) 1 * p)) (both_right (leb p 128) (small ps) t) (xor_lt 8 r (bit_and (a % 2) 1 * p) h g)

pack-none : (ps xs : List ℕ) → pack 0 0 ps xs ≡ 0
pack-none [] xs = refl
pack-none (p ∷ ps) [] = refl
pack-none (p ∷ ps) (a ∷ xs) = ap (λ (x : ℕ). pack 0 (x * p) ps xs) (and_zero_r a) ∙ ap (λ (x : ℕ). pack 0 x ps xs) (zero-mul p) ∙ pack-none ps xs

-- ---- a byte, by the test
-- the circuit on the bits of a byte, put together
unfoldable low : ℕ → ℕ
low b = pack 1 99 weights (circuit (low_bits (bits_of b)))

-- all bytes at once: bit k of the number at place j is bit j of k
abbrev every : List ℕ
every =
    0xaaaaaaaaaaaaaaaaaaaaaaaaaaaaaaaaaaaaaaaaaaaaaaaaaaaaaaaaaaaaaaaa ∷
    0xcccccccccccccccccccccccccccccccccccccccccccccccccccccccccccccccc ∷
    0xf0f0f0f0f0f0f0f0f0f0f0f0f0f0f0f0f0f0f0f0f0f0f0f0f0f0f0f0f0f0f0f0 ∷
    0xff00ff00ff00ff00ff00ff00ff00ff00ff00ff00ff00ff00ff00ff00ff00ff00 ∷
    0xffff0000ffff0000ffff0000ffff0000ffff0000ffff0000ffff0000ffff0000 ∷
    0xffffffff00000000ffffffff00000000ffffffff00000000ffffffff00000000 ∷
    0xffffffffffffffff0000000000000000ffffffffffffffff0000000000000000 ∷
    0xffffffffffffffffffffffffffffffff00000000000000000000000000000000 ∷ []

abbrev same : List ℕ → List ℕ → Bool
same [] [] = true
same [] (b ∷ m) = false
same (a ∷ l) [] = false
same (a ∷ l) (b ∷ m) = both (eqb a b) (same l m)

same→eq : (l m : List ℕ) → T (same l m) → l ≡ m
same→eq [] [] t = refl
same→eq [] (b ∷ m) t = absurd t
same→eq (a ∷ l) [] t = absurd t
same→eq (a ∷ l) (b ∷ m) t = ap₂ ◌∷◌ (eqb→eq a b (both_left (eqb a b) (same l m) t)) (same→eq l m (both_right (eqb a b) (same l m) t))

-- the test at k: bit 0 of each number of x is a bit of k, and bit 0 of each of s one of the S-box there
abbrev fit : ℕ → List ℕ → Bool
fit k x = same (low_bits x) (low_bits (bits_of k))

abbrev right : ℕ → List ℕ → Bool
right k s = eqb (pack 1 99 weights (low_bits s)) (quick_sbox k)

-- at n bytes from k on
abbrev passes : ℕ → ℕ → List ℕ → List ℕ → Bool
passes zero k x s = true
passes (suc n) k x s = both (both (fit k x) (right k s)) (passes n (suc k) (halved x) (halved s))

all_pass : T (passes 256 0 every (circuit every))
unfolding quick_sbox circuit summing norming inverting multiplying gathering
all_pass = tt

module _ (k : ℕ) (x : List ℕ) where
  abbrev here : Bool
  here = both (fit k x) (right k (circuit x))

  low-right : T here → low k ≡ quick_sbox k
  unfolding low
  low-right t =
      ap (pack 1 99 weights)
      (ap circuit (sym (same→eq (low_bits x) (low_bits (bits_of k)) (both_left (fit k x) (right k (circuit x)) t))) ∙ low_bits-through x)
      ∙ eqb→eq (pack 1 99 weights (low_bits (circuit x))) (quick_sbox k) (both_right (fit k x) (right k (circuit x)) t)

passed : (n k : ℕ) (x : List ℕ) → T (passes n k x (circuit x)) → (i : ℕ) → i < n → low (k + i) ≡ quick_sbox (k + i)
passed zero k x t i h = absurd (not-suc-le-zero h)
passed (suc n) k x t zero h =
    subst⁻¹ (λ (m : ℕ). low m ≡ quick_sbox m) (add-zero k) (low-right k x (both_left (here k x) (passes n (suc k) (halved x) (halved (circuit x))) t))
passed (suc n) k x t (suc i) h =
    let later : T (passes n (suc k) (halved x) (halved (circuit x))) = both_right (here k x) (passes n (suc k) (halved x) (halved (circuit x))) t in
    let next : low (suc k + i) ≡ quick_sbox (suc k + i) =
    passed n (suc k) (halved x) (subst⁻¹ (λ (l : List ℕ). T (passes n (suc k) (halved x) l)) (halved-through x) later) i (le_of_suc-le-suc h) in
    subst (λ (m : ℕ). low m ≡ quick_sbox m) (suc-add k i ∙ sym (add-suc k i)) next

low-sbox : (b : ℕ) → b < 256 → low b ≡ sbox b
low-sbox b h = subst (λ (m : ℕ). low m ≡ quick_sbox m) (zero-add b) (passed 256 0 every all_pass b h) ∙ quick_sbox-is b

-- ---- a word of n bytes
-- the lowest byte of n substituted, and then the others
unfoldable sub_lanes : ℕ → ℕ → ℕ
sub_lanes zero w = 0
sub_lanes (suc n) w = sub_lanes n (w / 256) * 256 + sbox (w % 256)

abbrev ones : ℕ → ℕ
ones zero = 0
ones (suc n) = ones n * 256 + 1

abbrev nines : ℕ → ℕ
nines zero = 0
nines (suc n) = nines n * 256 + 99

lanes : (n w : ℕ) → pack (ones n) (nines n) weights (circuit (bits_of w)) ≡ sub_lanes n w
unfolding sub_lanes low
lanes zero w = pack-none weights (circuit (bits_of w))
lanes (suc n) w =
    pack-parts (ones n) weights (circuit (bits_of w)) (nines n) 99 tt (lit< tt)
    ∙ ap₂ (λ (x y : ℕ). x * 256 + y)
    (ap (pack (ones n) (nines n) weights) (circuit-rest w) ∙ lanes n (w / 256))
    (ap (pack 1 99 weights) (circuit-low w) ∙ low-sbox (w % 256) (mod-lt w (lit< tt)))

-- the circuit on one word
abbrev pub single : ℕ → ℕ
single w = pack 0x0101010101010101 0x6363636363636363 weights (circuit (bits_of w))

-- ---- the two columns of a word
-- the n low bytes of a word, the lowest first
abbrev bytes_of : ℕ → ℕ → List ℕ
bytes_of zero w = []
bytes_of (suc n) w = w % 256 ∷ bytes_of n (w / 256)

bytes-lanes : (n w : ℕ) → bytes_of n (sub_lanes n w) ≡ map sbox (bytes_of n w)
unfolding sub_lanes
bytes-lanes zero w = refl
bytes-lanes (suc n) w =
    let h : sbox (w % 256) < 256 = sbox-lt (w % 256) in
    ap₂ ◌∷◌ (digits_mod (sub_lanes n (w / 256)) h) (ap (bytes_of n) (digits_div (sub_lanes n (w / 256)) h) ∙ bytes-lanes n (w / 256))

-- a byte of the lower half
in-low : (w i k : ℕ) → w % 2 ^ ((i + 8) + k) / 2 ^ k % 256 ≡ w / 2 ^ k % 256
in-low w i k = ap (λ (x : ℕ). x % 256) (field w (i + 8) k) ∙ mod-mod-pow (w / 2 ^ k) i 8

eight : (w : ℕ) → bytes_of 8 w ≡ bytes (w % 4294967296) ++ bytes (w / 4294967296)
eight w =
    let e0 : w % 256 ≡ w % 4294967296 % 256 = sym (mod-mod-pow w 24 8) in
    let e1 : w / 256 % 256 ≡ w % 4294967296 / 256 % 256 = sym (in-low w 16 8) in
    let d2 : w / 256 / 256 ≡ w / 65536 = shr-shr w 8 8 in
    let e2 : w / 65536 % 256 ≡ w % 4294967296 / 65536 % 256 = sym (in-low w 8 16) in
    let d3 : w / 65536 / 256 ≡ w / 16777216 = shr-shr w 16 8 in
    let e3 : w / 16777216 % 256 ≡ w % 4294967296 / 16777216 % 256 = sym (in-low w 0 24) in
    let d4 : w / 16777216 / 256 ≡ w / 4294967296 = shr-shr w 24 8 in
    let d6 : w / 4294967296 / 256 / 256 ≡ w / 4294967296 / 65536 = shr-shr (w / 4294967296) 8 8 in
    let d7 : w / 4294967296 / 65536 / 256 ≡ w / 4294967296 / 16777216 = shr-shr (w / 4294967296) 16 8 in
    cc

pub single-halves : (w : ℕ) → OnHalves sub_word w (single w)
single-halves w =
    let e : bytes (single w % 4294967296) ++ bytes (single w / 4294967296) ≡ map sbox (bytes (w % 4294967296) ++ bytes (w / 4294967296)) =
    sym (eight (single w)) ∙ ap (bytes_of 8) (lanes 8 w) ∙ bytes-lanes 8 w ∙ ap (map sbox) (eight w) in
    record { first = ap (take 4) e; second = ap (drop 4) e }
