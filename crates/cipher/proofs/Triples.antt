-- The circuit on three words at once does to each what it does to one word. A plane has a bit of each byte of the first word at the byte's
-- bit 0, of the second at bit 1 and of the third at bit 2; what the other bits are does not matter. Assumes nothing.
use mathlib.Core.Path.{◌≡◌, refl, ap, ap₂, sym, ◌∙◌}
use mathlib.Core.List.{List, [], ◌∷◌, map}
use Prim.Native.Nat.{ℕ, ◌*◌, ◌-◌, ◌/◌, ◌%◌, ◌^◌, ◌<◌}
use native.Mathlib.Nat.{mod-eq_of_lt, mul-le-mul, mul-one, lt_of_le_of_lt, le_refl, mul_assoc, add_comm, zero-div, div-one}
use lib.Bits.{bit_xor, bit_and, xor_shr, and_shr, and_le_r, and_zero_r, and_comm, and_mask, xor_zero_r, xor_comm}
use lib.Dec.{lit<}
use lib.Pow.{shl-shr, shr-shr}
use Rattle.cipher.specs.declared.circuit.Outs.{Outs}
use Rattle.cipher.specs.KeyExpansion.{sub_word}
use Rattle.cipher.specs.Words.{OnHalves}
use Rattle.cipher.specs.Circuit.{outs, fives, threes, elevens, fifteens, laid, Swapped, side_by_side, stacked, spread, planes, stacked_at, out_at, first_out, second_out, third_out}
use Rattle.cipher.proofs.Bits.{xor_assoc, and_assoc, and_xor, and_both, xor-away, xor-shl, lift, raise}
use Rattle.cipher.proofs.Gates.{circuit, circuit-map, bits_of, weights}
use Rattle.cipher.proofs.Lanes.{pack, single, single-halves}

-- a mask of one byte, 01, eight times
abbrev ones : ℕ
ones = 0x0101010101010101

-- bit 0 of each byte, and bit i
abbrev first : ℕ → ℕ
first x = bit_and x ones

abbrev nth : ℕ → ℕ → ℕ
nth i x = first (x / 2 ^ i)

first-xor : (x y : ℕ) → first (bit_xor x y) ≡ bit_xor (first x) (first y)
first-xor x y = and_xor x y ones

first-and : (x y : ℕ) → first (bit_and x y) ≡ bit_and (first x) (first y)
first-and x y = and_both x y ones

-- ---- the circuit at bit i
module _ (i : ℕ) where
  nth-xor : (x y : ℕ) → nth i (bit_xor x y) ≡ bit_xor (nth i x) (nth i y)
  nth-xor x y = ap first (xor_shr x y i) ∙ first-xor (x / 2 ^ i) (y / 2 ^ i)

  nth-and : (x y : ℕ) → nth i (bit_and x y) ≡ bit_and (nth i x) (nth i y)
  nth-and x y = ap first (and_shr x y i) ∙ first-and (x / 2 ^ i) (y / 2 ^ i)

  outs-at : (x y : List ℕ) → map (nth i) x ≡ map first y → map (nth i) (circuit x) ≡ map first (circuit y)
  outs-at x y e =
      sym (circuit-map (nth i) (ap first (zero-div (2 ^ i))) nth-xor nth-and x) ∙ ap circuit e ∙ circuit-map first refl first-xor first-and y

-- ---- bits under masks
-- two moves down, in either order
down : (x i j : ℕ) → x / 2 ^ i / 2 ^ j ≡ x / 2 ^ j / 2 ^ i
down x i j = shr-shr x i j ∙ ap (λ (k : ℕ). x / 2 ^ k) (add_comm i j) ∙ sym (shr-shr x j i)

-- bits under the mask m, i places down, under the mask o
under : (x m o i : ℕ) → bit_and (bit_and x m / 2 ^ i) o ≡ bit_and (x / 2 ^ i) (bit_and (m / 2 ^ i) o)
under x m o i = ap (λ (y : ℕ). bit_and y o) (and_shr x m i) ∙ and_assoc (x / 2 ^ i) (m / 2 ^ i) o

-- two words laid together, i places down and under the mask o, which leaves the mask q of each
laid-at : (n m o q i : ℕ) → bit_and (m / 2 ^ i) o ≡ q → bit_and (m * 2 ^ n / 2 ^ i) o ≡ q * 2 ^ n → (l h : ℕ)
    → bit_and (laid n m l h / 2 ^ i) o ≡ laid n q (l / 2 ^ i) (h / 2 ^ i)
laid-at n m o q i e f l h =
    ap (λ (x : ℕ). bit_and (bit_xor (bit_and l m) x / 2 ^ i) o) (raise h m n)
    ∙ ap (λ (x : ℕ). bit_and x o) (xor_shr (bit_and l m) (bit_and (h * 2 ^ n) (m * 2 ^ n)) i)
    ∙ and_xor (bit_and l m / 2 ^ i) (bit_and (h * 2 ^ n) (m * 2 ^ n) / 2 ^ i) o
    ∙ ap₂ bit_xor (under l m o i ∙ ap (bit_and (l / 2 ^ i)) e)
    (under (h * 2 ^ n) (m * 2 ^ n) o i ∙ ap (bit_and (h * 2 ^ n / 2 ^ i)) f ∙ lift (h * 2 ^ n / 2 ^ i) q n
    ∙ ap (λ (x : ℕ). bit_and x q * 2 ^ n) (down (h * 2 ^ n) i n ∙ ap (λ (x : ℕ). x / 2 ^ i) (shl-shr h n)))

-- no bit is lost at the word's end
exact : (m n x : ℕ) → m * 2 ^ n < 2 ^ 64 → bit_and x m * 2 ^ n % 2 ^ 64 ≡ bit_and x m * 2 ^ n
exact m n x h = mod-eq_of_lt (lt_of_le_of_lt (mul-le-mul (and_le_r x m) (le_refl (2 ^ n))) h)

pub stacked-exact : (l h : ℕ) → bit_xor (bit_and l fifteens) (bit_and h fifteens * 16 % 2 ^ 64) ≡ stacked l h
stacked-exact l h = ap (bit_xor (bit_and l fifteens)) (exact fifteens 4 h (lit< tt))

-- ---- bits that change places: a mask, and the same n places up, are all of a word
module _ (n m : ℕ) (all : bit_xor m (m * 2 ^ n) ≡ 2 ^ 64 - 1) (fits : m * 2 ^ n < 2 ^ 64) where
  both : (x : ℕ) → x < 2 ^ 64 → bit_xor (bit_and x m) (bit_and x (m * 2 ^ n)) ≡ x
  both x h =
      ap₂ bit_xor (and_comm x m) (and_comm x (m * 2 ^ n)) ∙ sym (and_xor m (m * 2 ^ n) x) ∙ and_comm (bit_xor m (m * 2 ^ n)) x
      ∙ ap (bit_and x) all ∙ and_mask x 64 ∙ mod-eq_of_lt h

  -- a word without the bits under one of the masks
  lower-left : (x : ℕ) → x < 2 ^ 64 → bit_xor x (bit_and x (m * 2 ^ n)) ≡ bit_and x m
  lower-left x h = ap (λ (y : ℕ). bit_xor y (bit_and x (m * 2 ^ n))) (sym (both x h)) ∙ xor-away (bit_and x m) (bit_and x (m * 2 ^ n))

  upper-left : (x : ℕ) → x < 2 ^ 64 → bit_xor x (bit_and x m) ≡ bit_and (x / 2 ^ n) m * 2 ^ n
  upper-left x h =
      ap (λ (y : ℕ). bit_xor y (bit_and x m)) (sym (both x h) ∙ xor_comm (bit_and x m) (bit_and x (m * 2 ^ n))) ∙ xor-away (bit_and x (m * 2 ^ n)) (bit_and x m)
      ∙ lift x m n

  module _ (a b : ℕ) (ha : a < 2 ^ 64) (hb : b < 2 ^ 64) where
    abbrev moved : ℕ
    moved = bit_and (bit_xor (a / 2 ^ n) b) m

    swapped : Swapped n m a b (bit_xor a (moved * 2 ^ n % 2 ^ 64)) (bit_xor b moved)
    swapped = record {
      lower =
          ap (bit_xor a) (exact m n (bit_xor (a / 2 ^ n) b) fits ∙ ap (λ (x : ℕ). x * 2 ^ n) (and_xor (a / 2 ^ n) b m)
          ∙ xor-shl (bit_and (a / 2 ^ n) m) (bit_and b m) n ∙ ap (λ (x : ℕ). bit_xor x (bit_and b m * 2 ^ n)) (sym (lift a m n)))
          ∙ sym (xor_assoc a (bit_and a (m * 2 ^ n)) (bit_and b m * 2 ^ n)) ∙ ap (λ (x : ℕ). bit_xor x (bit_and b m * 2 ^ n)) (lower-left a ha);
      upper =
          ap (bit_xor b) (and_xor (a / 2 ^ n) b m ∙ xor_comm (bit_and (a / 2 ^ n) m) (bit_and b m)) ∙ sym (xor_assoc b (bit_and b m) (bit_and (a / 2 ^ n) m))
          ∙ xor_comm (bit_xor b (bit_and b m)) (bit_and (a / 2 ^ n) m) ∙ ap (bit_xor (bit_and (a / 2 ^ n) m)) (upper-left b hb);
    }

pub swapped-ones : (a b : ℕ) → a < 2 ^ 64 → b < 2 ^ 64
    → Swapped 1 fives a b (bit_xor a (bit_and (bit_xor (a / 2) b) fives * 2 % 2 ^ 64)) (bit_xor b (bit_and (bit_xor (a / 2) b) fives))
swapped-ones = swapped 1 fives refl (lit< tt)

pub swapped-twos : (a b : ℕ) → a < 2 ^ 64 → b < 2 ^ 64
    → Swapped 2 threes a b (bit_xor a (bit_and (bit_xor (a / 4) b) threes * 4 % 2 ^ 64)) (bit_xor b (bit_and (bit_xor (a / 4) b) threes))
swapped-twos = swapped 2 threes refl (lit< tt)

-- ---- four words side by side, from pairs of them
nested : (i : ℕ) → bit_and (fives / 2 ^ i) threes ≡ elevens → bit_and (fives * 2 / 2 ^ i) threes ≡ elevens * 2 → (a b c d : ℕ)
    → laid 2 threes (laid 1 fives a b / 2 ^ i) (laid 1 fives c d / 2 ^ i) ≡ side_by_side (a / 2 ^ i) (b / 2 ^ i) (c / 2 ^ i) (d / 2 ^ i)
nested i e f a b c d =
    ap₂ (λ (x y : ℕ). bit_xor x (y * 4)) (laid-at 1 fives threes elevens i e f a b) (laid-at 1 fives threes elevens i e f c d)
    ∙ ap (bit_xor (laid 1 elevens (a / 2 ^ i) (b / 2 ^ i)))
    (xor-shl (bit_and (c / 2 ^ i) elevens) (bit_and (d / 2 ^ i) elevens * 2) 2
    ∙ ap (bit_xor (bit_and (c / 2 ^ i) elevens * 4)) (mul_assoc (bit_and (d / 2 ^ i) elevens) 2 4))
    ∙ sym (xor_assoc (laid 1 elevens (a / 2 ^ i) (b / 2 ^ i)) (bit_and (c / 2 ^ i) elevens * 4) (bit_and (d / 2 ^ i) elevens * 8))

-- the rows of four words, after single bits and then pairs of bits have changed places
module _ (a b c d : ℕ) {x x' y y' : ℕ} (e : Swapped 1 fives a b x x') (f : Swapped 1 fives c d y y') where
  row0 : laid 2 threes x y ≡ side_by_side a b c d
  row0 = rw (e.lower, f.lower) (let n = nested 0 refl refl a b c d in simp div-one at n)

  row1 : laid 2 threes x' y' ≡ side_by_side (a / 2) (b / 2) (c / 2) (d / 2)
  row1 = rw (e.upper, f.upper) (let n = nested 0 refl refl (a / 2) (b / 2) (c / 2) (d / 2) in simp div-one at n)

  row2 : laid 2 threes (x / 4) (y / 4) ≡ side_by_side (a / 4) (b / 4) (c / 4) (d / 4)
  row2 = rw (e.lower, f.lower) (nested 2 refl refl a b c d)

  row3 : laid 2 threes (x' / 4) (y' / 4) ≡ side_by_side (a / 8) (b / 8) (c / 8) (d / 8)
  row3 = rw (e.upper, f.upper) (nested 2 refl refl (a / 2) (b / 2) (c / 2) (d / 2) ∙ rw (shr-shr a 1 2, shr-shr b 1 2, shr-shr c 1 2, shr-shr d 1 2))

-- what the code makes of three words, and of the bits that come out
pub planes-made : (a b c : ℕ) {x x' y y' p q r s : ℕ} → Swapped 1 fives a b x x' → Swapped 1 fives c 0 y y' → Swapped 2 threes x y p r → Swapped 2 threes x' y' q s
    → spread p q r s ≡ planes a b c
planes-made a b c e f g h = rw (g.lower ∙ row0 a b c 0 e f, h.lower ∙ row1 a b c 0 e f, g.upper ∙ row2 a b c 0 e f, h.upper ∙ row3 a b c 0 e f)

pub outs-made : (l : List ℕ) {t u v w x x' y y' p q r s : ℕ} → t ≡ stacked_at 0 l → u ≡ stacked_at 2 l → v ≡ stacked_at 4 l → w ≡ stacked_at 6 l
    → Swapped 1 fives t u x x' → Swapped 1 fives v w y y' → Swapped 2 threes x y p r → Swapped 2 threes x' y' q s
    → (bit_xor 0x6363636363636363 p ≡ first_out l) × (bit_xor 0x6363636363636363 q ≡ second_out l) × (bit_xor 0x6363636363636363 r ≡ third_out l)
outs-made l {t} {u} {v} {w} i j k m e f g h = (
  rw (g.lower ∙ row0 t u v w e f, i, j, k, m),
  rw (h.lower ∙ row1 t u v w e f, i, j, k, m),
  rw (g.upper ∙ row2 t u v w e f, i, j, k, m),
)

-- ---- a word of the four
abbrev four : ℕ → ℕ → ℕ → ℕ → ℕ
four p q r s = bit_xor (bit_xor (bit_xor p q) r) s

module _ (x y z w : ℕ) where
  parts : (i : ℕ) → bit_and (side_by_side x y z w / 2 ^ i) elevens
      ≡ four (bit_and (x / 2 ^ i) (bit_and (elevens / 2 ^ i) elevens)) (bit_and (y * 2 / 2 ^ i) (bit_and (elevens * 2 / 2 ^ i) elevens))
      (bit_and (z * 4 / 2 ^ i) (bit_and (elevens * 4 / 2 ^ i) elevens)) (bit_and (w * 8 / 2 ^ i) (bit_and (elevens * 8 / 2 ^ i) elevens))
  parts i = rw (raise y elevens 1, raise z elevens 2, raise w elevens 3) (simp (xor_shr, and_xor, under))

  side-first : bit_and (side_by_side x y z w / 1) elevens ≡ bit_and x elevens
  side-first = parts 0 ∙ simp (and_zero_r, xor_zero_r, div-one)

  side-second : bit_and (side_by_side x y z w / 2) elevens ≡ bit_and y elevens
  side-second = parts 1 ∙ simp (and_zero_r, xor_zero_r) (ap (λ (u : ℕ). bit_and u elevens) (shl-shr y 1))

  side-third : bit_and (side_by_side x y z w / 4) elevens ≡ bit_and z elevens
  side-third = parts 2 ∙ simp (and_zero_r, xor_zero_r) (ap (λ (u : ℕ). bit_and u elevens) (shl-shr z 2))

-- ---- the planes of a word
-- bit i of each half byte of p is bit 0 of that of w
abbrev Holds : ℕ → ℕ → ℕ → Type 0
Holds i w p = bit_and (p / 2 ^ i) elevens ≡ bit_and w elevens

lower : (i w p : ℕ) → Holds i w p → nth i p ≡ first w
lower i w p e = sym (and_assoc (p / 2 ^ i) elevens ones) ∙ ap first e ∙ and_assoc w elevens ones

upper : (i w p : ℕ) → Holds i w p → nth i (p / 16) ≡ first (w / 16)
upper i w p e =
    let above : (x : ℕ) → first (bit_and x elevens / 16) ≡ first (x / 16) = λ x. ap first (and_shr x elevens 4) ∙ and_assoc (x / 16) (elevens / 16) ones in
    ap first (down p 4 i) ∙ sym (above (p / 2 ^ i)) ∙ ap (λ (x : ℕ). first (x / 16)) e ∙ above w

planes-at : (i w p q r s : ℕ) → Holds i w p → Holds i (w / 2) q → Holds i (w / 4) r → Holds i (w / 8) s → map (nth i) (spread p q r s) ≡ map first (bits_of w)
planes-at i w p q r s e f g h =
    let e0 : nth i p ≡ first w = lower i w p e in
    let e1 : nth i q ≡ first (w / 2) = lower i (w / 2) q f in
    let e2 : nth i r ≡ first (w / 4) = lower i (w / 4) r g in
    let e3 : nth i s ≡ first (w / 8) = lower i (w / 8) s h in
    let e4 : nth i (p / 16) ≡ first (w / 16) = upper i w p e in
    let e5 : nth i (q / 16) ≡ first (w / 32) = upper i (w / 2) q f ∙ ap first (shr-shr w 1 4) in
    let e6 : nth i (r / 16) ≡ first (w / 64) = upper i (w / 4) r g ∙ ap first (shr-shr w 2 4) in
    let e7 : nth i (s / 16) ≡ first (w / 128) = upper i (w / 8) s h ∙ ap first (shr-shr w 3 4) in
    cc

-- ---- the bits put together
-- numbers at their weights
abbrev weighed : ℕ → List ℕ → List ℕ → ℕ
weighed acc [] xs = acc
weighed acc (p ∷ ps) [] = acc
weighed acc (p ∷ ps) (a ∷ xs) = weighed (bit_xor acc (a * p)) ps xs

weighed-pack : (acc : ℕ) (ps xs : List ℕ) → weighed acc ps (map first xs) ≡ pack ones acc ps xs
weighed-pack acc [] xs = refl
weighed-pack acc (p ∷ ps) [] = refl
weighed-pack acc (p ∷ ps) (a ∷ xs) = weighed-pack (bit_xor acc (first a * p)) ps xs

flat : (k a b c d e f g h : ℕ) → bit_xor k (four (bit_xor a b) (bit_xor c d) (bit_xor e f) (bit_xor g h)) ≡ bit_xor (four (bit_xor (four k a b c) d) e f g) h
flat k a b c d e f g h = simp xor_assoc

raised : (l h k : ℕ) → bit_xor l (h * 16) * 2 ^ k ≡ bit_xor (l * 2 ^ k) (h * (16 * 2 ^ k))
raised l h k = xor-shl l (h * 16) k ∙ ap (bit_xor (l * 2 ^ k)) (mul_assoc h 16 (2 ^ k))

fours : {p q r s p' q' r' s' : ℕ} → p ≡ p' → q ≡ q' → r ≡ r' → s ≡ s' → four p q r s ≡ four p' q' r' s'
fours e f g h = ap₂ bit_xor (ap₂ bit_xor (ap₂ bit_xor e f) g) h

-- the masks leave bit i of both words
module _ (i : ℕ) (e : bit_and (fifteens / 2 ^ i) elevens ≡ ones) (f : bit_and (fifteens * 16 / 2 ^ i) elevens ≡ ones * 16) where
  stacked-at : (l h : ℕ) → bit_and (stacked l h / 2 ^ i) elevens ≡ bit_xor (nth i l) (nth i h * 16)
  stacked-at l h = laid-at 4 fifteens elevens ones i e f l h

  out-is : (s : Outs) → out_at (λ (x : ℕ). x / 2 ^ i) (outs s) ≡ weighed 0x6363636363636363 weights (map (nth i) (outs s))
  out-is s =
      ap (bit_xor 0x6363636363636363)
      (fours (stacked-at s.s7 s.s3 ∙ ap (λ (x : ℕ). bit_xor x (nth i s.s3 * 16)) (sym (mul-one (nth i s.s7))))
      (ap (λ (x : ℕ). x * 2) (stacked-at s.s6 s.s2) ∙ raised (nth i s.s6) (nth i s.s2) 1)
      (ap (λ (x : ℕ). x * 4) (stacked-at s.s5 s.s1) ∙ raised (nth i s.s5) (nth i s.s1) 2)
      (ap (λ (x : ℕ). x * 8) (stacked-at s.s4 s.s0) ∙ raised (nth i s.s4) (nth i s.s0) 3))
      ∙ flat 0x6363636363636363 (nth i s.s7 * 1) (nth i s.s3 * 16) (nth i s.s6 * 2) (nth i s.s2 * 32)
      (nth i s.s5 * 4) (nth i s.s1 * 64) (nth i s.s4 * 8) (nth i s.s0 * 128)

  out-single : (w : ℕ) (x : List ℕ) (s : Outs) → outs s ≡ circuit x → map (nth i) x ≡ map first (bits_of w) → out_at (λ (x : ℕ). x / 2 ^ i) (outs s) ≡ single w
  out-single w x s o n =
      out-is s ∙ ap (weighed 0x6363636363636363 weights) (ap (map (nth i)) o ∙ outs-at i x (bits_of w) n)
      ∙ weighed-pack 0x6363636363636363 weights (circuit (bits_of w))

-- s is what the circuit makes of the three words
module _ (a b c : ℕ) (s : Outs) (o : outs s ≡ circuit (planes a b c)) where
  -- the word that comes out at bit i, where w stands there in all planes
  out_of : (i w : ℕ) → bit_and (fifteens / 2 ^ i) elevens ≡ ones → bit_and (fifteens * 16 / 2 ^ i) elevens ≡ ones * 16
      → Holds i w (side_by_side a b c 0) → Holds i (w / 2) (side_by_side (a / 2) (b / 2) (c / 2) 0) → Holds i (w / 4) (side_by_side (a / 4) (b / 4) (c / 4) 0)
      → Holds i (w / 8) (side_by_side (a / 8) (b / 8) (c / 8) 0) → out_at (λ (x : ℕ). x / 2 ^ i) (outs s) ≡ single w
  out_of i w e f g h j k = out-single i e f w (planes a b c) s o (planes-at i w _ _ _ _ g h j k)

  first_out-is : first_out (outs s) ≡ single a
  first_out-is =
      let plain : first_out (outs s) ≡ out_at (λ (x : ℕ). x / 1) (outs s) = simp div-one in
      plain ∙ out_of 0 a refl refl (side-first a b c 0) (side-first (a / 2) (b / 2) (c / 2) 0) (side-first (a / 4) (b / 4) (c / 4) 0) (side-first (a / 8) (b / 8) (c / 8) 0)

  second_out-is : second_out (outs s) ≡ single b
  second_out-is = out_of 1 b refl refl (side-second a b c 0) (side-second (a / 2) (b / 2) (c / 2) 0) (side-second (a / 4) (b / 4) (c / 4) 0) (side-second (a / 8) (b / 8) (c / 8) 0)

  third_out-is : third_out (outs s) ≡ single c
  third_out-is = out_of 2 c refl refl (side-third a b c 0) (side-third (a / 2) (b / 2) (c / 2) 0) (side-third (a / 4) (b / 4) (c / 4) 0) (side-third (a / 8) (b / 8) (c / 8) 0)

  pub triple-halves : {x y z : ℕ} → x ≡ first_out (outs s) → y ≡ second_out (outs s) → z ≡ third_out (outs s)
      → OnHalves sub_word a x × OnHalves sub_word b y × OnHalves sub_word c z
  triple-halves p q r = rw (p ∙ first_out-is, q ∙ second_out-is, r ∙ third_out-is) (single-halves a, single-halves b, single-halves c)
