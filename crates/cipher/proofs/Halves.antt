-- Words of two columns: the columns under sums, masks and moves.
-- Assumes nothing.
use mathlib.Core.Path.{◌≡◌, refl, ap, ap₂, sym, ◌∙◌, subst⁻¹}
use mathlib.Core.Bool.{Bool, true, false}
use mathlib.Core.List.{List, [], ◌∷◌, ◌++◌, map}
use Prim.Native.Nat.{ℕ, ◌+◌, ◌-◌, ◌*◌, ◌/◌, ◌%◌, ◌<◌, ◌≤◌, ◌^◌}
use native.Mathlib.Nat.{mod-mod, mod-lt, mod-eq_of_lt, div-eq_of_lt, lt_trans, lt_of_le_of_lt}
use native.Mathlib.Omega.{arith}
use borrow.Author.Tests.{eq-eqb, ne_eqb}
use lib.Bits.{bit_xor, bit_and, xor_shr, xor_mod, and_shr, and_mod, and_mask, and_le_r, and_zero_r, xor_zero_r, xor_lt}
use lib.Arith.{digits_lt, digits_div, digits_mod}
use lib.Dec.{lit<, eqb}
use lib.ListN.{get_or, take, drop}
use lib.Pow.{split, field, mod-mod-pow, shr_lt, shr-shr}
use Rattle.cipher.specs.declared.Block.{Block}
use Rattle.std.specs.Int.{w32, rotate_right}
use Rattle.cipher.specs.Field.{xtime}
use Rattle.cipher.specs.ShiftRows.{shift_rows}
use Rattle.cipher.specs.AddRoundKey.{add_round_key}
use Rattle.cipher.specs.KeyExpansion.{xor_word, sub_word, rot_word}
use Rattle.cipher.specs.Cipher.{full_round, last_round}
use Rattle.cipher.specs.Words.{columns, bytes, state, high_bits, high_halves, merge, mix_word, key_core, NextKey, mix_unless, OnHalves}
use Rattle.cipher.proofs.Bits.{xor-back}
use Rattle.cipher.proofs.Substitution.{low}
use Rattle.cipher.proofs.Bytes.{four, sum, bytes-turned, high-bits, high_fits, low_fits, doubled-bytes, mixed-bytes}
use Rattle.cipher.proofs.States.{any_round, join, constant}

-- both columns of r are f of those of v and w
pub record OfHalves (f : List ℕ → List ℕ → List ℕ) (v w r : ℕ) : Type 0 where
  pub first : bytes (r % 4294967296) ≡ f (bytes (v % 4294967296)) (bytes (w % 4294967296))
  pub second : bytes (r / 4294967296) ≡ f (bytes (v / 4294967296)) (bytes (w / 4294967296))

-- ---- a byte of x where the mask is 0, and of y where it is 255
module _ (x y m : ℕ) where
  kept : m % 256 ≡ 0 → merge x y m % 256 ≡ x % 256
  kept e =
      xor_mod x (bit_and (bit_xor x y) m) 8
      ∙ ap (bit_xor (x % 256)) (and_mod (bit_xor x y) m 8 ∙ ap (bit_and (bit_xor x y % 256)) e ∙ and_zero_r (bit_xor x y % 256))
      ∙ xor_zero_r (x % 256)

  taken : m % 256 ≡ 255 → merge x y m % 256 ≡ y % 256
  taken e =
      xor_mod x (bit_and (bit_xor x y) m) 8
      ∙ ap (bit_xor (x % 256))
      (and_mod (bit_xor x y) m 8 ∙ ap (bit_and (bit_xor x y % 256)) e ∙ and_mask (bit_xor x y % 256) 8 ∙ mod-mod (bit_xor x y) 256 ∙ xor_mod x y 8)
      ∙ xor-back (x % 256) (y % 256)

  merge-shr : (k : ℕ) → merge x y m / 2 ^ k ≡ merge (x / 2 ^ k) (y / 2 ^ k) (m / 2 ^ k)
  merge-shr k =
      xor_shr x (bit_and (bit_xor x y) m) k
      ∙ ap (bit_xor (x / 2 ^ k)) (and_shr (bit_xor x y) m k ∙ ap (λ (z : ℕ). bit_and z (m / 2 ^ k)) (xor_shr x y k))

  merge-mod : (k : ℕ) → merge x y m % 2 ^ k ≡ merge (x % 2 ^ k) (y % 2 ^ k) (m % 2 ^ k)
  merge-mod k =
      xor_mod x (bit_and (bit_xor x y) m) k
      ∙ ap (bit_xor (x % 2 ^ k)) (and_mod (bit_xor x y) m k ∙ ap (λ (z : ℕ). bit_and z (m % 2 ^ k)) (xor_mod x y k))

low_byte : {a b c : ℕ} → a ≡ b → b % 256 ≡ c → a % 256 ≡ c
low_byte e f = ap (λ (z : ℕ). z % 256) e ∙ f

-- two bytes of a column and two of another
abbrev upper_rows : List ℕ → List ℕ → List ℕ
upper_rows v w = get_or v 0 0 ∷ get_or v 1 0 ∷ get_or w 2 0 ∷ get_or w 3 0 ∷ []

abbrev even_rows : List ℕ → List ℕ → List ℕ
even_rows v w = get_or v 0 0 ∷ get_or w 1 0 ∷ get_or v 2 0 ∷ get_or w 3 0 ∷ []

upper-column : (x y : ℕ) → bytes (merge x y 0xffff0000) ≡ upper_rows (bytes x) (bytes y)
upper-column x y =
    four (kept x y 0xffff0000 refl) (low_byte (merge-shr x y 0xffff0000 8) (kept (x / 256) (y / 256) 0xffff00 refl))
    (low_byte (merge-shr x y 0xffff0000 16) (taken (x / 65536) (y / 65536) 0xffff refl))
    (low_byte (merge-shr x y 0xffff0000 24) (taken (x / 16777216) (y / 16777216) 0xff refl))

even-column : (x y : ℕ) → bytes (merge x y 0xff00ff00) ≡ even_rows (bytes x) (bytes y)
even-column x y =
    four (kept x y 0xff00ff00 refl) (low_byte (merge-shr x y 0xff00ff00 8) (taken (x / 256) (y / 256) 0xff00ff refl))
    (low_byte (merge-shr x y 0xff00ff00 16) (kept (x / 65536) (y / 65536) 0xff00 refl))
    (low_byte (merge-shr x y 0xff00ff00 24) (taken (x / 16777216) (y / 16777216) 0xff refl))

upper_halves : (a b : ℕ) {r : ℕ} → r ≡ merge a b 0xffff0000ffff0000 → OfHalves upper_rows a b r
upper_halves a b e = rw e (record {
  first = ap bytes (merge-mod a b 0xffff0000ffff0000 32) ∙ upper-column (a % 4294967296) (b % 4294967296);
  second = ap bytes (merge-shr a b 0xffff0000ffff0000 32) ∙ upper-column (a / 4294967296) (b / 4294967296);
})

even-halves : (a b : ℕ) {r : ℕ} → r ≡ merge a b 0xff00ff00ff00ff00 → OfHalves even_rows a b r
even-halves a b e = rw e (record {
  first = ap bytes (merge-mod a b 0xff00ff00ff00ff00 32) ∙ even-column (a % 4294967296) (b % 4294967296);
  second = ap bytes (merge-shr a b 0xff00ff00ff00ff00 32) ∙ even-column (a / 4294967296) (b / 4294967296);
})

-- ---- ShiftRows
pub shifted-rows : (s r : Block) (a b x y : ℕ) → a ≡ merge s.lo s.hi 0xffff0000ffff0000 → b ≡ merge s.hi s.lo 0xffff0000ffff0000
    → (x % 4294967296 ≡ a / 4294967296) × (x / 4294967296 ≡ b % 4294967296) → (y % 4294967296 ≡ b / 4294967296) × (y / 4294967296 ≡ a % 4294967296)
    → r.lo ≡ merge a x 0xff00ff00ff00ff00 → r.hi ≡ merge b y 0xff00ff00ff00ff00 → state (columns r) ≡ shift_rows (state (columns s))
shifted-rows s r a b x y i j e f k l =
    let p : OfHalves upper_rows s.lo s.hi a = upper_halves s.lo s.hi i in
    let q : OfHalves upper_rows s.hi s.lo b = upper_halves s.hi s.lo j in
    let g : OfHalves even_rows a x r.lo = even-halves a x k in
    let h : OfHalves even_rows b y r.hi = even-halves b y l in
    join (g.first ∙ ap₂ even_rows p.first (ap bytes e.0 ∙ p.second)) (g.second ∙ ap₂ even_rows p.second (ap bytes e.1 ∙ q.first))
    (h.first ∙ ap₂ even_rows q.first (ap bytes f.0 ∙ q.second)) (h.second ∙ ap₂ even_rows q.second (ap bytes f.1 ∙ p.first))

-- ---- AddRoundKey
xor-halves : (x y : ℕ) → OfHalves xor_word x y (bit_xor x y)
xor-halves x y = record {
  first = ap bytes (xor_mod x y 32) ∙ sum (x % 4294967296) (y % 4294967296) refl refl;
  second = ap bytes (xor_shr x y 32) ∙ sum (x / 4294967296) (y / 4294967296) refl refl;
}

pub added-blocks : (s k : Block)
    → state (columns (record { lo = bit_xor s.lo k.lo; hi = bit_xor s.hi k.hi })) ≡ add_round_key (state (columns s)) (state (columns k))
added-blocks s k =
    join (xor-halves s.lo k.lo).first (xor-halves s.lo k.lo).second (xor-halves s.hi k.hi).first (xor-halves s.hi k.hi).second

-- ---- a round
-- the words w and v after MixColumns, in all rounds but the last
pub more-mixed : (w v : ℕ) {n x y : ℕ} → (n ≡ 9 → ⊥) → OnHalves mix_word w x → OnHalves mix_word v y
    → OnHalves (mix_unless (eqb n 9)) w x × OnHalves (mix_unless (eqb n 9)) v y
more-mixed w v e p q = rw (ne_eqb _ _ e) (record { first = p.first; second = p.second }, record { first = q.first; second = q.second })

pub last-mixed : (w v : ℕ) {n : ℕ} → n ≡ 9 → OnHalves (mix_unless (eqb n 9)) w w × OnHalves (mix_unless (eqb n 9)) v v
last-mixed w v e = rw (eq-eqb _ _ e) (record { first = refl; second = refl }, record { first = refl; second = refl })

-- a round's work on a column after ShiftRows
abbrev round_column : Bool → List ℕ → List ℕ
round_column last w = mix_unless last (sub_word w)

round-column : (last : Bool) {w t r : ℕ} → OnHalves sub_word w t → OnHalves (mix_unless last) t r → OnHalves (round_column last) w r
round-column last p q = record { first = q.first ∙ ap (mix_unless last) p.first; second = q.second ∙ ap (mix_unless last) p.second }

-- the four columns of a state, each by itself
abbrev each_column : Bool → List ℕ → List ℕ
each_column last l =
    round_column last (take 4 l) ++ (round_column last (take 4 (drop 4 l)) ++ (round_column last (take 4 (drop 8 l)) ++ round_column last (take 4 (drop 12 l))))

column-by-column : (last : Bool) (s : Block) (k : List ℕ) → add_round_key (each_column last (shift_rows (state (columns s)))) k ≡ any_round last (state (columns s)) k
unfolding full_round last_round
column-by-column true s k = refl
column-by-column false s k = refl

pub whole-round : (last : Bool) (s k t m r : Block) {x y : ℕ} → state (columns t) ≡ shift_rows (state (columns s)) → OnHalves sub_word t.lo x → OnHalves sub_word t.hi y
    → OnHalves (mix_unless last) x m.lo × OnHalves (mix_unless last) y m.hi
    → state (columns r) ≡ add_round_key (state (columns m)) (state (columns k)) → state (columns r) ≡ any_round last (state (columns s)) (state (columns k))
whole-round last s k t m r p q h o e =
    let f : OnHalves (round_column last) t.lo m.lo = round-column last q o.0 in
    let g : OnHalves (round_column last) t.hi m.hi = round-column last h o.1 in
    e ∙ ap (λ (l : List ℕ). add_round_key l (state (columns k))) (join f.first f.second g.first g.second ∙ ap (each_column last) p)
    ∙ column-by-column last s (state (columns k))

pub upper-small : (a : ℕ) → a < 18446744073709551616 → a / 4294967296 < 4294967296
upper-small a h = shr_lt 32 32 h

pub lower-small : (a : ℕ) → a % 4294967296 < 4294967296
lower-small a = mod-lt a (lit< tt)

-- ---- the next round key
-- the lower column moved to the upper, and added to it
lifted : (l : ℕ) → l * 4294967296 % 18446744073709551616 ≡ l % 4294967296 * 4294967296
lifted l = omega arith

abbrev spread : ℕ → ℕ
spread l = bit_xor l (l * 4294967296 % 18446744073709551616)

spread-low : (l : ℕ) → spread l % 4294967296 ≡ l % 4294967296
spread-low l =
    xor_mod l (l * 4294967296 % 18446744073709551616) 32 ∙ ap (bit_xor (l % 4294967296)) (omega arith) ∙ xor_zero_r (l % 4294967296)

spread-high : (l : ℕ) → spread l / 4294967296 ≡ bit_xor (l / 4294967296) (l % 4294967296)
spread-high l = xor_shr l (l * 4294967296 % 18446744073709551616) 32 ∙ ap (bit_xor (l / 4294967296)) (omega arith)

module _ (x g : ℕ) (h : g < 4294967296) where
  added-low : bit_xor x g % 4294967296 ≡ bit_xor (x % 4294967296) g
  added-low = xor_mod x g 32 ∙ ap (bit_xor (x % 4294967296)) (mod-eq_of_lt h)

  added-high : bit_xor x g / 4294967296 ≡ x / 4294967296
  added-high = xor_shr x g 32 ∙ ap (bit_xor (x / 4294967296)) (div-eq_of_lt h) ∙ xor_zero_r (x / 4294967296)

module _ (k : Block) (g rc : ℕ) (hk : k.lo < 18446744073709551616) (hg : g < 4294967296) (e : bytes g ≡ key_core rc (bytes (k.hi / 4294967296))) where
  abbrev key_lo : ℕ
  key_lo = spread (bit_xor k.lo g)

  abbrev key_hi : ℕ
  key_hi = spread (bit_xor k.hi (key_lo / 4294967296))

  small : key_lo / 4294967296 < 4294967296
  small =
      let l : bit_xor k.lo g < 18446744073709551616 = xor_lt 64 k.lo g hk (lt_trans hg (lit< tt)) in
      upper-small key_lo (xor_lt 64 (bit_xor k.lo g) (bit_xor k.lo g * 4294967296 % 18446744073709551616) l (omega arith))

  pub key-follows : NextKey rc (columns k) (columns (record { lo = key_lo; hi = key_hi }))
  key-follows =
      let lowest : key_lo % 4294967296 ≡ bit_xor (k.lo % 4294967296) g = spread-low (bit_xor k.lo g) ∙ added-low k.lo g hg in
      let third : key_hi % 4294967296 ≡ bit_xor (k.hi % 4294967296) (key_lo / 4294967296) =
      spread-low (bit_xor k.hi (key_lo / 4294967296)) ∙ added-low k.hi (key_lo / 4294967296) small in
      record {
        first = ap bytes lowest ∙ sum (k.lo % 4294967296) g refl e;
        second =
            ap bytes (spread-high (bit_xor k.lo g) ∙ ap₂ bit_xor (added-high k.lo g hg) (sym (spread-low (bit_xor k.lo g))))
            ∙ sum (k.lo / 4294967296) (key_lo % 4294967296) refl refl;
        third = ap bytes third ∙ sum (k.hi % 4294967296) (key_lo / 4294967296) refl refl;
        fourth =
            ap bytes (spread-high (bit_xor k.hi (key_lo / 4294967296))
            ∙ ap₂ bit_xor (added-high k.hi (key_lo / 4294967296) small) (sym (spread-low (bit_xor k.hi (key_lo / 4294967296)))))
            ∙ sum (k.hi / 4294967296) (key_hi % 4294967296) refl refl;
      }

-- what is added to the first column, from the word t that the S-box gave and u, its turn: RotWord and SubWord go in either order
pub core-half : (t u v rc : ℕ) → rc < 256 → OnHalves rot_word t u → v ≡ u % 4294967296
    → bytes (bit_xor v rc) ≡ xor_word (rot_word (bytes (t % 4294967296))) (rc ∷ 0 ∷ 0 ∷ 0 ∷ [])
core-half t u v rc g p e = sum v rc (ap bytes e ∙ p.first) (constant rc g)

pub core-key : (h t g rc : ℕ) → h < 18446744073709551616 → OnHalves sub_word (h / 4294967296) t → bytes g ≡ xor_word (rot_word (bytes (t % 4294967296))) (rc ∷ 0 ∷ 0 ∷ 0 ∷ [])
    → bytes g ≡ key_core rc (bytes (h / 4294967296))
core-key h t g rc hh p e =
    e ∙ ap (λ (l : List ℕ). xor_word (rot_word l) (rc ∷ 0 ∷ 0 ∷ 0 ∷ [])) (p.first ∙ ap (λ (x : ℕ). sub_word (bytes x)) (mod-eq_of_lt (upper-small h hh)))

-- ---- MixColumns of both columns
-- each column turned
pub turned-halves : (w l h m n r : ℕ) → w < 18446744073709551616 → l ≡ w % 4294967296 → m ≡ rotate_right w32 l 8 → h ≡ w / 4294967296 → n ≡ rotate_right w32 h 8
    → (r % 4294967296 ≡ m) × (r / 4294967296 ≡ n) → OnHalves rot_word w r
turned-halves w l h m n r g p a q b e = record {
  first = ap bytes (e.0 ∙ a ∙ ap (λ (x : ℕ). rotate_right w32 x 8) p) ∙ bytes-turned (w % 4294967296) (lower-small w);
  second = ap bytes (e.1 ∙ b ∙ ap (λ (x : ℕ). rotate_right w32 x 8) q) ∙ bytes-turned (w / 4294967296) (upper-small w g);
}

-- the bits of v under a mask of less than 25 bits
masked_low : (v : ℕ) → bit_and v 0x01010101 ≡ bit_and (v % 33554432) 0x01010101
masked_low v = sym (mod-eq_of_lt (lt_of_le_of_lt (and_le_r v 0x01010101) (lit< tt))) ∙ and_mod v 0x01010101 25

pub high-halves : (w : ℕ) → bit_and (w / 128) 0x0101010101010101 ≡ high_halves w
high-halves w =
    let above : bit_and (w / 128) 0x0101010101010101 / 4294967296 ≡ high_bits (w / 4294967296) =
    and_shr (w / 128) 0x0101010101010101 32
    ∙ ap (λ (v : ℕ). bit_and v 0x01010101) (shr-shr w 7 32 ∙ sym (shr-shr w 32 7)) ∙ high-bits (w / 4294967296) in
    let below : bit_and (w / 128) 0x0101010101010101 % 4294967296 ≡ high_bits (w % 4294967296) =
    and_mod (w / 128) 0x0101010101010101 32 ∙ masked_low (w / 128 % 4294967296)
    ∙ ap (λ (v : ℕ). bit_and v 0x01010101) (mod-mod-pow (w / 128) 7 25 ∙ sym (field w 25 7) ∙ sym (mod-eq_of_lt (shr_lt 25 7 (lower-small w))))
    ∙ sym (masked_low (w % 4294967296 / 128)) ∙ high-bits (w % 4294967296) in
    sym (split (bit_and (w / 128) 0x0101010101010101) 32) ∙ ap₂ (λ (x y : ℕ). x * 4294967296 + y) above below

-- each column less its high bits, doubled
apart : (l h p q : ℕ) → p * 128 ≤ l → q * 128 ≤ h → (h * 4294967296 + l - (q * 4294967296 + p) * 128) * 2 ≡ (h - q * 128) * 2 * 4294967296 + (l - p * 128) * 2
apart l h p q a b = omega arith

high_small : (w : ℕ) → high_bits w * 0x1b < 4294967296
high_small w = omega (arith, low w, low (w / 256), low (w / 65536), low (w / 16777216))

module _ (w : ℕ) (g : w < 18446744073709551616) where
  abbrev lo : ℕ
  lo = w % 4294967296

  abbrev hi : ℕ
  hi = w / 4294967296

  rest : (w - high_halves w * 128) * 2 ≡ (hi - high_bits hi * 128) * 2 * 4294967296 + (lo - high_bits lo * 128) * 2
  rest =
      ap (λ (v : ℕ). (v - high_halves w * 128) * 2) (sym (split w 32))
      ∙ apart lo hi (high_bits lo) (high_bits hi) (high_fits lo (lower-small w)) (high_fits hi (upper-small w g))

  back : high_halves w * 0x1b ≡ high_bits hi * 0x1b * 4294967296 + high_bits lo * 0x1b
  back = omega arith

  pub highs-fit : high_halves w * 128 ≤ w
  highs-fit = omega (arith, split w 32, high_fits lo (lower-small w), high_fits hi (upper-small w g))

  pub rest-fits : (w - high_halves w * 128) * 2 < 18446744073709551616
  rest-fits = subst⁻¹ (λ (v : ℕ). v < 18446744073709551616) rest (digits_lt (low_fits hi (upper-small w g)) (low_fits lo (lower-small w)))

  pub back_fits : high_halves w * 0x1b < 18446744073709551616
  back_fits = subst⁻¹ (λ (v : ℕ). v < 18446744073709551616) back (digits_lt (high_small hi) (high_small lo))

  pub doubled-halves : OnHalves (map xtime) w (bit_xor ((w - high_halves w * 128) * 2) (high_halves w * 0x1b))
  doubled-halves = record {
    first =
        ap bytes (xor_mod ((w - high_halves w * 128) * 2) (high_halves w * 0x1b) 32
        ∙ ap₂ bit_xor (ap (λ (v : ℕ). v % 4294967296) rest ∙ digits_mod ((hi - high_bits hi * 128) * 2) (low_fits lo (lower-small w)))
        (ap (λ (v : ℕ). v % 4294967296) back ∙ digits_mod (high_bits hi * 0x1b) (high_small lo)))
        ∙ doubled-bytes lo (lower-small w);
    second =
        ap bytes (xor_shr ((w - high_halves w * 128) * 2) (high_halves w * 0x1b) 32
        ∙ ap₂ bit_xor (ap (λ (v : ℕ). v / 4294967296) rest ∙ digits_div ((hi - high_bits hi * 128) * 2) (low_fits lo (lower-small w)))
        (ap (λ (v : ℕ). v / 4294967296) back ∙ digits_div (high_bits hi * 0x1b) (high_small lo)))
        ∙ doubled-bytes hi (upper-small w g);
  }

-- the column x, from its turn q, twice its sum y with that, and that sum turned twice, u
mixed-column : (x : ℕ) {q y u : List ℕ} → q ≡ rot_word (bytes x) → y ≡ map xtime (xor_word (bytes x) q) → u ≡ rot_word (rot_word (xor_word (bytes x) q))
    → xor_word (xor_word y q) u ≡ mix_word (bytes x)
mixed-column x p e f =
    ap₂ xor_word (ap₂ xor_word (e ∙ ap (λ (l : List ℕ). map xtime (xor_word (bytes x) l)) p) p) (f ∙ ap (λ (l : List ℕ). rot_word (rot_word (xor_word (bytes x) l))) p)
    ∙ mixed-bytes x

pub mixed-halves : (w q y v u : ℕ) → OnHalves rot_word w q → OnHalves (map xtime) (bit_xor w q) y → OnHalves rot_word (bit_xor w q) v → OnHalves rot_word v u
    → OnHalves mix_word w (bit_xor (bit_xor y q) u)
mixed-halves w q y v u p e f g =
    let t : OfHalves xor_word w q (bit_xor w q) = xor-halves w q in
    let s : OfHalves xor_word y q (bit_xor y q) = xor-halves y q in
    let r : OfHalves xor_word (bit_xor y q) u (bit_xor (bit_xor y q) u) = xor-halves (bit_xor y q) u in
    record {
      first =
          r.first ∙ ap (λ (l : List ℕ). xor_word l (bytes (u % 4294967296))) s.first
          ∙ mixed-column (w % 4294967296) p.first (e.first ∙ ap (map xtime) t.first) (g.first ∙ ap rot_word (f.first ∙ ap rot_word t.first));
      second =
          r.second ∙ ap (λ (l : List ℕ). xor_word l (bytes (u / 4294967296))) s.second
          ∙ mixed-column (w / 4294967296) p.second (e.second ∙ ap (map xtime) t.second) (g.second ∙ ap rot_word (f.second ∙ ap rot_word t.second));
    }

-- the four columns, one by one
pub parted : (s : Block) {a b c d : ℕ} → a ≡ s.lo % 4294967296 → b ≡ s.lo / 4294967296 → c ≡ s.hi % 4294967296 → d ≡ s.hi / 4294967296
    → bytes a ++ (bytes b ++ (bytes c ++ bytes d)) ≡ state (columns s)
parted s p q r t = join (ap bytes p) (ap bytes q) (ap bytes r) (ap bytes t)
