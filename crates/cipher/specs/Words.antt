-- A column of the state, or of a round key, as one number of 32 bits: its bytes, the first the lowest. Two columns as one of 64 bits.
-- Assumes nothing.
use Rattle.std.specs.Prelude.{◌≡◌, ℕ, ◌+◌, ◌*◌, ◌/◌, ◌%◌, Bool, cond, List, [], ◌∷◌, ◌++◌, get_or}
use Rattle.std.specs.Int.Bits.{bit_xor, bit_and}
use Rattle.cipher.specs.declared.Block.{Block}
use Rattle.cipher.specs.MixColumns.{mix_column}
use Rattle.cipher.specs.KeyExpansion.{xor_word, sub_word, rot_word}

-- four columns
pub record Columns : Type 0 where
  pub a : ℕ
  pub b : ℕ
  pub c : ℕ
  pub d : ℕ

-- two words of two columns each, the first column the lower half
abbrev pub columns : Block → Columns
columns s = record { a = s.lo % 4294967296; b = s.lo / 4294967296; c = s.hi % 4294967296; d = s.hi / 4294967296 }

abbrev pub bytes : ℕ → List ℕ
bytes w = w % 256 ∷ w / 256 % 256 ∷ w / 65536 % 256 ∷ w / 16777216 % 256 ∷ []

abbrev pub word : ℕ → ℕ → ℕ → ℕ → ℕ
word a b c d = a + 256 * b + 65536 * c + 16777216 * d

-- the state of four columns
abbrev pub state : Columns → List ℕ
state s = bytes s.a ++ (bytes s.b ++ (bytes s.c ++ bytes s.d))

-- each byte moved one place down, the lowest to the top
abbrev pub turn24 : ℕ → ℕ
turn24 w = w % 256 * 16777216 + w / 256

-- bit 8 of each byte, as a byte 0 or 1
abbrev pub high_bits : ℕ → ℕ
high_bits w = word (w % 256 / 128) (w / 256 % 256 / 128) (w / 65536 % 256 / 128) (w / 16777216 % 256 / 128)

-- the same of two columns
abbrev pub high_halves : ℕ → ℕ
high_halves w = high_bits (w / 4294967296) * 4294967296 + high_bits (w % 4294967296)

-- MixColumns of a column
abbrev pub mix_word : List ℕ → List ℕ
mix_word w = mix_column (get_or w 0 0) (get_or w 1 0) (get_or w 2 0) (get_or w 3 0)

-- the same in all rounds but the last
abbrev pub mix_unless : Bool → List ℕ → List ℕ
mix_unless last w = cond last w (mix_word w)

-- both columns of r are f of those of w
pub record OnHalves (f : List ℕ → List ℕ) (w r : ℕ) : Type 0 where
  pub first : bytes (r % 4294967296) ≡ f (bytes (w % 4294967296))
  pub second : bytes (r / 4294967296) ≡ f (bytes (w / 4294967296))

-- the bits of w where m has a 1, and else those of v
abbrev pub merge : ℕ → ℕ → ℕ → ℕ
merge v w m = bit_xor v (bit_and (bit_xor v w) m)

-- what is added to the first word of a round key, from its last word
abbrev pub key_core : ℕ → List ℕ → List ℕ
key_core rc w = xor_word (sub_word (rot_word w)) (rc ∷ 0 ∷ 0 ∷ 0 ∷ [])

-- the round key after k, with the round constant rc: KeyExpansion's words, four at a time
pub record NextKey (rc : ℕ) (k next : Columns) : Type 0 where
  pub first : bytes next.a ≡ xor_word (bytes k.a) (key_core rc (bytes k.d))
  pub second : bytes next.b ≡ xor_word (bytes k.b) (bytes next.a)
  pub third : bytes next.c ≡ xor_word (bytes k.c) (bytes next.b)
  pub fourth : bytes next.d ≡ xor_word (bytes k.d) (bytes next.c)
