-- Numbers in decimal without leading zeros, bytes in upper-case hex or -, and what a digit stands for.
use Rattle.std.specs.Prelude.{ℕ, zero, suc, ◌+◌, ◌-◌, ◌*◌, ◌/◌, ◌%◌, cond, ◌&&◌, List, [], ◌∷◌, ◌++◌, leb, ltb}
use Prim.Native.Char.{code}
use Prim.Native.String.{String, [] as []ᶜ, ◌∷◌ as ◌∷ᶜ◌}

-- what ends a field, and what ends a line
abbrev pub tab : ℕ
tab = 9

abbrev pub newline : ℕ
newline = 10

-- characters by their numbers in ASCII
abbrev pub chars : String → List ℕ
chars []ᶜ = []
chars (c ∷ᶜ s) = code c ∷ chars s

-- a text and a byte behind it
abbrev pub ended : ℕ → List ℕ → List ℕ
ended b text = text ++ (b ∷ [])

-- the last decimal digit
abbrev pub last_digit : ℕ → ℕ
last_digit n = 48 + n % 10

-- the digits of a number below 10 ^ (k + 1), without leading zeros: those of its tens, and the last
unfoldable pub digits_in : ℕ → ℕ → List ℕ
digits_in zero n = last_digit n ∷ []
digits_in (suc k) n = cond (ltb n 10) (last_digit n ∷ []) (ended (last_digit n) (digits_in k (n / 10)))

-- a number in decimal: twenty digits are enough for 64 bits, and no number of the code has more
unfoldable pub decimal : ℕ → List ℕ
decimal n = digits_in 19 n

-- a digit below 16
unfoldable pub hex_digit : ℕ → ℕ
hex_digit n = cond (ltb n 10) (48 + n) (55 + n)

abbrev pub hex_byte : ℕ → List ℕ
hex_byte b = hex_digit (b / 16) ∷ hex_digit (b % 16) ∷ []

unfoldable pub hex_of : List ℕ → List ℕ
hex_of [] = []
hex_of (b ∷ bs) = hex_byte b ++ hex_of bs

abbrev pub dash : List ℕ
dash = 45 ∷ []

-- upper-case hex, or - for none
unfoldable pub or_dash : List ℕ → List ℕ
or_dash [] = dash
or_dash (b ∷ bs) = hex_of (b ∷ bs)

-- what a digit stands for, 0 to 9 or upper-case A to F; 16 for any other byte
unfoldable pub value : ℕ → ℕ
value b = cond (leb 0x30 b && leb b 0x39) (b - 0x30) (cond (leb 0x41 b && leb b 0x46) (b - 0x37) 16)

-- two digits are a byte; what is no digit is cut to size
abbrev pub hex_pair : ℕ → ℕ → ℕ
hex_pair a b = (value a * 16 + value b) % 256
