-- Hex and numbers: both sides of each edge, in each field, and every byte as a digit.
use Rattle.std.specs.Prelude.{ℕ, ◌+◌, ◌%◌, Bool, true, false, ◌&&◌, not, List, [], ◌∷◌, ◌++◌, eqb, replicate}
use Rattle.lines.specs.Grammar.{is_hex, is_limit, is_issue}
use Rattle.digits.specs.Digits.{chars}
use Rattle.line_examples.specs.Table.{Row, sent, other, swept, agree, among, parted, text, kind}
use Rattle.line_examples.specs.Fields.{but, but_chars}

-- so many digits of 0 and bytes of 00
abbrev pub zeros : ℕ → List ℕ
zeros n = replicate n 0x30

-- up to 300 bytes, in each of the four fields; two digits a byte, and no lower case
abbrev pub hex-edges : List Row
hex-edges =
    sent (parted (chars "CMD" ∷ zeros 600 ∷ [] ∷ [])) (replicate 300 0) []
    ∷ sent (parted (chars "CMD" ∷ [] ∷ zeros 600 ∷ [])) [] (replicate 300 0)
    ∷ other (parted (chars "CMD" ∷ zeros 602 ∷ [] ∷ [])) ∷ other (parted (chars "CMD" ∷ [] ∷ zeros 602 ∷ []))
    ∷ swept 1 (λ n. eqb (kind (but 1 (zeros 600))) 1) ∷ other (but 1 (zeros 602)) ∷ swept 1 (λ n. eqb (kind (but 8 (zeros 600))) 1) ∷ other (but 8 (zeros 602))
    ∷ other (text ("CMD" ∷ "123" ∷ "" ∷ [])) ∷ other (text ("CMD" ∷ "" ∷ "123" ∷ [])) ∷ other (text ("CMD" ∷ "1" ∷ "2" ∷ [])) ∷ other (but_chars 1 "0A0") ∷ other (but_chars 8 "1")
    ∷ other (text ("CMD" ∷ "0a" ∷ "" ∷ [])) ∷ other (text ("CMD" ∷ "" ∷ "0f" ∷ [])) ∷ other (but_chars 1 "0a0b") ∷ other (but_chars 8 "c0DE0F")
    ∷ sent (text ("CMD" ∷ "0123456789ABCDEF" ∷ "FEDCBA9876543210" ∷ [])) (0x01 ∷ 0x23 ∷ 0x45 ∷ 0x67 ∷ 0x89 ∷ 0xAB ∷ 0xCD ∷ 0xEF ∷ []) (0xFE ∷ 0xDC ∷ 0xBA ∷ 0x98 ∷ 0x76 ∷ 0x54 ∷ 0x32 ∷ 0x10 ∷ [])
    ∷ []

-- every byte as the first and as the second digit, each length up to 20, and every number of digits around 600
abbrev pub hex-digits : List ℕ
hex-digits = chars "0123456789ABCDEF"

abbrev pub even : ℕ → Bool
even n = eqb (n % 2) 0

abbrev pub every-hex-digit : List Row
every-hex-digit =
    swept 256 (λ b. agree (among hex-digits b) (is_hex (0x41 ∷ b ∷ [])) && agree (among hex-digits b) (is_hex (b ∷ 0x39 ∷ [])))
    ∷ swept 21 (λ n. agree (even n) (is_hex (replicate n 0x46)))
    ∷ swept 6 (λ n. agree (among (0 ∷ 2 ∷ []) n) (is_hex (zeros (598 + n))))
    ∷ []

-- 0 or decimal without leading zeros, up to 65,535, in each of the five fields
abbrev pub each_number : List ℕ → Bool → ℕ → Bool
each_number f is n = agree is (is_issue (but n f))

abbrev pub number-in-each : List ℕ → Bool → Row
number-in-each f is = swept 1 (λ _. each_number f is 2 && (each_number f is 4 && (each_number f is 6 && (each_number f is 7 && each_number f is 9))))

abbrev pub number-edges : List Row
number-edges =
    number-in-each (chars "0") true ∷ number-in-each (chars "1") true ∷ number-in-each (chars "9") true ∷ number-in-each (chars "10") true ∷ number-in-each (chars "100") true
    ∷ number-in-each (chars "65535") true ∷ number-in-each (chars "65536") false ∷ number-in-each (chars "65540") false ∷ number-in-each (chars "70000") false
    ∷ number-in-each (chars "99999") false ∷ number-in-each (chars "100000") false ∷ number-in-each (chars "131073") false ∷ number-in-each (chars "4294967297") false
    ∷ number-in-each (chars "18446744073709551617") false
    ∷ number-in-each [] false ∷ number-in-each (chars "00") false ∷ number-in-each (chars "01") false ∷ number-in-each (chars "010") false ∷ number-in-each (chars "065535") false
    ∷ number-in-each (chars "000000") false
    ∷ number-in-each (chars "+3") false ∷ number-in-each (chars "-3") false ∷ number-in-each (chars " 3") false ∷ number-in-each (chars "3 ") false ∷ number-in-each (chars "1A") false
    ∷ number-in-each (chars "A") false ∷ number-in-each (chars "0x3") false ∷ number-in-each (chars "3.0") false
    ∷ []

-- every byte as the first, the second and the only digit
abbrev pub every-decimal-digit : List Row
every-decimal-digit =
    swept 256 (λ b. agree (among (chars "0123456789") b) (is_limit (b ∷ [])) && (agree (among (chars "0123456789") b) (is_limit (0x31 ∷ b ∷ []))
    && agree (among (chars "123456789") b) (is_limit (b ∷ 0x37 ∷ []))))
    ∷ []

-- a PIN takes every byte but tab; so does no word
abbrev pub every-pin-byte : List Row
every-pin-byte =
    swept 256 (λ b. agree (not (eqb b 9)) (is_issue (but 3 (b ∷ []))) && agree (not (eqb b 9)) (is_issue (but 5 (0x31 ∷ b ∷ []))))
    ∷ swept 256 (λ b. eqb (kind (chars "RESET" ++ (b ∷ []))) 0 && eqb (kind (b ∷ chars "RESET")) 0)
    ∷ []
