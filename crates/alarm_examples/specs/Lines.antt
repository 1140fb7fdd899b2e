-- Lines, good and bad.
use Rattle.std.specs.Prelude.{◌&&◌, not, List, [], ◌∷◌, ◌++◌, eqb, leb, replicate}
use Rattle.digits.specs.Digits.{chars}
use Rattle.alarms.specs.Line.{good_line}
use Rattle.alarm_examples.specs.Table.{Row, alarm, bad, swept, agree, among, hex_digits, hex, line}

-- each byte of the record has its place, high bytes first; a name of 1 and of 32 bytes, with any bytes
abbrev pub alarms-read : List Row
alarms-read =
    alarm (line "a" "0000000101010005") (1 ∷ 1 ∷ 1 ∷ 5 ∷ [])
    ∷ alarm (line "north barn" "123456782006FFFF") (305419896 ∷ 32 ∷ 6 ∷ 65535 ∷ [])
    ∷ alarm (line "mill" "FFFFFFFF02030100") (4294967295 ∷ 2 ∷ 3 ∷ 256 ∷ [])
    ∷ alarm (line "mill" "000000001F05ABCD") (0 ∷ 31 ∷ 5 ∷ 43981 ∷ [])
    ∷ alarm (replicate 32 0x78 ++ line "" "0000000A0A060000") (10 ∷ 10 ∷ 6 ∷ 0 ∷ [])
    ∷ alarm (0 ∷ 0x0D ∷ 0x20 ∷ 0x7F ∷ 0xFF ∷ line "" "0000000101010005") (1 ∷ 1 ∷ 1 ∷ 5 ∷ [])
    ∷ []

abbrev pub bad-lines : List Row
bad-lines =
    bad []
    ∷ bad (chars "mill")
    ∷ bad (chars "0000000101010005")
    ∷ bad (line "" "0000000101010005")
    ∷ bad (replicate 33 0x78 ++ line "" "0000000101010005")
    ∷ bad (line "mill" "")
    ∷ bad (line "mill" "000000010101000")
    ∷ bad (line "mill" "00000001010100050")
    ∷ bad (line "mill" "00000000101010005")
    ∷ bad (line "mill" "00000001010100a5")
    ∷ bad (line "mill" "0000000101010005" ++ (0x0D ∷ []))
    ∷ bad (line "mill" "0000000101010005" ++ (9 ∷ []))
    ∷ bad (line "mill" "" ++ line "" "0000000101010005")
    ∷ bad (line "mill" " 000000101010005")
    ∷ []

-- lines 1 to 32 and kinds 1 to 6 of all bytes; all bytes as a name, and as each digit at an end
abbrev pub every_byte : List Row
every_byte =
    swept 256 (λ b. agree (good_line (line "a" "00000001" ++ (hex b ++ chars "010005"))) (leb 1 b && leb b 32))
    ∷ swept 256 (λ b. agree (good_line (line "a" "0000000101" ++ (hex b ++ chars "0005"))) (leb 1 b && leb b 6))
    ∷ swept 256 (λ b. agree (good_line (b ∷ line "" "0000000101010005")) (not (eqb b 9)))
    ∷ swept 256 (λ b. agree (good_line (line "a" "" ++ (b ∷ chars "000000101010005"))) (among hex_digits b))
    ∷ swept 256 (λ b. agree (good_line (line "a" "000000010101000" ++ (b ∷ []))) (among hex_digits b))
    ∷ []
