-- Refusals in their order, and what stays as it was.
use Rattle.std.specs.Prelude.{ℕ, ◌+◌, ◌*◌, false, List, [], ◌∷◌, ◌++◌, drop, replicate}
use Prim.Native.String.{String}
use Rattle.files.specs.State.{new_file, with_used}
use Rattle.rules.specs.declared.Card.{Card}
use Rattle.rules.specs.State.{blank_card, with_response}
use Rattle.texts.specs.Text.{new}
use Rattle.texts.specs.Calls.{to_text}
use Rattle.text_examples.specs.Bytes.{lines}
use Rattle.text_examples.specs.Table.{Row, unwritten, unread, swept, is, filler, writes}
use Rattle.text_examples.specs.Cards.{session, waits, told, holder}

-- a card whose text has 137 bytes
abbrev pub plain : Card
plain = holder (session 1 1 1 0 []) []

abbrev pub plain-text : List ℕ
plain-text = lines ("000102030405060708090A0B0C0D0E0F\t128\t128" ∷ "3837363534333231\t5\t5" ∷ "313233343536\t3\t3" ∷ "101112131415161718191A1B1C1D1E1F\t10\t10" ∷ "1\t1\t1\t-\t-\t0\t-\t3F00" ∷ [])

-- one that is not sound: a right is kept as 2
abbrev pub unsound : Card
unsound = holder (session 2 1 1 0 []) []

-- one that is sound with an area whose first byte is 02, and not with others
abbrev pub noted : Card
noted = holder (session 0 0 0 0 []) (with_used (new_file 0xA1 0x03 0x2C 0 8 0x40 0x40) 3 ∷ [])

-- one in which so many bytes wait, by the two bytes of their number, with the last of the 256
abbrev pub counts-waiting : ℕ → ℕ → ℕ → Card
counts-waiting count1 count2 last = with_response plain (record { mode = 1; count1 = count1; count2 = count2; bytes = replicate 255 0 ++ (last ∷ []) })

-- 2 data area not 4,096 bytes; 4 state not sound; 10 text buffer too short
abbrev pub writer-refuses : List Row
writer-refuses =
    unwritten plain [] 137 2
    ∷ unwritten plain (filler 4095) 137 2
    ∷ unwritten plain (filler 4097) 137 2
    -- 2 before 4 and before 10
    ∷ unwritten unsound (filler 4095) 137 2
    ∷ unwritten plain (filler 4097) 136 2
    ∷ unwritten unsound (filler 0) 0 2
    -- 4 before 10
    ∷ unwritten unsound (filler 4096) 9559 4
    ∷ unwritten unsound (filler 4096) 0 4
    ∷ unwritten blank_card (filler 4096) 9559 4
    ∷ unwritten noted (filler 4096) 9559 4
    -- a mode of 2, a byte that waits in mode 0, 257 that wait, and one past those that do
    ∷ unwritten (waits 2 [] plain) (filler 4096) 9559 4
    ∷ unwritten (waits 0 (0 ∷ []) plain) (filler 4096) 9559 4
    ∷ unwritten (counts-waiting 1 1 0) (filler 4096) 9559 4
    ∷ unwritten (counts-waiting 0 255 1) (filler 4096) 9559 4
    ∷ unwritten noted (2 ∷ filler 4095) 10 10
    -- buffers that are too short, by a byte and by more, and some that are not: bytes behind the text stay
    ∷ swept 35 (λ n. writes (to_text new plain told (filler (4 * n))) 10 plain 0 (filler (4 * n)))
    ∷ swept 20 (λ n. writes (to_text new plain told (filler (137 + n))) 0 plain 137 (plain-text ++ filler n))
    ∷ []

-- 2 data area not 4,096 bytes; 11 a text that is not the lines of a sound card
abbrev pub reader-refuses : List Row
reader-refuses =
    unread plain-text 0 2
    ∷ unread plain-text 4095 2
    ∷ unread plain-text 4097 2
    -- 2 before 11
    ∷ unread [] 0 2
    ∷ unread (drop 1 plain-text) 4095 2
    ∷ unread [] 4096 11
    ∷ unread (drop 1 plain-text) 4096 11
    ∷ []

abbrev pub device-line : String
device-line = "000102030405060708090A0B0C0D0E0F\t128\t128"

abbrev pub admin-line : String
admin-line = "3837363534333231\t5\t5"

abbrev pub user-line : String
user-line = "313233343536\t3\t3"

abbrev pub transport-line : String
transport-line = "101112131415161718191A1B1C1D1E1F\t10\t10"

abbrev pub session-line : String
session-line = "1\t1\t1\t-\t-\t0\t-\t3F00"

-- a text that is not accepted
abbrev pub bad : List String → Row
bad ls = swept 1 (λ o. is false (lines ls))

-- as those of plain, but for one line
abbrev pub bad-device : String → Row
bad-device l = bad (l ∷ admin-line ∷ user-line ∷ transport-line ∷ session-line ∷ [])

abbrev pub bad-user : String → Row
bad-user l = bad (device-line ∷ admin-line ∷ l ∷ transport-line ∷ session-line ∷ [])

abbrev pub bad-transport : String → Row
bad-transport l = bad (device-line ∷ admin-line ∷ user-line ∷ l ∷ session-line ∷ [])

abbrev pub bad-session : String → Row
bad-session l = bad (device-line ∷ admin-line ∷ user-line ∷ transport-line ∷ l ∷ [])

-- with lines behind them
abbrev pub bad-files : List String → Row
bad-files ls = bad (device-line ∷ admin-line ∷ user-line ∷ transport-line ∷ session-line ∷ ls)

-- the form is kept, and the card is not sound
abbrev pub unsound-texts : List Row
unsound-texts =
    -- a key of 15 and of 17 bytes; PINs of 5 and of 17 digits, and one with 3A
    bad-device "000102030405060708090A0B0C0D0E\t128\t128"
    ∷ bad-device "000102030405060708090A0B0C0D0E0F10\t128\t128"
    ∷ bad-user "3132333435\t3\t3"
    ∷ bad-user "3132333435363738393031323334353637\t3\t3"
    ∷ bad-user "31323334353A\t3\t3"
    -- limits of 0 and 129, and 259, which is 3 in a byte
    ∷ bad-device "000102030405060708090A0B0C0D0E0F\t0\t0"
    ∷ bad-device "000102030405060708090A0B0C0D0E0F\t129\t129"
    ∷ bad-user "313233343536\t259\t259"
    ∷ bad-user "313233343536\t65539\t65539"
    -- tries over the limit, and a right that is held without all of them
    ∷ bad-user "313233343536\t3\t4"
    ∷ bad-user "313233343536\t3\t2"
    -- a transport key of 15 and of 17 bytes, of six digits as a PIN has them, and none; its limits of 0 and 129, and a try more than the limit
    ∷ bad-transport "101112131415161718191A1B1C1D1E\t10\t10"
    ∷ bad-transport "101112131415161718191A1B1C1D1E1F20\t10\t10"
    ∷ bad-transport "313233343536\t10\t10"
    ∷ bad-transport "-\t10\t10"
    ∷ bad-transport "101112131415161718191A1B1C1D1E1F\t0\t0"
    ∷ bad-transport "101112131415161718191A1B1C1D1E1F\t129\t129"
    ∷ bad-transport "101112131415161718191A1B1C1D1E1F\t10\t11"
    -- a right of 2, and of 257
    ∷ bad-session "2\t1\t1\t-\t-\t0\t-\t3F00"
    ∷ bad-session "1\t1\t257\t-\t-\t0\t-\t3F00"
    -- a current file that is not there, and challenges of 3, 5 and 17 bytes
    ∷ bad-session "1\t1\t1\tA101\t-\t0\t-\t3F00"
    ∷ bad-session "1\t1\t1\t-\t001122\t0\t-\t3F00"
    ∷ bad-session "1\t1\t1\t-\t0011223344\t0\t-\t3F00"
    ∷ bad-session "1\t1\t1\t-\t0011223344556677889900112233445566\t0\t-\t3F00"
    -- modes of 2, 10 and 256, and a byte that waits in mode 0 and in mode 2
    ∷ bad-session "1\t1\t1\t-\t-\t2\t-\t3F00"
    ∷ bad-session "1\t1\t1\t-\t-\t10\t-\t3F00"
    ∷ bad-session "1\t1\t1\t-\t-\t256\t-\t3F00"
    ∷ bad-session "1\t1\t1\t-\t-\t0\t90\t3F00"
    ∷ bad-session "1\t1\t1\t-\t-\t2\t90\t3F00"
    -- SFI 0 and 31, and the same one twice
    ∷ bad-files ("A100\t2800010000\t0\t0\t3F00" ∷ "00" ∷ [])
    ∷ bad-files ("A11F\t2800010000\t0\t0\t3F00" ∷ "00" ∷ [])
    ∷ bad-files ("A101\t2800010000\t0\t0\t3F00" ∷ "00" ∷ "B201\t2800010000\t0\t0\t3F00" ∷ "00" ∷ [])
    -- type 29, a size of 0, one record, a right of 02
    ∷ bad-files ("A101\t2900010000\t0\t0\t3F00" ∷ "00" ∷ [])
    ∷ bad-files ("A101\t2800000000\t0\t0\t3F00" ∷ [])
    ∷ bad-files ("A101\t2A01010000\t0\t0\t3F00" ∷ "00" ∷ [])
    ∷ bad-files ("A101\t2800010200\t0\t0\t3F00" ∷ "00" ∷ [])
    -- rights of 06, 0E, 0C and 14, which ask for a code and no good right beside
    ∷ bad-files ("A101\t2800010600\t0\t0\t3F00" ∷ "00" ∷ [])
    ∷ bad-files ("A101\t280001000E\t0\t0\t3F00" ∷ "00" ∷ [])
    ∷ bad-files ("A101\t2800010C00\t0\t0\t3F00" ∷ "00" ∷ [])
    ∷ bad-files ("A101\t2800010014\t0\t0\t3F00" ∷ "00" ∷ [])
    -- records held in a binary file, more of them than there are places, and more used bytes than there are
    ∷ bad-files ("A101\t2800010000\t1\t0\t3F00" ∷ "00" ∷ [])
    ∷ bad-files ("A101\t2E02010000\t3\t1\t3F00" ∷ "0000" ∷ [])
    ∷ bad-files ("A101\t2E02010000\t2\t2\t3F00" ∷ "0000" ∷ [])
    ∷ bad-files ("A101\t2C00020000\t3\t0\t3F00" ∷ "0200" ∷ [])
    -- lengths that do not part the used bytes
    ∷ bad-files ("A101\t2C00040000\t3\t0\t3F00" ∷ "03000000" ∷ [])
    ∷ bad-files ("A101\t2C00040000\t3\t0\t3F00" ∷ "01000000" ∷ [])
    ∷ []

-- the card would be sound, and the form is another
abbrev pub other-forms : List Row
other-forms =
    -- lower case, a leading zero, a blank, CR before a newline, a sign, another order of fields, a field more and a field less
    bad-device "000102030405060708090a0b0c0d0e0f\t128\t128"
    ∷ bad-device "000102030405060708090A0B0C0D0E0F\t0128\t128"
    ∷ bad-device "000102030405060708090A0B0C0D0E0F\t128\t128 "
    ∷ bad-device "000102030405060708090A0B0C0D0E0F\t128\t128\r"
    ∷ bad-device "000102030405060708090A0B0C0D0E0F\t128\t+128"
    ∷ bad-device "000102030405060708090A0B0C0D0E0F 128 128"
    ∷ bad-device "128\t128\t000102030405060708090A0B0C0D0E0F"
    ∷ bad-user "313233343536\t3\t3\t"
    ∷ bad-user "313233343536\t3"
    ∷ bad-user "313233343536\t3\t3\n"
    ∷ bad-user "123456\t3\t3"
    -- rights without tabs or as a byte, none as 0, 00 or nothing
    ∷ bad-session "111\t-\t-\t0\t-\t3F00"
    ∷ bad-session "01\t01\t01\t-\t-\t0\t-\t3F00"
    ∷ bad-session "1\t1\t1\t0\t-\t0\t-\t3F00"
    ∷ bad-session "1\t1\t1\t0000\t-\t0\t-\t3F00"
    ∷ bad-session "1\t1\t1\t-\t00\t0\t-\t3F00"
    ∷ bad-session "1\t1\t1\t-\t\t0\t-\t3F00"
    ∷ bad-session "1\t1\t1\t\t-\t0\t-\t3F00"
    ∷ bad-session "1\t1\t1\t-\t0\t0\t-\t3F00"
    -- no mode or no field for what waits, one field more, these two in another order, before the challenge, or on a line of their own
    ∷ bad-session "1\t1\t1\t-\t-\t3F00"
    ∷ bad-session "1\t1\t1\t-\t-\t0\t3F00"
    ∷ bad-session "1\t1\t1\t-\t-\t-\t3F00"
    ∷ bad-session "1\t1\t1\t-\t-\t0\t-\t-\t3F00"
    ∷ bad-session "1\t1\t1\t-\t-\t-\t0\t3F00"
    ∷ bad-session "1\t1\t1\t-\t0\t-\t-\t3F00"
    ∷ bad-session "1\t1\t1\t-\t-\n0\t-\t3F00"
    -- a mode as a byte, with a leading zero, and none
    ∷ bad-session "1\t1\t1\t-\t-\t00\t-\t3F00"
    ∷ bad-session "1\t1\t1\t-\t-\t01\t90\t3F00"
    ∷ bad-session "1\t1\t1\t-\t-\t-\t-\t3F00"
    ∷ bad-session "1\t1\t1\t-\t-\t\t-\t3F00"
    -- nothing that waits as nothing or as a 0; what waits in lower case, with an odd digit, a blank or a sign, and in two fields
    ∷ bad-session "1\t1\t1\t-\t-\t1\t\t3F00"
    ∷ bad-session "1\t1\t1\t-\t-\t1\t0\t3F00"
    ∷ bad-session "1\t1\t1\t-\t-\t1\t9a\t3F00"
    ∷ bad-session "1\t1\t1\t-\t-\t1\t90A\t3F00"
    ∷ bad-session "1\t1\t1\t-\t-\t1\t90 A1\t3F00"
    ∷ bad-session "1\t1\t1\t-\t-\t1\t-90\t3F00"
    ∷ bad-session "1\t1\t1\t-\t-\t1\t90\tA1\t3F00"
    -- lines in another order, one twice, one left out, and an empty one
    ∷ bad (admin-line ∷ device-line ∷ user-line ∷ transport-line ∷ session-line ∷ [])
    ∷ bad (session-line ∷ device-line ∷ admin-line ∷ user-line ∷ transport-line ∷ [])
    ∷ bad (device-line ∷ admin-line ∷ user-line ∷ user-line ∷ transport-line ∷ session-line ∷ [])
    ∷ bad (device-line ∷ admin-line ∷ transport-line ∷ session-line ∷ [])
    ∷ bad (device-line ∷ admin-line ∷ user-line ∷ transport-line ∷ [])
    ∷ bad (device-line ∷ "" ∷ admin-line ∷ user-line ∷ transport-line ∷ session-line ∷ [])
    ∷ bad-files ("" ∷ [])
    -- counts with a leading zero, in hex, and a place with a sign
    ∷ bad-files ("A101\t2E0C010000\t012\t0\t3F00" ∷ "000000000000000000000000" ∷ [])
    ∷ bad-files ("A101\t2E0C010000\t0C\t0\t3F00" ∷ "000000000000000000000000" ∷ [])
    ∷ bad-files ("A101\t2E0C010000\t12\t-1\t3F00" ∷ "000000000000000000000000" ∷ [])
    -- contents on the file's line, in lines of one byte, with a line that is empty, one byte more and one less, and without their line
    ∷ bad-files ("A101\t2800020000\t0\t0\t3F00\tABCD" ∷ [])
    ∷ bad-files ("A101\t2800020000\t0\t0\t3F00" ∷ "AB" ∷ "CD" ∷ [])
    ∷ bad-files ("A101\t2800020000\t0\t0\t3F00" ∷ "ABCD" ∷ "" ∷ [])
    ∷ bad-files ("A101\t2800020000\t0\t0\t3F00" ∷ "ABCDEF" ∷ [])
    ∷ bad-files ("A101\t2800020000\t0\t0\t3F00" ∷ "AB" ∷ [])
    ∷ bad-files ("A101\t2800020000\t0\t0\t3F00" ∷ [])
    ∷ bad-files ("A101\t2800020000\t0\t0\t3F00" ∷ "ab" ∷ [])
    ∷ []
