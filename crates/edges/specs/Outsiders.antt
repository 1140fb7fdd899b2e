-- What an outsider can learn (R-11): cards that differ in the bytes of their closed files, or in a PIN, answer the same lines, until a file is read by right or
-- the PIN is right on one of them.
use Rattle.std.specs.Prelude.{ℕ, ◌+◌, Bool, true, false, List, [], ◌∷◌, ◌++◌}
use Rattle.files.specs.declared.Directory.{Directory}
use Rattle.files.specs.Part.{zeros}
use Rattle.files.specs.State.{new_file, in_folder, new_folder, with_newest, with_used, no_files}
use Rattle.rules.specs.declared.Card.{Card}
use Rattle.rules.specs.State.{user, with_directory, with_value, response_of, with_response}
use Rattle.edges.specs.Table.{hex, Line, sent, again, Edge, called, flag, line, reads}
use Rattle.edges.specs.Cards.{right-pin, wrong-pin, query, admin-pin, holder, add, add-folders}

-- an open file; four that ask user to write and admin to read, the last of them with a code besides; and in a directory one that nobody reads
abbrev pub drawers : Directory
drawers =
    add-folders (new_folder 0x20 0x01 0x0F ∷ [])
    (add
    -- bytes 00 to 03 of the area
    (new_file 0x10 0x01 0x28 0 4 0x00 0x00
    -- 04 to 07
    ∷ new_file 0x10 0x02 0x28 0 4 0x80 0x40
    -- cyclic, three records of two, 08 to 0D: two are held, number 1 in place 1
    ∷ with_newest (new_file 0x10 0x03 0x2E 3 2 0x80 0x40) 2 1
    -- notes of one, three and two bytes, 0E to 16, and three bytes that are free
    ∷ with_used (new_file 0x10 0x04 0x2C 0 12 0x80 0x40) 9
    -- 1A and 1B
    ∷ new_file 0x10 0x05 0x28 0 2 0x84 0x44
    -- three records of two, 1C to 21
    ∷ in_folder 1 (new_file 0x10 0x06 0x2A 3 2 0x0F 0x40) ∷ [])
    no_files)

-- the card that has them, in mode 0 or 1, and holds the user right
abbrev pub chest : Bool → Card
chest later = with_response (with_directory (holder false false true) drawers) (response_of (flag later) [])

-- the closed files: their places, their bytes, and other bytes for each, with the same length bytes
pub data Drawer : Type 0 where
  binary cyclic notes asking never : Drawer

abbrev pub place : Drawer → ℕ
place binary = 2
place cyclic = 3
place notes = 4
place asking = 5
place never = 6

abbrev pub bytes : Drawer → List ℕ
bytes binary = hex 0x1_10111213
bytes cyclic = hex 0x1_202122232425
bytes notes = hex 0x1_01A103B1B2B302C1C2F1F2F3
bytes asking = hex 0x1_4041
bytes never = hex 0x1_303132333435

abbrev pub others : Drawer → List ℕ
others binary = hex 0x1_90919293
others cyclic = hex 0x1_A0A1A2A3A4A5
others notes = hex 0x1_015103616263027172818283
others asking = hex 0x1_C0C1
others never = hex 0x1_B0B1B2B3B4B5

abbrev pub area : (Drawer → List ℕ) → List ℕ
area b = hex 0x1_00010203 ++ b binary ++ b cyclic ++ b notes ++ b asking ++ b never ++ zeros 4062

-- who may write and not read
abbrev pub writer : List Line
writer =
    -- the binary file, as the current one, by its SFI and past its end; a READ RECORD of it is 6981
    line 0x1_00A4_0000_02_1002 0x9000
    ∷ line 0x1_00B0_0000_00 0x6982
    ∷ line 0x1_00B0_8200_04 0x6982
    ∷ line 0x1_00B0_8204_01 0x6982
    ∷ line 0x1_00B2_0114_00 0x6981
    ∷ line 0x1_00D6_8201_02_AABB 0x9000
    -- what stands there already, on the first card, and what does not, on the other
    ∷ line 0x1_00D6_8200_01_10 0x9000
    -- the cyclic file, of which number 4 is not there
    ∷ line 0x1_00B2_011C_00 0x6982
    ∷ line 0x1_00E2_0018_02_C1C2 0x9000
    ∷ line 0x1_00DC_011C_02_D1D2 0x9000
    ∷ line 0x1_00B2_0104_02 0x6982
    ∷ line 0x1_00B2_0404_02 0x6982
    -- the notes: their lengths are learned from an update of another length, and what is left from an append
    ∷ line 0x1_00B2_0124_05 0x6982
    ∷ line 0x1_00E2_0020_01_E1 0x9000
    ∷ line 0x1_00DC_0224_03_F1F2F3 0x9000
    ∷ line 0x1_00DC_0224_02_F1F2 0x6700
    ∷ line 0x1_00DC_0524_01_F1 0x6A83
    ∷ line 0x1_00E2_0020_03_E1E2E3 0x6A84
    -- in the directory, and back
    ∷ line 0x1_00A4_0000_02_2001 0x9000
    ∷ line 0x1_00B2_0134_02 0x6982
    ∷ line 0x1_00DC_0134_02_1112 0x9000
    ∷ line 0x1_00B0_8200_04 0x6A82
    ∷ line 0x1_00A4_0000_02_3F00 0x9000
    ∷ []

-- the file that asks for codes: with a code and no challenge, and with none. A code that is compared would have the cipher computed: Coded has such rows
abbrev pub coder : List Line
coder =
    line 0x1_04B0_8500_04_2F004889_02 0x6984
    ∷ line 0x1_04D6_8500_05_DD_360793BA 0x6984
    ∷ line 0x1_00B0_8500_02 0x6982
    ∷ []

-- the open file and a challenge, whose bytes wait in mode 1; some are still waiting at the reset
abbrev pub fetcher : Bool → List Line
fetcher false =
    reads 0x1_00B0_8100_04 0x1_00010203
    ∷ line 0x1_00C0_0000_03 0x6D00
    ∷ again
    ∷ line 0x1_00C0_0000_00 0x6D00
    ∷ []
fetcher true =
    line 0x1_00B0_8100_04 0x6104
    ∷ sent (hex 0x1_00C0_0000_03) (hex 0x1_000102) 0x6101
    ∷ line 0x1_0084_0000_04 0x6104
    ∷ reads 0x1_00C0_0000_00 0x1_00112233
    ∷ line 0x1_00B0_8100_04 0x6104
    ∷ again
    ∷ line 0x1_00C0_0000_00 0x6985
    ∷ []

-- who may not even write, and guesses
abbrev pub stranger : List Line
stranger =
    line 0x1_00D6_8200_01_00 0x6982
    ∷ line 0x1_00B2_011C_00 0x6982
    ∷ line wrong-pin 0x63C2
    ∷ line 0x1_00A4_0000_02_1004 0x9000
    ∷ line 0x1_00B2_0104_00 0x6982
    ∷ []

-- in mode 0 without the writes, which are computed once
abbrev pub lines : Bool → List Line
lines false = coder ++ fetcher false ++ stranger
lines true = writer ++ coder ++ fetcher true ++ stranger

-- then the admin PIN, and each file is read: it shows its own bytes, but not without the code that it asks, and not where the right says never
abbrev pub shows : Bool → ℕ → ℕ → ℕ → List Line
shows false cmd n found = reads cmd found ∷ []
shows true cmd n found = line cmd (0x6100 + n) ∷ reads 0x1_00C0_0000_00 found ∷ []

abbrev pub reader : Bool → ℕ → ℕ → ℕ → List Line
reader later a b c =
    line admin-pin 0x9000
    ∷ shows later 0x1_00B0_8200_04 4 a ++ shows later 0x1_00B2_021C_02 2 b ++ shows later 0x1_00B2_0324_00 2 c
    ++ line 0x1_00B0_8500_02 0x6982
    ∷ line 0x1_00A4_0000_02_2001 0x9000
    ∷ line 0x1_00B2_0234_02 0x6982
    ∷ []

-- the same lines of two cards that differ in every closed file
abbrev pub outsiders : List Edge
outsiders =
    called 258 (chest false) (area bytes) (lines false ++ reader false 0x1_10111213 0x1_2021 0x1_C1C2)
    ∷ called 258 (chest false) (area others) (lines false ++ reader false 0x1_90919293 0x1_A0A1 0x1_7172)
    ∷ called 258 (chest true) (area bytes) (lines true ++ reader true 0x1_10AABB13 0x1_2223 0x1_C1C2)
    ∷ called 258 (chest true) (area others) (lines true ++ reader true 0x1_10AABB93 0x1_A2A3 0x1_7172)
    ∷ []

-- ---- a PIN of another length: guesses of six digits and of eight, and a reload; a value that was set is the same in both
abbrev pub other-pin : List ℕ
other-pin = hex 0x1_39383736353433323130

abbrev pub guesses : List Line
guesses =
    line query 0x9000
    ∷ line wrong-pin 0x63C2
    ∷ line 0x1_0020_0001_08_3131313131313131 0x63C1
    ∷ line query 0x63C1
    ∷ line 0x1_0024_0101_06_373737373737 0x6982
    ∷ again
    ∷ line 0x1_0020_0001_06_323232323232 0x63C0
    ∷ line 0x1_0020_0001_06_323232323232 0x6983
    ∷ line admin-pin 0x9000
    ∷ line 0x1_002C_0201_06_373737373737 0x9000
    ∷ line right-pin 0x63C2
    ∷ line query 0x63C2
    ∷ []

-- a change by right sets the same value in both, and then one presentation is right in both
abbrev pub changes : List Line
changes = line 0x1_0024_0101_06_313233343536 0x9000 ∷ line wrong-pin 0x63C2 ∷ line right-pin 0x9000 ∷ []

abbrev pub other-holder : Card
other-holder = with_value user (chest false) other-pin

abbrev pub guessers : List Edge
guessers =
    called 258 (chest false) (area bytes) guesses
    ∷ called 258 other-holder (area bytes) guesses
    ∷ called 258 (chest false) (area bytes) changes
    ∷ called 258 other-holder (area bytes) changes
    -- the right PIN tells the two apart
    ∷ called 258 (chest false) (area bytes) (line right-pin 0x9000 ∷ [])
    ∷ called 258 other-holder (area bytes) (line right-pin 0x63C2 ∷ [])
    ∷ []
