-- Codes on the bus (R-9), up to the comparison: class 04 in its place, P, case and Lc, tries, challenge; and class 00 where a code is asked.
use Rattle.std.specs.Prelude.{ℕ, Bool, true, false, List, [], ◌∷◌, ◌++◌}
use Rattle.files.specs.declared.Directory.{Directory}
use Rattle.files.specs.State.{new_file, with_newest, no_files}
use Rattle.rules.specs.declared.Card.{Card}
use Rattle.rules.specs.State.{transport, with_directory, with_login, with_challenge}
use Rattle.edges.specs.Table.{random, Line, Edge, given, line, reads}
use Rattle.edges.specs.Cards.{ask, holder, told, add, bytes_at, card-is, no-challenge}
use Rattle.edges.specs.Sound.{tries}

-- files that ask for codes, and one that does not
abbrev pub coded : Directory
coded =
    add
    -- binary of 16 that asks nothing, bytes 00 to 0F of the area
    (new_file 0x10 0x01 0x28 0 16 0x00 0x00
    -- binary of 4, 10 to 13: a code and no right
    ∷ new_file 0x10 0x02 0x28 0 4 0x04 0x04
    -- cyclic, two records of two, 14 to 17, one held in place 0: a code and no right
    ∷ with_newest (new_file 0x10 0x03 0x2E 2 2 0x04 0x04) 1 0
    -- binary of 1, 18: admin and a code to read, admin or user and a code to write
    ∷ new_file 0x10 0x04 0x28 0 1 0x84 0xC6 ∷ [])
    no_files

-- the card that has them, holds these rights, and has so many tries left of the transport key's ten; no file is current and there is no challenge
abbrev pub bus : Bool → Bool → Bool → ℕ → Card
bus d a u left = with_login transport (with_directory (holder d a u) coded) (tries left 10) false

-- P (6A86), before the case; case and Lc (6700), before tries and challenge. Both also where there are neither
abbrev pub code-forms : List Line
code-forms =
    line 0x1_04B0_8000_04_00000000_04 0x6A86
    ∷ line 0x1_04B0_9F00_04_00000000_04 0x6A86
    ∷ line 0x1_04B0_8000 0x6A86
    ∷ line 0x1_04D6_8000_05_AA00000000 0x6A86
    ∷ line 0x1_04D6_FF00 0x6A86
    ∷ line 0x1_04B2_001C_04_00000000_00 0x6A86
    ∷ line 0x1_04B2_0118_04_00000000_00 0x6A86
    ∷ line 0x1_04DC_001C_06_AAAA00000000 0x6A86
    ∷ line 0x1_04DC_01FC_06_AAAA00000000 0x6A86
    ∷ line 0x1_04E2_0118_06_AAAA00000000 0x6A86
    ∷ line 0x1_04E2_001C_06_AAAA00000000 0x6A86
    -- reads: case 4, Lc 04
    ∷ line 0x1_04B0_8200 0x6700
    ∷ line 0x1_04B0_8200_04 0x6700
    ∷ line 0x1_04B0_8200_04_00000000 0x6700
    ∷ line 0x1_04B0_8200_03_000000_04 0x6700
    ∷ line 0x1_04B0_8200_05_0000000000_04 0x6700
    ∷ line 0x1_04B2_011C 0x6700
    ∷ line 0x1_04B2_011C_02 0x6700
    ∷ line 0x1_04B2_011C_04_00000000 0x6700
    ∷ line 0x1_04B2_011C_03_000000_02 0x6700
    ∷ line 0x1_04B2_011C_05_0000000000_02 0x6700
    -- updates and appends: case 3, Lc 05 or more
    ∷ line 0x1_04D6_8200 0x6700
    ∷ line 0x1_04D6_8200_05 0x6700
    ∷ line 0x1_04D6_8200_04_00000000 0x6700
    ∷ line 0x1_04D6_8200_05_AA00000000_00 0x6700
    ∷ line 0x1_04DC_011C 0x6700
    ∷ line 0x1_04DC_011C_06 0x6700
    ∷ line 0x1_04DC_011C_04_00000000 0x6700
    ∷ line 0x1_04DC_011C_06_AAAA00000000_00 0x6700
    ∷ line 0x1_04E2_0018 0x6700
    ∷ line 0x1_04E2_0018_06 0x6700
    ∷ line 0x1_04E2_0018_04_00000000 0x6700
    ∷ line 0x1_04E2_0018_06_AAAA00000000_00 0x6700
    ∷ []

-- the five in good form, on no file at all: answered by this SW
abbrev pub five-coded : ℕ → List Line
five-coded sw =
    line 0x1_04B0_8500_04_00000000_04 sw
    ∷ line 0x1_04D6_8500_05_AA00000000 sw
    ∷ line 0x1_04B2_012C_04_00000000_00 sw
    ∷ line 0x1_04DC_012C_06_AAAA00000000 sw
    ∷ line 0x1_04E2_0028_06_AAAA00000000 sw
    ∷ []

-- class 00 where a code is asked (6982), whatever rights are held: after file (6A82) and type (6981), before all that the right comes before
abbrev pub uncoded : List Line
uncoded =
    line 0x1_00B0_8500_04 0x6A82
    ∷ line 0x1_00B0_8300_04 0x6981
    ∷ line 0x1_00B2_0114_00 0x6981
    ∷ line 0x1_00E2_0010_02_AAAA 0x6981
    ∷ line 0x1_00B0_8200_04 0x6982
    ∷ line 0x1_00B0_8200_00 0x6982
    ∷ line 0x1_00B0_8204_01 0x6982
    ∷ line 0x1_00B0_8200_05 0x6982
    ∷ line 0x1_00D6_8200_01_AA 0x6982
    ∷ line 0x1_00D6_8204_01_AA 0x6982
    ∷ line 0x1_00B2_011C_00 0x6982
    ∷ line 0x1_00B2_021C_00 0x6982
    ∷ line 0x1_00B2_011C_01 0x6982
    ∷ line 0x1_00DC_011C_02_AAAA 0x6982
    ∷ line 0x1_00DC_011C_01_AA 0x6982
    ∷ line 0x1_00E2_0018_02_AAAA 0x6982
    ∷ line 0x1_00E2_0018_01_AA 0x6982
    ∷ line 0x1_00B0_8400_01 0x6982
    ∷ line 0x1_00D6_8400_01_AA 0x6982
    ∷ bytes_at 0 4096 told
    ∷ []

abbrev pub codes : List Edge
codes =
    given (bus false false false 9) told (code-forms ++ (card-is (bus false false false 9) ∷ []))
    -- tries left (6983), before a challenge (6984)
    ∷ given (bus false false false 0) told (code-forms ++ five-coded 0x6983 ++ (ask ∷ five-coded 0x6983) ++ (card-is (bus false false false 0) ∷ bytes_at 0 4096 told ∷ []))
    -- a challenge (6984), before the file. No code is presented: the tries stay
    ∷ given (bus true true true 9) told (five-coded 0x6984 ++ (card-is (bus true true true 9) ∷ bytes_at 0 4096 told ∷ []))
    ∷ given (bus false false false 9) told (uncoded ++ (card-is (bus false false false 9) ∷ []))
    ∷ given (bus true true true 9) told (uncoded ++ (card-is (bus true true true 9) ∷ []))
    -- a file that asks no code is open to class 00, which costs no try
    ∷ given (bus false false false 9) told (reads 0x1_00B0_8101_02 0x1_0102 ∷ line 0x1_00D6_8101_01_AA 0x9000 ∷ reads 0x1_00B0_0001_01 0x1_AA ∷ [])
    -- class 04 for another command (6D00): nothing is presented, and the challenge is dropped
    ∷ given (bus false false false 9) told
    (ask ∷ line 0x1_04A4_0000_06_100100000000 0x6D00 ∷ no-challenge
    ∷ ask ∷ line 0x1_0484_0000_04_00000000_04 0x6D00 ∷ no-challenge
    ∷ ask ∷ line 0x1_04C0_0000_04 0x6D00 ∷ no-challenge
    ∷ ask ∷ line 0x1_0420_0001_0A_31323334353600000000 0x6D00 ∷ no-challenge
    ∷ card-is (bus false false false 9) ∷ [])
    -- no command verifies, changes or reloads the transport key
    ∷ given (bus true true true 9) told
    (line 0x1_0020_0002_06_313233343536 0x6A86
    ∷ line 0x1_0020_0003_10_101112131415161718191A1B1C1D1E1F 0x6A86
    ∷ line 0x1_0020_0003 0x6A86
    ∷ line 0x1_0024_0103_10_30313233343536373839303132333435 0x6A86
    ∷ line 0x1_0024_0102_10_30313233343536373839303132333435 0x6A86
    ∷ line 0x1_002C_0202_10_30313233343536373839303132333435 0x6A86
    ∷ line 0x1_002C_0203_10_30313233343536373839303132333435 0x6A86
    ∷ line 0x1_0082_0003_10_30313233343536373839303132333435 0x6A86
    ∷ card-is (bus true true true 9) ∷ [])
    ∷ []

-- a refusal by P, case or Lc presents no code, though there is a challenge: the tries stay
abbrev pub unheard : ℕ → ℕ → Edge
unheard cmd sw = given (with_challenge (bus false false false 9) random) told (line cmd sw ∷ card-is (bus false false false 9) ∷ [])

abbrev pub unpresented : List Edge
unpresented =
    unheard 0x1_04B0_8000_04_00000000_04 0x6A86
    ∷ unheard 0x1_04B0_8200_04_00000000 0x6700
    ∷ unheard 0x1_04B2_001C_04_00000000_00 0x6A86
    ∷ unheard 0x1_04B2_011C_05_0000000000_00 0x6700
    ∷ unheard 0x1_04D6_8000_05_AA00000000 0x6A86
    ∷ unheard 0x1_04D6_8200_04_00000000 0x6700
    ∷ unheard 0x1_04DC_001C_06_AAAA00000000 0x6A86
    ∷ unheard 0x1_04DC_011C_04_00000000 0x6700
    ∷ unheard 0x1_04E2_0118_06_AAAA00000000 0x6A86
    ∷ unheard 0x1_04E2_0018_04_00000000 0x6700
    ∷ []
