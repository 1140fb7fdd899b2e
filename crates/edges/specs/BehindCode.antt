-- Codes on the bus (R-9), behind the comparison, with no code computed: what a code leaves of the tries, what the file's checks see of a coded command, and how
-- a message is padded. These are the edges alone: `served` and `demands` say it of every Lc and Le, every number of tries, every rights byte and every length.
use Rattle.std.specs.Prelude.{ℕ, ◌+◌, ◌-◌, ◌%◌, Bool, true, false, ◌&&◌, List, [], ◌∷◌, ◌++◌, eqb, drop, replicate}
use Rattle.codes.specs.Padding.{padded}
use Rattle.files.specs.declared.File.{File}
use Rattle.files.specs.State.{new_file}
use Rattle.rules.specs.declared.Card.{Card}
use Rattle.rules.specs.declared.Ins.{Ins}
use Rattle.rules.specs.declared.Ins.TheVariants.{ReadBinary, UpdateBinary, ReadRecord, UpdateRecord, AppendRecord}
use Rattle.rules.specs.Words.{first}
use Rattle.rules.specs.State.{transport, with_login, credential}
use Rattle.rules.specs.Frame.{framed}
use Rattle.rules.specs.Record.{record_found}
use Rattle.rules.specs.Code.{key_after}
use Rattle.rules.specs.Step.{checks, effect_of}
use Rattle.edges.specs.Table.{hex, random, equal, tries_numbers, Edge, swept}
use Rattle.edges.specs.Cards.{told}
use Rattle.edges.specs.Sound.{plain, tries}
use Rattle.edges.specs.Ranges.{says}
use Rattle.edges.specs.RightsRanges.{set}
use Rattle.edges.specs.Codes.{bus}

-- a row that is true or not
abbrev pub is : Bool → Edge
is b = swept 1 (λ n. b)

-- tries left of the transport key, of 128
abbrev pub keyed : ℕ → Card
keyed n = with_login transport plain (tries n 128) false

-- tries of the transport key after a right code, a wrong one
abbrev pub code-leaves : ℕ → Bool → ℕ → Bool
code-leaves n right left = equal (tries_numbers (key_after (credential (keyed n) 3) right).tries) (left ∷ 128 ∷ [])

-- the last try is one (6984 and not 6983). A right code restores all, a wrong one takes one
abbrev pub coded-tries : List Edge
coded-tries =
    is (says (keyed 1) (hex 0x1_04B0_8100_04_00000000_01) 0x6984)
    ∷ is (code-leaves 1 true 128 && code-leaves 1 false 0)
    ∷ is (code-leaves 128 true 128 && code-leaves 128 false 127)
    ∷ []

-- class 04 behind a right code: P, case and the code are the first two checks
abbrev pub behind : Ins → Card → List ℕ → ℕ
behind i c cmd = first (drop 2 (checks i c (record_found c told (framed cmd)) (framed cmd)))

-- a file with this byte, a set of rights that is too few for it and one that is enough, as RightsRanges numbers them: no code makes up for a right
abbrev pub beside : Ins → (ℕ → File) → List ℕ → ℕ → ℕ → ℕ → Bool
beside i file cmd byte few enough = eqb (behind i (set few (file byte)) cmd) 0x6982 && eqb (behind i (set enough (file byte)) cmd) 0x9000

-- device and admin, and a code; user or admin, and a code: class 00 is 6982, though the rights are enough. Device and admin, and no code: class 04 is served too
abbrev pub asking-codes : Ins → (ℕ → File) → List ℕ → List ℕ → List Edge
asking-codes i file uncoded cmd =
    is (says (set 5 (file 0x85)) uncoded 0x6982 && beside i file cmd 0x85 4 5)
    ∷ is (says (set 2 (file 0xC6)) uncoded 0x6982 && beside i file cmd 0xC6 1 2)
    ∷ is (beside i file cmd 0x81 4 5)
    ∷ []

-- the other right is that never
abbrev pub coded-rights : List Edge
coded-rights =
    asking-codes ReadBinary (λ byte. new_file 0x10 0x01 0x28 0 1 byte 0x0F) (hex 0x1_00B0_0000_01) (hex 0x1_04B0_0000_04_00000000_01)
    ++ asking-codes UpdateBinary (λ byte. new_file 0x10 0x01 0x28 0 1 0x0F byte) (hex 0x1_00D6_0000_01_AA) (hex 0x1_04D6_0000_05_AA00000000)
    ++ asking-codes ReadRecord (λ byte. new_file 0x10 0x01 0x2A 2 1 byte 0x0F) (hex 0x1_00B2_0204_01) (hex 0x1_04B2_0204_04_00000000_01)
    ++ asking-codes UpdateRecord (λ byte. new_file 0x10 0x01 0x2A 2 1 0x0F byte) (hex 0x1_00DC_0204_01_AA) (hex 0x1_04DC_0204_05_AA00000000)
    ++ asking-codes AppendRecord (λ byte. new_file 0x10 0x01 0x2E 2 1 0x0F byte) (hex 0x1_00E2_0000_01_AA) (hex 0x1_04E2_0000_05_AA00000000)

-- the file's checks count Lc without the code, and Le is that behind the code
abbrev pub coded-counts : List Edge
coded-counts =
    is (of_length UpdateBinary (hex 0x1_04D6_8100) 1 0x9000 && (of_length UpdateBinary (hex 0x1_04D6_8100) 16 0x9000
    && (of_length UpdateBinary (hex 0x1_04D6_8100) 17 0x6700 && of_length UpdateBinary (hex 0x1_04D6_8100) 251 0x6700)))
    ∷ is (of_length UpdateRecord (hex 0x1_04DC_011C) 1 0x6700 && (of_length UpdateRecord (hex 0x1_04DC_011C) 2 0x9000
    && of_length UpdateRecord (hex 0x1_04DC_011C) 3 0x6700))
    ∷ is (of_length AppendRecord (hex 0x1_04E2_0018) 1 0x6700 && (of_length AppendRecord (hex 0x1_04E2_0018) 2 0x9000
    && of_length AppendRecord (hex 0x1_04E2_0018) 3 0x6700))
    ∷ is (with-Le ReadBinary (hex 0x1_04B0_8100) 0 0x9000 && (with-Le ReadBinary (hex 0x1_04B0_8100) 16 0x9000
    && (with-Le ReadBinary (hex 0x1_04B0_8100) 17 0x6700 && with-Le ReadBinary (hex 0x1_04B0_8100) 255 0x6700)))
    ∷ is (with-Le ReadRecord (hex 0x1_04B2_011C) 0 0x9000 && (with-Le ReadRecord (hex 0x1_04B2_011C) 1 0x6C02
    && (with-Le ReadRecord (hex 0x1_04B2_011C) 2 0x9000 && with-Le ReadRecord (hex 0x1_04B2_011C) 3 0x6C02)))
    -- what is stored are the data before the code
    ∷ is (stored UpdateBinary (hex 0x1_04D6_8101_06_A1A2_00000000) && (stored UpdateRecord (hex 0x1_04DC_011C_06_A1A2_00000000)
    && stored AppendRecord (hex 0x1_04E2_0018_06_A1A2_00000000)))
    ∷ []
  where
    -- so many bytes before the code
    of_length : Ins → List ℕ → ℕ → ℕ → Bool
    of_length i header n sw = eqb (behind i (bus false false false 9) (header ++ ((n + 4) ∷ replicate (n + 4) 0x00))) sw

    with-Le : Ins → List ℕ → ℕ → ℕ → Bool
    with-Le i header le sw = eqb (behind i (bus false false false 9) (header ++ hex 0x1_04_00000000 ++ (le ∷ []))) sw

    stored : Ins → List ℕ → Bool
    stored i cmd = equal (effect_of i (bus false false false 9) (record_found (bus false false false 9) told (framed cmd)) (framed cmd) random).stores (hex 0x1_A1A2)

-- 80, then 00 up to whole blocks, also behind a full block
abbrev pub paddings : List Edge
paddings = swept 18 (λ n. equal (padded (replicate n 0xAA)) (replicate n 0xAA ++ (0x80 ∷ replicate (15 - n % 16) 0x00))) ∷ []
