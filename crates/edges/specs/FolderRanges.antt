-- Directories (R-7), over whole ranges: all types at CREATE FILE in the root and in a directory, all low bits of a directory's FID, all creation rights, given
-- and asked, all current directories.
use Rattle.std.specs.Prelude.{ℕ, ◌%◌, Bool, true, cond, ◌&&◌, List, [], ◌∷◌, ◌++◌, eqb, leb}
use Rattle.files.specs.declared.Folder.{Folder}
use Rattle.files.specs.State.{in_folder, new_folder, no_files}
use Rattle.rules.specs.declared.Card.{Card}
use Rattle.rules.specs.State.{with_directory, with_folder}
use Rattle.rules.specs.Sound.{sound_state}
use Rattle.rules.specs.Step.{step}
use Rattle.edges.specs.Table.{hex, random, flag, Edge, swept}
use Rattle.edges.specs.Cards.{told, add-folders}
use Rattle.edges.specs.Ranges.{among, from-to}
use Rattle.edges.specs.RightsRanges.{good-bytes, enough, holder-of}
use Rattle.edges.specs.Folders.{shared, housing, housed-in, one}

-- a command on a card is answered by this SW
abbrev pub told-by : Card → List ℕ → ℕ → Bool
told-by c cmd sw = eqb (step c told cmd random).sw sw

abbrev pub in-root : Card
in-root = shared true true true

abbrev pub in-first : Card
in-first = with_folder (shared true true true) 1

-- the four types of files
abbrev pub types : List ℕ
types = 0x28 ∷ 0x2A ∷ 0x2C ∷ 0x2E ∷ []

abbrev pub types-created : List Edge
types-created =
    swept 256 (λ t. told-by in-root (hex 0x1_80E0_1009_05 ++ (t ∷ 2 ∷ 2 ∷ 0 ∷ 0 ∷ [])) (cond (among types t) 0x9000 0x6A80))
    ∷ swept 256 (λ t. told-by in-root (hex 0x1_80E0_1009_05 ++ (t ∷ 0 ∷ 0 ∷ 0 ∷ 0 ∷ [])) (cond (eqb t 0x38) 0x9000 0x6A80))
    ∷ swept 256 (λ t. told-by in-first (hex 0x1_80E0_1009_05 ++ (t ∷ 2 ∷ 2 ∷ 0 ∷ 0 ∷ [])) (cond (among types t) 0x9000 (cond (eqb t 0x38) 0x6A81 0x6A80)))
    ∷ swept 256 (λ t. told-by in-first (hex 0x1_80E0_1009_05 ++ (t ∷ 0 ∷ 0 ∷ 0 ∷ 0 ∷ [])) (cond (eqb t 0x38) 0x6A81 0x6A80))
    ∷ []

-- the low byte of a directory's FID: its low five bits are 1 to 30, and 3001 to 30FE are free
abbrev pub fids-created : List Edge
fids-created =
    swept 256 (λ n. told-by in-root (hex 0x1_80E0_30 ++ (n ∷ hex 0x1_05_3800000000)) (cond (from-to 1 30 (n % 32)) 0x9000 0x6A86)) ∷ []

-- a card is sound, or not
abbrev pub is-sound : Card → Bool → Bool
is-sound c good = eqb (flag (sound_state c)) (flag good)

-- a creation right is good as a file's without bit 3 is (R-9), at CREATE and in a sound state
abbrev pub creation-rights : List Edge
creation-rights =
    swept 256 (λ b. told-by in-root (hex 0x1_80E0_3001_05_380000 ++ (b ∷ 0 ∷ [])) (cond (among good-bytes b) 0x9000 0x6A80))
    ∷ swept 256 (λ b. is-sound (housing [] (new_folder 0x20 0x01 b ∷ [])) (among good-bytes b))
    ∷ []

-- each good one with each set of rights: 6982 where they are not enough, for a file and for a directory, which is then 6A81
abbrev pub asked_by : List (List ℕ) → List Edge
asked_by [] = []
asked_by ([] ∷ rows) = asked_by rows
asked_by ((byte ∷ sets) ∷ rows) =
    swept 8 (λ s. let c = with_folder (with_directory (holder-of s) (add-folders (new_folder 0x20 0x01 byte ∷ []) no_files)) 1 in
    told-by c (hex 0x1_80E0_1001_05_2800010000) (cond (among sets s) 0x9000 0x6982)
    && told-by c (hex 0x1_80E0_1001_05_3800000000) (cond (among sets s) 0x6A81 0x6982))
    ∷ asked_by rows

abbrev pub creation-asked : List Edge
creation-asked = asked_by enough

abbrev pub four : List Folder
four = new_folder 0x20 0x01 0x00 ∷ new_folder 0x20 0x02 0x00 ∷ new_folder 0x20 0x03 0x00 ∷ new_folder 0x20 0x04 0x00 ∷ []

-- the current directory, a file's directory, the number of directories: all 256 of each
abbrev pub folder-bytes : List Edge
folder-bytes =
    swept 256 (λ n. is-sound (with_folder (housing [] four) n) (leb n 4))
    ∷ swept 256 (λ n. is-sound (housing (in_folder n one ∷ []) four) (leb n 4))
    ∷ swept 256 (λ n. is-sound (housed-in four n) (eqb n 4))
    ∷ []
