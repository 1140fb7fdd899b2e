-- Directories for two firms (R-7): what SELECT, the commands by SFI, CREATE FILE and a reset do with them, and the states that are not sound.
use Rattle.std.specs.Prelude.{ℕ, Bool, true, false, List, [], ◌∷◌, ◌++◌, replicate}
use Rattle.files.specs.declared.File.{File}
use Rattle.files.specs.declared.Folder.{Folder}
use Rattle.files.specs.declared.Directory.{Directory}
use Rattle.files.specs.Part.{zeros}
use Rattle.files.specs.State.{new_file, in_folder, blank_folder, new_folder, blank_file, no_files, with_file}
use Rattle.rules.specs.declared.Card.{Card}
use Rattle.rules.specs.State.{with_directory, with_session}
use Rattle.edges.specs.Table.{hex, Line, again, holding, Edge, given, folders_numbers, line, reads}
use Rattle.edges.specs.Cards.{holder, told, add, add-folders, bytes_at, inside}
use Rattle.edges.specs.Create.{fifteen}
use Rattle.edges.specs.Sound.{bad, good}

-- in the root the files 1001 and 1005; in directory 2001, where the user right makes files, 1001, the cyclic 1003 and 2002; in directory 2002, where
-- nobody makes any, 1001
abbrev pub firms : Directory
firms =
    add-folders (new_folder 0x20 0x01 0x40 ∷ new_folder 0x20 0x02 0x0F ∷ [])
    (add
    -- bytes 00 to 03 of the area, and 04 to 07
    (new_file 0x10 0x01 0x28 0 4 0x00 0x00
    ∷ new_file 0x10 0x05 0x28 0 4 0x00 0x00
    -- 08 to 0B, 0C and 0D, 0E and 0F
    ∷ in_folder 1 (new_file 0x10 0x01 0x28 0 4 0x00 0x00)
    ∷ in_folder 1 (new_file 0x10 0x03 0x2E 2 1 0x00 0x00)
    ∷ in_folder 1 (new_file 0x20 0x02 0x28 0 2 0x00 0x00)
    -- 10 to 13
    ∷ in_folder 2 (new_file 0x10 0x01 0x28 0 4 0x00 0x00) ∷ [])
    no_files)

-- the card of both, which holds these rights; in the root, no file is current
abbrev pub shared : Bool → Bool → Bool → Card
shared d a u = with_directory (holder d a u) firms

abbrev pub select-folders : List Line
select-folders =
    -- a file of the root, which is current at first
    line 0x1_00A4_0000_02_1001 0x9000 ∷ inside 0 1 ∷ reads 0x1_00B0_0000_01 0x1_00
    -- not one of a directory
    ∷ line 0x1_00A4_0000_02_1003 0x6A82 ∷ inside 0 1
    -- a directory, and no file is current
    ∷ line 0x1_00A4_0000_02_2001 0x9000 ∷ inside 1 0 ∷ line 0x1_00B0_0000_01 0x6A82
    -- its own file of the same FID; not the root's; a refusal leaves both
    ∷ line 0x1_00A4_0000_02_1001 0x9000 ∷ inside 1 3 ∷ reads 0x1_00B0_0000_01 0x1_08
    ∷ line 0x1_00A4_0000_02_1005 0x6A82 ∷ line 0x1_00A4_0000_02_0000 0x6A82 ∷ line 0x1_00A4_0001_02_2002 0x6A86 ∷ line 0x1_00A4_0000_03_200201 0x6700 ∷ inside 1 3
    -- the current directory again leaves no current file
    ∷ line 0x1_00A4_0000_02_2001 0x9000 ∷ inside 1 0
    -- a file first, then the directory of the same FID, which the root has
    ∷ line 0x1_00A4_0000_02_2002 0x9000 ∷ inside 1 5 ∷ reads 0x1_00B0_0000_02 0x1_0E0F
    ∷ line 0x1_00A4_0000_02_3F00 0x9000 ∷ inside 0 0 ∷ line 0x1_00B0_0000_01 0x6A82
    ∷ line 0x1_00A4_0000_02_2002 0x9000 ∷ inside 2 0
    ∷ line 0x1_00A4_0000_02_1001 0x9000 ∷ inside 2 6 ∷ reads 0x1_00B0_0000_01 0x1_10
    -- from one to the other
    ∷ line 0x1_00A4_0000_02_2001 0x9000 ∷ inside 1 0
    -- a reset returns to the root
    ∷ line 0x1_00A4_0000_02_1003 0x9000 ∷ inside 1 4 ∷ again ∷ inside 0 0
    ∷ line 0x1_00A4_0000_02_2001 0x9000 ∷ again ∷ inside 0 0
    ∷ []

-- a read, an update and an append by SFI look only in the current directory, and make the file current
abbrev pub by-sfi : List Line
by-sfi =
    reads 0x1_00B0_8100_01 0x1_00 ∷ inside 0 1 ∷ reads 0x1_00B0_8500_01 0x1_04 ∷ line 0x1_00B0_8200_01 0x6A82 ∷ line 0x1_00B0_8300_01 0x6A82
    ∷ line 0x1_00E2_0018_01_AA 0x6A82 ∷ inside 0 2
    ∷ line 0x1_00A4_0000_02_2001 0x9000
    ∷ reads 0x1_00B0_8100_01 0x1_08 ∷ inside 1 3 ∷ reads 0x1_00B0_8200_01 0x1_0E ∷ line 0x1_00B0_8500_01 0x6A82
    ∷ line 0x1_00E2_0018_01_AA 0x9000 ∷ inside 1 4 ∷ reads 0x1_00B2_011C_00 0x1_AA ∷ line 0x1_00DC_011C_01_AB 0x9000 ∷ reads 0x1_00B2_0104_00 0x1_AB
    ∷ line 0x1_00A4_0000_02_3F00 0x9000
    ∷ line 0x1_00A4_0000_02_2002 0x9000
    ∷ line 0x1_00B0_8200_01 0x6A82 ∷ line 0x1_00B2_011C_00 0x6A82 ∷ line 0x1_00DC_011C_01_AB 0x6A82 ∷ line 0x1_00D6_8500_01_AC 0x6A82 ∷ inside 2 0
    ∷ line 0x1_00D6_8100_01_AC 0x9000 ∷ inside 2 6
    ∷ bytes_at 0 20 (hex 0x1_000102030405060708090A0BAB0D0E0FAC111213)
    ∷ []

-- type 38 in the root
abbrev pub makes-folders : List Line
makes-folders =
    line 0x1_00A4_0000_02_1005 0x9000
    -- the low five bits of a directory's FID are 1 to 30 (6A86)
    ∷ line 0x1_80E0_2000_05_3800000000 0x6A86 ∷ line 0x1_80E0_201F_05_3800000000 0x6A86 ∷ line 0x1_80E0_3F00_05_3800000000 0x6A86
    -- Lc 05 (6700)
    ∷ line 0x1_80E0_2003_04_38000000 0x6700 ∷ line 0x1_80E0_2003_06_380000000000 0x6700
    -- two bytes 00, a creation right, 00 (6A80), before the FID
    ∷ line 0x1_80E0_2003_05_3801000000 0x6A80 ∷ line 0x1_80E0_2003_05_3800010000 0x6A80 ∷ line 0x1_80E0_2003_05_3800000001 0x6A80
    ∷ line 0x1_80E0_2003_05_3800000200 0x6A80 ∷ line 0x1_80E0_2003_05_3800000800 0x6A80 ∷ line 0x1_80E0_2003_05_3800008F00 0x6A80
    ∷ line 0x1_80E0_2001_05_3801000000 0x6A80
    -- the FID is no other directory's and no root file's (6986)
    ∷ line 0x1_80E0_2001_05_3800000000 0x6986 ∷ line 0x1_80E0_2002_05_3800000000 0x6986
    ∷ line 0x1_80E0_1001_05_3800000000 0x6986 ∷ line 0x1_80E0_1005_05_3800000000 0x6986
    -- one in a directory it may be; a directory alters nothing current and stores nothing
    ∷ line 0x1_80E0_1003_05_3800000100 0x9000 ∷ inside 0 2
    -- its low five bits use up no SFI
    ∷ line 0x1_80E0_3003_05_3800008200 0x9000 ∷ inside 0 2 ∷ bytes_at 0 4096 told
    ∷ holding (λ c area. c.directory.number ∷ c.directory.count ∷ folders_numbers c.directory.folders)
    (4 ∷ 6 ∷ 0x20 ∷ 0x01 ∷ 0x40 ∷ 0x20 ∷ 0x02 ∷ 0x0F ∷ 0x10 ∷ 0x03 ∷ 0x01 ∷ 0x30 ∷ 0x03 ∷ 0x82 ∷ [])
    -- a fifth (6A84), after the FID
    ∷ line 0x1_80E0_3004_05_3800000000 0x6A84 ∷ line 0x1_80E0_3003_05_3800000000 0x6986
    -- no root file may have a directory's FID, and another of these low bits may come
    ∷ line 0x1_80E0_3003_05_2800010000 0x6986 ∷ line 0x1_80E0_1003_05_2800010000 0x6986 ∷ line 0x1_80E0_5003_05_2800010000 0x9000 ∷ inside 0 7
    ∷ line 0x1_80E0_6003_05_2800010000 0x6986
    -- the new ones are empty; the creation right of one, 82, asks the admin; by that of the other, 01, a file is made in it, of its own FID
    ∷ line 0x1_00A4_0000_02_3003 0x9000 ∷ inside 4 0 ∷ line 0x1_00B0_8300_01 0x6A82 ∷ line 0x1_80E0_1003_05_2800010000 0x6982
    ∷ line 0x1_00A4_0000_02_1003 0x9000 ∷ inside 3 0 ∷ line 0x1_80E0_1003_05_2800010000 0x9000 ∷ inside 3 8
    ∷ []

-- inside a directory its creation right is asked (6982), and not the device right; type 38 is 6A81, after it and before all else
abbrev pub by-device : List Line
by-device =
    line 0x1_00A4_0000_02_2001 0x9000
    ∷ line 0x1_80E0_1009_05_2800010000 0x6982 ∷ line 0x1_80E0_2009_05_3800000000 0x6982 ∷ line 0x1_80E0_1009_05_2900010000 0x6982
    ∷ line 0x1_80E0_1000_05_2800010000 0x6A86 ∷ line 0x1_80E0_1009_04_28000100 0x6700 ∷ inside 1 0
    ∷ []

abbrev pub by-user : List Line
by-user =
    -- in the root the device right, for directories too
    line 0x1_80E0_1009_05_2800010000 0x6982 ∷ line 0x1_80E0_2009_05_3800000000 0x6982 ∷ line 0x1_80E0_2009_05_3801000000 0x6982
    ∷ line 0x1_00A4_0000_02_2001 0x9000
    ∷ line 0x1_80E0_2009_05_3800000000 0x6A81 ∷ line 0x1_80E0_2009_05_3801000000 0x6A81 ∷ line 0x1_80E0_2001_05_3800000000 0x6A81
    ∷ line 0x1_80E0_2000_05_3800000000 0x6A86 ∷ line 0x1_80E0_2009_04_38000000 0x6700
    ∷ line 0x1_80E0_1009_05_2900010000 0x6A80 ∷ line 0x1_80E0_1001_05_2900010000 0x6A80
    -- an SFI of this directory (6986), not one of the root or of the other directory
    ∷ line 0x1_80E0_3001_05_2800010000 0x6986 ∷ line 0x1_80E0_1003_05_2800010000 0x6986 ∷ line 0x1_80E0_1003_05_2810000000 0x6986
    ∷ line 0x1_80E0_1009_05_2810000000 0x6A84
    ∷ inside 1 0
    ∷ line 0x1_80E0_1005_05_2800010000 0x9000 ∷ inside 1 7 ∷ line 0x1_80E0_1005_05_2800010000 0x6986
    ∷ bytes_at 19 3 (hex 0x1_130015)
    ∷ reads 0x1_00B0_8500_01 0x1_00 ∷ line 0x1_00A4_0000_02_3F00 0x9000 ∷ reads 0x1_00B0_8500_01 0x1_04
    -- where its creation right is never, nobody makes a file
    ∷ line 0x1_00A4_0000_02_2002 0x9000 ∷ line 0x1_80E0_1009_05_2800010000 0x6982 ∷ line 0x1_80E0_2009_05_3800000000 0x6982
    ∷ []

-- a file in a directory may have another directory's FID; from there SELECT finds the file, and from the root the directory
abbrev pub by_both : List Line
by_both =
    line 0x1_80E0_2007_05_3800000000 0x9000 ∷ line 0x1_00A4_0000_02_2001 0x9000 ∷ line 0x1_80E0_2007_05_2800010000 0x9000 ∷ inside 1 7
    ∷ line 0x1_00A4_0000_02_2001 0x9000 ∷ line 0x1_00A4_0000_02_2007 0x9000 ∷ inside 1 7
    ∷ line 0x1_00A4_0000_02_3F00 0x9000 ∷ line 0x1_00A4_0000_02_2007 0x9000 ∷ inside 3 0
    -- creation right 00: free
    ∷ line 0x1_80E0_2007_05_2800010000 0x9000 ∷ inside 3 8
    ∷ []

-- files in all stay at most 16, directories apart: one is made with 16 files, and with a full area
abbrev pub with-sixteen : List Line
with-sixteen =
    line 0x1_80E0_1010_05_2800010000 0x9000 ∷ line 0x1_80E0_1011_05_2800010000 0x6A84
    ∷ line 0x1_80E0_2001_05_3800000000 0x9000 ∷ inside 0 16
    ∷ line 0x1_00A4_0000_02_2001 0x9000 ∷ line 0x1_80E0_1001_05_2800010000 0x6A84 ∷ inside 1 0
    ∷ []

abbrev pub with-full-area : List Line
with-full-area =
    line 0x1_80E0_1002_05_2800010000 0x6A84 ∷ line 0x1_80E0_2001_05_3800000000 0x9000
    ∷ line 0x1_00A4_0000_02_2001 0x9000 ∷ line 0x1_80E0_1002_05_2800010000 0x6A84
    ∷ []

abbrev pub folders : List Edge
folders =
    given (shared false false false) told select-folders
    ∷ given (shared false false false) told by-sfi
    ∷ given (shared true false false) told makes-folders
    ∷ given (shared true true false) told by-device
    ∷ given (shared false true true) told by-user
    ∷ given (shared true false true) told by_both
    ∷ given (with_directory (holder true false false) fifteen) told with-sixteen
    ∷ given (with_directory (holder true false false) (add (new_file 0x10 0x01 0x28 16 0 0x00 0x00 ∷ []) no_files)) told with-full-area
    ∷ []

-- a card of these files and directories
abbrev pub housing : List File → List Folder → Card
housing fs xs = with_directory (holder false false false) (add-folders xs (add fs no_files))

-- one whose places for directories hold these, of which the first n count
abbrev pub housed-in : List Folder → ℕ → Card
housed-in xs n = with_directory (holder false false false) (record { files = no_files.files; count = 0; folders = xs; number = n })

-- the card of both firms in a session of this current directory and file
abbrev pub standing : ℕ → ℕ → Card
standing folder place = with_session (shared false false false) (record { rights = zeros 3; current = place; challenge = zeros 16; len = 0; folder = folder })

abbrev pub one : File
one = new_file 0x10 0x01 0x28 0 1 0x00 0x00

abbrev pub first : Folder
first = new_folder 0x20 0x01 0x00

abbrev pub bad-folders : List Card
bad-folders =
    -- low five bits 1 to 30, a good creation right
    housing [] (new_folder 0x20 0x00 0x00 ∷ [])
    ∷ housing [] (new_folder 0x20 0x1F 0x00 ∷ [])
    ∷ housing [] (new_folder 0x20 0x01 0x02 ∷ [])
    ∷ housing [] (first ∷ new_folder 0x20 0x02 0x08 ∷ [])
    -- FIDs different in every directory, and from the root files'
    ∷ housing [] (first ∷ first ∷ [])
    ∷ housing [] (first ∷ new_folder 0x20 0x02 0x00 ∷ new_folder 0x20 0x03 0x00 ∷ new_folder 0x20 0x01 0x01 ∷ [])
    ∷ housing (new_file 0x20 0x01 0x28 0 1 0x00 0x00 ∷ []) (first ∷ [])
    ∷ housing (one ∷ new_file 0x20 0x04 0x28 0 1 0x00 0x00 ∷ []) (first ∷ new_folder 0x20 0x02 0x00 ∷ new_folder 0x20 0x03 0x00 ∷ new_folder 0x20 0x04 0x01 ∷ [])
    -- a file's directory exists
    ∷ housing (in_folder 1 one ∷ []) []
    ∷ housing (in_folder 2 one ∷ []) (first ∷ [])
    ∷ housing (in_folder 255 one ∷ []) (first ∷ [])
    -- SFIs different within a directory
    ∷ housing (in_folder 1 one ∷ in_folder 1 (new_file 0x30 0x01 0x28 0 1 0x00 0x00) ∷ []) (first ∷ [])
    ∷ housing (one ∷ in_folder 1 one ∷ new_file 0x30 0x01 0x28 0 1 0x00 0x00 ∷ []) (first ∷ [])
    -- places past the last directory are 00, and a place past the last file
    ∷ housed-in (new_folder 1 0 0 ∷ replicate 3 blank_folder) 0
    ∷ housed-in (replicate 3 blank_folder ++ (new_folder 0 1 0 ∷ [])) 0
    ∷ housed-in (first ∷ new_folder 0 0 1 ∷ replicate 2 blank_folder) 1
    ∷ housed-in (first ∷ replicate 3 blank_folder) 0
    ∷ with_directory (holder false false false) (with_file no_files 0 (in_folder 1 blank_file))
    ∷ with_directory (holder false false false) (with_file firms 15 (in_folder 1 blank_file))
    -- the last of the directories that count is none; four places, at most four directories
    ∷ housed-in (first ∷ replicate 3 blank_folder) 2
    ∷ housed-in (replicate 3 blank_folder) 0
    ∷ housed-in (replicate 5 blank_folder) 0
    ∷ housed-in (first ∷ new_folder 0x20 0x02 0x00 ∷ new_folder 0x20 0x03 0x00 ∷ new_folder 0x20 0x04 0x00 ∷ []) 5
    -- the current directory exists, and the current file lies in it
    ∷ standing 3 0
    ∷ standing 255 0
    ∷ standing 0 3
    ∷ standing 1 1
    ∷ standing 1 6
    ∷ standing 2 3
    ∷ standing 0 7
    ∷ []

abbrev pub good-folders : List Card
good-folders =
    housing [] (new_folder 0x00 0x01 0x0F ∷ new_folder 0xFF 0xFE 0xC3 ∷ new_folder 0x20 0x01 0x42 ∷ new_folder 0x3F 0x01 0x00 ∷ [])
    -- the same SFI and the same FID in each
    ∷ housing (one ∷ in_folder 1 one ∷ in_folder 2 one ∷ in_folder 3 one ∷ in_folder 4 one ∷ [])
    (first ∷ new_folder 0x20 0x02 0x00 ∷ new_folder 0x20 0x03 0x00 ∷ new_folder 0x20 0x04 0x01 ∷ [])
    -- a directory's FID in a directory, its own too
    ∷ housing (in_folder 1 (new_file 0x20 0x01 0x28 0 1 0x00 0x00) ∷ in_folder 1 (new_file 0x20 0x02 0x28 0 1 0x00 0x00) ∷ []) (first ∷ new_folder 0x20 0x02 0x00 ∷ [])
    ∷ standing 0 0
    ∷ standing 0 2
    ∷ standing 1 0
    ∷ standing 1 5
    ∷ standing 2 6
    ∷ []

abbrev pub folder-states : List Edge
folder-states = bad bad-folders ++ good good-folders
