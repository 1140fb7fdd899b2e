-- Directories in a text (R-7), worked out by hand: cards without one, which have an old text too, and cards with some; then whole ranges, and refusals.
use Rattle.std.specs.Prelude.{ℕ, ◌+◌, ◌/◌, ◌%◌, Bool, ◌&&◌, List, [], ◌∷◌, ◌++◌, take, drop}
use Rattle.files.specs.declared.Folder.{Folder}
use Rattle.files.specs.State.{new_file, in_folder, new_folder, with_newest, with_used}
use Rattle.texts.specs.Text.{new, folder_line, text}
use Rattle.text_examples.specs.Bytes.{chars, lines, hex, equal}
use Rattle.text_examples.specs.Table.{Row, in-both-forms, with-folders, swept}
use Rattle.text_examples.specs.Cards.{session, in-folders, waits, holder}
use Rattle.text_examples.specs.Own.{digits, fields}
use Rattle.text_examples.specs.FileRanges.{after}
use Rattle.text_examples.specs.Refusals.{device-line, admin-line, user-line, transport-line, bad, bad-session, bad-files}

-- no directory: the root's FID ends session and file lines, and the old text is without it
abbrev pub in-root : List Row
in-root =
    in-both-forms (holder (session 0 0 0 0 []) []) []
    (lines ("000102030405060708090A0B0C0D0E0F\t128\t128" ∷ "3837363534333231\t5\t5" ∷ "313233343536\t3\t3" ∷ "101112131415161718191A1B1C1D1E1F\t10\t10" ∷ "0\t0\t0\t-\t-\t0\t-" ∷ []))
    (lines ("000102030405060708090A0B0C0D0E0F\t128\t128" ∷ "3837363534333231\t5\t5" ∷ "313233343536\t3\t3" ∷ "101112131415161718191A1B1C1D1E1F\t10\t10" ∷ "0\t0\t0\t-\t-\t0\t-\t3F00" ∷ []))
    ∷ in-both-forms
    (waits 1 (hex 0x1_0090) (holder (session 1 0 0 2 []) (with_newest (new_file 0xA1 0x01 0x2E 3 2 0x40 0x01) 3 1 ∷ with_used (new_file 0xA1 0x03 0x2C 0 6 0x40 0x40) 4 ∷ [])))
    (hex 0x1_000000012002 ++ hex 0x1_034C37200000)
    (lines ("000102030405060708090A0B0C0D0E0F\t128\t128"
    ∷ "3837363534333231\t5\t5"
    ∷ "313233343536\t3\t3"
    ∷ "101112131415161718191A1B1C1D1E1F\t10\t10"
    ∷ "1\t0\t0\tA103\t-\t1\t0090"
    ∷ "A101\t2E03024001\t3\t1"
    ∷ "000000012002"
    ∷ "A103\t2C00064040\t4\t0"
    ∷ "034C37200000"
    ∷ []))
    (lines ("000102030405060708090A0B0C0D0E0F\t128\t128"
    ∷ "3837363534333231\t5\t5"
    ∷ "313233343536\t3\t3"
    ∷ "101112131415161718191A1B1C1D1E1F\t10\t10"
    ∷ "1\t0\t0\tA103\t-\t1\t0090\t3F00"
    ∷ "A101\t2E03024001\t3\t1\t3F00"
    ∷ "000000012002"
    ∷ "A103\t2C00064040\t4\t0\t3F00"
    ∷ "034C37200000"
    ∷ []))
    ∷ []

-- four directories, and their FIDs behind the root's
abbrev pub four : List Folder
four = new_folder 0xB1 0x01 0x00 ∷ new_folder 0xB2 0x01 0x40 ∷ new_folder 0xB3 0x01 0x80 ∷ new_folder 0x00 0x01 0x0F ∷ []

abbrev pub home_of : ℕ → List ℕ
home_of n = digits (take 2 (drop (n + n) (hex 0x1_3F00B101B201B3010001)))

-- two firms: the same FID in the root and in a directory, and the second of two files of that FID current
abbrev pub two-firms : List Row
two-firms =
    with-folders
    (in-folders (new_folder 0xB1 0x01 0x01 ∷ new_folder 0xB2 0x1E 0x83 ∷ []) 2
    (holder (session 0 1 0 2 (hex 0x1_00112233))
    (new_file 0xA1 0x01 0x28 0 2 0x00 0x40 ∷ in_folder 2 (new_file 0xA1 0x01 0x28 0 3 0x40 0x40) ∷ in_folder 1 (new_file 0xB2 0x1E 0x28 0 1 0x00 0x00) ∷ [])))
    (hex 0x1_0A0B0C0D0E0F)
    (lines ("000102030405060708090A0B0C0D0E0F\t128\t128"
    ∷ "3837363534333231\t5\t5"
    ∷ "313233343536\t3\t3"
    ∷ "101112131415161718191A1B1C1D1E1F\t10\t10"
    ∷ "0\t1\t0\tA101\t00112233\t0\t-\tB21E"
    ∷ "B101\t01"
    ∷ "B21E\t83"
    ∷ "A101\t2800020040\t0\t0\t3F00"
    ∷ "0A0B"
    ∷ "A101\t2800034040\t0\t0\tB21E"
    ∷ "0C0D0E"
    ∷ "B21E\t2800010000\t0\t0\tB101"
    ∷ "0F"
    ∷ []))
    -- four directories and no file, the last current
    ∷ with-folders
    (in-folders four 4 (holder (session 0 0 0 0 []) []))
    []
    (lines ("000102030405060708090A0B0C0D0E0F\t128\t128"
    ∷ "3837363534333231\t5\t5"
    ∷ "313233343536\t3\t3"
    ∷ "101112131415161718191A1B1C1D1E1F\t10\t10"
    ∷ "0\t0\t0\t-\t-\t0\t-\t0001"
    ∷ "B101\t00"
    ∷ "B201\t40"
    ∷ "B301\t80"
    ∷ "0001\t0F"
    ∷ []))
    ∷ []

abbrev pub their-lines : List Folder → List ℕ
their-lines [] = []
their-lines (x ∷ xs) = fields (digits (x.fid1 ∷ x.fid2 ∷ []) ∷ digits (x.right ∷ []) ∷ []) ++ their-lines xs

-- so many of them, with one of them or the root current and another the home of a file
abbrev pub homes-are : ℕ → ℕ → ℕ → Bool
homes-are n current home =
    equal (text new (in-folders (take n four) current (holder (session 0 0 0 0 []) (in_folder home (new_file 0xA1 0x01 0x28 0 1 0x00 0x00) ∷ []))) (7 ∷ []))
    (lines (device-line ∷ admin-line ∷ user-line ∷ transport-line ∷ [])
    ++ fields (chars "0" ∷ chars "0" ∷ chars "0" ∷ chars "-" ∷ chars "-" ∷ chars "0" ∷ chars "-" ∷ home_of current ∷ [])
    ++ their-lines (take n four)
    ++ fields (chars "A101" ∷ chars "2800010000" ∷ chars "0" ∷ chars "0" ∷ home_of home ∷ [])
    ++ lines ("07" ∷ []))

abbrev pub folder-lines : List Row
folder-lines =
    -- each of the three bytes with every value
    swept 256 (λ b. equal (folder_line (new_folder b (after 37 b) (after 74 b))) (fields (digits (b ∷ after 37 b ∷ []) ∷ digits (after 74 b ∷ []) ∷ [])))
    -- each number of directories, and of four each as the current one and each as a home
    ∷ swept 5 (λ n. homes-are n n 0 && homes-are n 0 n)
    ∷ swept 25 (λ n. homes-are 4 (n / 5) (n % 5))
    ∷ []

-- texts that are no card's
abbrev pub bad-folders : List Row
bad-folders =
    -- the root is 3F00 and nothing else; a directory that is not there
    bad-session "0\t0\t0\t-\t-\t0\t-"
    ∷ bad-session "0\t0\t0\t-\t-\t0\t-\t"
    ∷ bad-session "0\t0\t0\t-\t-\t0\t-\t-"
    ∷ bad-session "0\t0\t0\t-\t-\t0\t-\t0000"
    ∷ bad-session "0\t0\t0\t-\t-\t0\t-\t3f00"
    ∷ bad-session "0\t0\t0\t-\t-\t0\t-\t3F"
    ∷ bad-session "0\t0\t0\t-\t-\t0\t-\tB101"
    ∷ bad-session "0\t0\t0\t-\t-\t0\t-\t3F00\t3F00"
    ∷ bad-session "3F00\t0\t0\t0\t-\t-\t0\t-"
    ∷ bad-files ("A101\t2800010000\t0\t0" ∷ "00" ∷ [])
    ∷ bad-files ("A101\t2800010000\t0\t0\t-" ∷ "00" ∷ [])
    ∷ bad-files ("A101\t2800010000\t0\t0\t0000" ∷ "00" ∷ [])
    ∷ bad-files ("A101\t2800010000\t0\t0\tB101" ∷ "00" ∷ [])
    ∷ bad-files ("3F00\tA101\t2800010000\t0\t0" ∷ "00" ∷ [])
    -- a directory twice, with a FID or right that is not good, with a root file's FID, 3F00, a fifth one, behind a file
    ∷ bad-files ("B101\t01" ∷ "B101\t01" ∷ [])
    ∷ bad-files ("B100\t01" ∷ [])
    ∷ bad-files ("B11F\t01" ∷ [])
    ∷ bad-files ("B101\t02" ∷ [])
    ∷ bad-files ("B101\t10" ∷ [])
    -- a creation right asks for no code
    ∷ bad-files ("B101\t04" ∷ [])
    ∷ bad-files ("B101\t44" ∷ [])
    ∷ bad-files ("A101\t01" ∷ "A101\t2800010000\t0\t0\t3F00" ∷ "00" ∷ [])
    ∷ bad-files ("3F00\t01" ∷ [])
    ∷ bad-files ("B101\t01" ∷ "B201\t01" ∷ "B301\t01" ∷ "B401\t01" ∷ "B501\t01" ∷ [])
    ∷ bad-files ("A101\t2800010000\t0\t0\t3F00" ∷ "00" ∷ "B101\t01" ∷ [])
    -- its line without a right, with one of one digit or in lower case, with a field more, and the right first
    ∷ bad-files ("B101" ∷ [])
    ∷ bad-files ("B101\t" ∷ [])
    ∷ bad-files ("B101\t1" ∷ [])
    ∷ bad-files ("B101\t0f" ∷ [])
    ∷ bad-files ("B101\t01\t3F00" ∷ [])
    ∷ bad-files ("01\tB101" ∷ [])
    -- an SFI twice in a directory, and a current file of another directory
    ∷ bad-files ("B101\t01" ∷ "A101\t2800010000\t0\t0\tB101" ∷ "00" ∷ "A201\t2800010000\t0\t0\tB101" ∷ "00" ∷ [])
    ∷ bad (device-line ∷ admin-line ∷ user-line ∷ transport-line ∷ "0\t0\t0\tA101\t-\t0\t-\tB101" ∷ "B101\t01" ∷ "A101\t2800010000\t0\t0\t3F00" ∷ "00" ∷ [])
    ∷ bad (device-line ∷ admin-line ∷ user-line ∷ transport-line ∷ "0\t0\t0\tA101\t-\t0\t-\t3F00" ∷ "B101\t01" ∷ "A101\t2800010000\t0\t0\tB101" ∷ "00" ∷ [])
    ∷ []
