-- Recovery of cards that a cut leaves, and of those that none does.
use Rattle.std.specs.Prelude.{ℕ, false, List, [], ◌∷◌, ◌++◌, length, replicate}
use Rattle.files.specs.State.{new_file, new_folder, with_files, with_folders}
use Rattle.files.specs.Part.{zeros}
use Rattle.files.specs.Directory.{file}
use Rattle.rules.specs.declared.Card.{Card}
use Rattle.rules.specs.State.{user, challenge, waiting, with_directory, with_waiting, with_login}
use Rattle.power.specs.Store.{alter}
use Rattle.power_examples.specs.Table.{Row, recovered}
use Rattle.power_examples.specs.Cards.{area, card, asked, list, pin, counts, noting, crowded}

-- what the journal holds, and what does not last: rights, current file and directory, challenge, waiting bytes
abbrev pub noted : Card → List ℕ
noted c = c.journal.what ∷ c.journal.bytes

abbrev pub unlasting : Card → List ℕ
unlasting c = c.session.rights ++ (c.session.current ∷ c.session.folder ∷ length (challenge c) ∷ length (waiting c) ∷ [])

-- the new PIN 222222 in the journal, whole
abbrev pub new-pin : List ℕ
new-pin = replicate 6 0x32 ++ (replicate 10 0 ++ (6 ∷ []))

-- how many records the last two of sixteen files hold
abbrev pub last-held : Card → List ℕ
last-held c = (file c.directory 15).held ∷ (file c.directory 16).held ∷ []

-- a committed journal is carried out: a PIN, and what a file knows of its records; bytes that are not committed are cleared
abbrev pub journals : List Row
journals =
    recovered (noting 3 new-pin card) area 0 pin (3 ∷ replicate 6 0x32)
    ∷ recovered (noting 3 new-pin card) area 0 noted (zeros 18)
    ∷ recovered (noting 2 new-pin card) area 0 pin (3 ∷ replicate 6 0x31)
    ∷ recovered (noting 0 new-pin card) area 0 pin (3 ∷ replicate 6 0x31)
    ∷ recovered (noting 0 (replicate 17 0xFF) card) area 0 noted (zeros 18)
    ∷ recovered (noting 16 (1 ∷ 0 ∷ zeros 15) card) area 0 (λ c. list 1 c area) (10 ∷ [])
    ∷ recovered (noting 31 (1 ∷ 0 ∷ zeros 15) crowded) (zeros 4096) 0 last-held (0 ∷ 1 ∷ [])
    ∷ recovered (noting 17 (0 ∷ 0 ∷ 0 ∷ 0 ∷ zeros 13) card) area 4 noted (17 ∷ zeros 17)
    ∷ []

-- a journal that no cut leaves (4), and all stays: the keys, numbers that name nothing, a file past the last, a file that has no record then; and one that makes no
-- sound card
abbrev pub impossible : List Row
impossible =
    recovered (noting 1 (replicate 16 7 ++ (16 ∷ [])) card) area 4 noted (1 ∷ replicate 16 7 ++ (16 ∷ []))
    ∷ recovered (noting 4 (replicate 16 7 ++ (16 ∷ [])) card) area 4 noted (4 ∷ replicate 16 7 ++ (16 ∷ []))
    ∷ recovered (noting 5 new-pin card) area 4 noted (5 ∷ new-pin)
    ∷ recovered (noting 15 (1 ∷ 0 ∷ zeros 15) card) area 4 noted (15 ∷ 1 ∷ zeros 16)
    ∷ recovered (noting 20 (1 ∷ 0 ∷ zeros 15) card) area 4 noted (20 ∷ 1 ∷ zeros 16)
    ∷ recovered (noting 32 (1 ∷ 0 ∷ zeros 15) card) area 4 noted (32 ∷ 1 ∷ zeros 16)
    ∷ recovered (noting 255 (1 ∷ 0 ∷ zeros 15) card) area 4 noted (255 ∷ 1 ∷ zeros 16)
    ∷ recovered (noting 16 (zeros 17) card) area 4 noted (16 ∷ zeros 17)
    ∷ recovered (noting 3 (zeros 17) card) area 4 noted (3 ∷ zeros 17)
    ∷ recovered (noting 16 (3 ∷ 0 ∷ zeros 15) card) area 4 noted (16 ∷ 3 ∷ zeros 16)
    ∷ recovered (noting 18 (1 ∷ 0 ∷ zeros 15) card) area 4 noted (18 ∷ 1 ∷ zeros 16)
    ∷ []

-- what lies past the last file and the last directory is cleared, and so is what does not last; an area of another size is 2, before all else, and any other unsound
-- byte 4
abbrev pub past-files : Card → Card
past-files c = with_directory c (with_files c.directory (alter (λ f. new_file 9 9 9 9 9 9 9) c.directory.files 4))

abbrev pub past-folders : Card → Card
past-folders c = with_directory c (with_folders c.directory (alter (λ x. new_folder 9 9 9) c.directory.folders 3))

abbrev pub others : List Row
others =
    recovered (past-files card) area 0 (λ c. c.directory.count ∷ list 1 c area) (4 ∷ 11 ∷ 10 ∷ [])
    ∷ recovered (past-folders card) area 0 counts (4 ∷ 1 ∷ [])
    ∷ recovered asked area 0 unlasting (zeros 7)
    ∷ recovered (with_waiting card (1 ∷ 2 ∷ [])) area 0 unlasting (zeros 7)
    ∷ recovered (noting 5 new-pin card) (zeros 4095) 2 noted (5 ∷ new-pin)
    ∷ recovered card (area ++ (0 ∷ [])) 2 unlasting (1 ∷ 1 ∷ 1 ∷ zeros 4)
    ∷ recovered (with_login user card (record { left = 4; limit = 3 }) false) area 4 pin (4 ∷ replicate 6 0x31)
    ∷ []
