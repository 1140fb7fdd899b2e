-- A card in use, and what is seen of it.
use Rattle.std.specs.Prelude.{ℕ, zero, suc, false, List, [], ◌∷◌, ◌++◌, replicate}
use Rattle.files.specs.declared.Directory.{Directory}
use Rattle.files.specs.Part.{zeros}
use Rattle.files.specs.State.{new_file, new_folder, with_newest, with_used, no_files, one_more, one_more_folder}
use Rattle.files.specs.Directory.{extent}
use Rattle.files.specs.Listed.{records}
use Rattle.rules.specs.declared.Card.{Card}
use Rattle.rules.specs.declared.Session.{Session}
use Rattle.rules.specs.State.{Which, device, admin, user, transport, credential, value_of, with_session, with_directory, with_login, with_challenge, with_journal, journal_of}
use Rattle.rules.specs.Target.{file_of}
use Rattle.rules.specs.Calls.{Given, fresh}

abbrev pub given : Which → Given
given device = record { value = replicate 16 7; limit = 128 }
given admin = record { value = replicate 6 0x38; limit = 5 }
given user = record { value = replicate 6 0x31; limit = 3 }
given transport = record { value = 0 ∷ 1 ∷ 2 ∷ 3 ∷ 4 ∷ 5 ∷ 6 ∷ 7 ∷ 8 ∷ 9 ∷ 10 ∷ 11 ∷ 12 ∷ 13 ∷ 14 ∷ 15 ∷ []; limit = 10 }

-- a cyclic file of two records of one byte, full: 11 is the newest, 10 the oldest; notes, the one note 41 42 of eight bytes; four bytes of settings; another
-- cyclic file of two, which holds 20 alone; and a directory
abbrev pub shelf : Directory
shelf =
    one_more_folder
    (one_more
    (one_more (one_more (one_more no_files (with_newest (new_file 0x01 0x01 0x2E 2 1 0 0) 2 1)) (with_used (new_file 0x01 0x02 0x2C 0 8 0 0) 3)) (new_file 0x01 0x03 0x28 0 4 0 0))
    (with_newest (new_file 0x01 0x04 0x2E 2 1 0 0) 1 0))
    (new_folder 0x51 0x01 0)

abbrev pub area : List ℕ
area = 10 ∷ 11 ∷ 2 ∷ 0x41 ∷ 0x42 ∷ 0 ∷ 0 ∷ 0 ∷ 0 ∷ 0 ∷ 1 ∷ 2 ∷ 3 ∷ 4 ∷ 20 ∷ zeros 4081

-- all rights held, no file current, in the root
abbrev pub session : Session
session = record { rights = 1 ∷ 1 ∷ 1 ∷ []; current = 0; challenge = zeros 16; len = 0; folder = 0 }

abbrev pub card : Card
card = with_directory (with_session (fresh (record { given = given; mode = 0 })) session) shelf

-- one try left of the user PIN, and none, its right not held
abbrev pub tired : Card
tired = with_login user card (record { left = 1; limit = 3 }) false

abbrev pub blocked : Card
blocked = with_login user card (record { left = 0; limit = 3 }) false

-- nine tries left of the transport key, and a challenge of four bytes
abbrev pub asked : Card
asked = with_challenge (with_login transport card (record { left = 9; limit = 10 }) false) (0x00 ∷ 0x11 ∷ 0x22 ∷ 0x33 ∷ [])

-- ---- what is seen
abbrev pub joined : List (List ℕ) → List ℕ
joined [] = []
joined (r ∷ rs) = r ++ joined rs

-- the records of file n
abbrev pub list : ℕ → Card → List ℕ → List ℕ
list n c bytes = joined (records (file_of c n) (extent c.directory n bytes))

-- tries left and value of the user PIN
abbrev pub pin : Card → List ℕ
pin c = (credential c 2).tries.left ∷ value_of (credential c 2)

-- how many files and directories
abbrev pub counts : Card → List ℕ
counts c = c.directory.count ∷ c.directory.number ∷ []

-- a card of sixteen empty cyclic files of two records of one byte, and an area in which all is 00
abbrev pub shelved : ℕ → Directory
shelved zero = no_files
shelved (suc n) = one_more (shelved n) (new_file 0x01 (suc n) 0x2E 2 1 0 0)

abbrev pub crowded : Card
crowded = with_directory (with_session (fresh (record { given = given; mode = 0 })) session) (shelved 16)

-- the card with this in the journal
abbrev pub noting : ℕ → List ℕ → Card → Card
noting what bytes c = with_journal c (journal_of what bytes)
