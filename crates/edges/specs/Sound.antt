-- "A state is sound when all this holds": cards with one thing wrong, beside cards at the edge that are sound. That commands and resets refuse the
-- first by 4 and serve the others, `served` says.
use Rattle.std.specs.Prelude.{ℕ, true, false, List, [], ◌∷◌, ◌++◌, take, replicate}
use Rattle.files.specs.declared.File.{File}
use Rattle.files.specs.Part.{zeros}
use Rattle.files.specs.State.{blank_file, new_file, with_newest, no_files, with_file, one_more}
use Rattle.rules.specs.declared.Tries.{Tries}
use Rattle.rules.specs.declared.Credential.{Credential}
use Rattle.rules.specs.declared.Card.{Card}
use Rattle.rules.specs.Tries.{full}
use Rattle.rules.specs.State.{Which, device, admin, user, transport, with_credential, with_directory, with_session, with_journal, journal_of, with_login}
use Rattle.edges.specs.Table.{hex, random, Edge, stated}
use Rattle.edges.specs.Cards.{holder, filed, add, cabinet}
use Rattle.edges.specs.Create.{fifteen}

-- each with an area of 00 of so many bytes
abbrev pub bad-in : ℕ → List Card → List Edge
bad-in n [] = []
bad-in n (c ∷ cs) = stated c (zeros n) false ∷ bad-in n cs

abbrev pub good-in : ℕ → List Card → List Edge
good-in n [] = []
good-in n (c ∷ cs) = stated c (zeros n) true ∷ good-in n cs

-- the cabinet's files, and any others, lie in the area
abbrev pub bad : List Card → List Edge
bad = bad-in 340

abbrev pub good : List Card → List Edge
good = good-in 340

abbrev pub plain : Card
plain = filed false false false

abbrev pub tries : ℕ → ℕ → Tries
tries left limit = record { left = left; limit = limit }

abbrev pub valued : List ℕ → ℕ → Credential
valued bytes len = record { value = bytes; len = len; tries = full 3 }

-- the card with this device key, this admin or user PIN, or this transport key: credentials 0 to 3
abbrev pub with-device : Credential → Card
with-device = with_credential plain 0

abbrev pub with-admin : Credential → Card
with-admin = with_credential plain 1

abbrev pub with-user : Credential → Card
with-user = with_credential plain 2

abbrev pub with-transport : Credential → Card
with-transport = with_credential plain 3

-- a key is 16 bytes of any value, in sixteen places
abbrev pub bad-keys : (Credential → Card) → List Card
bad-keys with-key =
    with-key (valued (replicate 15 0x31 ++ zeros 1) 15)
    ∷ with-key (valued (zeros 16) 15)
    ∷ with-key (valued (zeros 16) 0)
    ∷ with-key (valued (zeros 16) 17)
    ∷ with-key (valued (hex 0x1_313233343536 ++ zeros 10) 6)
    ∷ with-key (valued (zeros 15) 15)
    ∷ with-key (valued (zeros 15) 16)
    ∷ with-key (valued (zeros 17) 16)
    ∷ with-key (valued (zeros 17) 17)
    ∷ []

abbrev pub good-keys : (Credential → Card) → List Card
good-keys with-key =
    with-key (valued (zeros 16) 16)
    ∷ with-key (valued (replicate 16 0xFF) 16)
    ∷ with-key (valued (replicate 16 0x31) 16)
    ∷ with-key (valued random 16)
    ∷ []

-- a PIN is 6 to 16 bytes, each 30 to 39; PIN bytes past its length are 00
abbrev pub bad-pins : (Credential → Card) → List Card
bad-pins with-pin =
    with-pin (valued (replicate 5 0x31 ++ zeros 11) 5)
    ∷ with-pin (valued (zeros 16) 0)
    ∷ with-pin (valued (replicate 16 0xFF) 16)
    ∷ with-pin (valued random 16)
    ∷ with-pin (valued (replicate 16 0x31) 17)
    ∷ with-pin (valued (hex 0x1_31323334352F ++ zeros 10) 6)
    ∷ with-pin (valued (hex 0x1_3132333A3536 ++ zeros 10) 6)
    ∷ with-pin (valued (hex 0x1_313233343536 ++ (0x31 ∷ zeros 9)) 6)
    ∷ with-pin (valued (hex 0x1_313233343536 ++ zeros 9 ++ (0x01 ∷ [])) 6)
    -- sixteen places
    ∷ with-pin (valued (hex 0x1_313233343536 ++ zeros 9) 6)
    ∷ with-pin (valued (hex 0x1_313233343536 ++ zeros 11) 6)
    ∷ []

abbrev pub good-pins : (Credential → Card) → List Card
good-pins with-pin = with-pin (valued (hex 0x1_303132333439 ++ zeros 10) 6) ∷ with-pin (valued (replicate 16 0x39) 16) ∷ []

-- a limit of 1 to 128, tries left from 0 to the limit
abbrev pub bad-tries : Which → List Card
bad-tries w =
    with_login w plain (tries 0 0) false
    ∷ with_login w plain (tries 129 129) false
    ∷ with_login w plain (tries 0 129) false
    ∷ with_login w plain (tries 4 3) false
    ∷ []

-- a held right has all its tries left
abbrev pub bad-logins : Which → List Card
bad-logins w = with_login w plain (tries 2 3) true ∷ with_login w plain (tries 0 3) true ∷ bad-tries w

abbrev pub good-logins : Which → List Card
good-logins w =
    with_login w plain (tries 0 1) false
    ∷ with_login w plain (tries 128 128) true
    ∷ with_login w plain (tries 2 3) false
    ∷ with_login w plain (tries 3 3) false
    ∷ []

-- four credentials
abbrev pub keeping : List Credential → Card
keeping xs = record { credentials = xs; directory = plain.directory; session = plain.session; response = plain.response; journal = plain.journal }

abbrev pub bad-counts : List Card
bad-counts =
    keeping (take 3 plain.credentials) ∷ keeping (plain.credentials ++ (valued (hex 0x1_313233343536 ++ zeros 10) 6 ∷ [])) ∷ keeping [] ∷ []

abbrev pub credentials : List Edge
credentials =
    bad (bad-keys with-device) ++ good (good-keys with-device)
    ++ bad (bad-keys with-transport) ++ good (good-keys with-transport)
    ++ bad (bad-pins with-admin) ++ good (good-pins with-admin)
    ++ bad (bad-pins with-user) ++ good (good-pins with-user)
    ++ bad (bad-logins device) ++ good (good-logins device)
    ++ bad (bad-logins admin) ++ good (good-logins admin)
    ++ bad (bad-logins user) ++ good (good-logins user)
    -- the transport key opens no right (R-9)
    ++ bad (bad-tries transport) ++ good (good-logins transport)
    ++ bad bad-counts

-- a card with these files alone
abbrev pub having : List File → Card
having fs = with_directory (holder false false false) (add fs no_files)

-- a card whose places hold these, of which the first n count
abbrev pub places : List File → ℕ → Card
places fs n = with_directory (holder false false false) (record { files = fs; count = n; folders = no_files.folders; number = 0 })

-- one file, wrong in one thing
abbrev pub bad-files : List Card
bad-files =
    -- SFI 1 to 30
    having (new_file 0x10 0x00 0x28 0 1 0x00 0x00 ∷ [])
    ∷ having (new_file 0x10 0x1F 0x28 0 1 0x00 0x00 ∷ [])
    -- types and sizes
    ∷ having (new_file 0x10 0x01 0x29 2 2 0x00 0x00 ∷ [])
    ∷ having (new_file 0x10 0x01 0x28 0 0 0x00 0x00 ∷ [])
    ∷ having (new_file 0x10 0x01 0x28 16 1 0x00 0x00 ∷ [])
    ∷ having (new_file 0x10 0x01 0x2A 1 1 0x00 0x00 ∷ [])
    ∷ having (new_file 0x10 0x01 0x2A 255 1 0x00 0x00 ∷ [])
    ∷ having (new_file 0x10 0x01 0x2E 2 0 0x00 0x00 ∷ [])
    ∷ having (new_file 0x10 0x01 0x2E 2 179 0x00 0x00 ∷ [])
    -- no rights byte is bad
    ∷ having (new_file 0x10 0x01 0x28 0 1 0x02 0x00 ∷ [])
    ∷ having (new_file 0x10 0x01 0x28 0 1 0x00 0x8F ∷ [])
    ∷ having (new_file 0x10 0x01 0x28 0 1 0x06 0x00 ∷ [])
    ∷ having (new_file 0x10 0x01 0x28 0 1 0x00 0x0C ∷ [])
    -- a 2E file holds at most its count, its newest place is below its count, and 00 where it holds none
    ∷ having (with_newest (new_file 0x10 0x01 0x2E 2 1 0x00 0x00) 3 1 ∷ [])
    ∷ having (with_newest (new_file 0x10 0x01 0x2E 2 1 0x00 0x00) 1 2 ∷ [])
    ∷ having (with_newest (new_file 0x10 0x01 0x2E 2 1 0x00 0x00) 0 1 ∷ [])
    -- in any other both are 00
    ∷ having (with_newest (new_file 0x10 0x01 0x28 0 2 0x00 0x00) 1 0 ∷ [])
    ∷ having (with_newest (new_file 0x10 0x01 0x28 0 2 0x00 0x00) 0 1 ∷ [])
    ∷ having (with_newest (new_file 0x10 0x01 0x2A 2 1 0x00 0x00) 1 0 ∷ [])
    ∷ having (with_newest (new_file 0x10 0x01 0x2A 2 1 0x00 0x00) 0 1 ∷ [])
    -- SFIs different in every file
    ∷ having (new_file 0x10 0x01 0x28 0 1 0x00 0x00 ∷ new_file 0x20 0x01 0x28 0 1 0x00 0x00 ∷ [])
    ∷ having (new_file 0x10 0x01 0x28 0 1 0x00 0x00 ∷ new_file 0x10 0x02 0x28 0 1 0x00 0x00 ∷ new_file 0x10 0x01 0x28 0 1 0x00 0x00 ∷ [])
    -- in the area
    ∷ having (new_file 0x10 0x01 0x28 16 0 0x00 0x00 ∷ new_file 0x10 0x02 0x28 0 1 0x00 0x00 ∷ [])
    ∷ having (new_file 0x10 0x01 0x2A 254 178 0x00 0x00 ∷ [])
    ∷ []

-- directory places past the last file are unused: one field of the last place, or of the first, is not 00
abbrev pub bad-places : List Card
bad-places =
    with_directory plain (with_file cabinet 15 (new_file 1 0 0 0 0 0 0))
    ∷ with_directory plain (with_file cabinet 15 (new_file 0 1 0 0 0 0 0))
    ∷ with_directory plain (with_file cabinet 15 (new_file 0 0 1 0 0 0 0))
    ∷ with_directory plain (with_file cabinet 15 (new_file 0 0 0 1 0 0 0))
    ∷ with_directory plain (with_file cabinet 15 (new_file 0 0 0 0 1 0 0))
    ∷ with_directory plain (with_file cabinet 15 (new_file 0 0 0 0 0 1 0))
    ∷ with_directory plain (with_file cabinet 15 (new_file 0 0 0 0 0 0 1))
    ∷ with_directory plain (with_file cabinet 15 (with_newest blank_file 1 0))
    ∷ with_directory plain (with_file cabinet 8 (with_newest blank_file 0 1))
    ∷ with_directory plain (with_file no_files 0 (new_file 0x10 0x01 0x28 0 1 0x00 0x00))
    -- the last of the files that count is none
    ∷ places cabinet.files 9
    -- sixteen places, at most 16 files
    ∷ places (replicate 15 blank_file) 0
    ∷ places (replicate 17 blank_file) 0
    ∷ places (one_more fifteen (new_file 0x10 0x10 0x28 0 1 0x00 0x00)).files 17
    ∷ []

abbrev pub good-files : List Card
good-files =
    having (new_file 0x00 0x01 0x28 16 0 0x0F 0xC1 ∷ [])
    ∷ having (new_file 0xFF 0xFE 0x2A 254 16 0x81 0x41 ∷ [])
    ∷ having (new_file 0x10 0x01 0x2A 2 178 0x80 0x40 ∷ new_file 0x10 0x02 0x28 14 156 0x01 0x00 ∷ [])
    ∷ having (new_file 0x10 0x01 0x28 0 1 0x04 0xC6 ∷ [])
    ∷ having (with_newest (new_file 0x10 0x01 0x2E 2 1 0x00 0x00) 2 1 ∷ with_newest (new_file 0x10 0x02 0x2E 254 1 0x00 0x00) 1 253 ∷ [])
    ∷ places (one_more fifteen (new_file 0x10 0x10 0x28 0 1 0x00 0x00)).files 16
    ∷ []

-- an area of one byte more tells files that end past 4,096 from files that end past their area
abbrev pub directories : List Edge
directories = bad-in 4097 bad-files ++ bad bad-places ++ good-in 4096 good-files

-- a session with this current file and challenge
abbrev pub session : ℕ → List ℕ → ℕ → Card
session current challenge len =
    with_session plain (record { rights = zeros 3; current = current; challenge = challenge; len = len; folder = 0 })

-- rights kept so: device, admin, user
abbrev pub keeps : List ℕ → Card
keeps rights = with_session plain (record { rights = rights; current = 0; challenge = zeros 16; len = 0; folder = 0 })

-- the current file exists; the challenge is 4, 8 or 16 bytes or none, and bytes past it are 00
abbrev pub bad-sessions : List Card
bad-sessions =
    -- each right is kept as 0 or 1, in three places
    keeps (2 ∷ 0 ∷ 0 ∷ [])
    ∷ keeps (255 ∷ 0 ∷ 0 ∷ [])
    ∷ keeps (0 ∷ 2 ∷ 0 ∷ [])
    ∷ keeps (0 ∷ 255 ∷ 0 ∷ [])
    ∷ keeps (0 ∷ 0 ∷ 2 ∷ [])
    ∷ keeps (0 ∷ 0 ∷ 255 ∷ [])
    ∷ keeps (zeros 2)
    ∷ keeps (zeros 4)
    ∷ session 9 (zeros 16) 0
    ∷ session 255 (zeros 16) 0
    ∷ session 0 (0x01 ∷ zeros 15) 0
    ∷ session 0 (0x01 ∷ zeros 15) 1
    ∷ session 0 (0x01 ∷ zeros 15) 5
    ∷ session 0 (0x01 ∷ zeros 15) 12
    ∷ session 0 random 17
    ∷ session 0 random 8
    ∷ session 0 (zeros 4 ++ (0x01 ∷ zeros 11)) 4
    -- sixteen places
    ∷ session 0 (zeros 15) 0
    ∷ session 0 (zeros 17) 0
    ∷ []

abbrev pub good-sessions : List Card
good-sessions = session 8 (zeros 16) 0 ∷ session 1 (zeros 16) 4 ∷ session 0 (replicate 8 0xFF ++ zeros 8) 8 ∷ session 0 random 16 ∷ []

-- a journal that says this and holds these bytes
abbrev pub noting : ℕ → List ℕ → Card
noting what bytes = with_journal plain (journal_of what bytes)

-- nothing is in the journal (R-10), in seventeen places
abbrev pub bad-journals : List Card
bad-journals =
    noting 1 (zeros 17)
    ∷ noting 2 (zeros 17)
    ∷ noting 16 (zeros 17)
    ∷ noting 255 (zeros 17)
    ∷ noting 0 (0x01 ∷ zeros 16)
    ∷ noting 0 (zeros 8 ++ (0x80 ∷ zeros 8))
    ∷ noting 0 (zeros 16 ++ (0xFF ∷ []))
    ∷ noting 0 (zeros 16)
    ∷ noting 0 (zeros 18)
    ∷ []

abbrev pub sessions : List Edge
sessions = bad bad-sessions ++ good good-sessions ++ bad bad-journals
