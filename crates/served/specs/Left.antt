-- What a command says, and what it leaves of the card and the area: one form for all commands.
use Rattle.std.specs.Prelude.{ℕ, ◌+◌, ◌-◌, ◌*◌, ◌%◌, ◌≤◌, ◌<◌, List, [], ◌++◌, ◌⊎◌, ◌≡◌, length, take, drop, set, replicate}
use Rattle.rules.specs.declared.Card.{Card}
use Rattle.rules.specs.Words.{byte}
use Rattle.rules.specs.Effect.{Stepped}
use Rattle.demands.specs.Held.{file_no, start_no, bytes_no, credential_no, value_no, left_no, limit_no, right_no, label_of, label_no}
use Rattle.demands.specs.Ledger.{size_of}

-- the mode; how many bytes wait, by two counts, high byte first; and these bytes
abbrev pub mode : Card → ℕ
mode c = c.response.mode

abbrev pub wait_no : Card → ℕ
wait_no c = c.response.count1 * 256 + c.response.count2

abbrev pub waiting : Card → List ℕ
waiting c = take (wait_no c) c.response.bytes

-- the challenge, [] for none
abbrev pub challenge : Card → List ℕ
challenge c = take c.session.len c.session.challenge

-- the card with so many tries left of the transport key, credential 3, and all else as it is (R-9)
abbrev pub with_key_tries : Card → ℕ → Card
with_key_tries c left = record {
  credentials =
      set c.credentials 3
      (record { value = (credential_no c 3).value; len = (credential_no c 3).len; tries = record { left = left; limit = limit_no c 3 } });
  directory = c.directory;
  session = c.session;
  response = c.response;
  journal = c.journal;
}

-- a condition, with the word or the number of its refusal: where it does not hold the refusal, where it holds what comes next
abbrev pub Ask : (ℕ → Type 0) → Type 0 → ℕ → Type 0 → Type 0
Ask Refusal A number next = ((A → ⊥) → Refusal number) × (A → next)

-- a status word and data: in mode 0 at once, and nothing waits; in mode 1 the data wait, and 61 and their number, 00 for 256, stands for the word
pub record Says (c : Card) (sw : ℕ) (d : List ℕ) (s : Stepped) : Type 0 where
  pub mode-stays : mode s.card ≡ mode c
  pub at-once : mode c ≡ 0 → (s.sw ≡ sw) × (s.bytes ≡ d) × (waiting s.card ≡ [])
  pub later : mode c ≡ 1 → (s.bytes ≡ []) × (waiting s.card ≡ d)
  pub no-data : mode c ≡ 1 → d ≡ [] → s.sw ≡ sw
  pub some-data : mode c ≡ 1 → 1 ≤ length d → s.sw ≡ 0x6100 + length d % 256

-- the challenge with 00 behind it to 16 bytes; [] for none
pub record Challenge (x : Card) (ch : List ℕ) : Type 0 where
  pub length-is : x.session.len ≡ length ch
  pub bytes-are : x.session.challenge ≡ ch ++ replicate (16 - length ch) 0

-- no credential, right, file or directory is touched, nor a byte of the area: only the current directory, the current file and the challenge are as said
pub record LeftIn (c : Card) (area : List ℕ) (sw : ℕ) (d : List ℕ) (folder current : ℕ) (ch : List ℕ) (s : Stepped) : Type 0 where
  pub says : Says c sw d s
  pub credentials-are : s.card.credentials ≡ c.credentials
  pub rights-are : s.card.session.rights ≡ c.session.rights
  pub directory-is : s.card.directory ≡ c.directory
  pub area-is : s.area ≡ area
  pub folder-is : s.card.session.folder ≡ folder
  pub current-is : s.card.session.current ≡ current
  pub challenge-is : Challenge s.card ch

-- the current directory stays
abbrev pub Left : Card → List ℕ → ℕ → List ℕ → ℕ → List ℕ → Stepped → Type 0
Left c area sw d current ch s = LeftIn c area sw d c.session.folder current ch s

-- refused: this word and no data, and nothing changes but that the challenge is dropped and nothing waits
abbrev pub Refused : Card → List ℕ → ℕ → Stepped → Type 0
Refused c area sw s = Left c area sw [] c.session.current [] s

-- file n is written and becomes current: it keeps its directory, FID, type, sizes and rights, and all else stays, every other file, the directories and each
-- byte outside of this one
pub record Written (c : Card) (area : List ℕ) (n : ℕ) (s : Stepped) : Type 0 where
  pub says : Says c 0x9000 [] s
  pub credentials-are : s.card.credentials ≡ c.credentials
  pub rights-are : s.card.session.rights ≡ c.session.rights
  pub folder-is : s.card.session.folder ≡ c.session.folder
  pub current-is : s.card.session.current ≡ n
  pub challenge-is : Challenge s.card []
  pub folders-are : s.card.directory.folders ≡ c.directory.folders
  pub as-many-folders : s.card.directory.number ≡ c.directory.number
  pub as_many : s.card.directory.count ≡ c.directory.count
  pub label_is : label_of (file_no s.card n) ≡ label_of (file_no c n)
  pub others : (m : ℕ) → 1 ≤ m → (m ≡ n → ⊥) → (file_no s.card m ≡ file_no c m) × (bytes_no s.card s.area m ≡ bytes_no c area m)
  pub outside : (j : ℕ) → (j < start_no c n) ⊎ (start_no c n + size_of (label_no c n) ≤ j) → byte s.area j ≡ byte area j

-- these bytes are stored from a place on, and every other byte stays
abbrev pub Stores : List ℕ → ℕ → List ℕ → List ℕ → Type 0
Stores old at bytes new = new ≡ take at old ++ (bytes ++ drop (at + length bytes) old)

-- the same, from a place on where these bytes stood
pub record OneRun (old was bytes new : List ℕ) : Type 0 where
  pub at : ℕ
  pub inside : at + length bytes ≤ length old
  pub stood : take (length was) (drop at old) ≡ was
  pub stores : Stores old at bytes new

-- credential n is then this, and no other is touched, nor a file
pub record Credited (c : Card) (area : List ℕ) (sw n : ℕ) (value : List ℕ) (left right : ℕ) (s : Stepped) : Type 0 where
  pub says : Says c sw [] s
  pub value-is : value_no s.card n ≡ value
  pub left_is : left_no s.card n ≡ left
  pub limit_is : limit_no s.card n ≡ limit_no c n
  pub right_is : right_no s.card n ≡ right
  pub others : (m : ℕ) → (m ≡ n → ⊥) → (credential_no s.card m ≡ credential_no c m) × (right_no s.card m ≡ right_no c m)
  pub directory-is : s.card.directory ≡ c.directory
  pub area-is : s.area ≡ area
  pub folder-is : s.card.session.folder ≡ c.session.folder
  pub current-is : s.card.session.current ≡ c.session.current
  pub challenge-is : Challenge s.card []

-- GET RESPONSE in mode 1 (R-6), refused: this word and no data, and all stays, what waits and the challenge too
pub record Kept (c : Card) (area : List ℕ) (sw : ℕ) (s : Stepped) : Type 0 where
  pub sw-is : s.sw ≡ sw
  pub bytes-are : s.bytes ≡ []
  pub card-is : s.card ≡ c
  pub area-is : s.area ≡ area

-- or the next n of the bytes that wait: while some remain it ends in 61 and their number, else 9000; all else stays, the challenge too
pub record Fetched (c : Card) (area : List ℕ) (n : ℕ) (s : Stepped) : Type 0 where
  pub bytes-are : s.bytes ≡ take n (waiting c)
  pub waiting-are : waiting s.card ≡ drop n (waiting c)
  pub some-remain : n < length (waiting c) → s.sw ≡ 0x6100 + (length (waiting c) - n)
  pub none-remain : n ≡ length (waiting c) → s.sw ≡ 0x9000
  pub mode-stays : mode s.card ≡ mode c
  pub credentials-are : s.card.credentials ≡ c.credentials
  pub directory-is : s.card.directory ≡ c.directory
  pub session-is : s.card.session ≡ c.session
  pub area-is : s.area ≡ area
