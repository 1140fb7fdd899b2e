-- A state is sound when all this holds: document 01's list, with what R-1, R-5 to R-7, R-9 and R-10 add to it, over the state's fields. The rules' test says just that.
use Rattle.std.specs.Prelude.{ℕ, ◌%◌, ◌≤◌, ◌<◌, true, List, [], ◌∷◌, ◌⊎◌, ◌≡◌, length, take, drop, replicate}
use Rattle.files.specs.declared.File.{File}
use Rattle.files.specs.State.{blank_file, blank_folder}
use Rattle.rules.specs.declared.Credential.{Credential}
use Rattle.rules.specs.declared.Card.{Card}
use Rattle.rules.specs.Words.{byte}
use Rattle.rules.specs.Sound.{sound}
use Rattle.demands.specs.Held.{file_no, IsFile, size_of_first, bytes_no, folder_no, IsFolder, tag_no, Within, bytes_used, credential_no, right_no, label_of, label_no}
use Rattle.demands.specs.Ledger.{Tag, size_of, fid_of, sfi_of, fid_of_tag}
use Rattle.served.specs.Left.{wait_no}
use Rattle.served.specs.Calls.{GoodPin}
use Rattle.served.specs.Answers.{GoodRight, GoodContents}

-- of m bytes the first n are used, and every other is 00
pub record Padded (n m : ℕ) (bytes : List ℕ) : Type 0 where
  pub as_many : length bytes ≡ m
  pub most : n ≤ m
  pub rest : (i : ℕ) → n ≤ i → byte bytes i ≡ 0

-- the device key and the transport key have 16 bytes, a PIN 6 to 16 digits; a limit of 1 to 128, tries left from 0 to the limit, all of them where the right is held
pub record SoundCredential (n : ℕ) (x : Credential) (right : ℕ) : Type 0 where
  pub value : Padded x.len 16 x.value
  pub key : (n ≡ 0) ⊎ (n ≡ 3) → x.len ≡ 16
  pub pin : ((n ≡ 0) ⊎ (n ≡ 3) → ⊥) → GoodPin (take x.len x.value)
  pub limit : (1 ≤ x.tries.limit) × (x.tries.limit ≤ 128)
  pub left : x.tries.left ≤ x.tries.limit
  pub right_kept : right ≤ 1
  pub full : right ≡ 1 → x.tries.left ≡ x.tries.limit

-- SFI 1 to 30; type, size and rights; what a 2E file and a 2C file know, and 00 in any other
pub record SoundFile (f : File) : Type 0 where
  pub sfi : (1 ≤ sfi_of (label_of f)) × (sfi_of (label_of f) ≤ 30)
  pub contents : GoodContents (label_of f)
  pub cyclic : f.kind ≡ 0x2E → (f.held ≤ f.size1) × (f.newest < f.size1) × (f.held ≡ 0 → f.newest ≡ 0)
  pub not-cyclic : (f.kind ≡ 0x2E → ⊥) → (f.held ≡ 0) × (f.newest ≡ 0)
  pub variable : f.kind ≡ 0x2C → bytes_used f ≤ size_of (label_of f)
  pub not-variable : (f.kind ≡ 0x2C → ⊥) → bytes_used f ≡ 0

-- lengths of 1 to 178 part these bytes exactly
pub data Parted : List ℕ → Type 0 where
  nothing_left : Parted []
  one_more : (x : ℕ) (more : List ℕ) → 1 ≤ x → x ≤ 178 → x ≤ length more → Parted (drop x more) → Parted (x ∷ more)

-- at most 16 files, whose bytes lie in the area; no SFI twice in a directory, which exists; places past the last file are blank
pub record SoundFiles (c : Card) (area : List ℕ) : Type 0 where
  pub places : length c.directory.files ≡ 16
  pub few : c.directory.count ≤ 16
  pub room : size_of_first c.directory.files c.directory.count ≤ 4096
  pub inside : size_of_first c.directory.files c.directory.count ≤ length area
  pub each : (n : ℕ) → IsFile c n → SoundFile (file_no c n)
  pub unused : (n : ℕ) → c.directory.count < n → n ≤ 16 → file_no c n ≡ blank_file
  pub housed : (n : ℕ) → IsFile c n → (file_no c n).folder ≤ c.directory.number
  pub one-sfi : (folder n m : ℕ) → Within c folder n → Within c folder m → sfi_of (label_no c n) ≡ sfi_of (label_no c m) → n ≡ m
  pub parted : (n : ℕ) → IsFile c n → (file_no c n).kind ≡ 0x2C → Parted (take (bytes_used (file_no c n)) (bytes_no c area n))

-- a directory: the low five bits of its FID are 1 to 30, and its creation right is a good one
pub record SoundFolder (x : Tag) : Type 0 where
  pub fid : (1 ≤ fid_of_tag x % 32) × (fid_of_tag x % 32 ≤ 30)
  pub right : GoodRight x.create

-- at most four directories; no FID twice, among them or with a file in the root; places past the last directory are blank
pub record SoundFolders (c : Card) : Type 0 where
  pub places : length c.directory.folders ≡ 4
  pub few : c.directory.number ≤ 4
  pub each : (n : ℕ) → IsFolder c n → SoundFolder (tag_no c n)
  pub unused : (n : ℕ) → c.directory.number < n → n ≤ 4 → folder_no c n ≡ blank_folder
  pub one-fid : (n m : ℕ) → IsFolder c n → IsFolder c m → fid_of_tag (tag_no c n) ≡ fid_of_tag (tag_no c m) → n ≡ m
  pub no-file : (n m : ℕ) → IsFolder c n → Within c 0 m → fid_of_tag (tag_no c n) ≡ fid_of (label_no c m) → ⊥

-- four credentials, the last of which has no right; the current directory exists, and the current file lies in it; a challenge of 4, 8 or 16 bytes or none;
-- at most 256 bytes wait, and none in mode 0; the journal is 00
pub record Sound (c : Card) (area : List ℕ) : Type 0 where
  pub four : length c.credentials ≡ 4
  pub three-rights : length c.session.rights ≡ 3
  pub credentials : (n : ℕ) → n < 4 → SoundCredential n (credential_no c n) (right_no c n)
  pub files : SoundFiles c area
  pub folders : SoundFolders c
  pub current : c.session.current ≤ c.directory.count
  pub current-folder : c.session.folder ≤ c.directory.number
  pub current-lies : 1 ≤ c.session.current → (file_no c c.session.current).folder ≡ c.session.folder
  pub challenge : Padded c.session.len 16 c.session.challenge
  pub challenge-length : (c.session.len ≡ 0) ⊎ ((c.session.len ≡ 4) ⊎ ((c.session.len ≡ 8) ⊎ (c.session.len ≡ 16)))
  pub mode : c.response.mode ≤ 1
  pub waiting : Padded (wait_no c) 256 c.response.bytes
  pub none-wait : c.response.mode ≡ 0 → wait_no c ≡ 0
  pub no-journal : (c.journal.what ≡ 0) × (c.journal.bytes ≡ replicate 17 0)

abbrev pub SoundBothWays : Type 0
SoundBothWays = (c : Card) (area : List ℕ) → (sound c area ≡ true → Sound c area) × (Sound c area → sound c area ≡ true)
