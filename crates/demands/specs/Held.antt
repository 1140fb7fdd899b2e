-- What a card holds, in the papers' words and over the state's fields alone. No check and no effect of the rules is cited here.
use Rattle.std.specs.Prelude.{ℕ, zero, suc, ◌+◌, ◌-◌, ◌*◌, ◌/◌, ◌%◌, ◌≤◌, Bool, cond, ◌&&◌, List, [], ◌∷◌, ◌≡◌, eqb, leb, take, drop, get_or}
use Rattle.files.specs.declared.File.{File}
use Rattle.files.specs.declared.Folder.{Folder}
use Rattle.files.specs.State.{blank_file, blank_folder}
use Rattle.files.specs.Listed.{tab}
use Rattle.rules.specs.declared.Card.{Card}
use Rattle.rules.specs.declared.Credential.{Credential}
use Rattle.rules.specs.State.{Which, device, number_of, for_each, no_credential}
use Rattle.rules.specs.Frame.{Command}
use Rattle.demands.specs.Ledger.{Label, Tag, sfi_of, size_of}

-- ---- files
-- file n, counted from 1 in the order made
abbrev pub file_no : Card → ℕ → File
file_no c n = get_or c.directory.files (n - 1) blank_file

pub record IsFile (c : Card) (n : ℕ) : Type 0 where
  pub first : 1 ≤ n
  pub last : n ≤ c.directory.count

-- what it is for good: its directory, FID, type, two size bytes, read and write right, as its CREATE FILE gave them
abbrev pub label_of : File → Label
label_of f =
    record { within = f.folder; fid1 = f.fid1; fid2 = f.fid2; kind = f.kind; size1 = f.size1; size2 = f.size2; read = f.read; write = f.write }

abbrev pub label_no : Card → ℕ → Label
label_no c n = label_of (file_no c n)

-- the bytes of the first n files: they lie in creation order from 0 without gaps
unfoldable pub size_of_first : List File → ℕ → ℕ
size_of_first files zero = 0
size_of_first files (suc n) = size_of_first files n + size_of (label_of (get_or files n blank_file))

abbrev pub start_no : Card → ℕ → ℕ
start_no c n = size_of_first c.directory.files (n - 1)

-- the bytes of file n
abbrev pub bytes_no : Card → List ℕ → ℕ → List ℕ
bytes_no c area n = take (size_of (label_no c n)) (drop (start_no c n) area)

-- ---- directories (R-7), which the state calls folders
-- directory n, counted from 1 in the order made; 0 stands for the root, of a file and of the session
abbrev pub folder_no : Card → ℕ → Folder
folder_no c n = get_or c.directory.folders (n - 1) blank_folder

pub record IsFolder (c : Card) (n : ℕ) : Type 0 where
  pub first : 1 ≤ n
  pub last : n ≤ c.directory.number

-- what it is for good: FID and creation right; it has no SFI
abbrev pub tag_of : Folder → Tag
tag_of x = record { fid1 = x.fid1; fid2 = x.fid2; create = x.right }

abbrev pub tag_no : Card → ℕ → Tag
tag_no c n = tag_of (folder_no c n)

-- a file that lies in this directory
pub record Within (c : Card) (folder n : ℕ) : Type 0 where
  pub there : IsFile c n
  pub lies : (file_no c n).folder ≡ folder

-- the file that a command names, which lies in the current directory: the one that has the SFI, or for 0 the current one
pub record Named (c : Card) (sfi n : ℕ) : Type 0 where
  pub there : IsFile c n
  pub lies : (file_no c n).folder ≡ c.session.folder
  pub by-sfi : (sfi ≡ 0 → ⊥) → sfi_of (label_no c n) ≡ sfi
  pub current : sfi ≡ 0 → c.session.current ≡ n

-- READ and UPDATE BINARY: P1 from 81 to 9E has the SFI in its low five bits; READ, UPDATE and APPEND RECORD: the upper five bits of P2
abbrev pub by_p1 : Command → Bool
by_p1 k = leb 0x81 k.p1 && leb k.p1 0x9E

abbrev pub binary_sfi : Command → ℕ
binary_sfi k = cond (by_p1 k) (k.p1 % 32) 0

abbrev pub record_sfi : Command → ℕ
record_sfi k = k.p2 / 8

-- ---- records, as a list with number 1 first
-- of a 2A file number k + 1 stands in place k
abbrev pub fixed_records : File → List ℕ → List (List ℕ)
fixed_records f bytes = tab f.size1 (λ k. take f.size2 (drop (k * f.size2) bytes))

-- of a 2E file k places before the newest; place 0 follows the last
abbrev pub cyclic_records : File → List ℕ → List (List ℕ)
cyclic_records f bytes = tab f.held (λ k. take f.size2 (drop ((f.newest + f.size1 - k) % f.size1 * f.size2) bytes))

-- of a 2C file one after another, each behind the byte that holds its length; n is more than they can be
unfoldable pub notes : ℕ → List ℕ → List (List ℕ)
notes zero bytes = []
notes (suc n) [] = []
notes (suc n) (x ∷ more) = take x more ∷ notes n (drop x more)

abbrev pub bytes_used : File → ℕ
bytes_used f = f.used1 * 256 + f.used2

abbrev pub variable_records : File → List ℕ → List (List ℕ)
variable_records f bytes = notes (bytes_used f) (take (bytes_used f) bytes)

unfoldable pub records_of : File → List ℕ → List (List ℕ)
records_of f bytes =
    cond (eqb f.kind 0x2C) (variable_records f bytes) (cond (eqb f.kind 0x2E) (cyclic_records f bytes) (fixed_records f bytes))

abbrev pub records_no : Card → List ℕ → ℕ → List (List ℕ)
records_no c area n = records_of (file_no c n) (bytes_no c area n)

-- ---- credentials and rights: 0 the device key, 1 the admin PIN, 2 the user PIN, 3 the transport key (R-9), which has no right
abbrev pub credential_no : Card → ℕ → Credential
credential_no c n = get_or c.credentials n no_credential

abbrev pub value_no : Card → ℕ → List ℕ
value_no c n = take (credential_no c n).len (credential_no c n).value

abbrev pub left_no : Card → ℕ → ℕ
left_no c n = (credential_no c n).tries.left

abbrev pub limit_no : Card → ℕ → ℕ
limit_no c n = (credential_no c n).tries.limit

-- 1 where the right is held, else 0
abbrev pub right_no : Card → ℕ → ℕ
right_no c n = get_or c.session.rights n 0

-- ---- what a rights byte asks, of the rights that are held: bit 8 admin, bit 7 user, bit 1 device; none stands for the transport key
abbrev pub bit_of : Which → ℕ → ℕ
bit_of w right = for_each (right % 2) (right / 128 % 2) (right / 64 % 2) 0 w

-- a set bit whose right is held
pub record OneHeld (held : Which → Type 0) (right : ℕ) : Type 0 where
  pub which : Which
  pub asked : bit_of which right ≡ 1
  pub is-held : held which

-- every set bit must be held, or any one of them where bit 2 is set; 0F means never
pub record Opens (held : Which → Type 0) (right : ℕ) : Type 0 where
  pub all : right / 2 % 2 ≡ 0 → (w : Which) → bit_of w right ≡ 1 → held w
  pub any : right / 2 % 2 ≡ 1 → OneHeld held right
  pub not-never : right ≡ 0x0F → ⊥

-- bit 3 of a file's right asks for a code beside the rights (R-9): it is none of those that bit 2 chooses from, and 0F has no bits
pub record AsksCode (right : ℕ) : Type 0 where
  pub bit-set : right / 4 % 2 ≡ 1
  pub has-bits : right ≡ 0x0F → ⊥

-- what a CREATE FILE needs: in the root the device right, inside a directory what its creation right asks
pub record MayCreate (held : Which → Type 0) (current create : ℕ) : Type 0 where
  pub in-root : current ≡ 0 → held device
  pub inside : (current ≡ 0 → ⊥) → Opens held create

-- held on the card
abbrev pub HeldOn : Card → Which → Type 0
HeldOn c w = right_no c (number_of w) ≡ 1
