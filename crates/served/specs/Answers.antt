-- Each command answers what the paper says: document 01's "Framing" and "The twelve commands", with R-1, R-2, R-5 to R-7 and R-9. A command is its conditions in the
-- paper's order, each with the word of its refusal (ask), and where all of them hold what comes of it. The words are the statement's own, over the state's fields
-- (Held): no check, effect or list view of the rules is cited.
use Rattle.std.specs.Prelude.{ℕ, ◌+◌, ◌-◌, ◌*◌, ◌/◌, ◌%◌, ◌≤◌, ◌<◌, min, true, cond, List, [], ◌∷◌, ◌++◌, ◌⊎◌, ◌≡◌, length, take, drop, get_or, set, replicate}
use Rattle.cipher.specs.Cipher.{aes128}
use Rattle.files.specs.declared.File.{File}
use Rattle.rules.specs.declared.Card.{Card}
use Rattle.rules.specs.Words.{byte}
use Rattle.rules.specs.Sound.{sound}
use Rattle.rules.specs.Frame.{Command, framed}
use Rattle.rules.specs.Step.{step}
use Rattle.rules.specs.Effect.{Stepped}
use Rattle.demands.specs.Soundness.{Bytes}
use Rattle.demands.specs.Held.{file_no, IsFile, start_no, bytes_no, IsFolder, tag_no, Within, Named, bytes_used, records_no, value_no, left_no, limit_no, right_no, Opens, AsksCode, MayCreate, label_of, label_no, by_p1, binary_sfi, record_sfi, HeldOn}
use Rattle.demands.specs.Ledger.{Label, label_given, tag_given, size_of, sfi_of, fid_of, fid_of_tag, lc_sent, code_sent, code_of}
use Rattle.demands.specs.Framing.{Sent}
use Rattle.served.specs.Left.{mode, waiting, challenge, with_key_tries, Ask, Says, Challenge, LeftIn, Left, Refused, Written, OneRun, Credited, Kept, Fetched, Stores}

-- type 2A, 2E or 2C has records, and 2E and 2C take new ones
abbrev pub HasRecords : File → Type 0
HasRecords f = (f.kind ≡ 0x2A) ⊎ ((f.kind ≡ 0x2E) ⊎ (f.kind ≡ 0x2C))

abbrev pub Grows : File → Type 0
Grows f = (f.kind ≡ 0x2E) ⊎ (f.kind ≡ 0x2C)

-- contents of a file. Type and size: 28 of 1 to 4,096 bytes, 2C of 2 to 4,096, 2A and 2E of 2 to 254 records of 1 to 178 bytes
abbrev pub GoodSize : Label → Type 0
GoodSize x =
    ((x.kind ≡ 0x28) × (1 ≤ size_of x) × (size_of x ≤ 4096))
    ⊎ (((x.kind ≡ 0x2C) × (2 ≤ size_of x) × (size_of x ≤ 4096))
    ⊎ (((x.kind ≡ 0x2A) ⊎ (x.kind ≡ 0x2E)) × (2 ≤ x.size1) × (x.size1 ≤ 254) × (1 ≤ x.size2) × (x.size2 ≤ 178)))

-- a directory's rights byte: 0F, or no bit but 8, 7, 2 and 1, and not bit 2 alone
abbrev pub GoodRight : ℕ → Type 0
GoodRight b = (b ≡ 0x0F) ⊎ ((b / 4 % 16 ≡ 0) × (b ≡ 0x02 → ⊥))

-- a file's may have bit 3 besides (R-9); bits 2 and 3 alone leave nothing to choose from
abbrev pub GoodFileRight : ℕ → Type 0
GoodFileRight b = (b ≡ 0x0F) ⊎ ((b / 8 % 8 ≡ 0) × (b ≡ 0x02 → ⊥) × (b ≡ 0x06 → ⊥))

abbrev pub GoodContents : Label → Type 0
GoodContents x = GoodSize x × (GoodFileRight x.read × GoodFileRight x.write)

-- each byte is 30 to 39
abbrev pub Digits : List ℕ → Type 0
Digits d = (i : ℕ) → i < length d → (0x30 ≤ byte d i) × (byte d i ≤ 0x39)

-- a number is one of these
abbrev pub OneOf : ℕ → List ℕ → Type 0
OneOf n [] = ⊥
OneOf n (x ∷ more) = (n ≡ x) ⊎ OneOf n more

-- 63Cx, x the smaller of tries left and 15
abbrev pub counted : ℕ → ℕ
counted left = 0x63C0 + min left 15

-- ---- what SELECT and CREATE FILE look for (R-7); directory 0 is the root
-- a file of the current directory has the FID; a directory has it
pub record FileHas (c : Card) (fid n : ℕ) : Type 0 where
  pub within : Within c c.session.folder n
  pub fid-is : fid_of (label_no c n) ≡ fid

pub record FolderHas (c : Card) (fid n : ℕ) : Type 0 where
  pub there : IsFolder c n
  pub fid-is : fid_of_tag (tag_no c n) ≡ fid

-- of a new file: no file of the current directory has its SFI, and in the root no directory its FID
pub record FileFree (c : Card) (fid : ℕ) : Type 0 where
  pub sfi-unused : (n : ℕ) → Within c c.session.folder n → sfi_of (label_no c n) ≡ fid % 32 → ⊥
  pub no-directory : c.session.folder ≡ 0 → (n : ℕ) → FolderHas c fid n → ⊥

-- of a new directory: no other directory and no file in the root has its FID
pub record FolderFree (c : Card) (fid : ℕ) : Type 0 where
  pub no-directory : (n : ℕ) → FolderHas c fid n → ⊥
  pub no-file : (n : ℕ) → Within c 0 n → fid_of (label_no c n) ≡ fid → ⊥

-- the data of a directory: 38, two bytes 00, a creation right, 00
pub record FolderGiven (given : List ℕ) : Type 0 where
  pub zeros : (byte given 1 ≡ 0) × ((byte given 2 ≡ 0) × (byte given 4 ≡ 0))
  pub right : GoodRight (byte given 3)

-- ---- what the five that read, update and append ask of their bytes. CLA 04: with a code of four bytes behind the data, which Lc counts (R-9)
abbrev pub WithCode : List ℕ → Type 0
WithCode cmd = (framed cmd).cla ≡ 0x04

-- a read is case 2, with a code case 4 with Lc 04; an update or append is case 3, with a code Lc 05 or more
pub record ReadCase (cmd : List ℕ) : Type 0 where
  pub plain : (WithCode cmd → ⊥) → (framed cmd).case ≡ 2
  pub coded : WithCode cmd → ((framed cmd).case ≡ 4) × (lc_sent cmd ≡ 4)

pub record WriteCase (cmd : List ℕ) : Type 0 where
  pub case-is : (framed cmd).case ≡ 3
  pub coded : WithCode cmd → 5 ≤ lc_sent cmd

-- P of READ and UPDATE BINARY: P1 bit 8 clear, and P is the offset in the current file; or P1 from 81 to 9E, SFI in its low five bits, offset P2
abbrev pub BinaryP : List ℕ → Type 0
BinaryP cmd = ((framed cmd).p1 < 0x80) ⊎ ((0x81 ≤ (framed cmd).p1) × ((framed cmd).p1 ≤ 0x9E))

-- P2 of READ, UPDATE and APPEND RECORD: low bits; upper five SFI, not 31
abbrev pub RecordP : ℕ → List ℕ → Type 0
RecordP low cmd = ((framed cmd).p2 % 8 ≡ low) × (record_sfi (framed cmd) ≡ 31 → ⊥)

-- the code that was sent is the one that the transport key, credential 3, and the challenge give of the command's bytes (R-9)
abbrev pub CodeAgrees : Card → List ℕ → Type 0
CodeAgrees c cmd = code_of (value_no c 3) (challenge c) cmd ≡ code_sent cmd

-- a card and its area, the random input, a command, and what the step makes of it
module _ (c : Card) (area random cmd : List ℕ) (s : Stepped) where
  -- the command taken apart
  abbrev pub k : Command
  k = framed cmd

  abbrev pub Asks : Type 0 → ℕ → Type 0 → Type 0
  Asks A sw next = Ask (λ w. Refused c area w s) A sw next

  -- a file that the SFI names, 0 the current one (6A82)
  abbrev pub AsksFile : ℕ → (ℕ → Type 0) → Type 0
  AsksFile sfi next = (((n : ℕ) → Named c sfi n → ⊥) → Refused c area 0x6A82 s) × ((n : ℕ) → Named c sfi n → next n)

  abbrev pub p : ℕ
  p = k.p1 * 256 + k.p2

  -- how many bytes are given, without a code
  abbrev pub lc : ℕ
  lc = length k.given

  -- ---- Framing: a good frame (6700), class 00, 80 or 04 (6E00), class and instruction together in the list (6D00), where GET RESPONSE stands in mode 1 alone
  pub record Unlisted : Type 0 where
    pub of-class-00 : k.cla ≡ 0x00 → OneOf k.ins (0xA4 ∷ 0xB0 ∷ 0xD6 ∷ 0xB2 ∷ 0xDC ∷ 0xE2 ∷ 0x20 ∷ 0x82 ∷ 0x24 ∷ 0x2C ∷ 0x84 ∷ []) → ⊥
    pub get-response : k.cla ≡ 0x00 → k.ins ≡ 0xC0 → mode c ≡ 1 → ⊥
    pub of-class-80 : k.cla ≡ 0x80 → k.ins ≡ 0xE0 → ⊥
    pub of-class-04 : k.cla ≡ 0x04 → OneOf k.ins (0xB0 ∷ 0xD6 ∷ 0xB2 ∷ 0xDC ∷ 0xE2 ∷ []) → ⊥

  abbrev pub Unknown : Type 0
  Unknown = Asks (1 ≤ k.case) 0x6700 (Asks ((k.cla ≡ 0x00) ⊎ ((k.cla ≡ 0x80) ⊎ (k.cla ≡ 0x04))) 0x6E00 (Unlisted → Refused c area 0x6D00 s))

  -- ---- SELECT 00 A4
  abbrev pub fid : ℕ
  fid = byte k.given 0 * 256 + byte k.given 1

  -- it looks in the current directory first, then among directories, then 3F00 for the root, else 6A82; the file becomes current, and a directory or the root
  -- becomes the current one and leaves no current file
  pub record Selects : Type 0 where
    pub file : (n : ℕ) → FileHas c fid n → Left c area 0x9000 [] n [] s
    pub directory : ((n : ℕ) → FileHas c fid n → ⊥) → (n : ℕ) → FolderHas c fid n → LeftIn c area 0x9000 [] n 0 [] s
    pub root : ((n : ℕ) → FileHas c fid n → ⊥) → ((n : ℕ) → FolderHas c fid n → ⊥) → fid ≡ 0x3F00 → LeftIn c area 0x9000 [] 0 0 [] s
    pub none : ((n : ℕ) → FileHas c fid n → ⊥) → ((n : ℕ) → FolderHas c fid n → ⊥) → (fid ≡ 0x3F00 → ⊥) → Refused c area 0x6A82 s

  abbrev pub Select : Type 0
  Select = Asks (p ≡ 0x0000) 0x6A86 (Asks ((k.case ≡ 3) × (lc ≡ 2)) 0x6700 Selects)

  -- ---- Codes on the bus (R-9). The five that read, update and append ask P (6A86), case and Lc (6700); with a code a try of the transport key left (6983), a
  -- challenge (6984) and the code (6988), where a wrong one takes a try; and then their file. A right code restores all tries, and what comes next is of that
  -- card, its refusals too
  abbrev pub AsksContents : Type 0 → Type 0 → (Card → Type 0) → Type 0
  AsksContents P Case next =
      Asks P 0x6A86
      (Asks Case 0x6700
      (((WithCode cmd → ⊥) → next c)
      × (WithCode cmd
      → Asks (1 ≤ left_no c 3) 0x6983
      (Asks (1 ≤ c.session.len) 0x6984
      (Ask (λ w. Refused (with_key_tries c (left_no c 3 - 1)) area w s) (CodeAgrees c cmd) 0x6988
      (next (with_key_tries c (limit_no c 3))))))))

  -- what a file's right asks: the rights, and beside them a code (6982 for both)
  abbrev pub AsksRight : ℕ → Type 0 → Type 0
  AsksRight right next = Asks (Opens (HeldOn c) right) 0x6982 (Asks (AsksCode right → WithCode cmd) 0x6982 next)

  -- ---- READ BINARY B0, UPDATE BINARY D6
  abbrev pub offset : ℕ
  offset = cond (by_p1 k) k.p2 p

  -- of its file both ask the same but for the right and the length
  abbrev pub AsksBinary : (File → ℕ) → (ℕ → Type 0) → Type 0
  AsksBinary right next =
      AsksFile (binary_sfi k) (λ n.
      Asks ((file_no c n).kind ≡ 0x28) 0x6981
      (AsksRight (right (file_no c n))
      (Asks (offset < size_of (label_no c n)) 0x6A84
      (next n))))

  -- Le bytes from the offset on; for Le 00, which stands for 256, as many as there are, up to 256
  abbrev pub ReadsBinary : Type 0
  ReadsBinary =
      AsksBinary (λ f. f.read) (λ n.
      Asks ((k.le ≡ 256) ⊎ (offset + k.le ≤ size_of (label_no c n))) 0x6700
      (Left c area 0x9000 (take k.le (drop offset (bytes_no c area n))) n [] s))

  -- all the bytes given stand from the offset on, and the file's other bytes stay
  pub record BinaryUpdated (n : ℕ) : Type 0 where
    pub written : Written c area n s
    pub file-is : file_no s.card n ≡ file_no c n
    pub bytes-are : Stores (bytes_no c area n) offset k.given (bytes_no s.card s.area n)

  abbrev pub UpdatesBinary : Type 0
  UpdatesBinary = AsksBinary (λ f. f.write) (λ n. Asks (offset + lc ≤ size_of (label_no c n)) 0x6700 (BinaryUpdated n))

  -- ---- READ RECORD B2, UPDATE RECORD DC, APPEND RECORD E2
  -- record number P1 of file n
  abbrev pub record_p1 : ℕ → List ℕ
  record_p1 n = get_or (records_no c area n) (k.p1 - 1) []

  -- the two ask the same but for the right and the length
  abbrev pub AsksRecord : (File → ℕ) → (ℕ → Type 0) → Type 0
  AsksRecord right next =
      AsksFile (record_sfi k) (λ n.
      Asks (HasRecords (file_no c n)) 0x6981
      (AsksRight (right (file_no c n))
      (Asks (k.p1 ≤ length (records_no c area n)) 0x6A83
      (next n))))

  -- Le 00 or the record length, else 6C and that length; 00 is the whole record
  abbrev pub ReadsRecord : Type 0
  ReadsRecord =
      AsksRecord (λ f. f.read) (λ n.
      Asks ((k.le ≡ 256) ⊎ (k.le ≡ length (record_p1 n))) (0x6C00 + length (record_p1 n))
      (Left c area 0x9000 (record_p1 n) n [] s))

  -- the record is replaced, and no other; the file knows what it knew
  pub record RecordUpdated (n : ℕ) : Type 0 where
    pub written : Written c area n s
    pub file-is : file_no s.card n ≡ file_no c n
    pub records-are : records_no s.card s.area n ≡ set (records_no c area n) (k.p1 - 1) k.given
    pub bytes-are : OneRun (bytes_no c area n) (record_p1 n) k.given (bytes_no s.card s.area n)

  abbrev pub UpdatesRecord : Type 0
  UpdatesRecord = AsksRecord (λ f. f.write) (λ n. Asks (lc ≡ length (record_p1 n)) 0x6700 (RecordUpdated n))

  -- Lc the record length, in a 2C file at most 178; the record and its length byte fit in what is left of a 2C file
  abbrev pub AppendLc : File → Type 0
  AppendLc f = (f.kind ≡ 0x2E → lc ≡ f.size2) × (f.kind ≡ 0x2C → lc ≤ 178)

  abbrev pub AppendRoom : File → Type 0
  AppendRoom f = f.kind ≡ 0x2C → bytes_used f + 1 + lc ≤ size_of (label_of f)

  -- in a 2E file the new record is number 1 and the others move up by one, and in a full file the oldest goes. It takes place 0 in an empty file, else the place
  -- after the newest; place 0 follows the last
  pub record CyclicAppended (n : ℕ) : Type 0 where
    pub not_full : (file_no c n).held < (file_no c n).size1 → records_no s.card s.area n ≡ k.given ∷ records_no c area n
    pub full : (file_no c n).held ≡ (file_no c n).size1 → records_no s.card s.area n ≡ k.given ∷ take ((file_no c n).size1 - 1) (records_no c area n)
    pub in-place-0 : (file_no c n).held ≡ 0 → (file_no s.card n).newest ≡ 0
    pub in-the-next : 1 ≤ (file_no c n).held → (file_no s.card n).newest ≡ ((file_no c n).newest + 1) % (file_no c n).size1
    pub bytes-are : Stores (bytes_no c area n) ((file_no s.card n).newest * (file_no c n).size2) k.given (bytes_no s.card s.area n)

  -- in a 2C file it comes after the last, behind its length byte
  pub record VariableAppended (n : ℕ) : Type 0 where
    pub after-the-last : records_no s.card s.area n ≡ records_no c area n ++ (k.given ∷ [])
    pub used-are : bytes_used (file_no s.card n) ≡ bytes_used (file_no c n) + 1 + lc
    pub bytes-are : Stores (bytes_no c area n) (bytes_used (file_no c n)) (lc ∷ k.given) (bytes_no s.card s.area n)

  pub record RecordAppended (n : ℕ) : Type 0 where
    pub written : Written c area n s
    pub cyclic : (file_no c n).kind ≡ 0x2E → CyclicAppended n
    pub variable : (file_no c n).kind ≡ 0x2C → VariableAppended n

  abbrev pub AppendsRecord : Type 0
  AppendsRecord =
      AsksFile (record_sfi k) (λ n.
      Asks (Grows (file_no c n)) 0x6981
      (AsksRight (file_no c n).write
      (Asks (AppendLc (file_no c n)) 0x6700
      (Asks (AppendRoom (file_no c n)) 0x6A84
      (RecordAppended n)))))

  -- ---- VERIFY 00 20
  -- P2 00 is the admin PIN, credential 1, and 01 the user PIN, credential 2
  abbrev pub pin : ℕ
  pin = k.p2 + 1

  -- case 3 with Lc 06 to 10
  abbrev pub PinGiven : Type 0
  PinGiven = (k.case ≡ 3) × (6 ≤ lc) × (lc ≤ 16)

  -- equal in length and bytes restores all tries and holds the right; otherwise tries fall by one and the right is dropped
  pub record Compared (n : ℕ) (expected : List ℕ) : Type 0 where
    pub equal : expected ≡ k.given → Credited c area 0x9000 n (value_no c n) (limit_no c n) 1 s
    pub unequal : (expected ≡ k.given → ⊥) → Credited c area (counted (left_no c n - 1)) n (value_no c n) (left_no c n - 1) 0 s

  -- without data: 9000 when held, else 6983 at no tries, else 63Cx; nothing changes but the challenge and what waits, as after any command
  pub record Queried (n : ℕ) : Type 0 where
    pub held : right_no c n ≡ 1 → Left c area 0x9000 [] c.session.current [] s
    pub blocked : (right_no c n ≡ 1 → ⊥) → left_no c n ≡ 0 → Refused c area 0x6983 s
    pub tries : (right_no c n ≡ 1 → ⊥) → 1 ≤ left_no c n → Refused c area (counted (left_no c n)) s

  abbrev pub Verify : Type 0
  Verify =
      Asks ((k.p1 ≡ 0x00) × (k.p2 ≤ 0x01)) 0x6A86
      (Asks ((k.case ≡ 1) ⊎ PinGiven) 0x6700
      ((k.case ≡ 1 → Queried pin)
      × (k.case ≡ 3 → Asks (1 ≤ left_no c pin) 0x6983 (Asks (Digits k.given) 0x6A80 (Compared pin (value_no c pin))))))

  -- ---- EXTERNAL AUTHENTICATE 00 82
  -- AES-128 under the device key, credential 0, of the challenge filled with 00 to 16 bytes
  abbrev pub cryptogram : List ℕ
  cryptogram = aes128 (value_no c 0) (challenge c ++ replicate (16 - c.session.len) 0)

  abbrev pub Authenticate : Type 0
  Authenticate =
      Asks (p ≡ 0x0000) 0x6A86
      (Asks ((k.case ≡ 3) × (lc ≡ 16)) 0x6700
      (Asks (1 ≤ left_no c 0) 0x6983
      (Asks (1 ≤ c.session.len) 0x6984
      (Compared 0 cryptogram))))

  -- ---- CHANGE PIN 00 24: the new PIN stands; tries and right stay
  abbrev pub ChangePin : Type 0
  ChangePin =
      Asks ((k.p1 ≡ 0x01) × (k.p2 ≤ 0x01)) 0x6A86
      (Asks PinGiven 0x6700
      (Asks (right_no c pin ≡ 1) 0x6982
      (Asks (Digits k.given) 0x6A80
      (Credited c area 0x9000 pin k.given (left_no c pin) (right_no c pin) s))))

  -- ---- RELOAD PIN 00 2C: the admin right in the right's place; sets the user PIN, full tries, user right dropped
  abbrev pub ReloadPin : Type 0
  ReloadPin =
      Asks (p ≡ 0x0201) 0x6A86
      (Asks PinGiven 0x6700
      (Asks (right_no c 1 ≡ 1) 0x6982
      (Asks (Digits k.given) 0x6A80
      (Credited c area 0x9000 2 k.given (limit_no c 2) 0 s))))

  -- ---- CREATE FILE 80 E0: P is the FID; the data are type, two size bytes, read and write right. The file lies in the current directory
  abbrev pub file_given : Label
  file_given = label_given c.session.folder k

  -- it comes after the last
  abbrev pub new_no : ℕ
  new_no = c.directory.count + 1

  -- it is what was given, in the current directory, holds no record, its bytes are 00, and it becomes current; all else stays, every other file, the directories and
  -- each byte outside of this one
  pub record FileMade : Type 0 where
    pub says : Says c 0x9000 [] s
    pub credentials-are : s.card.credentials ≡ c.credentials
    pub rights-are : s.card.session.rights ≡ c.session.rights
    pub challenge-is : Challenge s.card []
    pub folders-are : s.card.directory.folders ≡ c.directory.folders
    pub as-many-folders : s.card.directory.number ≡ c.directory.number
    pub folder-is : s.card.session.folder ≡ c.session.folder
    pub one_more : s.card.directory.count ≡ new_no
    pub current-is : s.card.session.current ≡ new_no
    pub label_is : label_no s.card new_no ≡ file_given
    pub none-held : ((file_no s.card new_no).held ≡ 0) × ((file_no s.card new_no).newest ≡ 0)
    pub none-used : bytes_used (file_no s.card new_no) ≡ 0
    pub bytes-are : bytes_no s.card s.area new_no ≡ replicate (size_of file_given) 0
    pub others : (n : ℕ) → IsFile c n → (file_no s.card n ≡ file_no c n) × (bytes_no s.card s.area n ≡ bytes_no c area n)
    pub outside : (j : ℕ) → (j < start_no c new_no) ⊎ (start_no c new_no + size_of file_given ≤ j) → byte s.area j ≡ byte area j

  -- contents as above (6A80); SFI unused in the directory, and no FID of a directory in the root (6986); under 16 files and room in the area (6A84)
  abbrev pub NewFile : Type 0
  NewFile =
      Asks (GoodContents file_given) 0x6A80
      (Asks (FileFree c p) 0x6986
      (Asks ((c.directory.count < 16) × (start_no c new_no + size_of file_given ≤ 4096)) 0x6A84
      FileMade))

  -- it comes after the last, and nothing current is altered; all else stays, every file, every other directory and each byte
  pub record FolderMade : Type 0 where
    pub says : Says c 0x9000 [] s
    pub credentials-are : s.card.credentials ≡ c.credentials
    pub rights-are : s.card.session.rights ≡ c.session.rights
    pub challenge-is : Challenge s.card []
    pub files-are : s.card.directory.files ≡ c.directory.files
    pub as_many : s.card.directory.count ≡ c.directory.count
    pub area-is : s.area ≡ area
    pub currents-are : (s.card.session.folder ≡ c.session.folder) × (s.card.session.current ≡ c.session.current)
    pub one_more : s.card.directory.number ≡ c.directory.number + 1
    pub made-is : tag_no s.card (c.directory.number + 1) ≡ tag_given k
    pub others : (n : ℕ) → IsFolder c n → tag_no s.card n ≡ tag_no c n

  -- contents (6A80); its FID unused (6986); under four directories (6A84)
  abbrev pub NewFolder : Type 0
  NewFolder = Asks (FolderGiven k.given) 0x6A80 (Asks (FolderFree c p) 0x6986 (Asks (c.directory.number < 4) 0x6A84 FolderMade))

  -- type 38 makes a directory, and only in the root (6A81)
  abbrev pub type : ℕ
  type = byte k.given 0

  abbrev pub CreateFile : Type 0
  CreateFile =
      Asks ((1 ≤ p % 32) × (p % 32 ≤ 30)) 0x6A86
      (Asks ((k.case ≡ 3) × (lc ≡ 5)) 0x6700
      (Asks (MayCreate (HeldOn c) c.session.folder (tag_no c c.session.folder).create) 0x6982
      (Asks (type ≡ 0x38 → c.session.folder ≡ 0) 0x6A81
      ((type ≡ 0x38 → NewFolder) × ((type ≡ 0x38 → ⊥) → NewFile)))))

  -- ---- GET CHALLENGE 00 84: it replies and stores the first Le bytes of the random input
  abbrev pub GetChallenge : Type 0
  GetChallenge =
      Asks (p ≡ 0x0000) 0x6A86
      (Asks ((k.case ≡ 2) × ((k.le ≡ 4) ⊎ ((k.le ≡ 8) ⊎ (k.le ≡ 16)))) 0x6700
      (Left c area 0x9000 (take k.le random) c.session.current (take k.le random) s))

  -- ---- GET RESPONSE 00 C0 (R-6): 6D00 in mode 0. In mode 1 P 0000 (6A86); case 2 (6700); something waits (6985); Le at most as much, 00 all that wait (6C and
  -- the count), each refused with all kept. Then the next Le bytes
  abbrev pub Keeping : Type 0 → ℕ → Type 0 → Type 0
  Keeping A sw next = Ask (λ w. Kept c area w s) A sw next

  abbrev pub GetResponse : Type 0
  GetResponse =
      Asks (mode c ≡ 1) 0x6D00
      (Keeping (p ≡ 0x0000) 0x6A86
      (Keeping (k.case ≡ 2) 0x6700
      (Keeping (1 ≤ length (waiting c)) 0x6985
      (Keeping ((k.le ≡ 256) ⊎ (k.le ≤ length (waiting c))) (0x6C00 + length (waiting c))
      (Fetched c area (min k.le (length (waiting c))) s)))))

-- ---- the five that read, update and append, whole: on the card as a code leaves it the file is asked
module _ (c : Card) (area random cmd : List ℕ) (s : Stepped) where
  abbrev pub ReadBinary : Type 0
  ReadBinary = AsksContents c area random cmd s (BinaryP cmd) (ReadCase cmd) (λ x. ReadsBinary x area random cmd s)

  abbrev pub UpdateBinary : Type 0
  UpdateBinary = AsksContents c area random cmd s (BinaryP cmd) (WriteCase cmd) (λ x. UpdatesBinary x area random cmd s)

  abbrev pub ReadRecord : Type 0
  ReadRecord = AsksContents c area random cmd s ((1 ≤ (framed cmd).p1) × RecordP 4 cmd) (ReadCase cmd) (λ x. ReadsRecord x area random cmd s)

  abbrev pub UpdateRecord : Type 0
  UpdateRecord = AsksContents c area random cmd s ((1 ≤ (framed cmd).p1) × RecordP 4 cmd) (WriteCase cmd) (λ x. UpdatesRecord x area random cmd s)

  abbrev pub AppendRecord : Type 0
  AppendRecord = AsksContents c area random cmd s (((framed cmd).p1 ≡ 0) × RecordP 0 cmd) (WriteCase cmd) (λ x. AppendsRecord x area random cmd s)

-- ---- the statements: of any sound card and area, any random input and any command with these class and instruction bytes, in a good frame
abbrev pub Answers : ℕ → ℕ → (Card → List ℕ → List ℕ → List ℕ → Stepped → Type 0) → Type 0
Answers cla ins Paper =
    (c : Card) (area cmd random : List ℕ) → sound c area ≡ true → length area ≡ 4096 → length random ≡ 16 → Bytes cmd → Sent cla ins cmd
    → Paper c area random cmd (step c area cmd random)

-- without a code and with one
abbrev pub EitherAnswers : ℕ → (Card → List ℕ → List ℕ → List ℕ → Stepped → Type 0) → Type 0
EitherAnswers ins Paper = Answers 0x00 ins Paper × Answers 0x04 ins Paper

-- and of any command at all
abbrev pub UnknownAnswers : Type 0
UnknownAnswers =
    (c : Card) (area cmd random : List ℕ) → sound c area ≡ true → length area ≡ 4096 → length random ≡ 16 → Bytes cmd
    → Unknown c area random cmd (step c area cmd random)

abbrev pub SelectAnswers : Type 0
SelectAnswers = Answers 0x00 0xA4 Select

abbrev pub ReadBinaryAnswers : Type 0
ReadBinaryAnswers = EitherAnswers 0xB0 ReadBinary

abbrev pub UpdateBinaryAnswers : Type 0
UpdateBinaryAnswers = EitherAnswers 0xD6 UpdateBinary

abbrev pub ReadRecordAnswers : Type 0
ReadRecordAnswers = EitherAnswers 0xB2 ReadRecord

abbrev pub UpdateRecordAnswers : Type 0
UpdateRecordAnswers = EitherAnswers 0xDC UpdateRecord

abbrev pub AppendRecordAnswers : Type 0
AppendRecordAnswers = EitherAnswers 0xE2 AppendRecord

abbrev pub VerifyAnswers : Type 0
VerifyAnswers = Answers 0x00 0x20 Verify

abbrev pub AuthenticateAnswers : Type 0
AuthenticateAnswers = Answers 0x00 0x82 Authenticate

abbrev pub ChangePinAnswers : Type 0
ChangePinAnswers = Answers 0x00 0x24 ChangePin

abbrev pub ReloadPinAnswers : Type 0
ReloadPinAnswers = Answers 0x00 0x2C ReloadPin

abbrev pub CreateFileAnswers : Type 0
CreateFileAnswers = Answers 0x80 0xE0 CreateFile

abbrev pub GetChallengeAnswers : Type 0
GetChallengeAnswers = Answers 0x00 0x84 GetChallenge

abbrev pub GetResponseAnswers : Type 0
GetResponseAnswers = Answers 0x00 0xC0 GetResponse
