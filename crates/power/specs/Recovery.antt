-- What is made of a card after a cut.
use Rattle.std.specs.Prelude.{ℕ, zero, suc, ◌-◌, ◌<◌, true, cond, ◌&&◌, List, [], ◌∷◌, ◌++◌, ◌≡◌, length, take, eqb}
use Rattle.files.specs.Part.{zeros}
use Rattle.files.specs.State.{blank_file, blank_folder, with_files, with_folders, file_bytes, folder_bytes}
use Rattle.files.specs.Directory.{most_files, most_folders}
use Rattle.files.specs.Create.{area_size}
use Rattle.rules.specs.declared.Card.{Card}
use Rattle.rules.specs.declared.Answer.{Answer}
use Rattle.rules.specs.declared.Session.{Session}
use Rattle.rules.specs.declared.Response.{Response}
use Rattle.rules.specs.State.{how_many, credential, mode, with_directory, with_session, with_response, with_journal, journal_size, no_journal}
use Rattle.rules.specs.Sound.{sound}
use Rattle.rules.specs.Calls.{answer, cleared}
use Rattle.power.specs.Store.{Memory, memory, Store, puts, entry_byte, folder_byte, journal_what, journal_byte, row}
use Rattle.power.specs.Journal.{decode, redo, possible, target_stores}

-- the first n places; past them nothing
abbrev pub trim : {A : Type 0} → A → List A → ℕ → List A
trim blank [] n = []
trim blank (x ∷ xs) zero = blank ∷ trim blank xs zero
trim blank (x ∷ xs) (suc n) = x ∷ trim blank xs n

-- what the journal is about is made from its bytes
abbrev pub redone : Card → Card
redone c = redo (decode c.journal.what) c.journal.bytes c

-- then places past the last file and the last directory are blank
abbrev pub files_trimmed : Card → Card
files_trimmed c = with_directory c (with_files c.directory (trim blank_file c.directory.files c.directory.count))

abbrev pub folders_trimmed : Card → Card
folders_trimmed c = with_directory c (with_folders c.directory (trim blank_folder c.directory.folders c.directory.number))

abbrev pub trimmed : Card → Card
trimmed c = folders_trimmed (files_trimmed c)

-- then the journal is empty, and the session is over
unfoldable pub tidied : Card → Card
tidied c = cleared (with_journal (trimmed (redone c)) no_journal)

-- what a cut loses: session and waiting bytes are any
abbrev pub lost : Session → Response → Card → Card
lost s r c =
    with_response (with_session c s) (record { mode = mode c; count1 = r.count1; count2 = r.count2; bytes = r.bytes })

-- 2 data area not 4,096 bytes, then 4 where no sound card results or the journal is one that no cut leaves, both leaving all as it was; the area is read and not
-- written
unfoldable pub recover : Card → List ℕ → Answer
recover c area =
    cond (eqb (length area) area_size) (cond (possible c && sound (tidied c) area) (answer 0 (tidied c) 0) (answer 4 c 0)) (answer 2 c 0)

-- recovery as stores, from the lowest address up: what the journal is about, then nothing past the last file and the last directory, then that the journal is
-- about nothing, then no bytes in it
abbrev pub blank_rows : (ℕ → ℕ → ℕ → Store) → List ℕ → ℕ → ℕ → List Store
blank_rows f bytes place zero = []
blank_rows f bytes place (suc more) = row (f place) 0 bytes ++ blank_rows f bytes (suc place) more

abbrev pub blank_stores : Card → List Store
blank_stores c =
    blank_rows entry_byte (file_bytes blank_file) c.directory.count (most_files - c.directory.count)
    ++ blank_rows folder_byte (folder_bytes blank_folder) c.directory.number (most_folders - c.directory.number)

abbrev pub recover_stores : Card → List Store
recover_stores c =
    target_stores (decode c.journal.what) c.journal.bytes
    ++ (blank_stores c ++ (journal_what 0 ∷ row journal_byte 0 (zeros journal_size)))

-- the arrays are as long as the code's are: that is all that is asked of the card
pub record Laid (c : Card) : Type 0 where
  pub values : (n : ℕ) → n < how_many → length (credential c n).value ≡ 16
  pub bytes : length c.journal.bytes ≡ journal_size
  pub places : length c.directory.files ≡ most_files
  pub folders : length c.directory.folders ≡ most_folders

-- recovery that is cut gives the same when it is done again, and is served if it was; it stores nothing in the area
abbrev pub RecoveryCut : Type 0
RecoveryCut =
    (c : Card) (area : List ℕ) → Laid c → (n : ℕ)
    → let m = puts (take n (recover_stores c)) (memory c area) in
    (tidied m.card ≡ tidied c) × ((possible c ≡ true → possible m.card ≡ true) × (m.area ≡ area))

-- stored in full it is what recovery gives
abbrev pub RecoveryWhole : Type 0
RecoveryWhole = (c : Card) (area : List ℕ) → Laid c → cleared (puts (recover_stores c) (memory c area)).card ≡ tidied c

-- cut any number of times, and done at last, recovery that is served gives the same card
abbrev pub cut_again : List ℕ → Memory → Memory
cut_again [] m = m
cut_again (n ∷ more) m = cut_again more (puts (take n (recover_stores m.card)) m)

abbrev pub RecoveryCutAgain : Type 0
RecoveryCutAgain =
    (c : Card) (area : List ℕ) → Laid c → (recover c area).outcome ≡ 0 → (cuts : List ℕ)
    → let m = cut_again cuts (memory c area) in recover m.card m.area ≡ recover c area
