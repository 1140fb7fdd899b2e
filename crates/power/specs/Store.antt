-- Lasting bytes, and a store of one byte to one of them. Lasting are the credentials, the files and directories, the mode, the journal and the area; the
-- session and what waits are not.
use Rattle.std.specs.Prelude.{ℕ, zero, suc, List, [], ◌∷◌, set}
use Rattle.files.specs.declared.File.{File}
use Rattle.files.specs.declared.Folder.{Folder}
use Rattle.files.specs.State.{with_files, with_count, with_folders, with_number, file_bytes, file_of_bytes, folder_bytes, folder_of_bytes}
use Rattle.rules.specs.declared.Card.{Card}
use Rattle.rules.specs.State.{with_credentials, with_directory, with_journal, journal_of, with_bytes, with_length, with_left}

-- a card with its area
pub record Memory : Type 0 where
  pub card : Card
  pub area : List ℕ

abbrev pub memory : Card → List ℕ → Memory
memory c area = record { card = c; area = area }

-- a store: where, and the byte, which is the last number
pub data Store : Type 0 where
  -- a credential by its number: a byte of its value, its length, its tries left
  value_byte : ℕ → ℕ → ℕ → Store
  value_length : ℕ → ℕ → Store
  tries_left : ℕ → ℕ → Store
  -- a byte of a file's entry by its place, and the number of files
  entry_byte : ℕ → ℕ → ℕ → Store
  file_count : ℕ → Store
  -- the same of a directory (R-7)
  folder_byte : ℕ → ℕ → ℕ → Store
  folder_count : ℕ → Store
  -- the journal: what it is about, and a byte of it
  journal_what : ℕ → Store
  journal_byte : ℕ → ℕ → Store
  -- a byte of the area
  area_byte : ℕ → ℕ → Store

-- the n-th element altered; none where there is none
abbrev pub alter : {A : Type 0} → (A → A) → List A → ℕ → List A
alter f [] n = []
alter f (x ∷ xs) zero = f x ∷ xs
alter f (x ∷ xs) (suc n) = x ∷ alter f xs n

-- another byte of an entry, and of a directory
abbrev pub with_byte : ℕ → ℕ → File → File
with_byte i b f = file_of_bytes (set (file_bytes f) i b)

abbrev pub with_folder_byte : ℕ → ℕ → Folder → Folder
with_folder_byte i b x = folder_of_bytes (set (folder_bytes x) i b)

-- the files altered, and the directories
abbrev pub alter_file : (File → File) → ℕ → Card → Card
alter_file f place c = with_directory c (with_files c.directory (alter f c.directory.files place))

abbrev pub alter_folder : (Folder → Folder) → ℕ → Card → Card
alter_folder f place c = with_directory c (with_folders c.directory (alter f c.directory.folders place))

-- what a store does to the card and to the area
abbrev pub put_card : Store → Card → Card
put_card (value_byte n i b) c = with_credentials c (alter (λ x. with_bytes (set x.value i b) x) c.credentials n)
put_card (value_length n b) c = with_credentials c (alter (with_length b) c.credentials n)
put_card (tries_left n b) c = with_credentials c (alter (with_left b) c.credentials n)
put_card (entry_byte place i b) c = alter_file (with_byte i b) place c
put_card (file_count b) c = with_directory c (with_count c.directory b)
put_card (folder_byte place i b) c = alter_folder (with_folder_byte i b) place c
put_card (folder_count b) c = with_directory c (with_number c.directory b)
put_card (journal_what b) c = with_journal c (journal_of b c.journal.bytes)
put_card (journal_byte i b) c = with_journal c (journal_of c.journal.what (set c.journal.bytes i b))
put_card (area_byte i b) c = c

abbrev pub put_area : Store → List ℕ → List ℕ
put_area (value_byte n i b) area = area
put_area (value_length n b) area = area
put_area (tries_left n b) area = area
put_area (entry_byte place i b) area = area
put_area (file_count b) area = area
put_area (folder_byte place i b) area = area
put_area (folder_count b) area = area
put_area (journal_what b) area = area
put_area (journal_byte i b) area = area
put_area (area_byte i b) area = set area i b

abbrev pub put : Store → Memory → Memory
put s m = memory (put_card s m.card) (put_area s m.area)

-- one after another
abbrev pub puts : List Store → Memory → Memory
puts [] m = m
puts (s ∷ more) m = puts more (put s m)

-- bytes in a row, from index i on
abbrev pub row : (ℕ → ℕ → Store) → ℕ → List ℕ → List Store
row f i [] = []
row f i (b ∷ bs) = f i b ∷ row f (suc i) bs
