-- Where a store goes, as C lays the card out, with the area behind it; and the stores of a command by their numbers.
use Rattle.std.specs.Prelude.{ℕ, zero, suc, ◌+◌, ◌*◌, true, false, List, [], ◌∷◌}
use Rattle.power.specs.declared.Numbered.{Numbered}
use Rattle.power.specs.Store.{Store, value_byte, value_length, tries_left, entry_byte, file_count, folder_byte, folder_count, journal_what, journal_byte, area_byte}

-- a credential is 16 bytes of value, its length, tries left and limit; an entry is 12 bytes, a directory 3
abbrev pub credential_size : ℕ
credential_size = 19

abbrev pub entry_size : ℕ
entry_size = 12

abbrev pub folder_size : ℕ
folder_size = 3

-- four credentials; sixteen entries and the number of files; four directories and their number; 22 bytes of session and 259 of response, which begins with the
-- mode; 18 of journal
abbrev pub files_at : ℕ
files_at = 76

abbrev pub count_at : ℕ
count_at = 268

abbrev pub folders_at : ℕ
folders_at = 269

abbrev pub number_at : ℕ
number_at = 281

abbrev pub journal_at : ℕ
journal_at = 563

abbrev pub card_size : ℕ
card_size = 581

abbrev pub address : Store → ℕ
address (value_byte n i b) = n * credential_size + i
address (value_length n b) = n * credential_size + 16
address (tries_left n b) = n * credential_size + 17
address (entry_byte place i b) = files_at + place * entry_size + i
address (file_count b) = count_at
address (folder_byte place i b) = folders_at + place * folder_size + i
address (folder_count b) = number_at
address (journal_what b) = journal_at
address (journal_byte i b) = journal_at + 1 + i
address (area_byte i b) = card_size + i

abbrev pub byte_of : Store → ℕ
byte_of (value_byte n i b) = b
byte_of (value_length n b) = b
byte_of (tries_left n b) = b
byte_of (entry_byte place i b) = b
byte_of (file_count b) = b
byte_of (folder_byte place i b) = b
byte_of (folder_count b) = b
byte_of (journal_what b) = b
byte_of (journal_byte i b) = b
byte_of (area_byte i b) = b

-- store number k, from 0: is there one, where it goes, and the byte. Who drives the card asks for one after another, and so the first store of a presentation
-- is made before anything is compared
abbrev pub no_store : Numbered
no_store = record { there = false; at = 0; byte = 0 }

abbrev pub store_to : ℕ → ℕ → Numbered
store_to at byte = record { there = true; at = at; byte = byte }

abbrev pub a_store : Store → Numbered
a_store s = store_to (address s) (byte_of s)

unfoldable pub store_at : List Store → ℕ → Numbered
store_at [] k = no_store
store_at (s ∷ more) zero = a_store s
store_at (s ∷ more) (suc k) = store_at more k
