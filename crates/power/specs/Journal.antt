-- The journal: new bytes of a PIN, or of what a file knows of its records, are stored here first. Once the byte that says what they are stands, a cut cannot
-- undo the change, since recovery makes it from here; until then there is none.
use Rattle.std.specs.Prelude.{ℕ, ◌+◌, ◌-◌, Bool, cond, ◌&&◌, ◌||◌, not, List, [], ◌∷◌, ◌++◌, length, take, eqb, leb, ltb}
use Rattle.files.specs.declared.File.{File}
use Rattle.files.specs.Words.{is_zero}
use Rattle.files.specs.Part.{zeros}
use Rattle.files.specs.State.{knowing}
use Rattle.files.specs.Directory.{most_files}
use Rattle.rules.specs.declared.Credential.{Credential}
use Rattle.rules.specs.declared.Journal.{Journal}
use Rattle.rules.specs.declared.Card.{Card}
use Rattle.rules.specs.Words.{byte, all_of, filled}
use Rattle.rules.specs.State.{admin, user, number_of, with_credentials, with_bytes, with_length}
use Rattle.power.specs.Store.{Store, value_byte, value_length, entry_byte, journal_what, journal_byte, alter, alter_file, row}

-- what is altered: nothing; value and length of a credential; what the file in a place knows of its records
pub data Target : Type 0 where
  none : Target
  credential : ℕ → Target
  entry : ℕ → Target

-- 00, number plus one, place plus 16
abbrev pub code : Target → ℕ
code none = 0
code (credential n) = n + 1
code (entry place) = place + 16

-- no command alters a key
abbrev pub is_pin : ℕ → Bool
is_pin what = eqb what (code (credential (number_of admin))) || eqb what (code (credential (number_of user)))

abbrev pub is_entry : ℕ → Bool
is_entry what = leb 16 what && ltb what (16 + most_files)

abbrev pub decode : ℕ → Target
decode what = cond (is_pin what) (credential (what - 1)) (cond (is_entry what) (entry (what - 16)) none)

-- the bytes of it: a value of 16 and its length; records held, newest place, used bytes
abbrev pub value_bytes : List ℕ → List ℕ
value_bytes d = filled d ++ (length d ∷ [])

abbrev pub known_bytes : File → List ℕ
known_bytes f = f.held ∷ f.newest ∷ f.used1 ∷ f.used2 ∷ []

-- made from the journal's bytes
abbrev pub with_value_of : List ℕ → Credential → Credential
with_value_of b x = with_length (byte b 16) (with_bytes (take 16 b) x)

abbrev pub with_known : List ℕ → File → File
with_known b f = knowing (byte b 0) (byte b 1) (byte b 2) (byte b 3) f

abbrev pub redo : Target → List ℕ → Card → Card
redo none b c = c
redo (credential n) b c = with_credentials c (alter (with_value_of b) c.credentials n)
redo (entry place) b c = alter_file (with_known b) place c

-- what a cut can leave: nothing was said yet, or nothing any more; a PIN; or a file that is there, and has a record then. Any other is damage
unfoldable pub left_by_cut : Journal → ℕ → Bool
left_by_cut j count =
    is_zero j.what || (is_pin j.what || (leb 16 j.what && (ltb j.what (16 + count) && not (all_of is_zero (take 4 j.bytes)))))

abbrev pub possible : Card → Bool
possible c = left_by_cut c.journal c.directory.count

-- the same as stores
abbrev pub target_stores : Target → List ℕ → List Store
target_stores none b = []
target_stores (credential n) b = row (value_byte n) 0 (take 16 b) ++ (value_length n (byte b 16) ∷ [])
target_stores (entry place) b =
    entry_byte place 7 (byte b 0) ∷ entry_byte place 8 (byte b 1) ∷ entry_byte place 9 (byte b 2) ∷ entry_byte place 10 (byte b 3) ∷ []

-- first the journal's bytes; then, by one store, what they are; then the target; then the journal is emptied, what it is about first
abbrev pub after_commit : Target → List ℕ → List Store
after_commit t b = target_stores t b ++ (journal_what 0 ∷ row journal_byte 0 (zeros (length b)))

abbrev pub journaled : Target → List ℕ → List Store
journaled t b = row journal_byte 0 b ++ (journal_what (code t) ∷ after_commit t b)
