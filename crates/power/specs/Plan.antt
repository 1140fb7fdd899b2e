-- The stores of each command, in order.
use Rattle.std.specs.Prelude.{ℕ, ◌+◌, ◌-◌, Bool, cond, ◌&&◌, not, List, [], ◌∷◌, ◌++◌, length, eqb, leb}
use Rattle.files.specs.declared.File.{File}
use Rattle.files.specs.declared.Folder.{Folder}
use Rattle.files.specs.declared.Located.{Located}
use Rattle.files.specs.Part.{zeros}
use Rattle.files.specs.State.{emptied, file_bytes, folder_bytes}
use Rattle.files.specs.Types.{is_variable, count, size}
use Rattle.files.specs.Directory.{start, end}
use Rattle.files.specs.Record.{next_start, appended}
use Rattle.files.specs.Record as record-files
use Rattle.rules.specs.declared.Card.{Card}
use Rattle.rules.specs.declared.Ins.{Ins}
use Rattle.rules.specs.Words.{same}
use Rattle.rules.specs.State.{Which, transport, number_of, login, logins, challenge}
use Rattle.rules.specs.Frame.{Command, framed}
use Rattle.rules.specs.Effect.{Deed, turns, enters, shows, stores, appends, makes, founds, Touch, nothing, presents, changes, reloads, challenges}
use Rattle.rules.specs.Target.{file_of}
use Rattle.rules.specs.Record.{record_found}
use Rattle.rules.specs.Code.{expected, presents_code}
use Rattle.rules.specs.List.{listed, Rule, of_files, of_contents, of_credentials, rule}
use Rattle.rules.specs.Response.{fetches}
use Rattle.rules.specs.Step.{sw_of}
use Rattle.power.specs.Store.{Store, tries_left, entry_byte, file_count, folder_byte, folder_count, area_byte, row}
use Rattle.power.specs.Journal.{credential, entry, value_bytes, known_bytes, journaled}

-- ---- what a command does to the files
-- a 2E file that is full: the oldest record goes before the new one is stored over it
abbrev pub is_full : File → Bool
is_full f = not (is_variable f) && leb (count f) f.held

abbrev pub oldest_goes : File → ℕ → List Store
oldest_goes f place = cond (is_full f) (entry_byte place 7 (f.held - 1) ∷ []) []

-- a record's bytes, in a 2C file behind its length
abbrev pub record_stores : Card → ℕ → List ℕ → List Store
record_stores c place d =
    row area_byte (start c.directory place + next_start (file_of c place)) (record-files.entry (file_of c place) d)

-- an append: the oldest goes, the record's bytes, then by the journal what the file knows of its records
abbrev pub append_stores : Card → ℕ → List ℕ → List Store
append_stores c place d =
    oldest_goes (file_of c place) (place - 1)
    ++ (record_stores c place d ++ journaled (entry (place - 1)) (known_bytes (appended (file_of c place) (length d))))

-- a new file: its bytes, its entry past the last file, the number of files
abbrev pub make_stores : Card → File → List Store
make_stores c f =
    row area_byte (end c.directory) (zeros (size f))
    ++ (row (entry_byte c.directory.count) 0 (file_bytes (emptied f)) ++ (file_count (c.directory.count + 1) ∷ []))

-- a new directory: the same without bytes in the area
abbrev pub found_stores : Card → Folder → List Store
found_stores c x = row (folder_byte c.directory.number) 0 (folder_bytes x) ++ (folder_count (c.directory.number + 1) ∷ [])

abbrev pub deed_stores : Card → Deed → List Store
deed_stores c (turns place) = []
deed_stores c (enters n) = []
deed_stores c (shows place at n) = []
deed_stores c (stores place at bytes) = row area_byte (start c.directory place + at) bytes
deed_stores c (appends place d) = append_stores c place d
deed_stores c (makes f) = make_stores c f
deed_stores c (founds x) = found_stores c x

-- ---- what it does to the credentials
-- tries are lowered before any comparison, and restored only after one that agrees
abbrev pub lowers : Which → Card → Store
lowers w c = tries_left (number_of w) ((login w c).tries.left - 1)

abbrev pub restores : Which → Card → Store
restores w c = tries_left (number_of w) (login w c).tries.limit

abbrev pub present_stores : Card → Which → Bool → List Store
present_stores c w agrees = lowers w c ∷ cond agrees (restores w c ∷ []) []

abbrev pub touch_stores : Card → Touch → List Store
touch_stores c nothing = []
touch_stores c (presents w value given) = present_stores c w (same value given)
touch_stores c (changes w d) = journaled (credential (number_of w)) (value_bytes d)
touch_stores c (reloads w d) = journaled (credential (number_of w)) (value_bytes d) ++ (restores w c ∷ [])
touch_stores c (challenges n) = []

-- ---- a served command
-- what it does where no check fails: nothing in a GET RESPONSE of mode 1
pub data Work : Type 0 where
  idle : Work
  files : Deed → Work
  credentials : Touch → Work

-- a code is presented first, and what that stores stands whatever later checks say (R-9)
pub record Act : Type 0 where
  pub code : Touch
  pub work : Work

abbrev pub act : Touch → Work → Act
act t x = record { code = t; work = x }

abbrev pub code_by : Rule → Card → Command → Touch
code_by (of_files t d) c k = nothing
code_by (of_contents f t d) c k =
    cond (presents_code (f k) (logins c) (challenge c) k) (presents transport (expected (logins c) (challenge c) k) k.code) nothing
code_by (of_credentials t d) c k = nothing

abbrev pub work_by : Rule → Card → Located → Command → Work
work_by (of_files t d) c l k = files (d c k)
work_by (of_contents f t d) c l k = files (d c l k)
work_by (of_credentials t d) c l k = credentials (d (logins c) (challenge c) k)

abbrev pub planned : Ins → Card → Located → Command → Act
planned i c l k = act (code_by (rule i) c k) (cond (eqb (sw_of i c l k) 0x9000) (work_by (rule i) c l k) idle)

unfoldable pub act_of : Card → List ℕ → List ℕ → Act
act_of c area cmd =
    cond (fetches c (framed cmd)) (act nothing idle) (planned (listed (framed cmd)) c (record_found c area (framed cmd)) (framed cmd))

abbrev pub work_stores : Card → Work → List Store
work_stores c idle = []
work_stores c (files d) = deed_stores c d
work_stores c (credentials t) = touch_stores c t

abbrev pub stores_for : Card → Act → List Store
stores_for c a = touch_stores c a.code ++ work_stores c a.work

abbrev pub stores_of : Card → List ℕ → List ℕ → List Store
stores_of c area cmd = stores_for c (act_of c area cmd)
