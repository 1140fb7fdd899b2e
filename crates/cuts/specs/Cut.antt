-- A cut after any of the stores of a command, or before the first, and then a recovery: what R-10 allows.
use Rattle.std.specs.Prelude.{ℕ, ◌+◌, ◌-◌, ◌≤◌, ◌<◌, Bool, true, false, cond, List, [], ◌∷◌, ◌++◌, ◌⊎◌, ◌≡◌, length, take, set}
use Rattle.files.specs.declared.File.{File}
use Rattle.files.specs.declared.Folder.{Folder}
use Rattle.files.specs.Part.{splice, zeros}
use Rattle.files.specs.Types.{is_variable, count, size}
use Rattle.files.specs.Directory.{start, end, extent, is_place}
use Rattle.files.specs.Listed.{records}
use Rattle.files.specs.Create.{area_size, created, founded}
use Rattle.rules.specs.declared.Card.{Card}
use Rattle.rules.specs.declared.Session.{Session}
use Rattle.rules.specs.declared.Response.{Response}
use Rattle.rules.specs.Words.{byte, same}
use Rattle.rules.specs.Tries.{lowered, restored}
use Rattle.rules.specs.State.{Which, number_of, login, credential, with_credentials, with_directory, with_login, with_value}
use Rattle.rules.specs.Sound.{sound}
use Rattle.rules.specs.Effect.{Deed, turns, enters, shows, stores, appends, makes, founds, Touch, nothing, presents, changes, reloads, challenges}
use Rattle.rules.specs.Target.{file_of}
use Rattle.rules.specs.Code.{key_after}
use Rattle.rules.specs.Calls.{answer, cleared, reset}
use Rattle.demands.specs.Held.{label_of}
use Rattle.power.specs.Store.{Memory, memory, puts}
use Rattle.power.specs.Plan.{lowers, Work, idle, files, credentials, Act, act_of, stores_of, touch_stores}
use Rattle.power.specs.Recovery.{tidied, lost, recover}

-- the lasting bytes that the cut leaves
abbrev pub cut_at : Card → List ℕ → List ℕ → ℕ → Memory
cut_at c area cmd n = puts (take n (stores_of c area cmd)) (memory c area)

-- nothing has changed
pub record Unchanged (c : Card) (area : List ℕ) (x : Card) (y : List ℕ) : Type 0 where
  pub card-is : x ≡ cleared c
  pub area-is : y ≡ area

-- an update may leave each byte old or new; all other bytes stay, and so every other file, and all of the card
pub record Updated (c : Card) (area : List ℕ) (place at : ℕ) (bytes : List ℕ) (x : Card) (y : List ℕ) : Type 0 where
  pub card-is : x ≡ cleared c
  pub length-is : length y ≡ length area
  pub each-byte : (i : ℕ) → (byte y i ≡ byte area i) ⊎ (byte y i ≡ byte (splice area at bytes) i)
  pub outside : (i : ℕ) → (i < at) ⊎ (at + length bytes ≤ i) → byte y i ≡ byte area i
  pub others : (other : ℕ) → is_place c.directory other ≡ true → (other ≡ place → ⊥) → extent c.directory other y ≡ extent c.directory other area

-- the records of a file
abbrev pub list_of : Card → ℕ → List ℕ → List (List ℕ)
list_of c place area = records (file_of c place) (extent c.directory place area)

-- with one more: after the last in a 2C file, else before the first, and in a full file the oldest goes
abbrev pub one_more : File → List (List ℕ) → List ℕ → List (List ℕ)
one_more f old d = cond (is_variable f) (old ++ (d ∷ [])) (take (count f) (d ∷ old))

-- an append leaves the old list, the old list without its oldest when full, or the new list; every other file stays, and all of the card but the directory
pub record Appended (c : Card) (area : List ℕ) (place : ℕ) (d : List ℕ) (x : Card) (y : List ℕ) : Type 0 where
  pub rest-is : x ≡ cleared (with_directory c x.directory)
  pub count-is : x.directory.count ≡ c.directory.count
  pub folders-are : (x.directory.folders ≡ c.directory.folders) × (x.directory.number ≡ c.directory.number)
  pub label_is : label_of (file_of x place) ≡ label_of (file_of c place)
  pub others : (other : ℕ) → is_place c.directory other ≡ true → (other ≡ place → ⊥)
      → (file_of x other ≡ file_of c other) × (extent x.directory other y ≡ extent c.directory other area)
  pub list-is :
      (list_of x place y ≡ list_of c place area)
      ⊎ ((((file_of c place).held ≡ count (file_of c place)) × (list_of x place y ≡ take (length (list_of c place area) - 1) (list_of c place area)))
      ⊎ (list_of x place y ≡ one_more (file_of c place) (list_of c place area) d))

-- a created file is there whole or not at all
pub record NotMade (c : Card) (area : List ℕ) (x : Card) (y : List ℕ) : Type 0 where
  pub card-is : x ≡ cleared c
  pub files-are : (place : ℕ) → is_place c.directory place ≡ true → extent c.directory place y ≡ extent c.directory place area

pub record MadeWhole (c : Card) (area : List ℕ) (f : File) (x : Card) (y : List ℕ) : Type 0 where
  pub card-is : x ≡ cleared (with_directory c (created c.directory f))
  pub area-is : y ≡ splice area (end c.directory) (zeros (size f))

-- and so is a created directory (R-7)
pub record FoundedWhole (c : Card) (area : List ℕ) (f : Folder) (x : Card) (y : List ℕ) : Type 0 where
  pub card-is : x ≡ cleared (with_directory c (founded c.directory f))
  pub area-is : y ≡ area

abbrev pub AllowedDeed : Card → List ℕ → Deed → Card → List ℕ → Type 0
AllowedDeed c area (turns place) x y = Unchanged c area x y
AllowedDeed c area (enters n) x y = Unchanged c area x y
AllowedDeed c area (shows place at n) x y = Unchanged c area x y
AllowedDeed c area (stores place at bytes) x y = Updated c area place (start c.directory place + at) bytes x y
AllowedDeed c area (appends place d) x y = Appended c area place d x y
AllowedDeed c area (makes f) x y = NotMade c area x y ⊎ MadeWhole c area f x y
AllowedDeed c area (founds f) x y = Unchanged c area x y ⊎ FoundedWhole c area f x y

-- a PIN is wholly the old or the new; tries are lowered first, and restored only where the comparison agrees, or with a new PIN that stands
abbrev pub AllowedTouch : Card → Touch → Card → Type 0
AllowedTouch c nothing x = x ≡ cleared c
AllowedTouch c (presents w value given) x =
    (x ≡ cleared c)
    ⊎ ((x ≡ cleared (with_login w c (lowered (login w c).tries) false))
    ⊎ ((value ≡ given) × (x ≡ cleared (with_login w c (restored (login w c).tries) true))))
AllowedTouch c (changes w d) x = (x ≡ cleared c) ⊎ (x ≡ cleared (with_value w c d))
AllowedTouch c (reloads w d) x =
    (x ≡ cleared c)
    ⊎ ((x ≡ cleared (with_value w c d)) ⊎ (x ≡ cleared (with_login w (with_value w c d) (restored (login w c).tries) false)))
AllowedTouch c (challenges n) x = x ≡ cleared c

abbrev pub AllowedWork : Card → List ℕ → Work → Card → List ℕ → Type 0
AllowedWork c area idle x y = Unchanged c area x y
AllowedWork c area (files d) x y = AllowedDeed c area d x y
AllowedWork c area (credentials t) x y = AllowedTouch c t x × (y ≡ area)

-- the card once a code's own stores are made: its tries restored where it agrees, else lowered (R-9)
abbrev pub presented_to : Card → Which → Bool → Card
presented_to c w agrees = with_credentials c (set c.credentials (number_of w) (key_after (credential c (number_of w)) agrees))

abbrev pub heard : Card → Touch → Card
heard c nothing = c
heard c (presents w value given) = presented_to c w (same value given)
heard c (changes w d) = c
heard c (reloads w d) = c
heard c (challenges n) = c

-- a code is presented first, and what the command does comes after all of that
abbrev pub Allowed : Card → List ℕ → Act → Card → List ℕ → Type 0
Allowed c area a x y = (AllowedTouch c a.code x × (y ≡ area)) ⊎ AllowedWork (heard c a.code) area a.work x y

-- recovery is served, whatever session and waiting bytes the cut left; a sound card results, on which the reset that follows changes nothing; and it is one
-- of those that are allowed
pub record Recovers (c : Card) (area cmd : List ℕ) (m : Memory) : Type 0 where
  pub served : (s : Session) (r : Response) → recover (lost s r m.card) m.area ≡ answer 0 (tidied m.card) 0
  pub sound-card : sound (tidied m.card) m.area ≡ true
  pub size_is : length m.area ≡ area_size
  pub reset-same : reset (tidied m.card) m.area ≡ answer 0 (tidied m.card) 0
  pub allowed : Allowed c area (act_of c area cmd) (tidied m.card) m.area

abbrev pub CutRecovers : Type 0
CutRecovers =
    (c : Card) (area cmd : List ℕ) (n : ℕ) → sound c area ≡ true → length area ≡ area_size → Recovers c area cmd (cut_at c area cmd n)

-- recovery is refused by 2, then by 4, and leaves all as it was; the area is no part of its answer
abbrev pub RecoverRefused : Type 0
RecoverRefused = (c : Card) (area : List ℕ) → ((recover c area).outcome ≡ 0 → ⊥) → recover c area ≡ answer (recover c area).outcome c 0

-- tries are lowered before any comparison: the first store of a presentation is the same whatever is compared; and nothing is restored where it does not agree
abbrev pub LoweredFirst : Type 0
LoweredFirst =
    (c : Card) (w : Which) (value given : List ℕ)
    → take 1 (touch_stores c (presents w value given)) ≡ lowers w c ∷ []

abbrev pub RestoredWhereEqual : Type 0
RestoredWhereEqual =
    (c : Card) (w : Which) (value given : List ℕ) → (value ≡ given → ⊥)
    → touch_stores c (presents w value given) ≡ lowers w c ∷ []
