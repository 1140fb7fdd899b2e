-- What a text says, read without a check: any bytes are read as some card. `Calls` then asks that this card is sound and that its text is the
-- text given, so that nothing here has to tell good texts from bad ones: no other text is accepted, however it is read. That the text of every sound card is
-- accepted rests on what is read here (`TextAccepted`).
use Rattle.std.specs.Prelude.{ℕ, zero, suc, ◌+◌, ◌-◌, ◌*◌, ◌%◌, ◌≤◌, min, Bool, cond, ◌||◌, List, [], ◌∷◌, ◌++◌, map, ◌≡◌, eqb, leb, ltb, length, drop, set, replicate}
use Rattle.digits.specs.Digits.{tab, newline, value, hex_pair}
use Rattle.files.specs.declared.File.{File}
use Rattle.files.specs.declared.Folder.{Folder}
use Rattle.files.specs.declared.Directory.{Directory}
use Rattle.files.specs.Words.{every, two, is_zero}
use Rattle.files.specs.Part.{zeros}
use Rattle.files.specs.State.{new_file, in_folder, with_newest, with_used, blank_file, new_folder, blank_folder}
use Rattle.files.specs.Types.{is_variable, size}
use Rattle.files.specs.Directory.{most_files, most_folders, find_fid, find_folder}
use Rattle.files.specs.Create.{area_size}
use Rattle.rules.specs.declared.Tries.{Tries}
use Rattle.rules.specs.declared.Credential.{Credential}
use Rattle.rules.specs.declared.Session.{Session}
use Rattle.rules.specs.declared.Response.{Response}
use Rattle.rules.specs.declared.Card.{Card}
use Rattle.rules.specs.Words.{byte, filled}
use Rattle.rules.specs.State.{whiches, number_of, how_many, how_many_rights, credential_of, response_size, response_of, no_journal}
use Rattle.texts.specs.Text.{Form, holders, lines_for}

-- a tab or a newline ends a field
abbrev pub ends : ℕ → Bool
ends b = eqb b tab || eqb b newline

-- what stands behind the first field, and behind so many
unfoldable pub skip : List ℕ → List ℕ
skip [] = []
skip (b ∷ bs) = cond (ends b) bs (skip bs)

abbrev pub skips : ℕ → List ℕ → List ℕ
skips zero s = s
skips (suc n) s = skips n (skip s)

-- two digits are a byte
unfoldable pub pair : List ℕ → ℕ
pair s = hex_pair (byte s 0) (byte s 1)

-- at most so many bytes, up to what is no digit
unfoldable pub hex_in : ℕ → List ℕ → List ℕ
hex_in zero s = []
hex_in (suc n) s = cond (ltb (value (byte s 0)) 16) (pair s ∷ hex_in n (drop 2 s)) []

-- the number whose digits go on in s behind n, up to what is no digit; cut to size
unfoldable pub number_from : ℕ → List ℕ → ℕ
number_from n [] = n
number_from n (b ∷ bs) = cond (ltb (value b) 10) (number_from ((n * 10 + value b) % 65536) bs) n

unfoldable pub number : List ℕ → ℕ
number s = number_from 0 s

-- a number that is kept as a byte
unfoldable pub small : List ℕ → ℕ
small s = number s % 256

abbrev pub tries_of : ℕ → ℕ → Tries
tries_of left limit = record { left = left; limit = limit }

unfoldable pub tries_in : List ℕ → Tries
tries_in s = tries_of (small (skip s)) (small s)

unfoldable pub credential_in : List ℕ → Credential
credential_in s = credential_of (hex_in 16 s) (tries_in (skip s))

-- the directory of a FID, 0 for the root; where no directory is, every FID is the root's
unfoldable pub home_in : Directory → List ℕ → ℕ
home_in d s = find_folder d (two (byte (hex_in 2 s) 0) (byte (hex_in 2 s) 1))

-- a line of the new form has one field more
abbrev pub past_home : Form → List ℕ → List ℕ
past_home form s = cond form (skip s) s

abbrev pub current_in : Directory → ℕ → List ℕ → ℕ
current_in d home fid = cond (is_zero (length fid)) 0 (find_fid d home (two (byte fid 0) (byte fid 1)))

abbrev pub session_of : List ℕ → ℕ → List ℕ → ℕ → Session
session_of rights current challenge home =
    record { rights = rights; current = current; challenge = filled challenge; len = length challenge; folder = home }

abbrev pub rights_in : List ℕ → List ℕ
rights_in s = map (λ w. small (skips (number_of w) s)) holders

unfoldable pub session_in : Directory → List ℕ → Session
session_in d s =
    session_of (rights_in s) (current_in d (home_in d (skips (how_many_rights + 4) s)) (hex_in 2 (skips how_many_rights s))) (hex_in 16 (skips (suc how_many_rights) s))
    (home_in d (skips (how_many_rights + 4) s))

-- mode and waiting bytes of the session's line
unfoldable pub response_in : List ℕ → Response
response_in s = response_of (small (skips (how_many_rights + 2) s)) (hex_in response_size (skips (how_many_rights + 3) s))

-- a file with so many records held, or bytes used, and its newest place
abbrev pub counted : File → ℕ → ℕ → File
counted f n newest = cond (is_variable f) (with_used (with_newest f 0 newest) n) (with_newest f (n % 256) newest)

abbrev pub file_of : List ℕ → List ℕ → File
file_of fid made = new_file (byte fid 0) (byte fid 1) (byte made 0) (byte made 1) (byte made 2) (byte made 3) (byte made 4)

-- a file's line without its directory, which nothing of its contents depends on
unfoldable pub file_in : List ℕ → File
file_in s = counted (file_of (hex_in 2 s) (hex_in 5 (skips 1 s))) (number (skips 2 s)) (small (skips 3 s))

-- n bytes of two digits each
unfoldable pub pairs : ℕ → List ℕ → List ℕ
pairs zero s = []
pairs (suc n) s = pair s ∷ pairs n (drop 2 s)

-- a line of as many of n bytes as it takes, and what stands behind it
abbrev pub in_row : ℕ → ℕ
in_row n = min 32 n

unfoldable pub past_row : ℕ → List ℕ → List ℕ
past_row n s = drop (in_row n + in_row n + 1) s

-- n bytes in k lines, and what stands behind them
unfoldable pub rows_in : ℕ → ℕ → List ℕ → List ℕ
rows_in zero n s = []
rows_in (suc k) n s = pairs (in_row n) s ++ rows_in k (n - 32) (past_row n s)

unfoldable pub behind : ℕ → ℕ → List ℕ → List ℕ
behind zero n s = s
behind (suc k) n s = behind k (n - 32) (past_row n s)

abbrev pub contents_in : ℕ → List ℕ → List ℕ
contents_in n s = rows_in (lines_for n) n s

-- the contents of the file whose line comes first, and what stands behind them
abbrev pub contents_part : Form → List ℕ → List ℕ
contents_part form s = past_home form (skips 4 s)

abbrev pub contents_of : Form → List ℕ → List ℕ
contents_of form s = contents_in (size (file_in s)) (contents_part form s)

abbrev pub after_file : Form → List ℕ → List ℕ
after_file form s = behind (lines_for (size (file_in s))) (size (file_in s)) (contents_part form s)

-- so many bytes of text n bytes take in their lines
abbrev pub length_for : ℕ → ℕ
length_for n = n + n + lines_for n

-- there is text left, with all that the next file says of its contents, and so many bytes of area take them
abbrev pub goes_on : Form → ℕ → List ℕ → Bool
goes_on form room s =
    every (leb 1 (length s) ∷ leb (size (file_in s)) room ∷ leb (length_for (size (file_in s))) (length (contents_part form s)) ∷ [])

-- at most so many files, each in its directory; and their contents, one behind the other
abbrev pub housed_in : Directory → List ℕ → File
housed_in d s = in_folder (home_in d (skips 4 s)) (file_in s)

unfoldable pub files_in : Form → Directory → ℕ → ℕ → List ℕ → List File
files_in form d zero room s = []
files_in form d (suc n) room s =
    cond (goes_on form room s) (housed_in d s ∷ files_in form d n (room - size (file_in s)) (after_file form s)) []

unfoldable pub bytes_in : Form → ℕ → ℕ → List ℕ → List ℕ
bytes_in form zero room s = []
bytes_in form (suc n) room s = cond (goes_on form room s) (contents_of form s ++ bytes_in form n (room - size (file_in s)) (after_file form s)) []

-- a directory's line, told by its second field of two digits; at most so many of them
abbrev pub folder_next : List ℕ → Bool
folder_next s = ends (byte (skip s) 2)

abbrev pub folder_of : List ℕ → List ℕ → Folder
folder_of fid right = new_folder (byte fid 0) (byte fid 1) (byte right 0)

unfoldable pub folder_in : List ℕ → Folder
folder_in s = folder_of (hex_in 2 s) (hex_in 1 (skips 1 s))

unfoldable pub folders_in : ℕ → List ℕ → List Folder
folders_in zero s = []
folders_in (suc n) s = cond (folder_next s) (folder_in s ∷ folders_in n (skips 2 s)) []

-- the old form has none of them
abbrev pub most_folders_of : Form → ℕ
most_folders_of form = cond form most_folders 0

-- values stored one after the other from an index on; what has no place is lost
unfoldable pub laid : {A : Type 0} → List A → ℕ → List A → List A
laid out at [] = out
laid out at (x ∷ xs) = laid (set out at x) (suc at) xs

-- directories alone, and files with them
unfoldable pub foldered : List Folder → Directory
foldered xs =
    record { files = replicate most_files blank_file; count = 0; folders = laid (replicate most_folders blank_folder) 0 xs; number = length xs }

unfoldable pub with_files : Directory → List File → Directory
with_files d fs = record { files = laid (replicate most_files blank_file) 0 fs; count = length fs; folders = d.folders; number = d.number }

-- three fields for each credential, then those of the session; directories and files follow
abbrev pub session_part : List ℕ → List ℕ
session_part s = skips (3 * how_many) s

abbrev pub folders_part : Form → List ℕ → List ℕ
folders_part form s = past_home form (skips (how_many_rights + 4) (session_part s))

unfoldable pub folders_read : Form → List ℕ → List Folder
folders_read form s = folders_in (most_folders_of form) (folders_part form s)

unfoldable pub files_part : Form → List ℕ → List ℕ
files_part form s = skips (length (folders_read form s) + length (folders_read form s)) (folders_part form s)

abbrev pub directory_in : Form → List ℕ → Directory
directory_in form s =
    with_files (foldered (folders_read form s)) (files_in form (foldered (folders_read form s)) most_files area_size (files_part form s))

unfoldable pub card_in : Form → List ℕ → Card
card_in form s = record {
  credentials = map (λ w. credential_in (skips (3 * number_of w) s)) whiches;
  directory = directory_in form s;
  session = session_in (directory_in form s) (session_part s);
  response = response_in (session_part s);
  journal = no_journal;
}

-- area bytes past the last file are 00
unfoldable pub area_in : Form → List ℕ → List ℕ
area_in form s = laid (zeros area_size) 0 (bytes_in form most_files area_size (files_part form s))

-- what the code's reading functions return and leave: bytes read over the front of a buffer, and their number
pub record Fills (bytes out : List ℕ) (r : ℕ) (left : List ℕ) : Type 0 where
  pub count-is : r ≡ length bytes
  pub few : r ≤ length out
  pub left_is : left ≡ laid out 0 bytes

-- files read: the directory, and their bytes
pub record LoadsAll (form : Form) (d : Directory) (s image : List ℕ) (r : Directory) (left : List ℕ) : Type 0 where
  pub directory-is : r ≡ with_files d (files_in form d most_files (length image) s)
  pub left_is : left ≡ laid image 0 (bytes_in form most_files (length image) s)

pub record LoadsDirectory (form : Form) (s image : List ℕ) (r : Directory) (left : List ℕ) : Type 0 where
  pub directory-is : r ≡ directory_in form s
  pub left_is : left ≡ laid image 0 (bytes_in form most_files area_size (files_part form s))

pub record LoadsCard (form : Form) (s image : List ℕ) (r : Card) (left : List ℕ) : Type 0 where
  pub card-is : r ≡ card_in form s
  pub left_is : left ≡ laid image 0 (bytes_in form most_files area_size (files_part form s))
