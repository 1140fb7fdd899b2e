-- The text of a card: lines, each ending in a newline, fields parted by tabs. Limits, tries, counts, places and the mode are decimal, all else is hex.
-- A text has one of two forms: the new one names directories (R-7); the old one, of cards without a directory, is what was written before them.
use Rattle.std.specs.Prelude.{ℕ, zero, suc, ◌+◌, ◌/◌, min, Bool, true, false, cond, List, [], ◌∷◌, ◌++◌, map, length, take, drop}
use Rattle.digits.specs.Digits.{tab, newline, ended, decimal, hex_of, or_dash}
use Rattle.files.specs.declared.File.{File}
use Rattle.files.specs.declared.Folder.{Folder}
use Rattle.files.specs.declared.Directory.{Directory}
use Rattle.files.specs.Words.{is_zero}
use Rattle.files.specs.Types.{is_variable, size}
use Rattle.files.specs.Record.{bytes_used}
use Rattle.files.specs.Directory.{file, used, folder, most_folders}
use Rattle.rules.specs.declared.Credential.{Credential}
use Rattle.rules.specs.declared.Card.{Card}
use Rattle.rules.specs.State.{Which, whiches, number_of, how_many_rights, credential, right_kept, value_of, challenge, mode, waiting}

abbrev pub Form : Type 0
Form = Bool

abbrev pub new : Form
new = true

abbrev pub old : Form
old = false

-- the fields of a line
unfoldable pub line : List (List ℕ) → List ℕ
line [] = newline ∷ []
line (f ∷ []) = ended newline f
line (f ∷ g ∷ more) = f ++ (tab ∷ line (g ∷ more))

-- one text behind the other
abbrev pub joined : List (List ℕ) → List ℕ
joined [] = []
joined (t ∷ []) = t
joined (t ∷ u ∷ more) = t ++ joined (u ∷ more)

-- value, limit, tries
unfoldable pub credential_line : Credential → List ℕ
credential_line x = line (or_dash (value_of x) ∷ decimal x.tries.limit ∷ decimal x.tries.left ∷ [])

abbrev pub fid_bytes : File → List ℕ
fid_bytes f = f.fid1 ∷ f.fid2 ∷ []

-- the current file's FID, [] for none
abbrev pub current_fid : Directory → ℕ → List ℕ
current_fid d place = cond (is_zero place) [] (fid_bytes (file d place))

-- a directory's FID, 3F00 for the root
abbrev pub folder_bytes : Folder → List ℕ
folder_bytes x = x.fid1 ∷ x.fid2 ∷ []

abbrev pub home_fid : Directory → ℕ → List ℕ
home_fid d place = cond (is_zero place) (0x3F ∷ 0x00 ∷ []) (folder_bytes (folder d place))

-- the last field of session and file lines, in the new form only
abbrev pub home : Form → Directory → ℕ → List (List ℕ)
home form d place = cond form (or_dash (home_fid d place) ∷ []) []

-- the same in the words of the code: the byte behind the field before it, and what stands behind that byte
abbrev pub parting : Form → ℕ
parting form = cond form tab newline

abbrev pub tail : Form → Directory → ℕ → List ℕ
tail form d place = cond form (line (or_dash (home_fid d place) ∷ [])) []

-- those that have a right; the transport key has none
abbrev pub holders : List Which
holders = take how_many_rights whiches

-- the right of a credential, as 0 or 1
abbrev pub right : Card → Which → List ℕ
right c w = decimal (right_kept c (number_of w))

-- rights, current FID or -, challenge or -, mode, waiting bytes or -, the current directory
unfoldable pub session_line : Form → Card → List ℕ
session_line form c =
    line
    (map (right c) holders
    ++ (or_dash (current_fid c.directory c.session.current)
    ∷ or_dash (challenge c)
    ∷ decimal (mode c)
    ∷ or_dash (waiting c)
    ∷ home form c.directory c.session.folder))

-- a directory: FID, creation right
unfoldable pub folder_line : Folder → List ℕ
folder_line x = line (or_dash (folder_bytes x) ∷ or_dash (x.right ∷ []) ∷ [])

-- each directory, as made
unfoldable pub folder_lines : List Folder → List ℕ
folder_lines [] = []
folder_lines (x ∷ xs) = folder_line x ++ folder_lines xs

-- how many directories there are; a stored number over 4 names no more than 4
unfoldable pub folder_count : Directory → ℕ
folder_count d = min d.number most_folders

-- type, two size bytes, two rights bytes
abbrev pub create_bytes : File → List ℕ
create_bytes f = f.kind ∷ f.size1 ∷ f.size2 ∷ f.read ∷ f.write ∷ []

-- records held; of type 2C the bytes used
unfoldable pub held_or_used : File → ℕ
held_or_used f = cond (is_variable f) (bytes_used f) f.held

-- FID, CREATE's five bytes, records held, newest place, its directory
unfoldable pub file_line : Form → Directory → File → List ℕ
file_line form d f =
    line (or_dash (fid_bytes f) ∷ or_dash (create_bytes f) ∷ decimal (held_or_used f) ∷ decimal f.newest ∷ home form d f.folder)

-- bytes in so many lines, 32 a line
unfoldable pub rows : ℕ → List ℕ → List ℕ
rows zero bytes = []
rows (suc k) bytes = ended newline (hex_of (take 32 bytes)) ++ rows k (drop 32 bytes)

-- as many lines as so many bytes take: the rest is in the last
abbrev pub lines_for : ℕ → ℕ
lines_for n = (n + 31) / 32

unfoldable pub contents : List ℕ → List ℕ
contents bytes = rows (lines_for (length bytes)) bytes

-- each file's line, then its contents; the area from the first of these files on
unfoldable pub files_text : Form → Directory → List File → List ℕ → List ℕ
files_text form d [] area = []
files_text form d (f ∷ fs) area = file_line form d f ++ (contents (take (size f) area) ++ files_text form d fs (drop (size f) area))

-- device key, admin PIN, user PIN, transport key
unfoldable pub credential_lines : Card → List ℕ
credential_lines c = joined (map (λ w. credential_line (credential c (number_of w))) whiches)

unfoldable pub text : Form → Card → List ℕ → List ℕ
text form c area =
    credential_lines c
    ++ (session_line form c
    ++ (folder_lines (take (folder_count c.directory) c.directory.folders)
    ++ files_text form c.directory (take (used c.directory) c.directory.files) area))

-- a card has a text of a form: of the old one where it has no directory
abbrev pub of_form : Form → Card → Bool
of_form form c = cond form true (is_zero c.directory.number)
