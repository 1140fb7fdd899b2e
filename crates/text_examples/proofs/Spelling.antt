-- Every accepted text is spelt as one.
-- Assumes nothing.
use Prim.Native.Nat.{ℕ, zero, suc, ◌+◌, ◌-◌, ◌*◌, ◌/◌, ◌%◌, ◌≤◌, ◌<◌}
use mathlib.Core.Bool.{Bool, true, false}
use mathlib.Core.List.{List, [], ◌∷◌, ◌++◌, append_assoc}
use mathlib.Core.Path.{◌≡◌, refl, sym, ap, ◌∙◌}
use native.Mathlib.Omega.{arith}
use lib.Dec.{eqb}
use lib.ListN.{length, take, drop, length-take, length-drop}
use borrow.Author.Tests.{eqb-true}
use Rattle.files.specs.declared.File.{File}
use Rattle.files.specs.declared.Folder.{Folder}
use Rattle.files.specs.declared.Directory.{Directory}
use Rattle.files.specs.Words.{all_below, is_zero}
use Rattle.files.specs.Types.{size}
use Rattle.files.specs.Directory.{used, file, file_at, folder_at}
use Rattle.files.proofs.Checks.{clash, both, join, split, below}
use Rattle.rules.specs.declared.Credential.{Credential}
use Rattle.rules.specs.declared.Card.{Card}
use Rattle.rules.specs.Words.{all_of}
use Rattle.rules.specs.State.{credential, right_kept, value_of, challenge, mode, wait_count, waiting}
use Rattle.digits.specs.Digits.{newline, ended, last_digit, decimal, hex_digit, hex_of, or_dash}
use Rattle.digits.proofs.Decimal.{decimal-some}
use Rattle.digits.proofs.Written.{hex_of-length}
use Rattle.texts.specs.Text.{Form, line, credential_line, credential_lines, current_fid, folder_bytes, home_fid, home, session_line, folder_line, folder_lines, folder_count, fid_bytes, create_bytes, held_or_used, file_line, rows, lines_for, contents, files_text, text}
use Rattle.texts.specs.Laws.{Bytes, FileBytes, FolderBytes, CardBytes}
use Rattle.texts.proofs.Cards.{bytes-nil, bytes-cons, fid-bytes, folder-bytes, create-bytes}
use Rattle.texts.proofs.Contents.{bytes_drop, bytes_take}
use Rattle.texts.proofs.Digits.{all_digits}
use Rattle.texts.proofs.Exact.{accepted-text}
use Rattle.text_examples.specs.Spelling.{parts, spells, spelt, EachSpelt}

-- what spells does not part
spells-on : (b : ℕ) → spells b ≡ true → parts b ≡ false
spells-on b h = go (parts b) refl
  where
    go : (t : Bool) → parts b ≡ t → parts b ≡ false
    go false e = e
    go true e = tab (eqb b 9) refl e
      where
        tab : (t : Bool) → eqb b 9 ≡ t → parts b ≡ true → parts b ≡ false
        tab true k e = let z : b ≡ 9 = eqb-true b 9 k in clash (spells b) h (rw z)
        tab false k e = let z : b ≡ 10 = eqb-true b 10 (rw k at e) in clash (spells b) h (rw z)

-- a field: some bytes, each of which spells
pub record Word (w : List ℕ) : Type 0 where
  pub each : all_of spells w ≡ true
  pub some : 1 ≤ length w

module _ (e : ℕ) (r : List ℕ) (h : parts e ≡ true) where
  field-on : (w : List ℕ) (p : ℕ) → all_of spells w ≡ true → parts p ≡ false → spelt p (w ++ (e ∷ r)) ≡ spelt e r
  unfolding all_of
  field-on [] p k q = rw (h, q)
  field-on (x ∷ xs) p k q =
      let b = both (spells x) (all_of spells xs) k in
      rw (spells-on x b.0, b.0) (field-on xs x b.1 (spells-on x b.0))

  field : (w : List ℕ) (p : ℕ) → Word w → spelt p (w ++ (e ∷ r)) ≡ spelt e r
  unfolding all_of
  field [] p k = absurd (let l = k.some in omega arith)
  field (x ∷ xs) p k =
      let b = both (spells x) (all_of spells xs) k.each in
      rw (spells-on x b.0, b.0) (field-on xs x b.1 (spells-on x b.0))

-- lines
abbrev Words : List (List ℕ) → Type 0
Words [] = Unit {0}
Words (f ∷ fs) = Word f × Words fs

line_on : (f : List ℕ) (fs : List (List ℕ)) (p : ℕ) (r : List ℕ) → Words (f ∷ fs) → spelt p (line (f ∷ fs) ++ r) ≡ spelt 10 r
unfolding line
line_on f [] p r h = rw (append_assoc f (newline ∷ []) r) (field 10 r refl f p h.0)
line_on f (g ∷ more) p r h = rw (append_assoc f (9 ∷ line (g ∷ more)) r) (field 9 (line (g ∷ more) ++ r) refl f p h.0 ∙ line_on g more 9 r h.1)

-- numbers and bytes
abbrev last-test : ℕ → Bool
last-test d = spells (48 + d)

last-spells : (n : ℕ) → spells (last_digit n) ≡ true
unfolding all_below
last-spells n = below last-test 10 refl (n % 10) (omega arith)

decimal-word : (n : ℕ) → Word (decimal n)
decimal-word n = record { each = all_digits spells last-spells n; some = decimal-some n }

abbrev digit-test : ℕ → Bool
digit-test d = spells (hex_digit d)

digit-spells : (d : ℕ) → d < 16 → spells (hex_digit d) ≡ true
unfolding all_below hex_digit
digit-spells d h = below digit-test 16 refl d h

hex-spells : (bs : List ℕ) → Bytes bs → all_of spells (hex_of bs) ≡ true
unfolding all_of hex_of
hex-spells [] h = refl
hex-spells (b ∷ bs) h =
    let b₀ : b < 256 = h 0 in
    let high : b / 16 < 16 = omega arith in
    let low : b % 16 < 16 = omega arith in
    join (digit-spells (b / 16) high) (join (digit-spells (b % 16) low) (hex-spells bs (λ i. h (suc i))))

hex-word : (bs : List ℕ) → Bytes bs → 1 ≤ length bs → Word (hex_of bs)
hex-word bs h l = record { each = hex-spells bs h; some = omega (arith, hex_of-length bs) }

dash-word : (bs : List ℕ) → Bytes bs → Word (or_dash bs)
unfolding or_dash all_of
dash-word [] h = record { each = refl; some = omega arith }
dash-word (b ∷ bs) h = hex-word (b ∷ bs) h (omega arith)

-- contents: no line is empty
rows_on : (k : ℕ) (bs r : List ℕ) → 32 * k ≤ length bs + 31 → Bytes bs → spelt 10 (rows k bs ++ r) ≡ spelt 10 r
unfolding rows
rows_on zero bs r l h = refl
rows_on (suc k) bs r l h =
    let w = hex_of (take 32 bs) in
    let more = rows k (drop 32 bs) in
    let some : 1 ≤ length (take 32 bs) = omega (arith, length-take 32 bs) in
    rw (append_assoc (ended newline w) more r, append_assoc w (newline ∷ []) (more ++ r))
    (field 10 (more ++ r) refl w 10 (hex-word (take 32 bs) (bytes_take 32 bs h) some)
    ∙ rows_on k (drop 32 bs) r (omega (arith, length-drop 32 bs)) (bytes_drop 32 bs h))

contents-on : (bs r : List ℕ) → Bytes bs → spelt 10 (contents bs ++ r) ≡ spelt 10 r
unfolding contents
contents-on bs r h = rows_on (lines_for (length bs)) bs r (omega arith) h

-- a directory's FID, in the new form
home-bytes : (d : Directory) (n : ℕ) → ((i : ℕ) → FolderBytes (folder_at d.folders i)) → Bytes (home_fid d n)
home-bytes d n b =
    split Bytes (is_zero n) (λ _. bytes-cons 0x3F (0x00 ∷ []) (omega arith) (bytes-cons 0x00 [] (omega arith) bytes-nil)) (λ _. folder-bytes (folder_at d.folders (n - 1)) (b (n - 1)))

home-words : (form : Form) (d : Directory) (n : ℕ) → ((i : ℕ) → FolderBytes (folder_at d.folders i)) → Words (home form d n)
home-words true d n b = (dash-word (home_fid d n) (home-bytes d n b), tt)
home-words false d n b = tt

-- files
module _ (form : Form) (d : Directory) (x : (i : ℕ) → FolderBytes (folder_at d.folders i)) where
  file-on : (f : File) (r : List ℕ) → FileBytes f → spelt 10 (file_line form d f ++ r) ≡ spelt 10 r
  unfolding file_line
  file-on f r b =
      line_on (or_dash (fid_bytes f)) (or_dash (create_bytes f) ∷ decimal (held_or_used f) ∷ decimal f.newest ∷ home form d f.folder) 10 r
      (dash-word (fid_bytes f) (fid-bytes f b), (dash-word (create_bytes f) (create-bytes f b), (decimal-word (held_or_used f), (decimal-word f.newest, home-words form d f.folder x))))

  files-spelt : (n : ℕ) (files : List File) (area : List ℕ) → ((i : ℕ) → FileBytes (file_at files i)) → Bytes area → spelt 10 (files_text form d (take n files) area) ≡ true
  unfolding files_text
  files-spelt zero files area h k = refl
  files-spelt (suc n) [] area h k = refl
  files-spelt (suc n) (f ∷ fs) area h k =
      file-on f (contents (take (size f) area) ++ files_text form d (take n fs) (drop (size f) area)) (h 0)
      ∙ contents-on (take (size f) area) (files_text form d (take n fs) (drop (size f) area)) (bytes_take (size f) area k)
      ∙ files-spelt n fs (drop (size f) area) (λ i. h (suc i)) (bytes_drop (size f) area k)

-- directories
folder-on : (x : Folder) (r : List ℕ) → FolderBytes x → spelt 10 (folder_line x ++ r) ≡ spelt 10 r
unfolding folder_line
folder-on x r b =
    line_on (or_dash (folder_bytes x)) (or_dash (x.right ∷ []) ∷ []) 10 r
    (dash-word (folder_bytes x) (folder-bytes x b), (dash-word (x.right ∷ []) (bytes-cons x.right [] b.right bytes-nil), tt))

folders-on : (n : ℕ) (folders : List Folder) (r : List ℕ) → ((i : ℕ) → FolderBytes (folder_at folders i)) → spelt 10 (folder_lines (take n folders) ++ r) ≡ spelt 10 r
unfolding folder_lines
folders-on zero folders r h = refl
folders-on (suc n) [] r h = refl
folders-on (suc n) (x ∷ xs) r h =
    rw (append_assoc (folder_line x) (folder_lines (take n xs)) r) (folder-on x (folder_lines (take n xs) ++ r) (h 0) ∙ folders-on n xs r (λ i. h (suc i)))

-- the card
credential-on : (x : Credential) (r : List ℕ) → Bytes x.value → spelt 10 (credential_line x ++ r) ≡ spelt 10 r
unfolding credential_line
credential-on x r h =
    line_on (or_dash (value_of x)) (decimal x.tries.limit ∷ decimal x.tries.left ∷ []) 10 r
    (dash-word (value_of x) (bytes_take x.len x.value h), (decimal-word x.tries.limit, (decimal-word x.tries.left, tt)))

module _ (form : Form) (c : Card) (b : CardBytes c) where
  credentials-on : (r : List ℕ) → spelt 10 (credential_lines c ++ r) ≡ spelt 10 r
  unfolding credential_lines
  credentials-on r =
      let d = credential_line (credential c 0) in
      let a = credential_line (credential c 1) in
      let u = credential_line (credential c 2) in
      let t = credential_line (credential c 3) in
      rw (append_assoc d (a ++ (u ++ t)) r, append_assoc a (u ++ t) r, append_assoc u t r)
      (credential-on (credential c 0) (a ++ (u ++ (t ++ r))) (b.values 0 (omega arith))
      ∙ credential-on (credential c 1) (u ++ (t ++ r)) (b.values 1 (omega arith))
      ∙ credential-on (credential c 2) (t ++ r) (b.values 2 (omega arith))
      ∙ credential-on (credential c 3) r (b.values 3 (omega arith)))

  current-bytes : Bytes (current_fid c.directory c.session.current)
  current-bytes =
      split Bytes (is_zero c.session.current) (λ _. bytes-nil)
      (λ _. fid-bytes (file c.directory c.session.current) (b.files (c.session.current - 1)))

  session-on : (r : List ℕ) → spelt 10 (session_line form c ++ r) ≡ spelt 10 r
  unfolding session_line
  session-on r =
      line_on (decimal (right_kept c 0))
      (decimal (right_kept c 1) ∷ decimal (right_kept c 2) ∷ or_dash (current_fid c.directory c.session.current) ∷ or_dash (challenge c) ∷ decimal (mode c) ∷ or_dash (waiting c) ∷ home form c.directory c.session.folder) 10 r (
        decimal-word (right_kept c 0),
        (
          decimal-word (right_kept c 1),
          (
            decimal-word (right_kept c 2),
            (
              dash-word (current_fid c.directory c.session.current) current-bytes,
              (
                dash-word (challenge c) (bytes_take c.session.len c.session.challenge b.challenge),
                (decimal-word (mode c), (dash-word (waiting c) (bytes_take (wait_count c.response) c.response.bytes b.response.bytes), home-words form c.directory c.session.folder b.folders)),
              ),
            ),
          ),
        ),
      )

  text-spelt : (area : List ℕ) → Bytes area → spelt 10 (text form c area) ≡ true
  unfolding text
  text-spelt area k =
      let d = c.directory in
      let files = files_text form c.directory (take (used c.directory) c.directory.files) area in
      let folders = folder_lines (take (folder_count c.directory) c.directory.folders) ++ files in
      credentials-on (session_line form c ++ folders) ∙ session-on folders ∙ folders-on (folder_count d) d.folders files b.folders ∙ files-spelt form d b.folders (used d) d.files area b.files k

pub each-spelt : (form : Form) → EachSpelt form
each-spelt form s lent z =
    let t = accepted-text form s lent z in
    ap (spelt 10) (sym t.text-is) ∙ text-spelt form _ t.card-is.card-bytes _ t.card-is.area-bytes
