-- Contents and files, written and read back.
-- Assumes nothing.
use Prim.Native.Nat.{ℕ, zero, suc, ◌+◌, ◌-◌, ◌*◌, ◌≤◌, ◌<◌}
use mathlib.Core.Bool.{true, false}
use mathlib.Core.List.{List, [], ◌∷◌, ◌++◌, append_assoc}
use mathlib.Core.Path.{◌≡◌, refl, sym, ap, ap₂, ◌∙◌}
use native.Mathlib.Nat.{sub-zero}
use native.Mathlib.Numerals.{unary_clauses}
use native.Mathlib.Omega.{arith}
use lib.ListN.{length, take, drop, replicate, set, length-take, length-drop, length-append, take-append-drop, length-set}
use lib.Seq.{length-take-le, take-add, take_at, drop_at, set-append_seam}
use borrow.Author.Tests.{le-leb}
use Rattle.files.proofs.Checks.{join}
use Rattle.digits.specs.Digits.{newline, ended, hex_of}
use Rattle.digits.proofs.Written.{hex_of-length}
use Rattle.files.specs.declared.File.{File}
use Rattle.files.specs.declared.Folder.{Folder}
use Rattle.files.specs.declared.Directory.{Directory}
use Rattle.files.specs.Types.{count, record_length, size}
use Rattle.files.specs.Directory.{file_at, folder_at, start_at}
use Rattle.texts.specs.Text.{Form, file_line, folder_line, folder_lines, rows, lines_for, contents, files_text}
use Rattle.texts.specs.Reading.{skip, skips, file_in, housed_in, folder_next, folders_in, pairs, in_row, past_row, rows_in, behind, contents_in, contents_of, after_file, length_for, goes_on, files_in, bytes_in, laid}
use Rattle.texts.specs.Laws.{Bytes, FolderBytes}
use Rattle.texts.proofs.Digits.{pair-back}
use Rattle.texts.proofs.Lines.{line-some}
use Rattle.texts.proofs.Cards.{Told, Homes, file-back, file-end, housed-back, file-no-folder, folder-end, folder-next, folder-back}

pub bytes_drop : (n : ℕ) (s : List ℕ) → Bytes s → Bytes (drop n s)
bytes_drop zero s h = h
bytes_drop (suc n) [] h = h
bytes_drop (suc n) (x ∷ xs) h = bytes_drop n xs (λ i. h (suc i))

pub bytes_take : (n : ℕ) (s : List ℕ) → Bytes s → Bytes (take n s)
bytes_take zero s h i = omega arith
bytes_take (suc n) [] h i = omega arith
bytes_take (suc n) (x ∷ xs) h zero = h 0
bytes_take (suc n) (x ∷ xs) h (suc i) = bytes_take n xs (λ k. h (suc k)) i

pub row-length : (bs : List ℕ) → length (ended newline (hex_of bs)) ≡ length bs + length bs + 1
row-length bs = omega (arith, length-append (hex_of bs) (newline ∷ []), hex_of-length bs)

pairs-back : (bs r : List ℕ) → Bytes bs → pairs (length bs) (hex_of bs ++ r) ≡ bs
unfolding pairs hex_of
pairs-back [] r h = refl
pairs-back (b ∷ bs) r h = rw (pair-back b (hex_of bs ++ r) (h 0)) (ap (λ (l : List ℕ). b ∷ l) (pairs-back bs r (λ k. h (suc k))))

pub pairs-length : (n : ℕ) (s : List ℕ) → length (pairs n s) ≡ n
unfolding pairs
pairs-length zero s = refl
pairs-length (suc n) s = ap suc (pairs-length n (drop 2 s))

-- the first line of contents
module _ (bs r : List ℕ) where
  abbrev first : List ℕ
  first = take 32 bs

  first-length : length (take 32 bs) ≡ in_row (length bs)
  first-length = length-take 32 bs

  row_back : Bytes bs → pairs (in_row (length bs)) (ended newline (hex_of first) ++ r) ≡ first
  row_back h =
      rw (← first-length) (ap (pairs (length first)) (append_assoc (hex_of first) (newline ∷ []) r) ∙ pairs-back first (newline ∷ r) (bytes_take 32 bs h))

  row-end : past_row (length bs) (ended newline (hex_of first) ++ r) ≡ r
  unfolding past_row
  row-end = drop_at (ended newline (hex_of first)) r (in_row (length bs) + in_row (length bs) + 1) (row-length first ∙ rw first-length)

abbrev after : List ℕ → ℕ → List ℕ → List ℕ
after bs k r = rows k (drop 32 bs) ++ r

rows_more : (k : ℕ) (bs r : List ℕ) → rows (suc k) bs ++ r ≡ ended newline (hex_of (take 32 bs)) ++ after bs k r
unfolding rows
rows_more k bs r = append_assoc (ended newline (hex_of (take 32 bs))) (rows k (drop 32 bs)) r

rows_none : (bs r : List ℕ) → rows zero bs ++ r ≡ r
unfolding rows
rows_none bs r = refl

rest-length : (bs : List ℕ) → length bs - 32 ≡ length (drop 32 bs)
rest-length bs = sym (length-drop 32 bs)

pub rows_back : (k : ℕ) (bs r : List ℕ) → length bs ≤ 32 * k → Bytes bs → rows_in k (length bs) (rows k bs ++ r) ≡ bs
unfolding rows_in
rows_back zero [] r h b = refl
rows_back zero (x ∷ xs) r h b = absurd (omega arith)
rows_back (suc k) bs r h b =
    let l : length (drop 32 bs) ≤ 32 * k = omega (arith, length-drop 32 bs) in
    rw (rows_more k bs r, row_back bs (after bs k r) b, row-end bs (after bs k r), rest-length bs, rows_back k (drop 32 bs) r l (bytes_drop 32 bs b)) (take-append-drop 32 bs)

pub behind-back : (k : ℕ) (bs r : List ℕ) → behind k (length bs) (rows k bs ++ r) ≡ r
unfolding behind
behind-back zero bs r = rows_none bs r
behind-back (suc k) bs r = rw (rows_more k bs r, row-end bs (after bs k r), rest-length bs) (behind-back k (drop 32 bs) r)

enough : (n : ℕ) → n ≤ 32 * lines_for n
enough n = omega arith

pub contents-back : (bs r : List ℕ) → Bytes bs → contents_in (length bs) (contents bs ++ r) ≡ bs
unfolding contents
contents-back bs r h = rows_back (lines_for (length bs)) bs r (enough (length bs)) h

pub contents-end : (bs r : List ℕ) → behind (lines_for (length bs)) (length bs) (contents bs ++ r) ≡ r
unfolding contents
contents-end bs r = behind-back (lines_for (length bs)) bs r

rows-length : (k n : ℕ) (s : List ℕ) → n ≤ 32 * k → length (rows_in k n s) ≡ n
unfolding rows_in
rows-length zero n s h = omega arith
rows-length (suc k) n s h =
    length-append (pairs (in_row n) s) (rows_in k (n - 32) (past_row n s))
    ∙ ap₂ (λ (a b : ℕ). a + b) (pairs-length (in_row n) s) (rows-length k (n - 32) (past_row n s) (omega arith))
    ∙ omega arith

pub contents-length : (n : ℕ) (s : List ℕ) → length (contents_in n s) ≡ n
contents-length n s = rows-length (lines_for n) n s (enough n)

-- so many bytes of text
rows-text : (k : ℕ) (bs : List ℕ) → length bs ≤ 32 * k → length (rows k bs) ≡ length bs + length bs + k
unfolding rows
rows-text zero bs h = omega arith
rows-text (suc k) bs h =
    let l : length (drop 32 bs) ≤ 32 * k = omega (arith, length-drop 32 bs) in
    omega (arith, length-append (ended newline (hex_of (take 32 bs))) (rows k (drop 32 bs)), row-length (take 32 bs), rows-text k (drop 32 bs) l, length-take 32 bs, length-drop 32 bs)

pub contents-text : (bs : List ℕ) → length (contents bs) ≡ length_for (length bs)
unfolding contents
contents-text bs = rows-text (lines_for (length bs)) bs (enough (length bs))

-- starts, counted from the front
pub start-cons : (f : File) (fs : List File) (n : ℕ) → start_at (f ∷ fs) (suc n) ≡ size f + start_at fs n
unfolding start_at
start-cons f fs zero = omega arith
start-cons f fs (suc n) = let e = start-cons f fs n in omega arith

-- a file as its line is read, in a directory that says the same of directories
pub record Said (form : Form) (e d : Directory) (f : File) : Type 0 where
  pub told : Told f
  pub homed : Homes form e d f.folder

-- the file whose line comes first
module _ (form : Form) (e d : Directory) (f : File) (area r : List ℕ) (t : Said form e d f) (h : size f ≤ length area) where
  abbrev own : List ℕ
  own = take (size f) area

  abbrev here : List ℕ
  here = file_line form d f ++ (contents own ++ r)

  own-length : length own ≡ size f
  own-length = length-take-le (size f) area h

  -- its directory says nothing of its size
  size_back : size (file_in here) ≡ size f
  unfolding size count record_length
  size_back = rw (file-back form d f (contents own ++ r) t.told)

  contents-first : Bytes area → contents_of form here ≡ own
  contents-first k =
      let e : contents_in (size f) (contents own ++ r) ≡ own = rw own-length at (contents-back own r (bytes_take (size f) area k)) in
      rw (size_back, file-end form d f (contents own ++ r)) e

  after_first : after_file form here ≡ r
  after_first =
      let e : behind (lines_for (size f)) (size f) (contents own ++ r) ≡ r = rw own-length at (contents-end own r) in
      rw (size_back, file-end form d f (contents own ++ r)) e

  here-some : 1 ≤ length here
  unfolding file_line
  here-some = line-some _ (contents own ++ r)

  here-goes : (room : ℕ) → size f ≤ room → goes_on form room here ≡ true
  here-goes room k =
      let l : length_for (size f) ≤ length (contents own ++ r) = omega (arith, length-append (contents own) r, contents-text own, own-length) in
      rw (size_back, file-end form d f (contents own ++ r)) (join (le-leb 1 (length here) here-some) (join (le-leb (size f) room k) (le-leb (length_for (size f)) (length (contents own ++ r)) l)))

  here-housed : housed_in e here ≡ f
  here-housed = housed-back form d f (contents own ++ r) e t.told t.homed

-- all files
abbrev pub AllSaid : Form → Directory → Directory → List File → ℕ → Type 0
AllSaid form e d files n = (i : ℕ) → i < n → Said form e d (file_at files i)

module _ (form : Form) (e d : Directory) where
  module _ (n : ℕ) (f : File) (files : List File) (area : List ℕ) (t : AllSaid form e d (f ∷ files) (suc n)) (h : start_at (f ∷ files) (suc n) ≤ length area) where
    abbrev others : List ℕ
    others = files_text form d (take n files) (drop (size f) area)

    others-said : AllSaid form e d files n
    others-said i l = t (suc i) (omega arith)

    first_fits : size f ≤ length area
    first_fits = omega (arith, h, start-cons f files n)

    others-fit : start_at files n ≤ length (drop (size f) area)
    others-fit = omega (arith, h, start-cons f files n, length-drop (size f) area)

    room-left : (room : ℕ) → start_at (f ∷ files) (suc n) ≤ room → (size f ≤ room) × (start_at files n ≤ room - size f)
    room-left room k = let e = start-cons f files n in (omega arith, omega arith)

  pub files-back : (n m room : ℕ) (files : List File) (area : List ℕ) → n ≤ m → n ≤ length files → start_at files n ≤ room → start_at files n ≤ length area → AllSaid form e d files n
      → files_in form e m room (files_text form d (take n files) area) ≡ take n files
  unfolding files_in files_text
  files-back zero zero room files area h₁ h₂ h₃ h₄ t = refl
  files-back zero (suc m) room files area h₁ h₂ h₃ h₄ t = refl
  files-back (suc n) m room [] area h₁ h₂ h₃ h₄ t = absurd (omega arith)
  files-back (suc n) zero room (f ∷ files) area h₁ h₂ h₃ h₄ t = absurd (omega arith)
  files-back (suc n) (suc m) room (f ∷ files) area h₁ h₂ h₃ h₄ t =
      let r = others n f files area t h₄ in
      let u = t 0 (omega arith) in
      let z = first_fits n f files area t h₄ in
      let l = room-left n f files area t h₄ room h₃ in
      rw (here-goes form e d f area r u z room l.0, after_first form e d f area r u z, here-housed form e d f area r u z, size_back form e d f area r u z)
      (ap (λ (x : List File). f ∷ x) (files-back n m (room - size f) files (drop (size f) area) (omega arith) (omega arith) l.1 (others-fit n f files area t h₄) (others-said n f files area t h₄)))

  start_none : (files : List File) (area : List ℕ) → [] ≡ take (start_at files 0) area
  unfolding start_at
  start_none files area = refl

  pub bytes_back : (n m room : ℕ) (files : List File) (area : List ℕ) → n ≤ m → n ≤ length files → start_at files n ≤ room → start_at files n ≤ length area → AllSaid form e d files n → Bytes area
      → bytes_in form m room (files_text form d (take n files) area) ≡ take (start_at files n) area
  unfolding bytes_in files_text
  bytes_back zero zero room files area h₁ h₂ h₃ h₄ t k = start_none files area
  bytes_back zero (suc m) room files area h₁ h₂ h₃ h₄ t k = start_none files area
  bytes_back (suc n) m room [] area h₁ h₂ h₃ h₄ t k = absurd (omega arith)
  bytes_back (suc n) zero room (f ∷ files) area h₁ h₂ h₃ h₄ t k = absurd (omega arith)
  bytes_back (suc n) (suc m) room (f ∷ files) area h₁ h₂ h₃ h₄ t k =
      let r = others n f files area t h₄ in
      let u = t 0 (omega arith) in
      let z = first_fits n f files area t h₄ in
      let l = room-left n f files area t h₄ room h₃ in
      rw (
        here-goes form e d f area r u z room l.0,
        contents-first form e d f area r u z k,
        after_first form e d f area r u z,
        size_back form e d f area r u z,
        start-cons f files n,
      )
      (ap (λ (x : List ℕ). take (size f) area ++ x)
      (bytes_back n m (room - size f) files (drop (size f) area) (omega arith) (omega arith) l.1 (others-fit n f files area t h₄) (others-said n f files area t h₄) (bytes_drop (size f) area k))
      ∙ sym (take-add (size f) (start_at files n) area))

-- all directories, and what stands behind them, which is no directory's line
pub folders-back : (n m : ℕ) (folders : List Folder) (r : List ℕ) → n ≤ m → n ≤ length folders → ((i : ℕ) → i < n → FolderBytes (folder_at folders i)) → folder_next r ≡ false
    → folders_in m (folder_lines (take n folders) ++ r) ≡ take n folders
unfolding folders_in folder_lines
folders-back zero zero folders r h₁ h₂ b e = refl
folders-back zero (suc m) folders r h₁ h₂ b e = rw e
folders-back (suc n) m [] r h₁ h₂ b e = absurd (omega arith)
folders-back (suc n) zero (x ∷ folders) r h₁ h₂ b e = absurd (omega arith)
folders-back (suc n) (suc m) (x ∷ folders) r h₁ h₂ b e =
    let rest = folder_lines (take n folders) ++ r in
    rw (append_assoc (folder_line x) (folder_lines (take n folders)) r, folder-next x rest, folder-end x rest, folder-back x rest (b 0 (omega arith)))
    (ap (λ (l : List Folder). x ∷ l) (folders-back n m folders r (omega arith) (omega arith) (λ i l. b (suc i) (omega arith)) e))

pub folders-end : (n : ℕ) (folders : List Folder) (r : List ℕ) → n ≤ length folders → skips (n + n) (folder_lines (take n folders) ++ r) ≡ r
unfolding folder_lines
folders-end zero folders r h = refl
folders-end (suc n) [] r h = absurd (omega arith)
folders-end (suc n) (x ∷ folders) r h =
    let e : suc n + suc n ≡ suc (suc (n + n)) = omega arith in
    rw (e, append_assoc (folder_line x) (folder_lines (take n folders)) r)
    (ap (skips (n + n)) (folder-end x (folder_lines (take n folders) ++ r)) ∙ folders-end n folders r (omega arith))

no_more : folder_next [] ≡ false
unfolding skip
no_more = refl

pub files-no-folder : (form : Form) (d : Directory) (files : List File) (area : List ℕ) → folder_next (files_text form d files area) ≡ false
unfolding files_text
files-no-folder form d [] area = no_more
files-no-folder form d (f ∷ fs) area = file-no-folder form d f (contents (take (size f) area) ++ files_text form d fs (drop (size f) area))

-- a text has the bytes of the files and no others
pub text-front : (form : Form) (d : Directory) (n : ℕ) (files : List File) (area z : List ℕ) → n ≤ length files → start_at files n ≤ length area
    → files_text form d (take n files) (take (start_at files n) area ++ z) ≡ files_text form d (take n files) area
unfolding files_text
text-front form d zero files area z h₁ h₂ = refl
text-front form d (suc n) [] area z h₁ h₂ = absurd (omega arith)
text-front form d (suc n) (f ∷ files) area z h₁ h₂ =
    let s = start-cons f files n in
    let e : take (start_at (f ∷ files) (suc n)) area ≡ take (size f) area ++ take (start_at files n) (drop (size f) area) = ap (λ (k : ℕ). take k area) s ∙ take-add (size f) (start_at files n) area in
    let l : length (take (size f) area) ≡ size f = length-take-le (size f) area (omega arith) in
    let q : take (start_at (f ∷ files) (suc n)) area ++ z ≡ take (size f) area ++ (take (start_at files n) (drop (size f) area) ++ z) =
    ap (λ (x : List ℕ). x ++ z) e ∙ append_assoc (take (size f) area) _ z in
    let a : take (size f) (take (start_at (f ∷ files) (suc n)) area ++ z) ≡ take (size f) area = ap (take (size f)) q ∙ take_at (take (size f) area) _ (size f) l in
    let d₀ : drop (size f) (take (start_at (f ∷ files) (suc n)) area ++ z) ≡ take (start_at files n) (drop (size f) area) ++ z =
    ap (drop (size f)) q ∙ drop_at (take (size f) area) _ (size f) l in
    let k : start_at files n ≤ length (drop (size f) area) = simp length-drop (omega arith) in
    rw (a, d₀, text-front form d n files (drop (size f) area) z (omega arith) k)

-- values laid over a list from its front on
laid-behind : {A : Type 0} (p out xs : List A) → length xs ≤ length out → laid (p ++ out) (length p) xs ≡ p ++ (xs ++ drop (length xs) out)
unfolding laid
laid-behind p out [] h = refl
laid-behind p [] (x ∷ xs) h = absurd (omega arith)
laid-behind p (o ∷ out) (x ∷ xs) h =
    let e : set (p ++ (o ∷ out)) (length p) x ≡ (p ++ (x ∷ [])) ++ out = set-append_seam p o out x ∙ sym (append_assoc p (x ∷ []) out) in
    let n : suc (length p) ≡ length (p ++ (x ∷ [])) = omega (arith, length-append p (x ∷ [])) in
    rw (e, n) (laid-behind (p ++ (x ∷ [])) out xs (omega arith) ∙ append_assoc p (x ∷ []) (xs ++ drop (length xs) out))

pub laid-front : {A : Type 0} (out xs : List A) → length xs ≤ length out → laid out 0 xs ≡ xs ++ drop (length xs) out
laid-front out xs h = laid-behind [] out xs h

pub drop-replicate : {A : Type 0} (n m : ℕ) (a : A) → drop n (replicate m a) ≡ replicate (m - n) a
drop-replicate zero m a = rw sub-zero
drop-replicate (suc n) zero a = let e : 0 - suc n ≡ 0 = omega arith in rw e
drop-replicate (suc n) (suc m) a = simp unary_clauses (drop-replicate n m a)

pub laid-length : {A : Type 0} (out : List A) (at : ℕ) (xs : List A) → length (laid out at xs) ≡ length out
unfolding laid
laid-length out at [] = refl
laid-length out at (x ∷ xs) = laid-length (set out at x) (suc at) xs ∙ length-set out at x

pub laid-append : (out xs ys : List ℕ) (at : ℕ) → laid (laid out at xs) (at + length xs) ys ≡ laid out at (xs ++ ys)
unfolding laid
laid-append out [] ys at = let e : at + 0 ≡ at = omega arith in rw e
laid-append out (x ∷ xs) ys at = let e : at + suc (length xs) ≡ suc at + length xs = omega arith in rw e (laid-append (set out at x) xs ys (suc at))
