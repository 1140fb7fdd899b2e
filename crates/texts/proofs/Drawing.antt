-- Texts drawn one behind the other.
-- Assumes nothing.
use Prim.Native.Nat.{ℕ, suc, ◌+◌, ◌-◌, ◌≤◌, ◌<◌, min}
use mathlib.Core.Bool.{Bool, true, false, cond}
use mathlib.Core.List.{List, [], ◌∷◌, ◌++◌, append_assoc}
use mathlib.Core.Path.{◌≡◌, refl, sym, ap, ap₂, ◌∙◌}
use native.Mathlib.Numerals.{add-one}
use native.Mathlib.Omega.{arith}
use lib.ListN.{length, get_or, take, drop, length-append, drop_of_length-le}
use lib.Seq.{drop-cons, take-append_seam, drop-append_seam}
use Rattle.std.proofs.lemmas.List.{take_min, drop_min}
use Rattle.std.specs.List.{flat_map}
use Rattle.digits.specs.Digits.{tab, newline, ended, decimal, hex_of, or_dash}
use Rattle.files.specs.declared.File.{File}
use Rattle.files.specs.declared.Folder.{Folder}
use Rattle.files.specs.declared.Directory.{Directory}
use Rattle.files.specs.Words.{Bounded, is_zero}
use Rattle.files.specs.State.{blank_file, blank_folder}
use Rattle.files.specs.Types.{size}
use Rattle.files.specs.Directory.{file, used}
use Rattle.rules.specs.declared.Card.{Card}
use Rattle.rules.specs.State.{credential}
use Rattle.texts.specs.Text.{Form, line, credential_line, credential_lines, current_fid, home_fid, home, parting, tail, session_line, folder_line, folder_lines, folder_count, file_line, rows, lines_for, contents, files_text, text}
use Rattle.digits.specs.Page.{Page, draw}
use Rattle.digits.proofs.Drawn.{draw-append, draws-then}

-- a line, field by field
pub line-more : (f g : List ℕ) (more : List (List ℕ)) (p q r : Page) → q ≡ draw (ended tab f) p → r ≡ draw (line (g ∷ more)) q → r ≡ draw (line (f ∷ g ∷ more)) p
unfolding line
line-more f g more p q r e k =
    k ∙ ap (draw (line (g ∷ more))) (e ∙ draw-append f (tab ∷ []) p) ∙ sym (draw-append f (tab ∷ line (g ∷ more)) p ∙ draw-append (tab ∷ []) (line (g ∷ more)) (draw f p))

pub line-last : (f : List ℕ) (p q : Page) → q ≡ draw (ended newline f) p → q ≡ draw (line (f ∷ [])) p
unfolding line
line-last f p q e = e

-- what is written has another name
pub field-as : {A : Type 0} (spell : A → List ℕ) (x y : A) (b : ℕ) (p q : Page) → q ≡ draw (ended b (spell x)) p → x ≡ y → q ≡ draw (ended b (spell y)) p
field-as spell x y b p q e h = e ∙ ap (λ z. draw (ended b (spell z)) p) h

draw-none : (p : Page) → draw [] p ≡ p
unfolding draw
draw-none p = refl

-- its end, with the directory's FID in the new form
module _ (form : Form) (d : Directory) (n b : ℕ) (s : b ≡ parting form) where
  line-ends : (x : Form) → b ≡ parting x → (f : List ℕ) (p q r : Page) → q ≡ draw (ended b f) p → r ≡ draw (tail x d n) q → r ≡ draw (line (f ∷ home x d n)) p
  line-ends true z f p q r e k = line-more f (or_dash (home_fid d n)) [] p q r (e ∙ rw z) k
  line-ends false z f p q r e k = k ∙ draw-none q ∙ line-last f p q (e ∙ rw z)

  pub line-home : (f : List ℕ) (p q r : Page) → q ≡ draw (ended b f) p → r ≡ draw (tail form d n) q → r ≡ draw (line (f ∷ home form d n)) p
  line-home f p q r e k = line-ends form s f p q r e k

  pub line-two : (f g : List ℕ) (p q r : Page) → q ≡ draw (ended tab f ++ ended b g) p → r ≡ draw (tail form d n) q → r ≡ draw (line (f ∷ g ∷ home form d n)) p
  line-two f g p q r e k =
      line-more f g (home form d n) p (draw (ended tab f) p) r refl (line-home g (draw (ended tab f) p) q r (e ∙ draw-append (ended tab f) (ended b g) p) k)

module _ (form : Form) (d : Directory) (n : ℕ) where
  pub no-home : form ≡ false → (p : Page) → p ≡ draw (tail form d n) p
  no-home z p = sym (rw z (draw-none p))

  pub a-home : form ≡ true → (v : List ℕ) (p q : Page) → v ≡ home_fid d n → q ≡ draw (ended newline (or_dash v)) p → q ≡ draw (tail form d n) p
  a-home z v p q h e = rw z (line-last (or_dash (home_fid d n)) p q (e ∙ rw h))

-- the rights drawn in a loop
abbrev pub right_fields : List ℕ → List ℕ
right_fields = flat_map (λ r. ended tab (decimal r))

pub rights-more : (rights : List ℕ) (i : ℕ) (p q : Page) → i < length rights → q ≡ draw (ended tab (decimal (get_or rights i 0))) p → draw (right_fields (drop (i + 1) rights)) q ≡ draw (right_fields (drop i rights)) p
rights-more rights i p q h g = rw (add-one i, drop-cons rights i 0 h, g) (sym (draw-append (ended tab (decimal (get_or rights i 0))) _ p))

pub rights-end : (rights : List ℕ) (i : ℕ) (p : Page) → length rights ≤ i → draw (right_fields (drop i rights)) p ≡ p
rights-end rights i p h = rw (drop_of_length-le rights h) (draw-none p)

-- there are three of them
pub three-rights : (rights : List ℕ) → length rights ≡ 3 → (p q : Page) → q ≡ draw (right_fields rights) p
    → q ≡ draw (ended tab (decimal (get_or rights 2 0))) (draw (ended tab (decimal (get_or rights 1 0))) (draw (ended tab (decimal (get_or rights 0 0))) p))
three-rights [] h p q e = absurd (omega arith)
three-rights (a ∷ []) h p q e = absurd (omega arith)
three-rights (a ∷ b ∷ []) h p q e = absurd (omega arith)
three-rights (a ∷ b ∷ c ∷ []) h p q e =
    e ∙ draw-append (ended tab (decimal a)) _ p ∙ draw-append (ended tab (decimal b)) _ _ ∙ draw-append (ended tab (decimal c)) [] _ ∙ draw-none _
three-rights (a ∷ b ∷ c ∷ d ∷ r) h p q e = absurd (omega arith)

fid-front : (z : Bool) (a b n : ℕ) → n ≡ cond z 0 2 → take n (a ∷ b ∷ []) ≡ cond z [] (a ∷ b ∷ [])
fid-front true a b n e = rw e
fid-front false a b n e = rw e

pub current-front : (d : Directory) (cur : ℕ) (f : File) (n : ℕ) → f ≡ file d cur → n ≡ cond (is_zero cur) 0 2 → take n (f.fid1 ∷ f.fid2 ∷ []) ≡ current_fid d cur
current-front d cur f n e h = rw e (fid-front (is_zero cur) (file d cur).fid1 (file d cur).fid2 n h)

-- contents drawn in a loop
lines_more : (n : ℕ) → 1 ≤ n → lines_for n ≡ suc (lines_for (n - 32))
lines_more n h = omega arith

pub rows-more : (bytes row rest : List ℕ) (p q : Page) → bytes ≡ row ++ rest → length row ≡ min 32 (length bytes) → 0 < length bytes → q ≡ draw (ended newline (hex_of row)) p → draw (contents rest) q ≡ draw (contents bytes) p
unfolding contents rows
rows-more bytes row rest p q e l h g =
    let k : lines_for (length bytes) ≡ suc (lines_for (length bytes - 32)) = lines_more (length bytes) (omega arith) in
    let n : length rest ≡ length bytes - 32 = omega (arith, ap length e, length-append row rest) in
    let t : take 32 bytes ≡ row = sym (take_min 32 bytes) ∙ rw (← l, e) (take-append_seam row rest) in
    let d : drop 32 bytes ≡ rest = sym (drop_min 32 bytes) ∙ rw (← l, e) (drop-append_seam row rest) in
    rw (k, n, t, d, g) (sym (draw-append (ended newline (hex_of row)) (rows (lines_for (length bytes - 32)) rest) p))

pub rows-end : (bytes : List ℕ) (p : Page) → length bytes ≡ 0 → draw (contents bytes) p ≡ p
unfolding contents rows draw
rows-end bytes p h = let k : lines_for (length bytes) ≡ 0 = omega arith in rw k

-- files drawn in a loop, the rest of the area behind the files that are done
pub files-more : (form : Form) (d : Directory) (files : List File) (area bytes more : List ℕ) (i m k : ℕ) (f : File) (p q : Page) → i < length files → f ≡ get_or files i blank_file → Bounded 65535 (size f) m
    → k ≡ min m (length area) → bytes ≡ take k area → more ≡ drop k area → q ≡ draw (file_line form d f ++ contents bytes) p
    → draw (files_text form d (drop (i + 1) files) more) q ≡ draw (files_text form d (drop i files) area) p
unfolding files_text
files-more form d files area bytes more i m k f p q h e s n t r g =
    let c : drop i files ≡ f ∷ drop (i + 1) files = drop-cons files i blank_file h ∙ ap₂ (λ (x : File) (y : ℕ). x ∷ drop y files) (sym e) (sym (add-one i)) in
    let t' : bytes ≡ take (size f) area = t ∙ ap (λ (x : ℕ). take x area) n ∙ take_min m area ∙ ap (λ (x : ℕ). take x area) s.is in
    let r' : more ≡ drop (size f) area = r ∙ ap (λ (x : ℕ). drop x area) n ∙ drop_min m area ∙ ap (λ (x : ℕ). drop x area) s.is in
    rw (c, g, t', r')
    (sym (ap (λ (x : List ℕ). draw x p) (sym (append_assoc (file_line form d f) (contents (take (size f) area)) _))
    ∙ draw-append (file_line form d f ++ contents (take (size f) area)) _ p))

pub files-end : (form : Form) (d : Directory) (files : List File) (area : List ℕ) (i : ℕ) (p : Page) → length files ≤ i → draw (files_text form d (drop i files) area) p ≡ p
unfolding files_text draw
files-end form d files area i p h = rw (drop_of_length-le files h)

-- directories drawn in a loop
pub folders-more : (folders : List Folder) (i : ℕ) (x : Folder) (p q : Page) → i < length folders → x ≡ get_or folders i blank_folder → q ≡ draw (folder_line x) p
    → draw (folder_lines (drop (i + 1) folders)) q ≡ draw (folder_lines (drop i folders)) p
unfolding folder_lines
folders-more folders i x p q h e g =
    let c : drop i folders ≡ x ∷ drop (i + 1) folders = drop-cons folders i blank_folder h ∙ ap₂ (λ (y : Folder) (z : ℕ). y ∷ drop z folders) (sym e) (sym (add-one i)) in
    rw (c, g) (sym (draw-append (folder_line x) _ p))

pub folders-end : (folders : List Folder) (i : ℕ) (p : Page) → length folders ≤ i → draw (folder_lines (drop i folders)) p ≡ p
unfolding folder_lines draw
folders-end folders i p h = rw (drop_of_length-le folders h)

-- the lines of a card
pub credentials-drawn : (c : Card) (p p₁ p₂ p₃ p₄ : Page) → p₁ ≡ draw (credential_line (credential c 0)) p → p₂ ≡ draw (credential_line (credential c 1)) p₁ → p₃ ≡ draw (credential_line (credential c 2)) p₂
    → p₄ ≡ draw (credential_line (credential c 3)) p₃ → p₄ ≡ draw (credential_lines c) p
unfolding credential_lines
credentials-drawn c p p₁ p₂ p₃ p₄ e₁ e₂ e₃ e₄ =
    draws-then (credential_line (credential c 0)) (credential_line (credential c 1) ++ (credential_line (credential c 2) ++ credential_line (credential c 3))) p p₁ p₄ e₁
    (draws-then (credential_line (credential c 1)) (credential_line (credential c 2) ++ credential_line (credential c 3)) p₁ p₂ p₄ e₂
    (draws-then (credential_line (credential c 2)) (credential_line (credential c 3)) p₂ p₃ p₄ e₃ e₄))

pub card-drawn : (form : Form) (c : Card) (area : List ℕ) (p p₁ p₂ p₃ p₄ : Page)
    → p₁ ≡ draw (credential_lines c) p → p₂ ≡ draw (session_line form c) p₁ → p₃ ≡ draw (folder_lines (take (folder_count c.directory) c.directory.folders)) p₂
    → p₄ ≡ draw (files_text form c.directory (take (used c.directory) c.directory.files) area) p₃ → p₄ ≡ draw (text form c area) p
unfolding text
card-drawn form c area p p₁ p₂ p₃ p₄ e₁ e₂ e₃ e₄ =
    draws-then (credential_lines c) _ p p₁ p₄ e₁ (draws-then (session_line form c) _ p₁ p₂ p₄ e₂ (draws-then (folder_lines _) _ p₂ p₃ p₄ e₃ e₄))
