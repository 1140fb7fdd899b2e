-- No sound card has a longer text than 9,559 bytes, in the old form 9,442.
-- Assumes nothing.
use Prim.Native.Nat.{ℕ, zero, suc, ◌+◌, ◌*◌, ◌≤◌, ◌<◌, min}
use mathlib.Core.Bool.{Bool, true, false, cond, ◌||◌}
use mathlib.Core.List.{List, [], ◌∷◌, ◌++◌}
use mathlib.Core.Path.{◌≡◌, refl, ◌∙◌}
use native.Mathlib.Omega.{arith}
use lib.Dec.{eqb, leb}
use lib.ListN.{length, take, drop, length-take, length-append}
use borrow.Author.Tests.{eqb-true, leb-true}
use Rattle.digits.specs.Digits.{tab, newline, decimal, or_dash}
use Rattle.digits.proofs.Decimal.{decimal-length}
use Rattle.digits.proofs.Written.{hex_of-length}
use Rattle.files.specs.declared.File.{File}
use Rattle.files.specs.declared.Folder.{Folder}
use Rattle.files.specs.declared.Directory.{Directory}
use Rattle.files.specs.Words.{is_zero}
use Rattle.files.specs.Types.{is_variable, size}
use Rattle.files.specs.Record.{bytes_used}
use Rattle.files.specs.Directory.{file_at, start_at}
use Rattle.files.specs.Sound.{sound_file}
use Rattle.files.proofs.Checks.{each}
use Rattle.files.proofs.Extents.{used-is}
use Rattle.files.proofs.Kept.{filed}
use Rattle.rules.specs.declared.Credential.{Credential}
use Rattle.rules.specs.declared.Card.{Card}
use Rattle.rules.specs.Words.{all_of}
use Rattle.rules.specs.State.{Which, device, admin, user, transport, number_of, credential, right_kept, value_of, challenge, mode, response_size, wait_count, waiting}
use Rattle.rules.specs.Sound.{good_value, sound_value, good_challenge, sound_challenge}
use Rattle.rules.proofs.Good.{Good, numbered, sound-good, said-short, responded}
use Rattle.texts.specs.Text.{Form, line, credential_line, credential_lines, current_fid, folder_bytes, home_fid, home, session_line, folder_line, folder_lines, folder_count, fid_bytes, create_bytes, held_or_used, file_line, contents, files_text, text}
use Rattle.texts.specs.Laws.{longest, TextFits}
use Rattle.texts.proofs.Contents.{contents-text, start-cons}
use Rattle.texts.proofs.Counts.{few-places, no-places, used-few}
use Rattle.texts.proofs.Trips.{current-short, home-short, place-sound, place-fits, tries-low}

-- fields
hex-length : (m : ℕ) (bs : List ℕ) → 1 ≤ m → length bs ≤ m → length (or_dash bs) ≤ m + m
unfolding or_dash
hex-length m [] h l = omega arith
hex-length m (b ∷ bs) h l = omega (arith, hex_of-length (b ∷ bs))

-- a line is its fields and a byte behind each
more-length : (f g : List ℕ) (fs : List (List ℕ)) → length (line (f ∷ g ∷ fs)) ≡ length f + 1 + length (line (g ∷ fs))
unfolding line
more-length f g fs = length-append f (tab ∷ line (g ∷ fs)) ∙ omega arith

last-length : (f : List ℕ) → length (line (f ∷ [])) ≡ length f + 1
unfolding line
last-length f = length-append f (newline ∷ []) ∙ omega arith

-- a directory's FID takes five bytes more, in the new form
abbrev homes : Form → ℕ → ℕ
homes form n = cond form (5 * n) 0

homes_more : (form : Form) (n : ℕ) → homes form (suc n) ≡ homes form n + homes form 1
homes_more true n = omega arith
homes_more false n = refl

home-length : (form : Form) (d : Directory) (f : List ℕ) (n : ℕ) → length (line (f ∷ home form d n)) ≤ length f + 1 + homes form 1
home-length true d f n =
    omega (arith, more-length f (or_dash (home_fid d n)) [], last-length (or_dash (home_fid d n)), hex-length 2 (home_fid d n) (omega arith) (home-short d n))
home-length false d f n = omega (arith, last-length f)

credential-length : (x : Credential) → length (value_of x) ≤ 16 → x.tries.limit ≤ 128 → x.tries.left ≤ 128 → length (credential_line x) ≤ 41
unfolding credential_line
credential-length x h l t =
    omega (
      arith,
      more-length (or_dash (value_of x)) (decimal x.tries.limit) (decimal x.tries.left ∷ []),
      more-length (decimal x.tries.limit) (decimal x.tries.left) [],
      last-length (decimal x.tries.left),
      hex-length 16 (value_of x) (omega arith) h,
      decimal-length 2 x.tries.limit (omega arith),
      decimal-length 2 x.tries.left (omega arith),
    )

session-length : (form : Form) (c : Card) → ((w : Which) → right_kept c (number_of w) ≤ 1) → length (challenge c) ≤ 16 → mode c ≤ 1 → length (waiting c) ≤ response_size
    → length (session_line form c) ≤ 559 + homes form 1
unfolding session_line
session-length form c h l m w =
    let fid = current_fid c.directory c.session.current in
    let last = or_dash (waiting c) ∷ home form c.directory c.session.folder in
    omega (
      arith,
      more-length (decimal (right_kept c 0)) (decimal (right_kept c 1)) (decimal (right_kept c 2) ∷ or_dash fid ∷ or_dash (challenge c) ∷ decimal (mode c) ∷ last),
      more-length (decimal (right_kept c 1)) (decimal (right_kept c 2)) (or_dash fid ∷ or_dash (challenge c) ∷ decimal (mode c) ∷ last),
      more-length (decimal (right_kept c 2)) (or_dash fid) (or_dash (challenge c) ∷ decimal (mode c) ∷ last),
      more-length (or_dash fid) (or_dash (challenge c)) (decimal (mode c) ∷ last),
      more-length (or_dash (challenge c)) (decimal (mode c)) last,
      more-length (decimal (mode c)) (or_dash (waiting c)) (home form c.directory c.session.folder),
      home-length form c.directory (or_dash (waiting c)) c.session.folder,
      decimal-length 0 (right_kept c 0) (omega (arith, h device)),
      decimal-length 0 (right_kept c 1) (omega (arith, h admin)),
      decimal-length 0 (right_kept c 2) (omega (arith, h user)),
      hex-length 2 fid (omega arith) (current-short c.directory c.session.current),
      hex-length 16 (challenge c) (omega arith) l,
      decimal-length 0 (mode c) (omega (arith, m)),
      hex-length response_size (waiting c) (omega arith) w,
    )

-- a directory's line
folder-length : (x : Folder) → length (folder_line x) ≤ 8
unfolding folder_line
folder-length x =
    omega (
      arith,
      more-length (or_dash (folder_bytes x)) (or_dash (x.right ∷ [])) [],
      last-length (or_dash (x.right ∷ [])),
      hex-length 2 (folder_bytes x) (omega arith) (omega arith),
      hex-length 1 (x.right ∷ []) (omega arith) (omega arith),
    )

folders-length : (xs : List Folder) → length (folder_lines xs) ≤ 8 * length xs
unfolding folder_lines
folders-length [] = omega arith
folders-length (x ∷ xs) = omega (arith, length-append (folder_line x) (folder_lines xs), folder-length x, folders-length xs)

-- the two counts of a file take six digits at the most
counts-length : (f : File) → sound_file f ≡ true → size f ≤ 4096 → length (decimal (held_or_used f)) + length (decimal f.newest) ≤ 6
unfolding held_or_used
counts-length f h l = go (is_variable f) refl
  where
    go : (v : Bool) → is_variable f ≡ v → length (decimal (cond (is_variable f) (bytes_used f) f.held)) + length (decimal f.newest) ≤ 6
    go true e =
        let p = no-places f h e in
        rw e (omega (arith, decimal-length 3 (bytes_used f) (omega (arith, used-few f h e, l)), decimal-length 0 f.newest (omega (arith, p.1))))
    go false e =
        let p = few-places f h in
        rw e (omega (arith, decimal-length 2 f.held (omega (arith, p.0)), decimal-length 2 f.newest (omega (arith, p.1))))

file-length : (form : Form) (d : Directory) (f : File) → sound_file f ≡ true → size f ≤ 4096 → length (file_line form d f) ≤ 24 + homes form 1
unfolding file_line
file-length form d f h l =
    omega (
      arith,
      more-length (or_dash (fid_bytes f)) (or_dash (create_bytes f)) (decimal (held_or_used f) ∷ decimal f.newest ∷ home form d f.folder),
      more-length (or_dash (create_bytes f)) (decimal (held_or_used f)) (decimal f.newest ∷ home form d f.folder),
      more-length (decimal (held_or_used f)) (decimal f.newest) (home form d f.folder),
      home-length form d (decimal f.newest) f.folder,
      hex-length 2 (fid_bytes f) (omega arith) (omega arith),
      hex-length 5 (create_bytes f) (omega arith) (omega arith),
      counts-length f h l,
    )

-- contents
contents-length : (n : ℕ) (area : List ℕ) → 32 * length (contents (take n area)) ≤ 65 * n + 31
contents-length n area =
    let l = length-take n area in
    omega (arith, contents-text (take n area), l)

-- all files: 32 times the length, so that the lines of contents are counted without rounding
files-length : (form : Form) (d : Directory) (n : ℕ) (files : List File) (area : List ℕ) → n ≤ length files
    → ((i : ℕ) → i < n → (sound_file (file_at files i) ≡ true) × (size (file_at files i) ≤ 4096))
    → 32 * length (files_text form d (take n files) area) ≤ 799 * n + 65 * start_at files n + 32 * homes form n
unfolding files_text
files-length form d zero files area h k = omega arith
files-length form d (suc n) [] area h k = absurd (omega arith)
files-length form d (suc n) (f ∷ files) area h k =
    let r = files_text form d (take n files) (drop (size f) area) in
    let first = k 0 (omega arith) in
    omega (
      arith,
      length-append (file_line form d f) (contents (take (size f) area) ++ r),
      length-append (contents (take (size f) area)) r,
      file-length form d f first.0 first.1,
      contents-length (size f) area,
      files-length form d n files (drop (size f) area) (omega arith) (λ i l. k (suc i) (omega arith)),
      start-cons f files n,
      homes_more form n,
    )

-- the whole text
front-short : (size n : ℕ) (d : List ℕ) → n ≤ size → length (take n d) ≤ size
front-short size n d h = omega (arith, length-take n d)

value-short : (n : ℕ) (x : Credential) → sound_value n x ≡ true → length (value_of x) ≤ 16
unfolding sound_value
value-short n x h =
    let e = each (eqb (length x.value) 16 ∷ leb x.len 16 ∷ good_value n (value_of x) ∷ all_of is_zero (drop x.len x.value) ∷ []) h in
    front-short 16 x.len x.value (leb-true _ _ e.1.0)

challenge-short : (c : Card) → sound_challenge c.session ≡ true → length (challenge c) ≤ 16
unfolding sound_challenge
challenge-short c h =
    let s = c.session in
    let e = each (eqb (length c.session.challenge) 16 ∷ (is_zero c.session.len || good_challenge c.session.len) ∷ all_of is_zero (drop c.session.len c.session.challenge) ∷ []) h in
    front-short 16 c.session.len c.session.challenge (said-short c.session.len e.1.0)

module _ (c : Card) (g : Good c) where
  line_at : (w : Which) → length (credential_line (credential c (number_of w))) ≤ 41
  line_at w =
      let k = g.credited (number_of w) (numbered w) in
      let t = tries-low (credential c (number_of w)) _ k.tries in
      credential-length (credential c (number_of w)) (value-short (number_of w) (credential c (number_of w)) k.value) t.0 t.1

  credentials-length : length (credential_lines c) ≤ 164
  unfolding credential_lines
  credentials-length =
      omega (
        arith,
        length-append (credential_line (credential c 0)) (credential_line (credential c 1) ++ (credential_line (credential c 2) ++ credential_line (credential c 3))),
        length-append (credential_line (credential c 1)) (credential_line (credential c 2) ++ credential_line (credential c 3)),
        length-append (credential_line (credential c 2)) (credential_line (credential c 3)),
        line_at device,
        line_at admin,
        line_at user,
        line_at transport,
      )

-- the old form has neither directories nor their FIDs
all_fit : (form : Form) (n count total : ℕ) → cond form true (is_zero n) ≡ true → n ≤ 4 → count ≤ 16
    → 32 * total ≤ 32 * (164 + 559 + 8 * n + homes form 1) + 799 * count + 65 * 4096 + 32 * homes form count → total ≤ longest form
all_fit true n count total o h l k = omega arith
all_fit false n count total o h l k = let z : n ≡ 0 = eqb-true _ _ o in omega arith

pub text-fits : (form : Form) → TextFits form
unfolding text folder_count
text-fits form c area h o =
    let g = sound-good c area h in
    let d = c.directory in
    let fd = filed c.directory g.directory in
    let u = used-is c.directory fd.few in
    let k = responded c.response g.response in
    let n : min d.number 4 ≡ d.number = omega (arith, fd.folders.few) in
    let xs = take d.number d.folders in
    let fs = files_text form d (take d.count d.files) area in
    let files = files-length form d d.count d.files area (omega (arith, fd.places, fd.few)) (λ i l. (place-sound c.directory fd i l, place-fits c.directory fd i l)) in
    rw (u, n)
    (all_fit form d.number d.count _ o fd.folders.few fd.few
    (omega (
      arith,
      length-append (credential_lines c) (session_line form c ++ (folder_lines xs ++ fs)),
      length-append (session_line form c) (folder_lines xs ++ fs),
      length-append (folder_lines xs) fs,
      credentials-length c g,
      session-length form c (λ w. (g.credited (number_of w) (numbered w)).low) (challenge-short c g.challenge) (leb-true _ _ k.mode)
          (front-short response_size (wait_count c.response) c.response.bytes k.few),
      folders-length xs,
      length-take d.number d.folders,
      files,
      fd.room,
    )))
