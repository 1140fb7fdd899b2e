-- Credentials, session and files of a sound card, written and read back.
-- Assumes nothing.
use Prim.Native.Nat.{ℕ, zero, suc, ◌+◌, ◌/◌, ◌%◌, ◌≤◌, ◌<◌}
use mathlib.Core.Bool.{true, false}
use mathlib.Core.List.{List, [], ◌∷◌, ◌++◌, map}
use mathlib.Core.Path.{◌≡◌, refl, ap}
use native.Mathlib.Omega.{arith}
use lib.ListN.{length, take, drop, get_or, replicate, take-append-drop}
use lib.Seq.{length-take-le}
use borrow.Author.Tests.{eqb-true}
use Rattle.files.specs.declared.File.{File}
use Rattle.files.specs.declared.Folder.{Folder}
use Rattle.files.specs.declared.Directory.{Directory}
use Rattle.digits.specs.Digits.{hex_of, or_dash}
use Rattle.files.specs.Words.{is_zero}
use Rattle.files.specs.Part.{over}
use Rattle.files.specs.State.{new_file, in_folder}
use Rattle.files.proofs.Checks.{both}
use Rattle.rules.specs.declared.Credential.{Credential}
use Rattle.rules.specs.declared.Card.{Card}
use Rattle.rules.specs.Words.{byte, all_of, filled_to}
use Rattle.rules.specs.State.{Which, device, admin, user, whiches, number_of, how_many, how_many_rights, right_kept, value_of, challenge, mode, response_size, wait_count, waiting}
use Rattle.texts.specs.Text.{Form, line, credential_line, fid_bytes, current_fid, folder_bytes, tail, holders, session_line, folder_line, create_bytes, held_or_used, file_line}
use Rattle.texts.specs.Reading.{ends, skips, tries_in, credential_in, home_in, past_home, current_in, session_in, response_in, counted, file_in, housed_in, contents_part, folder_next, folder_in}
use Rattle.texts.specs.Laws.{Bytes, FileBytes, FolderBytes}
use Rattle.texts.proofs.Digits.{digit-stays}
use Rattle.texts.proofs.Lines.{hex-first, number-first, small-first, skip-hex, skip-number, skip-last-hex, skip-last-number, skip-home-hex, skip-home-number, past-home}

-- bytes 00 past n, dropped and filled in again
zero-tail : (n : ℕ) (d : List ℕ) (m : ℕ) → length d ≡ m → all_of is_zero (drop n d) ≡ true → drop n (replicate m 0) ≡ drop n d
unfolding all_of
zero-tail zero [] m e h = rw (← e)
zero-tail zero (x ∷ xs) zero e h = absurd (omega arith)
zero-tail zero (x ∷ xs) (suc m) e h =
    let k = both (is_zero x) (all_of is_zero xs) h in
    rw (eqb-true x 0 k.0) (ap (λ (l : List ℕ). 0 ∷ l) (zero-tail zero xs m (omega arith) k.1))
zero-tail (suc n) [] m e h = rw (← e)
zero-tail (suc n) (x ∷ xs) zero e h = absurd (omega arith)
zero-tail (suc n) (x ∷ xs) (suc m) e h = zero-tail n xs m (omega arith) h

-- a value that is the first bytes of so many
pub record Front (size n : ℕ) (d : List ℕ) : Type 0 where
  pub places : length d ≡ size
  pub few : n ≤ size
  pub tail : all_of is_zero (drop n d) ≡ true
  pub bytes : Bytes (take n d)

module _ (size n : ℕ) (d : List ℕ) (h : Front size n d) where
  pub front_length : length (take n d) ≡ n
  front_length = length-take-le n d (omega (arith, h.places, h.few))

  filled-front : filled_to size (take n d) ≡ d
  unfolding over
  filled-front = rw (front_length, zero-tail n d size h.places h.tail) (take-append-drop n d)

-- a credential's line
module _ (x : Credential) (r : List ℕ) where
  pub credential-end : skips 3 (credential_line x ++ r) ≡ r
  unfolding credential_line
  credential-end = rw (skip-hex (value_of x), skip-number x.tries.limit, skip-last-number x.tries.left)

  pub credential-back : Front 16 x.len x.value → x.tries.limit < 256 → x.tries.left < 256 → credential_in (credential_line x ++ r) ≡ x
  unfolding credential_line credential_in tries_in
  credential-back f h k =
      let len = front_length 16 x.len x.value f in
      rw (
        hex-first 16 (value_of x) _ r (omega (arith, len, f.few)) f.bytes,
        skip-hex (value_of x),
        skip-number x.tries.limit,
        small-first x.tries.limit _ r h,
        small-first x.tries.left _ r k,
        filled-front 16 x.len x.value f,
        len,
      )

-- a list of one thing for each credential
pub each-kept : {A : Type 0} (xs : List A) (none : A) → length xs ≡ how_many → map (λ (w : Which). get_or xs (number_of w) none) whiches ≡ xs
each-kept [] none h = absurd (omega arith)
each-kept (a ∷ []) none h = absurd (omega arith)
each-kept (a ∷ b ∷ []) none h = absurd (omega arith)
each-kept (a ∷ b ∷ c ∷ []) none h = absurd (omega arith)
each-kept (a ∷ b ∷ c ∷ d ∷ []) none h = refl
each-kept (a ∷ b ∷ c ∷ d ∷ e ∷ more) none h = absurd (omega arith)

-- and for each that has a right
rights-kept : (xs : List ℕ) → length xs ≡ how_many_rights → map (λ (w : Which). get_or xs (number_of w) 0) holders ≡ xs
rights-kept [] h = absurd (omega arith)
rights-kept (a ∷ []) h = absurd (omega arith)
rights-kept (a ∷ b ∷ []) h = absurd (omega arith)
rights-kept (a ∷ b ∷ c ∷ []) h = refl
rights-kept (a ∷ b ∷ c ∷ d ∷ more) h = absurd (omega arith)

-- a directory's FID at the end of a line is read as that directory
abbrev pub Homes : Form → Directory → Directory → ℕ → Type 0
Homes form e d n = (r : List ℕ) → home_in e (tail form d n ++ r) ≡ n

-- the session's line
module _ (form : Form) (c : Card) (r : List ℕ) where
  abbrev now : List ℕ
  now = current_fid c.directory c.session.current

  abbrev d : Directory
  d = c.directory

  session-fields : skips (how_many_rights + 4) (session_line form c ++ r) ≡ tail form d c.session.folder ++ r
  unfolding session_line
  session-fields =
      rw (
        skip-number (right_kept c 0),
        skip-number (right_kept c 1),
        skip-number (right_kept c 2),
        skip-hex now,
        skip-hex (challenge c),
        skip-number (mode c),
        skip-home-hex (waiting c) form d c.session.folder r,
      )

  pub session-end : past_home form (skips (how_many_rights + 4) (session_line form c ++ r)) ≡ r
  session-end = rw session-fields (past-home form d c.session.folder r)

  pub session-back : length c.session.rights ≡ how_many_rights → ((w : Which) → right_kept c (number_of w) < 256) → length now ≤ 2 → Bytes now → Homes form d d c.session.folder
      → current_in d c.session.folder now ≡ c.session.current → Front 16 c.session.len c.session.challenge → session_in d (session_line form c ++ r) ≡ c.session
  unfolding session_line session_in
  session-back e low n b h cur f =
      let len = front_length 16 c.session.len c.session.challenge f in
      rw (
        skip-number (right_kept c 0),
        skip-number (right_kept c 1),
        skip-number (right_kept c 2),
        skip-hex now,
        skip-hex (challenge c),
        skip-number (mode c),
        skip-home-hex (waiting c) form d c.session.folder r,
        small-first (right_kept c 0) _ r (low device),
        small-first (right_kept c 1) _ r (low admin),
        small-first (right_kept c 2) _ r (low user),
        hex-first 2 now _ r n b,
        h r,
        cur,
        hex-first 16 (challenge c) _ r (omega (arith, len, f.few)) f.bytes,
        filled-front 16 c.session.len c.session.challenge f,
        len,
      )
      (ap
      (λ (l : List ℕ).
      record { rights = l; current = c.session.current; challenge = c.session.challenge; len = c.session.len; folder = c.session.folder })
      (rights-kept c.session.rights e))

  pub response-back : mode c < 256 → c.response.count2 < 256 → Front response_size (wait_count c.response) c.response.bytes → response_in (session_line form c ++ r) ≡ c.response
  unfolding session_line response_in
  response-back m low f =
      let len = front_length response_size (wait_count c.response) c.response.bytes f in
      let high₀ : wait_count c.response / 256 ≡ c.response.count1 = omega (arith, low) in
      let low₀ : wait_count c.response % 256 ≡ c.response.count2 = omega (arith, low) in
      rw (
        skip-number (right_kept c 0),
        skip-number (right_kept c 1),
        skip-number (right_kept c 2),
        skip-hex now,
        skip-hex (challenge c),
        skip-number (mode c),
        small-first (mode c) _ r m,
        hex-first response_size (waiting c) _ r (omega (arith, len, f.few)) f.bytes,
        filled-front response_size (wait_count c.response) c.response.bytes f,
        len,
        high₀,
        low₀,
      )

-- a file's line
pub bytes-nil : Bytes []
bytes-nil i = omega arith

pub bytes-cons : (x : ℕ) (xs : List ℕ) → x < 256 → Bytes xs → Bytes (x ∷ xs)
bytes-cons x xs h k zero = h
bytes-cons x xs h k (suc i) = k i

pub fid-bytes : (f : File) → FileBytes f → Bytes (fid_bytes f)
fid-bytes f b = bytes-cons f.fid1 (f.fid2 ∷ []) b.fid1 (bytes-cons f.fid2 [] b.fid2 bytes-nil)

pub folder-bytes : (x : Folder) → FolderBytes x → Bytes (folder_bytes x)
folder-bytes x b = bytes-cons x.fid1 (x.fid2 ∷ []) b.fid1 (bytes-cons x.fid2 [] b.fid2 bytes-nil)

pub create-bytes : (f : File) → FileBytes f → Bytes (create_bytes f)
create-bytes f b =
    bytes-cons f.kind (f.size1 ∷ f.size2 ∷ f.read ∷ f.write ∷ []) b.kind
    (bytes-cons f.size1 (f.size2 ∷ f.read ∷ f.write ∷ []) b.size1
    (bytes-cons f.size2 (f.read ∷ f.write ∷ []) b.size2 (bytes-cons f.read (f.write ∷ []) b.read (bytes-cons f.write [] b.write bytes-nil))))

-- its counts say all that it keeps of its records
pub record Told (f : File) : Type 0 where
  pub bytes : FileBytes f
  pub low : held_or_used f < 4097
  pub back : counted (new_file f.fid1 f.fid2 f.kind f.size1 f.size2 f.read f.write) (held_or_used f) f.newest ≡ in_folder 0 f

third-digit : (a b : ℕ) (bs : List ℕ) (fs : List (List ℕ)) (r : List ℕ) → ends (byte (line (or_dash (a ∷ b ∷ bs) ∷ fs) ++ r) 2) ≡ false
unfolding line or_dash hex_of
third-digit a b bs [] r = digit-stays (b / 16)
third-digit a b bs (g ∷ more) r = digit-stays (b / 16)

module _ (form : Form) (d : Directory) (f : File) (r : List ℕ) where
  pub file-back : Told f → file_in (file_line form d f ++ r) ≡ in_folder 0 f
  unfolding file_line file_in
  file-back t =
      rw (
        skip-hex (fid_bytes f),
        skip-hex (create_bytes f),
        skip-number (held_or_used f),
        hex-first 2 (fid_bytes f) _ r (omega arith) (fid-bytes f t.bytes),
        hex-first 5 (create_bytes f) _ r (omega arith) (create-bytes f t.bytes),
        number-first (held_or_used f) _ r (omega (arith, t.low)),
        small-first f.newest _ r t.bytes.newest,
      )
      t.back

  file-fields : skips 4 (file_line form d f ++ r) ≡ tail form d f.folder ++ r
  unfolding file_line
  file-fields = rw (skip-hex (fid_bytes f), skip-hex (create_bytes f), skip-number (held_or_used f), skip-home-number f.newest form d f.folder r)

  pub file-end : contents_part form (file_line form d f ++ r) ≡ r
  file-end = rw file-fields (past-home form d f.folder r)

  pub housed-back : (e : Directory) → Told f → Homes form e d f.folder → housed_in e (file_line form d f ++ r) ≡ f
  housed-back e t h = rw (file-back t, file-fields, h r)

  -- and it is no directory's line
  pub file-no-folder : folder_next (file_line form d f ++ r) ≡ false
  unfolding file_line
  file-no-folder = rw (skip-hex (fid_bytes f)) (third-digit f.kind f.size1 (f.size2 ∷ f.read ∷ f.write ∷ []) _ r)

-- a directory's line
module _ (x : Folder) (r : List ℕ) where
  pub folder-end : skips 2 (folder_line x ++ r) ≡ r
  unfolding folder_line
  folder-end = rw (skip-hex (folder_bytes x), skip-last-hex (x.right ∷ []))

  pub folder-next : folder_next (folder_line x ++ r) ≡ true
  unfolding folder_line line or_dash hex_of
  folder-next = rw (skip-hex (folder_bytes x)) refl

  pub folder-back : FolderBytes x → folder_in (folder_line x ++ r) ≡ x
  unfolding folder_line folder_in
  folder-back b =
      rw (
        skip-hex (folder_bytes x),
        hex-first 2 (folder_bytes x) _ r (omega arith) (folder-bytes x b),
        hex-first 1 (x.right ∷ []) _ r (omega arith) (bytes-cons x.right [] b.right bytes-nil),
      )
