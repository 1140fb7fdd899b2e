-- A sound card written and read, and an accepted text read and written.
-- Assumes nothing.
use Prim.Native.Nat.{ℕ, zero, suc, ◌+◌, ◌-◌, ◌*◌, ◌%◌, ◌≤◌, ◌<◌, min}
use mathlib.Core.Bool.{Bool, true, false, cond, ◌||◌}
use mathlib.Core.List.{List, [], ◌∷◌, ◌++◌, map, append_assoc}
use mathlib.Core.Path.{◌≡◌, refl, sym, ap, ◌∙◌}
use mathlib.Core.Logic.{by_cases}
use native.Mathlib.Decide.{dec_lt}
use native.Mathlib.Omega.{arith}
use lib.Dec.{eqb, leb}
use lib.ListN.{length, get_or, take, drop, replicate, length-drop, length-append, length-replicate, take-append-drop, get_or-replicate}
use lib.Seq.{length-take-le, ext_get_or, get_or-drop}
use borrow.Author.Tests.{eqb-true, eqb-false, eq-eqb, ne_eqb, leb-true, le-leb, lt-ltb, le-ltb}
use Rattle.files.specs.declared.File.{File}
use Rattle.files.specs.declared.Folder.{Folder}
use Rattle.files.specs.declared.Directory.{Directory}
use Rattle.files.specs.Words.{seek, is_zero, two}
use Rattle.files.specs.Part.{part, over, zeros}
use Rattle.files.specs.State.{blank_file, blank_folder}
use Rattle.files.specs.Types.{size}
use Rattle.files.specs.Directory.{most_files, fid, sfi, good_sfi, used, file_at, start_at, file, start, extent, end, of_fid, of_sfi, here, find_fid, folder_fid, folder_at, folder_here, find_folder}
use Rattle.files.specs.Create.{area_size, good_folder, housed, apart}
use Rattle.files.specs.Sound.{sound_file, alone, sound_folder}
use Rattle.files.proofs.Blank.{unused-blank, unused-folder}
use Rattle.files.proofs.Checks.{both, each, join, split, clash}
use Rattle.files.proofs.Extents.{used-is, start-next}
use Rattle.files.proofs.Sought.{seek-absent, seek-nothing}
use Rattle.files.proofs.Folders.{Foldered, folder-good, folder-alone}
use Rattle.files.specs.Rights.{good_rights}
use Rattle.files.proofs.Parts.{part-front}
use Rattle.files.proofs.Kept.{Filed, filed}
use Rattle.rules.specs.declared.Credential.{Credential}
use Rattle.rules.specs.declared.Session.{Session}
use Rattle.rules.specs.declared.Response.{Response}
use Rattle.rules.specs.declared.Card.{Card}
use Rattle.rules.specs.Calls.{answer}
use Rattle.rules.specs.Words.{byte, all_of, same}
use Rattle.rules.specs.State.{Which, device, admin, user, transport, whiches, number_of, no_credential, credential, value_of, response_size, wait_count, with_journal}
use Rattle.rules.specs.Sound.{good_value, sound_value, good_challenge, sound_challenge, sound_response, sound}
use Rattle.rules.proofs.Good.{Good, Lies, Tried, numbered, sound-good, sound-parted, sound-both, said-short, responded}
use Rattle.rules.proofs.Equal.{same-equal, equal-same}
use Rattle.texts.specs.Text.{Form, credential_line, credential_lines, current_fid, fid_bytes, folder_bytes, home_fid, session_line, folder_lines, folder_count, files_text, text, of_form}
use Rattle.texts.specs.Reading.{skips, hex_in, home_in, current_in, credential_in, session_in, response_in, bytes_in, folders_in, most_folders_of, foldered, with_files, session_part, folders_part, folders_read, files_part, directory_in, card_in, area_in, laid}
use Rattle.texts.specs.Calls.{to_text, wrote, Got, from_text, got, accepted, kept}
use Rattle.texts.specs.Laws.{Bytes, FileBytes, FolderBytes, SoundCard, WrittenRead, ReadWritten}
use Rattle.texts.proofs.Cards.{Front, Homes, bytes-cons, folder-bytes, credential-end, credential-back, each-kept, session-end, session-back, response-back, bytes-nil, fid-bytes}
use Rattle.texts.proofs.Contents.{AllSaid, files-back, bytes_back, folders-back, folders-end, files-no-folder, text-front, laid-front, laid-length, drop-replicate, bytes_take}
use Rattle.texts.proofs.Counts.{told}
use Rattle.texts.proofs.Lines.{hex-first}

-- a search finds the one place that passes
module _ (p : ℕ → Bool) where
  seek-alone : (n i : ℕ) → i < n → p i ≡ true → ((j : ℕ) → i < j → j < n → p j ≡ false) → seek p n ≡ suc i
  unfolding seek
  seek-alone zero i l h o = absurd (omega arith)
  seek-alone (suc n) i l h o =
      by_cases (dec_lt i n)
      (λ m. rw (o n m (omega arith)) (seek-alone n i m h (λ j a b. o j a (omega arith))))
      (λ m. let q : n ≡ i = omega arith in rw (q, h))

pub not_so : (b : Bool) → (b ≡ true → ⊥) → b ≡ false
not_so true h = absurd (h refl)
not_so false h = refl

-- a FID names its file alone in its directory, since SFIs differ
module _ (files : List File) (i j : ℕ) (l : i < j) (a : alone files j ≡ true) where
  abbrev fi : File
  fi = file_at files i

  abbrev fj : File
  fj = file_at files j

  fid-other : of_fid fi.folder (fid fi) fj ≡ false
  fid-other =
      not_so (of_fid fi.folder (fid fi) fj)
      (λ t. let k = each (eqb fj.folder fi.folder ∷ eqb (fid fj) (fid fi) ∷ []) t in
      clash (of_sfi fj.folder (sfi fj) fi)
      (join (eq-eqb fi.folder fj.folder (sym (eqb-true _ _ k.0))) (eq-eqb (sfi fi) (sfi fj) (ap (λ (n : ℕ). n % 32) (sym (eqb-true _ _ k.1)))))
      (seek-absent (here (of_sfi fj.folder (sfi fj)) files) j (eqb-true _ _ a) i l))

fid-alone : (d : Directory) → Filed d → (i : ℕ) → i < d.count → find_fid d (file_at d.files i).folder (fid (file_at d.files i)) ≡ suc i
unfolding find_fid
fid-alone d g i h =
    let f = file_at d.files i in
    rw (used-is d g.few)
    (seek-alone (here (of_fid f.folder (fid f)) d.files) d.count i h (join (eq-eqb f.folder f.folder refl) (eq-eqb (fid f) (fid f) refl))
    (λ j l m. fid-other d.files i j l (g.each-sfi j m)))

current-some : (d : Directory) (i : ℕ) → current_fid d (suc i) ≡ fid_bytes (file_at d.files i)
current-some d i = let k : suc i - 1 ≡ i = omega arith in rw (ne_eqb (suc i) 0 (λ (e : suc i ≡ 0). omega arith), k)

lies_in : (d : Directory) (i n : ℕ) → Lies d (suc i) n → (file_at d.files i).folder ≡ n
lies_in d i n h = let k : suc i - 1 ≡ i = omega arith in eqb-true _ _ (rw (ne_eqb (suc i) 0 (λ (e : suc i ≡ 0). omega arith), k) at h)

current-back : (d : Directory) → Filed d → (cur n : ℕ) → cur ≤ d.count → Lies d cur n → current_in d n (current_fid d cur) ≡ cur
current-back d g zero n h l = refl
current-back d g (suc i) n h l = ap (current_in d n) (current-some d i) ∙ rw (← lies_in d i n l) (fid-alone d g i (omega arith))

-- a directory's FID names it alone, and 3F00 names none
module _ (folders : List Folder) (number : ℕ) (g : Foldered folders number) where
  folder-other : (i j : ℕ) → i < j → j < number → folder_here (folder_fid (folder_at folders i)) folders j ≡ false
  folder-other i j l m =
      ne_eqb (folder_fid (folder_at folders j)) (folder_fid (folder_at folders i))
      (λ e. eqb-false _ _ (seek-absent (folder_here (folder_fid (folder_at folders j)) folders) j (eqb-true _ _ (folder-alone folders number g j m)) i l) (sym e))

  folder-one : (i : ℕ) → i < number → seek (folder_here (folder_fid (folder_at folders i)) folders) (min number 4) ≡ suc i
  folder-one i h =
      let q : min number 4 ≡ number = omega (arith, g.few) in
      rw q
      (seek-alone (folder_here (folder_fid (folder_at folders i)) folders) number i h (eq-eqb (folder_fid (folder_at folders i)) (folder_fid (folder_at folders i)) refl)
      (λ j l m. folder-other i j l m))

  no-root : (i : ℕ) → i < number → folder_here 0x3F00 folders i ≡ false
  unfolding good_folder
  no-root i h =
      let x = folder_at folders i in
      let e = each (good_sfi (folder_fid x % 32) ∷ good_rights x.right ∷ []) (folder-good folders number g i h) in
      let low : 1 ≤ folder_fid x % 32 = leb-true _ _ (each (leb 1 (folder_fid x % 32) ∷ leb (folder_fid x % 32) 30 ∷ []) e.0).0 in
      ne_eqb (folder_fid x) 0x3F00 (λ z. omega arith)

  root_none : seek (folder_here 0x3F00 folders) (min number 4) ≡ 0
  root_none = seek-nothing (folder_here 0x3F00 folders) (min number 4) (λ i l. no-root i (omega arith))

home_some : (d : Directory) (i : ℕ) → home_fid d (suc i) ≡ folder_bytes (folder_at d.folders i)
home_some d i = let k : suc i - 1 ≡ i = omega arith in rw (ne_eqb (suc i) 0 (λ (e : suc i ≡ 0). omega arith), k)

root-bytes : Bytes (0x3F ∷ 0x00 ∷ [])
root-bytes = bytes-cons 0x3F (0x00 ∷ []) (omega arith) (bytes-cons 0x00 [] (omega arith) bytes-nil)

-- so a home is read back, by any directory of the same directories
module _ (e d : Directory) (p : e.folders ≡ d.folders) (q : e.number ≡ d.number) (g : Foldered d.folders d.number) (b : (i : ℕ) → FolderBytes (folder_at d.folders i)) where
  homes : (form : Form) (n : ℕ) → cond form true (is_zero d.number) ≡ true → n ≤ d.number → Homes form e d n
  unfolding home_in find_folder
  homes true zero o h r = rw (hex-first 2 (0x3F ∷ 0x00 ∷ []) [] r (omega arith) root-bytes, p, q) (root_none d.folders d.number g)
  homes true (suc i) o h r =
      rw (home_some d i, hex-first 2 (folder_bytes (folder_at d.folders i)) [] r (omega arith) (folder-bytes (folder_at d.folders i) (b i)), p, q)
      (folder-one d.folders d.number g i (omega arith))
  homes false n o h r =
      let z : d.number ≡ 0 = eqb-true _ _ o in
      let m : n ≡ 0 = omega arith in
      rw (q, z, m) none
    where
      none : seek (folder_here (two (byte (hex_in 2 r) 0) (byte (hex_in 2 r) 1)) e.folders) 0 ≡ 0
      none = seek-nothing _ 0 (λ i l. absurd (omega arith))

pub current-short : (d : Directory) (cur : ℕ) → length (current_fid d cur) ≤ 2
current-short d zero = omega arith
current-short d (suc i) = rw (current-some d i) (omega arith)

pub home-short : (d : Directory) (n : ℕ) → length (home_fid d n) ≤ 2
home-short d zero = omega arith
home-short d (suc i) = rw (home_some d i) (omega arith)

current-bytes : (d : Directory) (cur : ℕ) → ((i : ℕ) → FileBytes (file_at d.files i)) → Bytes (current_fid d cur)
current-bytes d zero b = bytes-nil
current-bytes d (suc i) b = rw (current-some d i) (fid-bytes (file_at d.files i) (b i))

-- places past the last directory are blank, and past the last file
folder-blank : (folders : List Folder) (number : ℕ) → Foldered folders number → (i : ℕ) → number ≤ i → i < 4 → folder_at folders i ≡ blank_folder
unfolding sound_folder
folder-blank folders number g i h l = unused-folder (folder_at folders i) (rw (le-ltb i number h) at (g.each-folder i l))

-- the used places laid over blank ones are all places
laid-back : {A : Type 0} (none : A) (m n : ℕ) (xs : List A) → length xs ≡ m → n ≤ m → ((i : ℕ) → n ≤ i → i < m → get_or xs i none ≡ none) → laid (replicate m none) 0 (take n xs) ≡ xs
laid-back none m n xs places few blank =
    let l : length (take n xs) ≡ n = length-take-le n xs (omega arith) in
    let rest : drop n (replicate m none) ≡ drop n xs =
    ext_get_or none (drop n (replicate m none)) (drop n xs) (length-drop n (replicate m none) ∙ ap (λ (k : ℕ). k - n) (length-replicate m none ∙ sym places) ∙ sym (length-drop n xs))
    (λ i h.
    let k : n + i < m = omega (arith, h, length-drop n (replicate m none), length-replicate m none) in
    get_or-drop n (replicate m none) i none ∙ get_or-replicate m (n + i) none none k ∙ sym (get_or-drop n xs i none ∙ blank (n + i) (omega arith) k)) in
    laid-front (replicate m none) (take n xs) (omega (arith, l, length-replicate m none)) ∙ rw (l, rest) (take-append-drop n xs)

module _ (d : Directory) (g : Filed d) where
  place-blank : (i : ℕ) → d.count ≤ i → i < 16 → file_at d.files i ≡ blank_file
  place-blank i h l = unused-blank (file_at d.files i) (rw (le-ltb i d.count h) at (g.each-place i l))

  pub place-sound : (i : ℕ) → i < d.count → sound_file (file_at d.files i) ≡ true
  place-sound i h = rw (lt-ltb i d.count h) at (g.each-place i (omega (arith, g.few)))

  pub place-fits : (i : ℕ) → i < d.count → size (file_at d.files i) ≤ 4096
  place-fits i h = omega (arith, start-next d.files i d.count h, g.room)

  abbrev bare : Directory
  bare = foldered (take d.number d.folders)

  folders-same : bare.folders ≡ d.folders
  unfolding foldered
  folders-same = laid-back blank_folder 4 d.number d.folders g.folders.places g.folders.few (folder-blank d.folders d.number g.folders)

  number_same : bare.number ≡ d.number
  unfolding foldered
  number_same = length-take-le d.number d.folders (omega (arith, g.folders.places, g.folders.few))

  directory-back : with_files bare (take d.count d.files) ≡ d
  unfolding with_files
  directory-back =
      let n : length (take d.count d.files) ≡ d.count = length-take-le d.count d.files (omega (arith, g.places, g.few)) in
      rw (laid-back blank_file 16 d.count d.files g.places g.few place-blank, n, folders-same, number_same)

  pub home-low : (i : ℕ) → i < d.count → (file_at d.files i).folder ≤ d.number
  home-low i h = leb-true _ _ (each (housed d (file_at d.files i) ∷ apart d (file_at d.files i) ∷ []) (g.each-home i h)).0

-- what a sound card says of its numbers
pub tries-low : (x : Credential) (held : Bool) → Tried x.tries held → (x.tries.limit ≤ 128) × (x.tries.left ≤ 128)
tries-low x held k =
    let b = both (leb 1 x.tries.limit) (leb x.tries.limit 128) k.limit in
    let h : x.tries.limit ≤ 128 = leb-true _ _ b.1 in
    (h, omega (arith, h, k.few))

value-front : (n : ℕ) (x : Credential) → sound_value n x ≡ true → Bytes x.value → Front 16 x.len x.value
unfolding sound_value
value-front n x h b =
    let e = each (eqb (length x.value) 16 ∷ leb x.len 16 ∷ good_value n (value_of x) ∷ all_of is_zero (drop x.len x.value) ∷ []) h in
    record { places = eqb-true _ _ e.0; few = leb-true _ _ e.1.0; tail = e.1.1.1; bytes = bytes_take x.len x.value b }

challenge-front : (s : Session) → sound_challenge s ≡ true → Bytes s.challenge → Front 16 s.len s.challenge
unfolding sound_challenge
challenge-front s h b =
    let e = each (eqb (length s.challenge) 16 ∷ (is_zero s.len || good_challenge s.len) ∷ all_of is_zero (drop s.len s.challenge) ∷ []) h in
    record { places = eqb-true _ _ e.0; few = said-short s.len e.1.0; tail = e.1.1; bytes = bytes_take s.len s.challenge b }

response-front : (r : Response) → sound_response r ≡ true → Bytes r.bytes → Front response_size (wait_count r) r.bytes
response-front r h b =
    let k = responded r h in
    record { places = k.size; few = k.few; tail = k.rest; bytes = bytes_take (wait_count r) r.bytes b }

-- the front of an area, followed by anything
front-part : (b n e : ℕ) (area z : List ℕ) → b + n ≤ e → e ≤ length area → part b n (take e area ++ z) ≡ part b n area
front-part b n e area z h l =
    let k : length (take e area) ≡ e = length-take-le e area l in
    part-front b n (take e area) z (omega arith) ∙ sym (part-front b n (take e area) (drop e area) (omega arith)) ∙ ap (part b n) (take-append-drop e area)

-- a sound card, written
module _ (form : Form) (c : Card) (area : List ℕ) (ok : SoundCard form c area) where
  abbrev d : Directory
  d = c.directory

  abbrev g : Good c
  g = sound-good c area ok.is-sound

  abbrev fd : Filed d
  fd = filed d g.directory

  count-is : used d ≡ d.count
  count-is = used-is d fd.few

  room : start_at d.files d.count ≤ length area
  room = omega (arith, fd.room, ok.size)

  abbrev e : Directory
  e = foldered (take d.number d.folders)

  home-read : (x : Directory) → x.folders ≡ d.folders → x.number ≡ d.number → (n : ℕ) → n ≤ d.number → Homes form x d n
  home-read x p q n h = homes x d p q fd.folders ok.card-bytes.folders form n ok.of-form h

  all_said : AllSaid form e d d.files d.count
  all_said i h = record {
    told = told (file_at d.files i) (place-sound d fd i h) (ok.card-bytes.files i) (place-fits d fd i h);
    homed = home-read e (folders-same d fd) (number_same d fd) (file_at d.files i).folder (home-low d fd i h);
  }

  credential-at : (w : Which) (r : List ℕ) → credential_in (credential_line (credential c (number_of w)) ++ r) ≡ credential c (number_of w)
  credential-at w r =
      let k = g.credited (number_of w) (numbered w) in
      let t = tries-low (credential c (number_of w)) _ k.tries in
      credential-back (credential c (number_of w)) r (value-front (number_of w) (credential c (number_of w)) k.value (ok.card-bytes.values (number_of w) (numbered w)))
      (omega (arith, t.0)) (omega (arith, t.1))

  abbrev files_page : List ℕ
  files_page = files_text form d (take (used d) d.files) area

  abbrev folders_page : List ℕ
  folders_page = folder_lines (take (folder_count d) d.folders) ++ files_page

  abbrev session_page : List ℕ
  session_page = session_line form c ++ folders_page

  -- the text, credential by credential
  abbrev line_of : Which → List ℕ
  line_of w = credential_line (credential c (number_of w))

  text-is : text form c area ≡ line_of device ++ (line_of admin ++ (line_of user ++ (line_of transport ++ session_page)))
  unfolding text credential_lines
  text-is =
      append_assoc (line_of device) (line_of admin ++ (line_of user ++ line_of transport)) session_page
      ∙ ap (λ (l : List ℕ). line_of device ++ l)
      (append_assoc (line_of admin) (line_of user ++ line_of transport) session_page ∙ ap (λ (l : List ℕ). line_of admin ++ l) (append_assoc (line_of user) (line_of transport) session_page))

  pub session-page : session_part (text form c area) ≡ session_page
  session-page = rw (text-is, credential-end (credential c 0), credential-end (credential c 1), credential-end (credential c 2), credential-end (credential c 3))

  folders-page : folders_part form (text form c area) ≡ folders_page
  folders-page = rw session-page (session-end form c folders_page)

  folders-counted : folder_count d ≡ d.number
  unfolding folder_count
  folders-counted = omega (arith, fd.folders.few)

  few-read : (x : Form) → cond x true (is_zero d.number) ≡ true → d.number ≤ most_folders_of x
  few-read true o = fd.folders.few
  few-read false o = let z : d.number ≡ 0 = eqb-true _ _ o in omega arith

  folders-there : d.number ≤ length d.folders
  folders-there = omega (arith, fd.folders.places, fd.folders.few)

  folders-are : folders_read form (text form c area) ≡ take d.number d.folders
  unfolding folders_read
  folders-are =
      rw (folders-page, folders-counted)
      (folders-back d.number (most_folders_of form) d.folders files_page (few-read form ok.of-form) folders-there (λ i l. ok.card-bytes.folders i) (files-no-folder form d (take (used d) d.files) area))

  files-page : files_part form (text form c area) ≡ files_page
  unfolding files_part
  files-page =
      rw (folders-are, folders-page, folders-counted, length-take-le d.number d.folders folders-there) (folders-end d.number d.folders files_page folders-there)

  directory-is : directory_in form (text form c area) ≡ d
  directory-is =
      rw (folders-are, files-page, count-is, files-back form e d d.count most_files area_size d.files area fd.few (omega (arith, fd.places, fd.few)) fd.room room all_said) (directory-back d fd)

  pub area-is : area_in form (text form c area) ≡ kept c area
  unfolding area_in kept
  area-is =
      let n : length (take (start_at d.files d.count) area) ≡ start_at d.files d.count = length-take-le (start_at d.files d.count) area room in
      rw (files-page, count-is, bytes_back form e d d.count most_files area_size d.files area fd.few (omega (arith, fd.places, fd.few)) fd.room room all_said ok.area-bytes)
      (laid-front (zeros area_size) (take (start_at d.files d.count) area) (omega (arith, n, fd.room, length-replicate {A = ℕ} area_size 0))
      ∙ ap (λ (l : List ℕ). take (start_at d.files d.count) area ++ l) (ap (λ (k : ℕ). drop k (zeros area_size)) n ∙ drop-replicate (start_at d.files d.count) area_size 0))

  device-is : credential_in (text form c area) ≡ credential c 0
  device-is = ap credential_in text-is ∙ credential-at device _

  admin-is : credential_in (skips 3 (text form c area)) ≡ credential c 1
  admin-is = rw (text-is, credential-end (credential c 0)) (credential-at admin _)

  user-is : credential_in (skips 6 (text form c area)) ≡ credential c 2
  user-is = rw (text-is, credential-end (credential c 0), credential-end (credential c 1)) (credential-at user _)

  transport-is : credential_in (skips 9 (text form c area)) ≡ credential c 3
  transport-is = rw (text-is, credential-end (credential c 0), credential-end (credential c 1), credential-end (credential c 2)) (credential-at transport _)

  credentials-are : map (λ (w : Which). credential_in (skips (3 * number_of w) (text form c area))) whiches ≡ c.credentials
  credentials-are = rw (device-is, admin-is, user-is, transport-is) (each-kept c.credentials no_credential g.all_there)

  session-is : session_in d (session_part (text form c area)) ≡ c.session
  session-is =
      rw session-page
      (session-back form c folders_page g.all-kept (λ w. omega (arith, (g.credited (number_of w) (numbered w)).low)) (current-short d c.session.current) (current-bytes d c.session.current ok.card-bytes.files)
      (home-read d refl refl c.session.folder g.folder) (current-back d fd c.session.current c.session.folder g.current g.lies) (challenge-front c.session g.challenge ok.card-bytes.challenge))

  response-is : response_in (session_part (text form c area)) ≡ c.response
  response-is =
      rw session-page
      (response-back form c folders_page ok.card-bytes.response.mode ok.card-bytes.response.count2 (response-front c.response g.response ok.card-bytes.response.bytes))

  pub card-is : card_in form (text form c area) ≡ c
  unfolding card_in
  card-is = rw (directory-is, credentials-are, session-is, response-is) (ap (with_journal c) (sym g.journal))

  -- the text has the bytes of the files and no others
  pub text-kept : (b : Form) → text b c (kept c area) ≡ text b c area
  unfolding text kept
  text-kept b =
      rw (count-is, text-front b d d.count d.files area (zeros (area_size - start_at d.files d.count)) (omega (arith, fd.places, fd.few)) room)

  -- and so has soundness
  end_fits : end d ≤ length area
  end_fits = rw count-is room

  extent-kept : (place : ℕ) → 1 ≤ place → place ≤ used d → extent d place (kept c area) ≡ extent d place area
  unfolding extent kept
  extent-kept place h l =
      front-part (start d place) (size (file d place)) (end d) area _ (start-next d.files (place - 1) (used d) (omega arith)) end_fits

  kept-length : end d ≤ length (kept c area)
  unfolding kept
  kept-length = omega (arith, length-append (take (end d) area) (zeros (area_size - end d)), length-take-le (end d) area end_fits)

  pub kept-sound : sound c (kept c area) ≡ true
  kept-sound =
      let p = sound-parted c area ok.is-sound in
      sound-both c (kept c area) g
      (record { room = kept-length; each-parted = λ place h l. rw (extent-kept place h l) (p.each-parted place h l) })

  pub text-accepted : accepted form (text form c area) ≡ true
  unfolding accepted
  text-accepted = rw (card-is, area-is, text-kept form, kept-sound) (equal-same (text form c area) (text form c area) refl)

  pub written_back : (lent : List ℕ) → length lent ≡ area_size → from_text form (text form c area) lent ≡ got 0 c (kept c area)
  unfolding from_text
  written_back lent size = rw (eq-eqb _ _ size, text-accepted, card-is, area-is)

pub written_read : (form : Form) → WrittenRead form
written_read form c area lent ok size = written_back form c area ok lent size

-- an accepted text is the text of what it is read as
pub read-text : (form : Form) (s : List ℕ) → accepted form s ≡ true → (sound (card_in form s) (area_in form s) ≡ true) × (text form (card_in form s) (area_in form s) ≡ s)
unfolding accepted
read-text form s h =
    let k = both (sound (card_in form s) (area_in form s)) (same s (text form (card_in form s) (area_in form s))) h in
    (k.0, sym (same-equal s (text form (card_in form s) (area_in form s)) k.1))

-- of the old form no directory is read
pub read-form : (form : Form) (s : List ℕ) → of_form form (card_in form s) ≡ true
unfolding card_in with_files foldered folders_read folders_in
read-form true s = refl
read-form false s = refl

pub area-length : (form : Form) (s : List ℕ) → length (area_in form s) ≡ area_size
unfolding area_in
area-length form s = laid-length (zeros area_size) 0 (bytes_in form most_files area_size (files_part form s)) ∙ length-replicate {A = ℕ} area_size 0

-- what a served reading says
pub read_by : (P : Got → Type 0) (form : Form) (s lent : List ℕ) → (accepted form s ≡ true → P (got 0 (card_in form s) (area_in form s))) → (from_text form s lent).answer.outcome ≡ 0
    → P (from_text form s lent)
unfolding from_text
read_by P form s lent h =
    split (λ (x : Got). x.answer.outcome ≡ 0 → P x) (eqb (length lent) area_size)
    (λ e. split (λ (x : Got). x.answer.outcome ≡ 0 → P x) (accepted form s) (λ a z. h a) (λ a z. absurd (omega arith)))
    (λ e z. absurd (omega arith))

pub writes : (form : Form) (c : Card) (area out s : List ℕ) → sound c area ≡ true → of_form form c ≡ true → length area ≡ area_size → text form c area ≡ s → length s ≤ length out
    → to_text form c area out ≡ wrote (answer 0 c (length s)) (over s out)
unfolding to_text
writes form c area out s h o a e l = rw (eq-eqb _ _ a, h, o, e, le-leb _ _ l)

pub read-written : (form : Form) → ReadWritten form
read-written form s lent out z l =
    read_by (λ (x : Got). to_text form x.answer.card x.area out ≡ wrote (answer 0 x.answer.card (length s)) (over s out)) form s lent
    (λ a. let k = read-text form s a in writes form (card_in form s) (area_in form s) out s k.0 (read-form form s) (area-length form s) k.1 l) z
