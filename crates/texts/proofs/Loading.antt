-- What a text says, put together from the fields read; the writer and the reader.
-- Assumes nothing.
use Prim.Native.Nat.{ℕ, suc, ◌+◌, ◌≤◌}
use mathlib.Core.Bool.{Bool, true, false, ◌&&◌}
use mathlib.Core.List.{List, [], ◌∷◌, append-nil}
use mathlib.Core.Path.{◌≡◌, refl, sym, ap, ◌∙◌}
use native.Mathlib.Omega.{arith}
use lib.Dec.{leb}
use lib.ListN.{length, take, drop, replicate, length-replicate, drop_of_length-le}
use lib.Seq.{take_at, take_all, length-take-le}
use borrow.Author.Tests.{eq-eqb, ne_eqb, le-leb}
use Rattle.files.specs.declared.File.{File}
use Rattle.files.specs.declared.Folder.{Folder}
use Rattle.files.specs.declared.Directory.{Directory}
use Rattle.files.specs.Words.{two, is_zero}
use Rattle.files.specs.Part.{part, over, splice, zeros, shown, shows, stored, Reading, Writing}
use Rattle.files.specs.State.{new_file, in_folder, new_folder, blank_file}
use Rattle.files.specs.Directory.{most_files, find_fid, find_folder}
use Rattle.files.specs.Create.{area_size}
use Rattle.files.proofs.Parts.{over-splice}
use Rattle.rules.specs.declared.Tries.{Tries}
use Rattle.rules.specs.declared.Credential.{Credential}
use Rattle.rules.specs.declared.Session.{Session}
use Rattle.rules.specs.declared.Response.{Response}
use Rattle.rules.specs.declared.Journal.{Journal}
use Rattle.rules.specs.declared.Card.{Card}
use Rattle.rules.specs.declared.Answer.{Answer}
use Rattle.rules.specs.Calls.{answer}
use Rattle.rules.specs.Words.{byte, same}
use Rattle.rules.specs.State.{how_many_rights, response_size, response_of, no_journal, blank_card}
use Rattle.rules.specs.Sound.{sound}
use Rattle.texts.specs.Text.{Form, new, text, of_form}
use Rattle.digits.specs.Page.{Draws}
use Rattle.texts.specs.Reading.{laid, skip, skips, hex_in, number, small, tries_of, tries_in, credential_in, home_in, current_in, rights_in, session_in, response_in, counted, file_of, file_in, housed_in, bytes_in, folder_in, folders_in, most_folders_of, foldered, session_part, folders_part, folders_read, files_part, card_in, area_in, Fills, LoadsAll, LoadsDirectory, LoadsCard}
use Rattle.texts.specs.Calls.{accepted, to_text, Writes, from_text, Reads, converted}
use Rattle.texts.specs.Laws.{longest}
use Rattle.digits.proofs.Drawn.{drawn-over}
use Rattle.texts.proofs.Contents.{laid-length}
use Rattle.texts.proofs.Fitting.{text-fits}
use Rattle.texts.proofs.Trips.{read-form}
use Rattle.texts.proofs.Exact.{hex-few}
use Rattle.texts.proofs.Scanning.{laid_filled, laid-byte}

pub tries-are : (s : List ℕ) (limit left : ℕ) → limit ≡ small s → left ≡ small (skip s) → tries_of left limit ≡ tries_in s
unfolding tries_in
tries-are s limit left e f = rw (e, f)

pub credential-is : (s : List ℕ) (t : Tries) (n : ℕ) (left : List ℕ) → t ≡ tries_in (skip s) → Fills (hex_in 16 s) (replicate 16 0) n left → (x : Credential) → x ≡ record { value = left; len = n; tries = t } → x ≡ credential_in s
unfolding credential_in
credential-is s t n left e f x h = h ∙ rw (f.left_is, laid_filled 16 s, e, f.count-is)

module _ (d : Directory) (home : ℕ) (h : List ℕ) (n : ℕ) (e : n ≡ length h) where
  pub current-none : n ≡ 0 → 0 ≡ current_in d home h
  current-none z = let k : length h ≡ 0 = sym e ∙ z in rw (eq-eqb (length h) 0 k)

  pub current-some : (a b t r : ℕ) → (n ≡ 0 → ⊥) → a ≡ byte h 0 → b ≡ byte h 1 → t ≡ two a b → r ≡ find_fid d home t → r ≡ current_in d home h
  current-some a b t r z f g k q = let m : is_zero (length h) ≡ false = ne_eqb (length h) 0 (λ x. z (e ∙ x)) in rw (m, ← f, ← g, ← k) q

pub byte_of : (m : ℕ) (s : List ℕ) (n : ℕ) (left : List ℕ) (i : ℕ) → Fills (hex_in m s) (replicate m 0) n left → byte left i ≡ byte (hex_in m s) i
byte_of m s n left i f = rw f.left_is (laid-byte m (hex_in m s) i (hex-few m s))

-- a field's first bytes in a buffer of as many
byte_in : (m : ℕ) (s left : List ℕ) (i : ℕ) → left ≡ laid (zeros m) 0 (hex_in m s) → byte left i ≡ byte (hex_in m s) i
byte_in m s left i e = rw e (laid-byte m (hex_in m s) i (hex-few m s))

pub home-is : (d : Directory) (s fid : List ℕ) (t r : ℕ) → fid ≡ laid (zeros 2) 0 (hex_in 2 s) → t ≡ two (byte fid 0) (byte fid 1) → r ≡ find_folder d t → r ≡ home_in d s
unfolding home_in
home-is d s fid t r f e h = h ∙ ap (find_folder d) (e ∙ rw (byte_in 2 s fid 0 f, byte_in 2 s fid 1 f))

pub folder-is : (s rest fid right : List ℕ) (r : Folder) → fid ≡ laid (zeros 2) 0 (hex_in 2 s) → rest ≡ skips 1 s → right ≡ laid (zeros 1) 0 (hex_in 1 rest) → r ≡ new_folder (byte fid 0) (byte fid 1) (byte right 0) → r ≡ folder_in s
unfolding folder_in
folder-is s rest fid right r f e g h = h ∙ rw (byte_in 2 s fid 0 f, byte_in 2 s fid 1 f, byte_in 1 rest right 0 g, e)

pub session-is : (d : Directory) (s rights : List ℕ) (home cur n : ℕ) (left : List ℕ) → rights ≡ rights_in s → home ≡ home_in d (skips (how_many_rights + 4) s) → cur ≡ current_in d home (hex_in 2 (skips how_many_rights s))
    → Fills (hex_in 16 (skips (suc how_many_rights) s)) (replicate 16 0) n left → (x : Session) → x ≡ record { rights = rights; current = cur; challenge = left; len = n; folder = home } → x ≡ session_in d s
unfolding session_in
session-is d s rights home cur n left e k c f x h = h ∙ rw (e, c, k, f.left_is, laid_filled 16 (skips (suc how_many_rights) s), f.count-is)

-- the bytes read are those at the front of the buffer
hex-front : (m : ℕ) (s : List ℕ) (n : ℕ) (left : List ℕ) → Fills (hex_in m s) (replicate m 0) n left → take n left ≡ hex_in m s
unfolding over
hex-front m s n left f =
    ap (take n) (f.left_is ∙ laid_filled m s) ∙ take_at (hex_in m s) (drop (length (hex_in m s)) (replicate m 0)) n (sym f.count-is)

pub hex-part : (m : ℕ) (s : List ℕ) (n : ℕ) (left : List ℕ) → Fills (hex_in m s) (replicate m 0) n left → n ≡ length (take n left)
hex-part m s n left f = f.count-is ∙ ap length (sym (hex-front m s n left f))

pub response-is : (s rest : List ℕ) (mode n : ℕ) (left : List ℕ) (x : Response) → mode ≡ small (skips (how_many_rights + 2) s) → rest ≡ skips (how_many_rights + 3) s
    → Fills (hex_in response_size rest) (replicate response_size 0) n left → x ≡ response_of mode (take response_size (take n left)) → x ≡ response_in s
unfolding response_in
response-is s rest mode n left x m e f h =
    h ∙ rw (hex-front response_size rest n left f, take_all response_size (hex_in response_size rest) (hex-few response_size rest), m, e)

pub file-is : (s rest : List ℕ) (k newest : ℕ) (fid made : List ℕ) (f r : File) → fid ≡ laid (zeros 2) 0 (hex_in 2 s) → rest ≡ skips 1 s → made ≡ laid (zeros 5) 0 (hex_in 5 rest)
    → f ≡ new_file (byte fid 0) (byte fid 1) (byte made 0) (byte made 1) (byte made 2) (byte made 3) (byte made 4) → k ≡ number (skips 2 s) → newest ≡ small (skips 3 s) → r ≡ counted f k newest
    → r ≡ file_in s
unfolding file_in
file-is s rest k newest fid made f r a p b e h l q =
    let x = byte_in 2 s fid in
    let y = byte_in 5 rest made in
    let g : f ≡ file_of (hex_in 2 s) (hex_in 5 (skips 1 s)) = e ∙ rw (x 0 a, x 1 a, y 0 b, y 1 b, y 2 b, y 3 b, y 4 b, p) in
    q ∙ rw (g, h, l)

pub housed-is : (d : Directory) (s rest : List ℕ) (home : ℕ) (f r : File) → rest ≡ skips 4 s → home ≡ home_in d rest → f ≡ file_in s → r ≡ in_folder home f → r ≡ housed_in d s
housed-is d s rest home f r e h g k = k ∙ rw (g, h, e)

-- directories alone have no file
pub no-file : (xs : List Folder) (d : Directory) → d ≡ foldered xs → (d.files ≡ replicate 16 blank_file) × (d.count ≡ 0)
unfolding foldered
no-file xs d e = rw e (refl, refl)

pub directory-loaded : (form : Form) (s lines rest image left : List ℕ) (e d : Directory) (n : ℕ) → lines ≡ folders_part form s → e ≡ foldered (folders_in (most_folders_of form) lines) → n ≡ e.number
    → rest ≡ skips (n + n) lines → length image ≡ area_size → LoadsAll form e rest image d left → LoadsDirectory form s image d left
unfolding folders_read files_part foldered
directory-loaded form s lines rest image left e d n hl he hn hr size l =
    let m : n ≡ length (folders_in (most_folders_of form) (folders_part form s)) = hn ∙ rw (he, hl) in
    let r : rest ≡ skips (length (folders_in (most_folders_of form) (folders_part form s)) + length (folders_in (most_folders_of form) (folders_part form s))) (folders_part form s) = hr ∙ rw (m, hl) in
    record { directory-is = l.directory-is ∙ rw (size, r, he, hl); left_is = l.left_is ∙ rw (size, r) }

pub card-loaded : (form : Form) (s image left : List ℕ) (v a u t : Credential) (d : Directory) (ss : Session) (rs : Response) (js : Journal) (x : Card) → v ≡ credential_in s → a ≡ credential_in (skips 3 s) → u ≡ credential_in (skips 6 s)
    → t ≡ credential_in (skips 9 s) → LoadsDirectory form s image d left → ss ≡ session_in d (session_part s) → rs ≡ response_in (session_part s) → js ≡ no_journal
    → x ≡ record { credentials = v ∷ a ∷ u ∷ t ∷ []; directory = d; session = ss; response = rs; journal = js } → LoadsCard form s image x left
unfolding card_in
card-loaded form s image left v a u t d ss rs js x hv ha hu ht l hs hr hj h = record { card-is = h ∙ rw (hs, hr, hj, l.directory-is, hv, ha, hu, ht); left_is = l.left_is }

-- the text of a sound card, drawn on a page that takes it
abbrev size₀ : ℕ
size₀ = longest new

page-takes : (form : Form) (n : ℕ) → n ≤ longest form → n ≤ size₀
page-takes true n h = h
page-takes false n h = omega arith

module _ (form : Form) (c : Card) (area : List ℕ) (h : sound c area ≡ true) (o : of_form form c ≡ true) (blank : List ℕ) (b : length blank ≡ size₀) (n : ℕ) (drawn : List ℕ) (w : Draws (text form c area) blank 0 n drawn) where
  text-low : length (text form c area) ≤ size₀
  text-low = page-takes form (length (text form c area)) (text-fits form c area h o)

  fits : length (text form c area) ≤ length blank
  fits = omega (arith, text-low, b)

  pub drawn-length : n ≡ length (text form c area)
  drawn-length = (drawn-over (text form c area) blank drawn n fits w).0

  pub drawn-low : n ≤ size₀
  drawn-low = omega (arith, drawn-length, text-low)

  pub drawn-text : take n drawn ≡ text form c area
  unfolding over
  drawn-text =
      ap (take n) (drawn-over (text form c area) blank drawn n fits w).1 ∙ take_at (text form c area) (drop (length (text form c area)) blank) n (sym drawn-length)

  pub drawn-part : length drawn ≡ size₀ → n ≡ length (take n drawn)
  drawn-part l = sym (length-take-le n drawn (omega (arith, drawn-low)))

-- the writer
module _ (form : Form) (c : Card) (area out : List ℕ) where
  pub write-area : (r : Answer) → (length area ≡ area_size → ⊥) → r ≡ answer 2 c 0 → Writes (to_text form c area out) r out
  unfolding to_text
  write-area r h e = rw (ne_eqb (length area) area_size h) (record { answer-is = e; left_is = refl })

  module _ (a : length area ≡ area_size) (t : Bool) (h : t ≡ sound c area) where
    pub write-unsound : (r : Answer) → t ≡ false → r ≡ answer 4 c 0 → Writes (to_text form c area out) r out
    unfolding to_text
    write-unsound r k e = rw (eq-eqb (length area) area_size a, sym h ∙ k) (record { answer-is = e; left_is = refl })

    pub write-other : (r : Answer) → t ≡ true → of_form form c ≡ false → r ≡ answer 13 c 0 → Writes (to_text form c area out) r out
    unfolding to_text
    write-other r k o e = rw (eq-eqb (length area) area_size a, sym h ∙ k, o) (record { answer-is = e; left_is = refl })

  module _ (a : length area ≡ area_size) (good : sound c area ≡ true) (o : of_form form c ≡ true) (blank : List ℕ) (b : length blank ≡ size₀) (n : ℕ) (drawn : List ℕ) (l : length drawn ≡ size₀)
      (w : Draws (text form c area) blank 0 n drawn) (q : Bool) (left : List ℕ) (v : Reading (shows (length drawn) 0 n (length out)) (part 0 n drawn) out q left) where
    shown-is : shows (length drawn) 0 n (length out) ≡ leb (length (text form c area)) (length out)
    unfolding shows
    shown-is = rw (l, le-leb (0 + n) size₀ (omega (arith, drawn-low form c area good o blank b n drawn w)), drawn-length form c area good o blank b n drawn w)

    part-is : part 0 n drawn ≡ text form c area
    unfolding part
    part-is = drawn-text form c area good o blank b n drawn w

    pub write-short : (r : Answer) → q ≡ false → r ≡ answer 10 c 0 → Writes (to_text form c area out) r left
    unfolding to_text shown
    write-short r z e =
        let s : leb (length (text form c area)) (length out) ≡ false = sym shown-is ∙ sym v.answer-is ∙ z in
        rw (eq-eqb (length area) area_size a, good, o, s) (record { answer-is = e; left_is = rw (shown-is, s) at v.left_is })

    pub write_done : (r : Answer) → q ≡ true → r ≡ answer 0 c n → Writes (to_text form c area out) r left
    unfolding to_text shown
    write_done r z e =
        let s : leb (length (text form c area)) (length out) ≡ true = sym shown-is ∙ sym v.answer-is ∙ z in
        rw (eq-eqb (length area) area_size a, good, o, s)
        (record { answer-is = e ∙ ap (answer 0 c) (drawn-length form c area good o blank b n drawn w); left_is = rw (shown-is, s, part-is) at v.left_is })

-- the reader
over-all : (xs ys : List ℕ) → length ys ≡ length xs → over xs ys ≡ xs
unfolding over
over-all xs ys e = let l : length ys ≤ length xs = omega arith in rw (drop_of_length-le ys l) (append-nil xs)

module _ (form : Form) (s area : List ℕ) where
  pub read-area : (r : Answer) → (length area ≡ area_size → ⊥) → r ≡ answer 2 blank_card 0 → Reads (from_text form s area) r area
  unfolding from_text
  read-area r h e = rw (ne_eqb (length area) area_size h) (record { answer-is = e; left_is = refl })

  module _ (a : length area ≡ area_size) (c : Card) (image : List ℕ) (w : LoadsCard form s (zeros area_size) c image) (t : Bool) (h : t ≡ sound c image) where
    image-is : image ≡ area_in form s
    unfolding area_in
    image-is = w.left_is

    refused : (r : Answer) → accepted form s ≡ false → r ≡ answer 11 blank_card 0 → Reads (from_text form s area) r area
    unfolding from_text
    refused r z e = rw (eq-eqb (length area) area_size a, z) (record { answer-is = e; left_is = refl })

    pub read-of-form : of_form form c ≡ true
    read-of-form = ap (of_form form) w.card-is ∙ read-form form s

    accepts : accepted form s ≡ (sound c image && same s (text form c image))
    unfolding accepted
    accepts = sym (rw (w.card-is, image-is))

    pub read-unsound : (r : Answer) → t ≡ false → r ≡ answer 11 blank_card 0 → Reads (from_text form s area) r area
    read-unsound r z e = refused r (accepts ∙ rw (sym h ∙ z)) e

    module _ (k : t ≡ true) (q : Bool) (m : q ≡ same s (text form c image)) where
      pub read-other : (r : Answer) → q ≡ false → r ≡ answer 11 blank_card 0 → Reads (from_text form s area) r area
      read-other r z e = refused r (accepts ∙ rw (sym h ∙ k, sym m ∙ z)) e

      pub read-good : (r : Answer) (ok : Bool) (left : List ℕ) → q ≡ true → r ≡ answer 0 c 0 → Writing (leb (0 + length image) (length area)) area 0 image ok left → Reads (from_text form s area) r left
      unfolding from_text stored
      read-good r ok left z e g =
          let n : length image ≡ area_size = ap length w.left_is ∙ laid-length (zeros area_size) 0 (bytes_in form most_files area_size (files_part form s)) ∙ length-replicate {A = ℕ} area_size 0 in
          let l : leb (0 + length image) (length area) ≡ true = le-leb (0 + length image) (length area) (omega arith) in
          let k₀ : left ≡ splice area 0 image = rw l at g.left_is in
          let p : left ≡ image = k₀ ∙ over-splice image area ∙ over-all image area (a ∙ sym n) in
          let y : accepted form s ≡ true = accepts ∙ rw (sym h ∙ k, sym m ∙ z) in
          rw (eq-eqb (length area) area_size a, y) (record { answer-is = e ∙ ap (λ (x : Card). answer 0 x 0) w.card-is; left_is = p ∙ image-is })

-- the converter
module _ (given wanted : Form) (s out : List ℕ) (c : Card) (image : List ℕ) (w : LoadsCard given s (zeros area_size) c image) (t : Bool) (h : t ≡ sound c image) where
  abbrev some : length (zeros area_size) ≡ area_size
  some = length-replicate {A = ℕ} area_size 0

  refused-so : (r : Answer) → accepted given s ≡ false → r ≡ answer 11 blank_card 0 → Writes (converted given wanted s out) r out
  unfolding converted
  refused-so r y e = rw y (record { answer-is = e; left_is = refl })

  image-size : length image ≡ area_size
  image-size = ap length w.left_is ∙ laid-length (zeros area_size) 0 (bytes_in given most_files area_size (files_part given s)) ∙ some

  pub convert-unsound : (r : Answer) → t ≡ false → r ≡ answer 11 blank_card 0 → Writes (converted given wanted s out) r out
  convert-unsound r z e = refused-so r (accepts given s (zeros area_size) some c image w t h ∙ rw (sym h ∙ z)) e

  pub given_so : of_form given c ≡ true
  given_so = read-of-form given s (zeros area_size) some c image w t h

  module _ (k : t ≡ true) (q : Bool) (m : q ≡ same s (text given c image)) where
    pub convert-other : (r : Answer) → q ≡ false → r ≡ answer 11 blank_card 0 → Writes (converted given wanted s out) r out
    convert-other r z e = refused-so r (accepts given s (zeros area_size) some c image w t h ∙ rw (sym h ∙ k, sym m ∙ z)) e

    module _ (y : q ≡ true) where
      done-is : to_text wanted c image out ≡ converted given wanted s out
      unfolding converted
      done-is =
          let a : accepted given s ≡ true = accepts given s (zeros area_size) some c image w t h ∙ rw (sym h ∙ k, sym m ∙ y) in
          let i : image ≡ area_in given s = image-is given s (zeros area_size) some c image w t h in
          rw (a, ← w.card-is, ← i)

      pub convert-13 : (u : Bool) → u ≡ of_form wanted c → (r : Answer) → u ≡ false → r ≡ answer 13 c 0 → Writes (converted given wanted s out) r out
      convert-13 u f r z e = rw (← done-is) (write-other wanted c image out image-size t h r k (sym f ∙ z) e)

      pub convert-done : (r : Answer) (left : List ℕ) → Writes (to_text wanted c image out) r left → Writes (converted given wanted s out) r left
      convert-done r left x = rw (← done-is) x
