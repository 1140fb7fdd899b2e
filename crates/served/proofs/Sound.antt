-- The rules' test of soundness says what document 01 says.
use Prim.Native.Nat.{ℕ, zero, suc, ◌+◌, ◌-◌, ◌*◌, ◌%◌, ◌≤◌, ◌<◌}
use mathlib.Core.Bool.{Bool, true, false, cond, ◌||◌, not}
use mathlib.Core.List.{List, [], ◌∷◌}
use mathlib.Core.Logic.{◌⊎◌, inl, inr, ⊎_elim, by_cases}
use mathlib.Core.Path.{◌≡◌, refl, sym, ap, ap₂, ◌∙◌, subst}
use native.Mathlib.Decide.{dec_lt, ℕ_discrete}
use native.Mathlib.Omega.{arith}
use lib.Dec.{eqb, leb, ltb}
use lib.ListN.{length, take, drop, get_or, length-drop}
use lib.Seq.{get_or-drop, get_or-take, drop-cons, drop-drop, drop-length, length-take-le}
use borrow.Author.Tests.{eqb-true, eq-eqb, ne_eqb, leb-true, le-leb, ltb-true, lt-ltb, le-ltb}
use Rattle.files.specs.declared.File.{File}
use Rattle.files.specs.declared.Folder.{Folder}
use Rattle.files.specs.declared.Directory.{Directory}
use Rattle.files.specs.Words.{is_zero, seek}
use Rattle.files.specs.State.{blank_file, blank_folder}
use Rattle.files.specs.Types.{cyclic, is_variable, count, size}
use Rattle.files.specs.Directory.{fid, sfi, good_sfi, used, file_at, start, start_at, extent, of_sfi, here, folder_at, folder_fid, folder_here}
use Rattle.files.specs.Walk.{length_at, stands, walk, parted, standing}
use Rattle.files.specs.Record.{bytes_used, sound_held, sound_used, parted_file}
use Rattle.files.specs.Rights.{good_rights}
use Rattle.files.specs.Create.{good_contents, apart, housed, good_folder}
use Rattle.files.specs.Sound.{sound_file, unused_place, sound_place, alone, unused_folder, folder_alone, sound_folder, sound_home}
use Rattle.files.proofs.Blank.{unused-blank, unused-folder}
use Rattle.files.proofs.Checks.{both, join, each, all}
use Rattle.files.proofs.Extents.{used-is, start-next}
use Rattle.files.proofs.Parts.{part_length}
use Rattle.files.proofs.Sought.{seek-low, seek_found}
use Rattle.files.proofs.Folders.{folder-good}
use Rattle.files.proofs.Walks.{stood, is-standing, walk_none, walk-on, walk-low, Parts, parts, is-parted}
use Rattle.files.proofs.Lists.{count-cyclic, parted-used}
use Rattle.files.proofs.Kept.{Filed, filed, is-filed, file-sound, PartedIn}
use Rattle.rules.specs.declared.Credential.{Credential}
use Rattle.rules.specs.declared.Session.{Session}
use Rattle.rules.specs.declared.Journal.{Journal}
use Rattle.rules.specs.declared.Card.{Card}
use Rattle.rules.specs.Words.{all_of, byte}
use Rattle.rules.specs.State.{marked, value_of, journal_of}
use Rattle.rules.specs.Sound.{good_pin, is_key, good_value, sound_value, good_challenge, sound_challenge, sound_response, sound}
use Rattle.rules.proofs.Checks.{one_of, either}
use Rattle.rules.proofs.Targets.{some-lies, lies-there}
use Rattle.rules.proofs.Good.{said-short, Credited, responded, sound-good, sound-parted, sound-both}
use Rattle.demands.specs.Held.{file_no, IsFile, bytes_no, folder_no, IsFolder, tag_of, Within, right_no, credential_no}
use Rattle.demands.proofs.Named.{one-sfi, one-fid}
use Rattle.demands.proofs.View.{size_is, start_is, bytes-are}
use Rattle.served.specs.Left.{wait_no}
use Rattle.served.specs.Sound.{SoundCredential, SoundFile, Parted, nothing_left, one_more, SoundFiles, SoundFolder, SoundFolders, Sound, SoundBothWays}
use Rattle.served.proofs.View.{extent-length, parted-sound}
use Rattle.served.proofs.Credentials.{le-to, to_le}
use Rattle.served.proofs.Calls.{pin-to, to-pin}
use Rattle.served.proofs.Create.{right-to, to-right, contents-to, to-contents, apart-to, to-apart}

-- ---- unused bytes
all-zero : (l : List ℕ) → all_of is_zero l ≡ true → (i : ℕ) → get_or l i 0 ≡ 0
unfolding all_of
all-zero [] h i = refl
all-zero (b ∷ l) h zero = eqb-true b 0 (both (is_zero b) (all_of is_zero l) h).0
all-zero (b ∷ l) h (suc i) = all-zero l (both (is_zero b) (all_of is_zero l) h).1 i

zero-all : (l : List ℕ) → ((i : ℕ) → get_or l i 0 ≡ 0) → all_of is_zero l ≡ true
unfolding all_of
zero-all [] h = refl
zero-all (b ∷ l) h = join (eq-eqb b 0 (h 0)) (zero-all l (λ i. h (suc i)))

rest-to : (n : ℕ) (l : List ℕ) → all_of is_zero (drop n l) ≡ true → (i : ℕ) → n ≤ i → byte l i ≡ 0
rest-to n l h i m =
    let e : n + (i - n) ≡ i = omega arith in
    subst (λ j. get_or l j 0 ≡ 0) e (sym (get_or-drop n l (i - n) 0) ∙ all-zero (drop n l) h (i - n))

to-rest : (n : ℕ) (l : List ℕ) → ((i : ℕ) → n ≤ i → byte l i ≡ 0) → all_of is_zero (drop n l) ≡ true
to-rest n l h = zero-all (drop n l) (λ i. get_or-drop n l i 0 ∙ h (n + i) (omega arith))

-- ---- a credential
is-key : (n : ℕ) → (n ≡ 0) ⊎ (n ≡ 3) → is_key n ≡ true
is-key n = ⊎_elim (λ z. rw z) (λ z. either (eqb n 0) (eq-eqb n 3 z))

no_key : (n : ℕ) → ((n ≡ 0) ⊎ (n ≡ 3) → ⊥) → is_key n ≡ false
no_key n o = rw (ne_eqb n 0 (λ z. o (inl z)), ne_eqb n 3 (λ z. o (inr z)))

module _ (n : ℕ) (x : Credential) (right : ℕ) where
  abbrev value-list : List Bool
  value-list = eqb (length x.value) 16 ∷ leb x.len 16 ∷ good_value n (value_of x) ∷ all_of is_zero (drop x.len x.value) ∷ []

  credential-to : Credited n x right → SoundCredential n x right
  unfolding sound_value good_value
  credential-to g =
      let e = each value-list g.value in
      let long : length x.value ≡ 16 = eqb-true _ _ e.0 in
      let few : x.len ≤ 16 = leb-true _ _ e.1.0 in
      let q = both (leb 1 x.tries.limit) (leb x.tries.limit 128) g.tries.limit in
      record {
        value = record { as_many = long; most = few; rest = rest-to x.len x.value e.1.1.1 };
        key = λ z. let k : eqb (length (take x.len x.value)) 16 ≡ true = rw (is-key n z) at e.1.1.0 in
            sym (length-take-le x.len x.value (omega (arith, few, long))) ∙ eqb-true _ _ k;
        pin = λ o. pin-to (take x.len x.value) (rw (no_key n o) at e.1.1.0);
        limit = (leb-true _ _ q.0, leb-true _ _ q.1);
        left = g.tries.few;
        right_kept = g.low;
        full = λ z. let k : eqb x.tries.left x.tries.limit ≡ true = rw (eq-eqb right 1 z) at g.tries.full in eqb-true _ _ k;
      }

  to-credential : SoundCredential n x right → Credited n x right
  unfolding sound_value good_value
  to-credential s = record {
    value =
        all value-list
        (eq-eqb _ _ s.value.as_many, (le-leb _ _ s.value.most, (good, to-rest x.len x.value s.value.rest)));
    tries = record {
      limit = join (le-leb 1 x.tries.limit s.limit.0) (le-leb x.tries.limit 128 s.limit.1);
      few = s.left;
      full =
          by_cases (ℕ_discrete right 1) (λ z. either (not (eqb right 1)) (eq-eqb _ _ (s.full z)))
          (λ o. rw (ne_eqb right 1 o));
    };
    low = s.right_kept;
  }
    where
      of-key : (n ≡ 0) ⊎ (n ≡ 3) → cond (is_key n) (eqb (length (take x.len x.value)) 16) (good_pin (take x.len x.value)) ≡ true
      of-key z = rw (is-key n z) (eq-eqb (length (take x.len x.value)) 16 (length-take-le x.len x.value (omega (arith, s.value.most, s.value.as_many)) ∙ s.key z))

      good : cond (is_key n) (eqb (length (take x.len x.value)) 16) (good_pin (take x.len x.value)) ≡ true
      good =
          by_cases (ℕ_discrete n 0) (λ z. of-key (inl z))
          (λ o. by_cases (ℕ_discrete n 3) (λ z. of-key (inr z))
          (λ m. let neither : (n ≡ 0) ⊎ (n ≡ 3) → ⊥ = ⊎_elim o m in rw (no_key n neither) (to-pin (take x.len x.value) (s.pin neither))))

-- ---- a file
module _ (f : File) where
  held_to : sound_held f ≡ true → (f.kind ≡ 0x2E → (f.held ≤ f.size1) × (f.newest < f.size1) × (f.held ≡ 0 → f.newest ≡ 0))
  unfolding sound_held
  held_to h e =
      let k : eqb f.kind cyclic ≡ true = eq-eqb _ _ e in
      let n = count-cyclic f k in
      let q = each (leb f.held (count f) ∷ ltb f.newest (count f) ∷ (not (is_zero f.held) || is_zero f.newest) ∷ []) (rw k at h) in (
        rw (← n) (leb-true f.held (count f) q.0),
        rw (← n) (ltb-true f.newest (count f) q.1.0),
        λ z. let y : is_zero f.newest ≡ true = rw (eq-eqb f.held 0 z) at q.1.1 in eqb-true _ _ y,
      )

  plain-to : sound_held f ≡ true → (f.kind ≡ 0x2E → ⊥) → (f.held ≡ 0) × (f.newest ≡ 0)
  unfolding sound_held
  plain-to h o =
      let q = both (is_zero f.held) (is_zero f.newest) (rw (ne_eqb f.kind cyclic o) at h) in (eqb-true _ _ q.0, eqb-true _ _ q.1)

  to_held : SoundFile f → sound_held f ≡ true
  unfolding sound_held
  to_held s =
      by_cases (ℕ_discrete f.kind 0x2E)
      (λ e. let k : eqb f.kind cyclic ≡ true = eq-eqb _ _ e in
      let n = count-cyclic f k in
      let q = s.cyclic e in
      rw (k, n)
      (join (le-leb f.held f.size1 q.0)
      (join (lt-ltb f.newest f.size1 q.1)
      (by_cases (ℕ_discrete f.held 0) (λ z. either (not (is_zero f.held)) (eq-eqb _ _ (q.2 z))) (λ z. rw (ne_eqb f.held 0 z))))))
      (λ o. let q = s.not-cyclic o in rw (ne_eqb f.kind cyclic o) (join (eq-eqb f.held 0 q.0) (eq-eqb f.newest 0 q.1)))

  file-to : sound_file f ≡ true → SoundFile f
  unfolding sound_file sound_used bytes_used
  file-to h =
      let e = each (good_sfi (sfi f) ∷ good_contents f ∷ sound_held f ∷ sound_used f ∷ []) h in
      let q = both (leb 1 (sfi f)) (leb (sfi f) 30) e.0 in
      record {
        sfi = (leb-true _ _ q.0, leb-true _ _ q.1);
        contents = contents-to f e.1.0;
        cyclic = held_to e.1.1.0;
        not-cyclic = plain-to e.1.1.0;
        variable = λ z. let v : is_variable f ≡ true = eq-eqb _ _ z in
            let k : leb (bytes_used f) (size f) ≡ true = rw v at e.1.1.1 in rw (size_is f) (leb-true _ _ k);
        not-variable = λ o. let k : is_zero (bytes_used f) ≡ true = rw (ne_eqb f.kind 0x2C o) at e.1.1.1 in eqb-true _ _ k;
      }

  to-file : SoundFile f → sound_file f ≡ true
  unfolding sound_file sound_used bytes_used
  to-file s =
      all (good_sfi (sfi f) ∷ good_contents f ∷ sound_held f ∷ sound_used f ∷ [])
      (join (le-leb 1 (sfi f) s.sfi.0) (le-leb (sfi f) 30 s.sfi.1), (to-contents f s.contents, (to_held s, used-now)))
    where
      used-now : cond (is_variable f) (leb (bytes_used f) (size f)) (is_zero (bytes_used f)) ≡ true
      used-now =
          by_cases (ℕ_discrete f.kind 0x2C)
          (λ e. let v : is_variable f ≡ true = eq-eqb _ _ e in rw v (le-leb (bytes_used f) (size f) (rw (size_is f) at (s.variable e))))
          (λ o. rw (ne_eqb f.kind 0x2C o) (eq-eqb (bytes_used f) 0 (s.not-variable o)))

-- an unused place
to-unused : (f : File) → f ≡ blank_file → unused_place f ≡ true
unfolding unused_place
to-unused f e = rw e

-- ---- a directory
folder-to : (x : Folder) → good_folder x ≡ true → SoundFolder (tag_of x)
unfolding good_folder
folder-to x h =
    let e = both (good_sfi (folder_fid x % 32)) (good_rights x.right) h in
    let q = both (leb 1 (folder_fid x % 32)) (leb (folder_fid x % 32) 30) e.0 in
    record { fid = (leb-true _ _ q.0, leb-true _ _ q.1); right = right-to x.right e.1 }

to-folder : (x : Folder) → SoundFolder (tag_of x) → good_folder x ≡ true
unfolding good_folder
to-folder x s = join (join (le-leb 1 (folder_fid x % 32) s.fid.0) (le-leb (folder_fid x % 32) 30 s.fid.1)) (to-right x.right s.right)

to-blank : (x : Folder) → x ≡ blank_folder → unused_folder x ≡ true
unfolding unused_folder
to-blank x e = rw e

-- ---- lengths part the used bytes
module _ (used : ℕ) (x : List ℕ) (long : used ≤ length x) where
  -- the used bytes from a length byte on
  cut : (at : ℕ) → at < used → drop at (take used x) ≡ length_at x at ∷ drop (at + 1) (take used x)
  cut at l =
      let e : at + 1 ≡ suc at = omega arith in
      rw e
      (drop-cons (take used x) at 0 (rw (length-take-le used x long) l) ∙ ap (λ b. b ∷ drop (suc at) (take used x)) (get_or-take used x at 0 l))

  left-length : (at : ℕ) → length (drop at (take used x)) ≡ used - at
  left-length at = length-drop at (take used x) ∙ ap (λ n. n - at) (length-take-le used x long)

  parted-from : (m : ℕ) → Parts used x m → (r j : ℕ) → r + j ≡ m → Parted (drop (walk used x j) (take used x))
  parted-from m w zero j e =
      let q : j ≡ m = omega arith in
      let none : drop (walk used x j) (take used x) ≡ [] = rw (q, w.ends) (ap (λ i. drop i (take used x)) (sym (length-take-le used x long)) ∙ drop-length (take used x)) in
      rw none nothing_left
  parted-from m w (suc r) j e =
      let s = w.stand j (omega arith) in
      let t = stood used x (walk used x j) s in
      let at : ℕ = walk used x j in
      let next : drop (length_at x (walk used x j)) (drop (walk used x j + 1) (take used x)) ≡ drop (walk used x (suc j)) (take used x) =
      drop-drop (length_at x (walk used x j)) (walk used x j + 1) (take used x) ∙ ap (λ i. drop i (take used x)) (sym (walk-on used x j s)) in
      rw (cut (walk used x j) (omega (arith, t.ends)))
      (one_more (length_at x (walk used x j)) (drop (walk used x j + 1) (take used x)) t.some t.most (omega (arith, t.ends, left-length (walk used x j + 1)))
      (rw next (parted-from m w r (suc j) (omega (arith, e)))))

  -- and the other way
  from-parted : (bytes : List ℕ) → Parted bytes → (j : ℕ) → bytes ≡ drop (walk used x j) (take used x) → ((k : ℕ) → k < j → stands used x (walk used x k) ≡ true) → parted used x ≡ true
  from-parted bytes nothing_left j e stand =
      let n = ap length e ∙ left-length (walk used x j) in
      is-parted used x j (record { stand = stand; ends = omega (arith, n, walk-low used x j) })
  from-parted bytes (one_more b more some most room p) j e stand =
      let at : ℕ = walk used x j in
      let n = ap length e ∙ left-length (walk used x j) in
      let in-used : walk used x j < used = omega (arith, n) in
      let both-are : b ∷ more ≡ length_at x (walk used x j) ∷ drop (walk used x j + 1) (take used x) = e ∙ cut (walk used x j) in-used in
      let head : b ≡ length_at x (walk used x j) = ap (λ (l : List ℕ). get_or l 0 0) both-are in
      let tail : more ≡ drop (walk used x j + 1) (take used x) = ap (λ (l : List ℕ). drop 1 l) both-are in
      let m = ap length tail ∙ left-length (walk used x j + 1) in
      let s : stands used x (walk used x j) ≡ true =
      is-standing used x (walk used x j) (record { some = rw (← head) some; most = rw (← head) most; ends = omega (arith, head, room, m, in-used) }) in
      let next : drop b more ≡ drop (walk used x (suc j)) (take used x) =
      ap (drop b) tail ∙ drop-drop b (walk used x j + 1) (take used x) ∙ ap (λ i. drop i (take used x)) (ap (λ i. walk used x j + 1 + i) head ∙ sym (walk-on used x j s)) in
      from-parted (drop b more) p (suc j) next
      (λ k l. by_cases (ℕ_discrete k j) (λ q. rw q s) (λ o. stand k (omega (arith, o, l))))

-- ---- the files of a card
used-is-count : (c : Card) → c.directory.count ≤ 16 → used c.directory ≡ c.directory.count
used-is-count c l = used-is c.directory l

module _ (c : Card) (area : List ℕ) (h : sound c area ≡ true) where
  abbrev d : Directory
  d = c.directory

  notes-parted : (n : ℕ) → IsFile c n → (file_no c n).kind ≡ 0x2C → SoundFile (file_no c n) → Parted (take ((file_no c n).used1 * 256 + (file_no c n).used2) (bytes_no c area n))
  unfolding bytes_used
  notes-parted n t e s =
      let f = file_no c n in
      let x = extent d n area in
      let long : bytes_used f ≤ length x = omega (arith, s.variable e, size_is f, extent-length c area h n t) in
      let w = parts (bytes_used f) x (parted-used f x (eq-eqb _ _ e) (parted-sound c area h n t)) in
      let m : ℕ = standing (bytes_used f) x (bytes_used f) in
      let every_one = parted-from (bytes_used f) x long m w m 0 (omega arith) in
      rw (bytes-are c area n) (subst (λ at. Parted (drop at (take (bytes_used f) x))) (walk_none (bytes_used f) x) every_one)

  home : (i : ℕ) → i < c.directory.count → (housed c.directory (file_at c.directory.files i) ≡ true) × (apart c.directory (file_at c.directory.files i) ≡ true)
  home i l = both (housed d (file_at d.files i)) (apart d (file_at d.files i)) ((filed d (sound-good c area h).directory).each-home i l)

  folders-to : SoundFolders c
  unfolding sound_folder
  folders-to =
      let g = (filed d (sound-good c area h).directory).folders in
      record {
        places = g.places;
        few = g.few;
        each = λ n t. folder-to (folder_no c n) (folder-good d.folders d.number g (n - 1) (omega (arith, t.first, t.last)));
        unused = λ n l m. unused-folder (folder_no c n) (rw (le-ltb (n - 1) d.number (omega (arith, l))) at (g.each-folder (n - 1) (omega (arith, l, m))));
        one-fid = λ n m tn tm e.
            let q = one-fid d (sound-good c area h).directory (n - 1) (m - 1) (omega (arith, tn.first, tn.last)) (omega (arith, tm.first, tm.last)) e in
            omega (arith, q, tn.first, tm.first);
        no-file = λ n m t w e. apart-to c area h (file_no c m) (home (m - 1) (omega (arith, w.there.first, w.there.last))).1 w.lies n t e;
      }

  files-to : SoundFiles c area
  files-to =
      let g = filed d (sound-good c area h).directory in
      let p = sound-parted c area h in
      let u = used-is-count c g.few in
      let ends = start_is d.files d.count in
      let each-file : (n : ℕ) → IsFile c n → SoundFile (file_no c n) = λ n t. file-to (file_no c n) (file-sound d g (n - 1) (omega (arith, t.first, t.last))) in
      record {
        places = g.places;
        few = g.few;
        room = rw ends g.room;
        inside = rw ends (subst (λ n. start_at d.files n ≤ length area) u p.room);
        each = each-file;
        unused = λ n l m. unused-blank (file_no c n) (rw (le-ltb (n - 1) d.count (omega (arith, l))) at (g.each-place (n - 1) (omega (arith, l, m))));
        housed = λ n t. leb-true _ _ (home (n - 1) (omega (arith, t.first, t.last))).0;
        one-sfi = λ folder n m tn tm e.
            let q = one-sfi d (sound-good c area h).directory (n - 1) (m - 1) (omega (arith, tn.there.first, tn.there.last)) (omega (arith, tm.there.first, tm.there.last))
            (tn.lies ∙ sym tm.lies, e) in
            omega (arith, q, tn.there.first, tm.there.first);
        parted = λ n t e. notes-parted n t e (each-file n t);
      }

module _ (c : Card) (area : List ℕ) (s : SoundFiles c area) (x : SoundFolders c) where
  abbrev dir : Directory
  dir = c.directory

  is-file : (i : ℕ) → i < c.directory.count → IsFile c (i + 1)
  is-file i l = record { first = omega arith; last = omega (arith, l) }

  back_one : (i : ℕ) → file_no c (i + 1) ≡ file_at c.directory.files i
  back_one i = let e : i + 1 - 1 ≡ i = omega arith in rw e

  each-place : (i : ℕ) → i < 16 → sound_place c.directory i ≡ true
  each-place i l =
      by_cases (dec_lt i dir.count) (λ m. rw (lt-ltb i dir.count m) (subst (λ (f : File). sound_file f ≡ true) (back_one i) (to-file (file_no c (i + 1)) (s.each (i + 1) (is-file i m)))))
      (λ m. rw (le-ltb i dir.count (omega arith)) (to-unused (file_at dir.files i) (sym (back_one i) ∙ s.unused (i + 1) (omega arith) (omega arith))))

  each-alone : (i : ℕ) → i < c.directory.count → alone c.directory.files i ≡ true
  each-alone i l =
      let f = file_at dir.files i in
      let p = here (of_sfi f.folder (sfi f)) dir.files in
      by_cases (ℕ_discrete (seek p i) 0) (λ e. eq-eqb _ _ e)
      (λ o. let some : 1 ≤ seek p i = omega (arith, o) in
      let low = seek-low p i in
      let m : ℕ = seek p i - 1 in
      let same = both (eqb (file_at dir.files m).folder f.folder) (eqb (sfi (file_at dir.files m)) (sfi f)) (seek_found p i some) in
      let in-m : Within c f.folder (m + 1) = record { there = is-file m (omega (arith, some, low, l)); lies = ap (λ (y : File). y.folder) (back_one m) ∙ eqb-true _ _ same.0 } in
      let in-i : Within c f.folder (i + 1) = record { there = is-file i l; lies = ap (λ (y : File). y.folder) (back_one i) } in
      let q = s.one-sfi f.folder (m + 1) (i + 1) in-m in-i (ap sfi (back_one m) ∙ eqb-true _ _ same.1 ∙ sym (ap sfi (back_one i))) in
      absurd (omega (arith, q, some, low)))

  -- directories
  is-folder : (i : ℕ) → i < c.directory.number → IsFolder c (i + 1)
  is-folder i l = record { first = omega arith; last = omega (arith, l) }

  folder-back : (i : ℕ) → folder_no c (i + 1) ≡ folder_at c.directory.folders i
  folder-back i = let e : i + 1 - 1 ≡ i = omega arith in rw e

  alone-folder : (i : ℕ) → i < c.directory.number → folder_alone c.directory.folders i ≡ true
  alone-folder i l =
      let p = folder_here (folder_fid (folder_at dir.folders i)) dir.folders in
      by_cases (ℕ_discrete (seek p i) 0) (λ e. eq-eqb _ _ e)
      (λ o. let some : 1 ≤ seek p i = omega (arith, o) in
      let low = seek-low p i in
      let m : ℕ = seek p i - 1 in
      let q = x.one-fid (m + 1) (i + 1) (is-folder m (omega (arith, some, low, l))) (is-folder i l)
      (ap folder_fid (folder-back m) ∙ eqb-true _ _ (seek_found p i some) ∙ sym (ap folder_fid (folder-back i))) in
      absurd (omega (arith, q, some, low)))

  each-folder : (i : ℕ) → i < 4 → sound_folder c.directory.folders c.directory.number i ≡ true
  unfolding sound_folder
  each-folder i l =
      by_cases (dec_lt i dir.number)
      (λ m. rw (lt-ltb i dir.number m)
      (join (subst (λ (y : Folder). good_folder y ≡ true) (folder-back i) (to-folder (folder_no c (i + 1)) (x.each (i + 1) (is-folder i m)))) (alone-folder i m)))
      (λ m. rw (le-ltb i dir.number (omega arith)) (to-blank (folder_at dir.folders i) (sym (folder-back i) ∙ x.unused (i + 1) (omega arith) (omega arith))))

  each-home : (i : ℕ) → i < c.directory.count → sound_home c.directory i ≡ true
  each-home i l =
      let f = file_at dir.files i in
      let e = back_one i in
      let t = is-file i l in
      join (le-leb f.folder dir.number (subst (λ (y : File). y.folder ≤ dir.number) e (s.housed (i + 1) t)))
      (to-apart c f
      (λ z n there q. x.no-file n (i + 1) there (record { there = t; lies = ap (λ (y : File). y.folder) e ∙ z }) (q ∙ sym (ap fid e))))

  filed-back : Filed c.directory
  filed-back = record {
    places = s.places;
    few = s.few;
    room = rw (← start_is dir.files dir.count) s.room;
    each-place = each-place;
    each-sfi = each-alone;
    folders = record { places = x.places; few = x.few; each-folder = each-folder };
    each-home = each-home;
  }

  lies-inside : (n : ℕ) → IsFile c n → start c.directory n + size (file_no c n) ≤ length area
  lies-inside n t =
      let e = start-next dir.files (n - 1) dir.count (omega (arith, t.first, t.last)) in
      omega (arith, e, s.inside, start_is dir.files dir.count)

  whole : (n : ℕ) → IsFile c n → length (extent c.directory n area) ≡ size (file_no c n)
  unfolding extent
  whole n t = part_length (start dir n) (size (file_no c n)) area (lies-inside n t)

  file-parted : (n : ℕ) → IsFile c n → (b : Bool) → is_variable (file_no c n) ≡ b → (not b || parted (bytes_used (file_no c n)) (extent c.directory n area)) ≡ true
  unfolding bytes_used
  file-parted n t false v = refl
  file-parted n t true v =
      let f = file_no c n in
      let x = extent dir n area in
      let kind : f.kind ≡ 0x2C = eqb-true _ _ v in
      let long : bytes_used f ≤ length x = omega (arith, (s.each n t).variable kind, size_is f, whole n t) in
      from-parted (bytes_used f) x long (take (bytes_used f) x) (rw (bytes-are c area n) at (s.parted n t kind)) 0
      (ap (λ at. drop at (take (bytes_used f) x)) (sym (walk_none (bytes_used f) x))) (λ k l. absurd (omega arith))

  parted-back : PartedIn c.directory area
  unfolding parted_file
  parted-back =
      let u = used-is-count c s.few in
      record {
        room = subst (λ n. start_at dir.files n ≤ length area) (sym u) (rw (← start_is dir.files dir.count) s.inside);
        each-parted = λ n some low. file-parted n (record { first = some; last = omega (arith, low, u) }) (is_variable (file_no c n)) refl;
      }

-- ---- all of it
said-to : (n : ℕ) → (is_zero n || good_challenge n) ≡ true → (n ≡ 0) ⊎ ((n ≡ 4) ⊎ ((n ≡ 8) ⊎ (n ≡ 16)))
said-to n h = one_of (is_zero n) (good_challenge n) h (λ e. inl (eqb-true _ _ e)) (λ q. inr (le-to n q))

to-said : (n : ℕ) → (n ≡ 0) ⊎ ((n ≡ 4) ⊎ ((n ≡ 8) ⊎ (n ≡ 16))) → (is_zero n || good_challenge n) ≡ true
to-said n = ⊎_elim (λ e. rw e) (λ q. either (is_zero n) (to_le n q))

waits-none : (c : Card) → {area : List ℕ} → Sound c area → (marked c.response.mode || is_zero (wait_no c)) ≡ true
waits-none c s =
    by_cases (ℕ_discrete c.response.mode 1) (λ e. rw (eq-eqb c.response.mode 1 e))
    (λ o. either (marked c.response.mode) (eq-eqb _ _ (s.none-wait (omega (arith, s.mode, o)))))

challenge-list : Session → List Bool
challenge-list x = eqb (length x.challenge) 16 ∷ (is_zero x.len || good_challenge x.len) ∷ all_of is_zero (drop x.len x.challenge) ∷ []

pub sound-both-ways : SoundBothWays
unfolding sound_challenge sound_response challenge-list
sound-both-ways c area = (
  λ h.
      let g = sound-good c area h in
      let e = each (challenge-list c.session) g.challenge in
      let r = responded c.response g.response in
      let len = said-to c.session.len e.1.0 in
      record {
        four = g.all_there;
        three-rights = g.all-kept;
        credentials = λ n l. credential-to n (credential_no c n) (right_no c n) (g.credited n l);
        files = files-to c area h;
        folders = folders-to c area h;
        current = g.current;
        current-folder = g.folder;
        current-lies = lies-there c.directory c.session.current c.session.folder g.lies;
        challenge = record { as_many = eqb-true _ _ e.0; most = said-short c.session.len e.1.0; rest = rest-to c.session.len c.session.challenge e.1.1 };
        challenge-length = len;
        mode = leb-true _ _ r.mode;
        waiting = record { as_many = r.size; most = r.few; rest = rest-to (wait_no c) c.response.bytes r.rest };
        none-wait = λ z.
            one_of (marked c.response.mode) (is_zero (wait_no c)) r.none (λ t. absurd (omega (arith, z, eqb-true c.response.mode 1 t))) (λ t. eqb-true _ _ t);
        no-journal = (ap (λ (j : Journal). j.what) g.journal, ap (λ (j : Journal). j.bytes) g.journal);
      },
  λ s.
      sound-both c area
      (record {
        all_there = s.four;
        all-kept = s.three-rights;
        credited = λ n l. to-credential n (credential_no c n) (right_no c n) (s.credentials n l);
        directory = is-filed c.directory (filed-back c area s.files s.folders);
        current = s.current;
        folder = s.current-folder;
        lies = some-lies c.directory c.session.current c.session.folder s.current-lies;
        challenge = all (challenge-list c.session) (eq-eqb _ _ s.challenge.as_many, (to-said c.session.len s.challenge-length, to-rest c.session.len c.session.challenge s.challenge.rest));
        response =
            all
            (eqb (length c.response.bytes) 256 ∷ leb c.response.mode 1 ∷ leb (wait_no c) 256 ∷ (marked c.response.mode || is_zero (wait_no c))
            ∷ all_of is_zero (drop (wait_no c) c.response.bytes) ∷ [])
            (eq-eqb _ _ s.waiting.as_many, (le-leb _ _ s.mode, (le-leb _ _ s.waiting.most, (waits-none c s, to-rest (wait_no c) c.response.bytes s.waiting.rest))));
        journal = ap₂ journal_of s.no-journal.0 s.no-journal.1;
      }) (parted-back c area s.files s.folders),
)
