-- CREATE FILE: a file, or a directory.
use Prim.Native.Nat.{ℕ, ◌+◌, ◌-◌, ◌*◌, ◌/◌, ◌%◌, ◌≤◌, ◌<◌}
use mathlib.Core.Bool.{Bool, true, false, cond, ◌&&◌, ◌||◌, not}
use mathlib.Core.List.{List, [], ◌∷◌}
use mathlib.Core.Logic.{◌⊎◌, inl, inr, ⊎_elim, by_cases}
use mathlib.Core.Path.{◌≡◌, refl, sym, ap, ◌∙◌, subst}
use native.Mathlib.Decide.{ℕ_discrete}
use native.Mathlib.Omega.{arith}
use lib.Dec.{eqb, leb, ltb}
use lib.ListN.{length, replicate, length-replicate}
use lib.Seq.{get_or-set_same, get_or-set_other}
use borrow.Author.Tests.{eqb-true, eqb-false, eq-eqb, ne_eqb, leb-true, le-leb, ltb-true, lt-ltb, not-true}
use Rattle.files.specs.declared.File.{File}
use Rattle.files.specs.declared.Folder.{Folder}
use Rattle.files.specs.declared.Directory.{Directory}
use Rattle.files.specs.Words.{is_zero}
use Rattle.files.specs.Part.{part, splice, zeros}
use Rattle.files.specs.State.{blank_folder, new_file, in_folder, emptied, new_folder, one_more_folder}
use Rattle.files.specs.Types.{fixed, cyclic, is_variable, sized_in_bytes, has_records, good_length, count, record_length, size, good_shape}
use Rattle.files.specs.Rights.{never, good_rights, good_file_rights}
use Rattle.files.specs.Directory.{fid, sfi, good_sfi, used, file, extent, end, find_fid, find_sfi, folder, find_folder}
use Rattle.files.specs.Create.{good_contents, apart, name_unused, room, created, creates, fid_unused, folder_room, founded}
use Rattle.files.proofs.Checks.{clash, both, join, each, all, split}
use Rattle.files.proofs.Extents.{count-bytes, size-bytes, count-records, length-records, used-is}
use Rattle.files.proofs.Parts.{byte-apart}
use Rattle.files.proofs.Stays.{new-file, new-zero, old-file, old-extent}
use Rattle.files.proofs.Making.{makes as made_in}
use Rattle.files.proofs.Kept.{filed}
use Rattle.rules.specs.declared.Card.{Card}
use Rattle.rules.specs.declared.Ins.TheVariants.{CreateFile}
use Rattle.rules.specs.Words.{unless, first, byte}
use Rattle.rules.specs.State.{Which, device, admin, user, transport, number_of}
use Rattle.rules.specs.Sound.{sound}
use Rattle.rules.specs.Frame.{Command, framed, p, lc}
use Rattle.rules.specs.Target.{opens}
use Rattle.rules.specs.Effect.{makes, founds, Stepped}
use Rattle.rules.specs.Create.{file_given, is_folder, folder_given, good_folder_given, creation_right, create_checks, making, founding, create_deed}
use Rattle.rules.specs.List.{find, rows, rule}
use Rattle.rules.specs.Step.{did, checks, effect_of, kept, step}
use Rattle.rules.proofs.Checks.{Passed, passed, one_of, either}
use Rattle.rules.proofs.Good.{Good, sound-good}
use Rattle.rules.proofs.Asked.{create-asked}
use Rattle.demands.specs.Held.{file_no, start_no, bytes_no, IsFolder, tag_of, tag_no, Within, right_no, Opens, MayCreate, bit_of, HeldOn, label_of, bytes_used}
use Rattle.demands.specs.Ledger.{size_of, fid_of_tag}
use Rattle.demands.proofs.Named.{the-sfi, found-sfi, the-fid, found-fid, the-folder, found-folder, opens-asked, asked-opens}
use Rattle.demands.proofs.View.{size_is, start_is, bytes-in}
use Rattle.served.specs.Answers.{GoodSize, GoodRight, GoodFileRight, FileFree, FolderFree, FolderGiven, FileMade, FolderMade, CreateFileAnswers, GoodContents}
use Rattle.served.specs.Answers as answers
use Rattle.served.proofs.Steps.{Settled, word, Rest, Runs, by_name, serves, check}

-- ---- what is good of a file
pub right-to : (b : ℕ) → good_rights b ≡ true → GoodRight b
unfolding good_rights
right-to b h =
    one_of (eqb b never) (is_zero (b / 4 % 16) && not (eqb b 2)) h (λ e. inl (eqb-true _ _ e))
    (λ q. let e = both (is_zero (b / 4 % 16)) (not (eqb b 2)) q in inr (eqb-true _ _ e.0, eqb-false _ _ (not-true (eqb b 2) e.1)))

pub to-right : (b : ℕ) → GoodRight b → good_rights b ≡ true
unfolding good_rights
to-right b =
    ⊎_elim (λ e. rw (eq-eqb b never e)) (λ q. either (eqb b never) (join (eq-eqb (b / 4 % 16) 0 q.0) (rw (ne_eqb b 2 q.1))))

-- a file's: what is left without bit 3 is good
twice : (n : ℕ) → 2 * n % 16 ≡ 0 → n % 8 ≡ 0
twice n e = let q : 2 * n / 16 ≡ n / 8 = omega arith in omega arith

twice-back : (n : ℕ) → n % 8 ≡ 0 → 2 * n % 16 ≡ 0
twice-back n e = let q : 2 * n / 16 ≡ n / 8 = omega arith in omega arith

module _ (b : ℕ) where
  -- bit 3 clear, and set
  plain-half : b / 4 % 2 ≡ 0 → b / 4 ≡ 2 * (b / 8)
  plain-half z = omega arith

  coded-half : b / 4 % 2 ≡ 1 → (b - 4) / 4 ≡ 2 * (b / 8)
  coded-half z = omega arith

  plain-left : b / 4 % 2 ≡ 0 → b - 4 * (b / 4 % 2) ≡ b
  plain-left z = omega arith

  coded-left : b / 4 % 2 ≡ 1 → b - 4 * (b / 4 % 2) ≡ b - 4
  coded-left z = omega arith

  file-right-to : good_file_rights b ≡ true → GoodFileRight b
  unfolding good_file_rights
  file-right-to h =
      one_of (eqb b never) (good_rights (b - 4 * (b / 4 % 2))) h (λ e. inl (eqb-true _ _ e))
      (λ q. by_cases (ℕ_discrete (b / 4 % 2) 0)
      (λ z. ⊎_elim inl (λ g. inr (twice (b / 8) (rw (plain-half z) at g.0), g.1, λ e. omega (arith, z, e))) (right-to b (rw (plain-left z) at q)))
      (λ o. let one : b / 4 % 2 ≡ 1 = omega (arith, o) in
      ⊎_elim (λ e. absurd (omega (arith, e, one)))
      (λ g. let two = g.1 in inr (twice (b / 8) (rw (coded-half one) at g.0), (λ e. omega (arith, e, one)), λ e. two (omega (arith, e)))) (right-to (b - 4) (rw (coded-left one) at q))))

  to-file-right : GoodFileRight b → good_file_rights b ≡ true
  unfolding good_file_rights
  to-file-right =
      ⊎_elim (λ e. rw (eq-eqb b never e))
      (λ g. either (eqb b never)
      (by_cases (ℕ_discrete (b / 4 % 2) 0)
      (λ z. rw (plain-left z) (to-right b (inr (rw (plain-half z) (twice-back (b / 8) g.0), g.1))))
      (λ o. let one : b / 4 % 2 ≡ 1 = omega (arith, o) in
      let six = g.2 in
      rw (coded-left one) (to-right (b - 4) (inr (rw (coded-half one) (twice-back (b / 8) g.0), λ e. six (omega (arith, e, one))))))))

-- a size in bytes
in_bytes : (f : File) → sized_in_bytes f ≡ true → count f ≡ size_of (label_of f)
in_bytes f h = count-bytes f h ∙ sym (size-bytes f h) ∙ sym (size_is f)

to-shape : (f : File) → GoodSize (label_of f) → good_shape f ≡ true
unfolding good_shape
to-shape f =
    ⊎_elim
    (λ q. let s : sized_in_bytes f ≡ true = rw q.0 in
    let v : is_variable f ≡ false = rw q.0 in
    rw (s, v, in_bytes f s) (join (le-leb 1 (size_of (label_of f)) q.1) (le-leb (size_of (label_of f)) 4096 q.2)))
    (⊎_elim
    (λ q. let s : sized_in_bytes f ≡ true = rw q.0 in
    let v : is_variable f ≡ true = rw q.0 in
    rw (s, v, in_bytes f s) (join (le-leb 2 (size_of (label_of f)) q.1) (le-leb (size_of (label_of f)) 4096 q.2)))
    (λ q. let s : sized_in_bytes f ≡ false = ⊎_elim (λ e. rw e) (λ e. rw e) q.0 in
    let r : has_records f ≡ true = ⊎_elim (λ e. rw e) (λ e. rw e) q.0 in
    rw (s, r, count-records f s, length-records f s)
    (join (le-leb 2 f.size1 q.1) (join (le-leb f.size1 254 q.2) (join (le-leb 1 f.size2 q.3) (le-leb f.size2 178 q.4))))))

kinds : (f : File) → sized_in_bytes f ≡ false → has_records f ≡ true → (f.kind ≡ 0x2A) ⊎ (f.kind ≡ 0x2E)
kinds f s h =
    one_of (eqb f.kind fixed) (eqb f.kind cyclic || is_variable f) h (λ e. inl (eqb-true _ _ e))
    (λ q. one_of (eqb f.kind cyclic) (is_variable f) q (λ e. inr (eqb-true _ _ e)) (λ v. clash (sized_in_bytes f) (either (eqb f.kind 0x28) v) s))

shape-to : (f : File) → good_shape f ≡ true → GoodSize (label_of f)
unfolding good_shape
shape-to f =
    split (λ t. t ≡ true → GoodSize (label_of f)) (sized_in_bytes f)
    (λ s h. let e = both (leb (cond (is_variable f) 2 1) (count f)) (leb (count f) 4096) h in
    one_of (eqb f.kind 0x28) (is_variable f) s
    (λ b. let kind : f.kind ≡ 0x28 = eqb-true _ _ b in
    let v : is_variable f ≡ false = rw kind in
    let least : leb 1 (count f) ≡ true = rw v at e.0 in
    inl (kind, rw (← in_bytes f s) (leb-true 1 (count f) least), rw (← in_bytes f s) (leb-true (count f) 4096 e.1)))
    (λ v. let least : leb 2 (count f) ≡ true = rw v at e.0 in
    inr (inl (eqb-true _ _ v, rw (← in_bytes f s) (leb-true 2 (count f) least), rw (← in_bytes f s) (leb-true (count f) 4096 e.1)))))
    (λ s h. let e = each (has_records f ∷ leb 2 (count f) ∷ leb (count f) 254 ∷ good_length (record_length f) ∷ []) h in
    let q = both (leb 1 (record_length f)) (leb (record_length f) 178) e.1.1.1 in
    let n = count-records f s in
    let m = length-records f s in
    inr (inr (kinds f s e.0, rw (← n) (leb-true 2 (count f) e.1.0), rw (← n) (leb-true (count f) 254 e.1.1.0), rw (← m) (leb-true 1 (record_length f) q.0), rw (← m) (leb-true (record_length f) 178 q.1))))

pub contents-to : (f : File) → good_contents f ≡ true → GoodContents (label_of f)
unfolding good_contents
contents-to f h =
    let e = each (good_shape f ∷ good_file_rights f.read ∷ good_file_rights f.write ∷ []) h in (shape-to f e.0, (file-right-to f.read e.1.0, file-right-to f.write e.1.1))

pub to-contents : (f : File) → GoodContents (label_of f) → good_contents f ≡ true
unfolding good_contents
to-contents f q = all (good_shape f ∷ good_file_rights f.read ∷ good_file_rights f.write ∷ []) (to-shape f q.0, (to-file-right f.read q.1.0, to-file-right f.write q.1.1))

-- ---- what is free on a card
-- nothing is found exactly where nothing has the name
none_found : (n : ℕ) → (1 ≤ n → ⊥) → is_zero n ≡ true
none_found n o = eq-eqb n 0 (omega (arith, o))

module _ (c : Card) where
  to-folder : (x : ℕ) → ((n : ℕ) → IsFolder c n → fid_of_tag (tag_no c n) ≡ x → ⊥) → is_zero (find_folder c.directory x) ≡ true
  to-folder x o = none_found (find_folder c.directory x) (λ some. let q = found-folder c x some in o (find_folder c.directory x) q.0 q.1)

  pub to-apart : (f : File) → (f.folder ≡ 0 → (n : ℕ) → IsFolder c n → fid_of_tag (tag_no c n) ≡ fid f → ⊥) → apart c.directory f ≡ true
  unfolding apart
  to-apart f o =
      by_cases (ℕ_discrete f.folder 0) (λ z. either (not (is_zero f.folder)) (to-folder (fid f) (o z))) (λ z. rw (ne_eqb f.folder 0 z))

module _ (c : Card) (area : List ℕ) (h : sound c area ≡ true) where
  abbrev good : Good c
  good = sound-good c area h

  -- no directory has a FID
  folder-to : (x : ℕ) → is_zero (find_folder c.directory x) ≡ true → (n : ℕ) → IsFolder c n → fid_of_tag (tag_no c n) ≡ x → ⊥
  folder-to x t n there e = omega (arith, eqb-true (find_folder c.directory x) 0 t, the-folder c good x n there e, there.first)

  -- the root's files and the directories have no FID together
  pub apart-to : (f : File) → apart c.directory f ≡ true → f.folder ≡ 0 → (n : ℕ) → IsFolder c n → fid_of_tag (tag_no c n) ≡ fid f → ⊥
  unfolding apart
  apart-to f t z = folder-to (fid f) (rw (eq-eqb f.folder 0 z) at t)

  -- a file in the current directory
  module _ (f : File) (n : ℕ) (home : f.folder ≡ c.session.folder) (named : fid f ≡ n) where
    pub unused-to : name_unused c.directory f ≡ true → FileFree c n
    unfolding name_unused
    unused-to t =
        let e = both (is_zero (find_sfi c.directory f.folder (sfi f))) (apart c.directory f) t in
        record {
          sfi-unused = λ m w q.
              let there : Within c f.folder m = record { there = w.there; lies = w.lies ∙ sym home } in
              omega (arith, eqb-true (find_sfi c.directory f.folder (sfi f)) 0 e.0, the-sfi c good f.folder (sfi f) m there (q ∙ sym (ap (λ x. x % 32) named)), w.there.first);
          no-directory = λ z m w. apart-to f e.1 (home ∙ z) m w.there (w.fid-is ∙ sym named);
        }

    pub to-unused : FileFree c n → name_unused c.directory f ≡ true
    unfolding name_unused
    to-unused o =
        join
        (none_found (find_sfi c.directory f.folder (sfi f))
        (λ some. let q = found-sfi c good f.folder (sfi f) some in
        o.sfi-unused (find_sfi c.directory f.folder (sfi f)) (record { there = q.0.there; lies = q.0.lies ∙ home }) (q.1 ∙ ap (λ x. x % 32) named)))
        (to-apart c f (λ z m t e. o.no-directory (sym home ∙ z) m (record { there = t; fid-is = e ∙ named })))

  module _ (x : ℕ) where
    pub fid-to : fid_unused c.directory x ≡ true → FolderFree c x
    unfolding fid_unused
    fid-to t =
        let e = both (is_zero (find_folder c.directory x)) (is_zero (find_fid c.directory 0 x)) t in
        record {
          no-directory = λ n w. folder-to x e.0 n w.there w.fid-is;
          no-file = λ n w q. omega (arith, eqb-true (find_fid c.directory 0 x) 0 e.1, the-fid c good 0 x n w q, w.there.first);
        }

    pub to-fid : FolderFree c x → fid_unused c.directory x ≡ true
    unfolding fid_unused
    to-fid o =
        join (to-folder c x (λ n t e. o.no-directory n (record { there = t; fid-is = e })))
        (none_found (find_fid c.directory 0 x) (λ some. let q = found-fid c good 0 x some in o.no-file (find_fid c.directory 0 x) q.0 q.1))

  end_is : start_no c (c.directory.count + 1) ≡ end c.directory
  end_is =
      let back : c.directory.count + 1 - 1 ≡ c.directory.count = omega arith in
      let u : used c.directory ≡ c.directory.count = used-is c.directory (filed c.directory (sound-good c area h).directory).few in
      rw (back, u) (start_is c.directory.files c.directory.count)

  pub room-to : (f : File) → room c.directory f ≡ true → (c.directory.count < 16) × (start_no c (c.directory.count + 1) + size_of (label_of f) ≤ 4096)
  unfolding room
  room-to f t =
      let e = both (ltb c.directory.count 16) (leb (end c.directory + size f) 4096) t in
      let m = leb-true (end c.directory + size f) 4096 e.1 in (ltb-true _ _ e.0, rw (end_is, size_is f) m)

  pub to_room : (f : File) → (c.directory.count < 16) × (start_no c (c.directory.count + 1) + size_of (label_of f) ≤ 4096) → room c.directory f ≡ true
  unfolding room
  to_room f q = join (lt-ltb c.directory.count 16 q.0) (le-leb (end c.directory + size f) 4096 (rw (end_is, size_is f) at q.1))

-- ---- the right: in the root the device right, which is the rights byte 01
device-byte : (c : Card) → right_no c 0 ≡ 1 → Opens (HeldOn c) 0x01
device-byte c h = record { all = λ z. go; any = λ z. absurd (omega (arith, z)); not-never = λ z. absurd (omega (arith, z)) }
  where
    go : (w : Which) → bit_of w 0x01 ≡ 1 → right_no c (number_of w) ≡ 1
    go device q = h
    go admin q = absurd (omega (arith, q))
    go user q = absurd (omega (arith, q))
    go transport q = absurd (omega (arith, q))

module _ (c : Card) (k : Command) where
  pub may-to : opens c (creation_right c) ≡ true → MayCreate (HeldOn c) c.session.folder (tag_no c c.session.folder).create
  unfolding creation_right
  may-to t = record {
    in-root = λ z. let q : opens c 0x01 ≡ true = rw (eq-eqb c.session.folder 0 z) at t in (opens-asked c 0x01 q).all refl device refl;
    inside = λ o. let q : opens c (tag_no c c.session.folder).create ≡ true = rw (ne_eqb c.session.folder 0 o) at t in opens-asked c (tag_no c c.session.folder).create q;
  }

  pub to-may : MayCreate (HeldOn c) c.session.folder (tag_no c c.session.folder).create → opens c (creation_right c) ≡ true
  unfolding creation_right
  to-may m =
      by_cases (ℕ_discrete c.session.folder 0) (λ z. rw (eq-eqb c.session.folder 0 z) (asked-opens c 0x01 (device-byte c (m.in-root z))))
      (λ o. rw (ne_eqb c.session.folder 0 o) (asked-opens c (tag_no c c.session.folder).create (m.inside o)))

  -- directories are made only in the root
  pub root-to : (not (is_folder k) || is_zero c.session.folder) ≡ true → byte k.given 0 ≡ 0x38 → c.session.folder ≡ 0
  root-to t z = one_of (not (is_folder k)) (is_zero c.session.folder) t (λ n. absurd (eqb-false _ _ (not-true (is_folder k) n) z)) (λ q. eqb-true _ _ q)

  pub to-root : (byte k.given 0 ≡ 0x38 → c.session.folder ≡ 0) → (not (is_folder k) || is_zero c.session.folder) ≡ true
  to-root f =
      by_cases (ℕ_discrete (byte k.given 0) 0x38) (λ z. either (not (is_folder k)) (eq-eqb _ _ (f z))) (λ o. rw (ne_eqb (byte k.given 0) 0x38 o))

  abbrev given-list : List Bool
  given-list = is_zero (byte k.given 1) ∷ is_zero (byte k.given 2) ∷ is_zero (byte k.given 4) ∷ good_rights (byte k.given 3) ∷ []

  pub given_to : good_folder_given k ≡ true → FolderGiven k.given
  unfolding good_folder_given
  given_to t =
      let e = each given-list t in
      record { zeros = (eqb-true _ _ e.0, (eqb-true _ _ e.1.0, eqb-true _ _ e.1.1.0)); right = right-to (byte k.given 3) e.1.1.1 }

  pub to-given : FolderGiven k.given → good_folder_given k ≡ true
  unfolding good_folder_given
  to-given g = all given-list (eq-eqb _ _ g.zeros.0, (eq-eqb _ _ g.zeros.1.0, (eq-eqb _ _ g.zeros.1.1, to-right (byte k.given 3) g.right)))

module _ (c : Card) (area cmd random : List ℕ) (r : Runs c area cmd random CreateFile) where
  abbrev k : Command
  k = framed cmd

  abbrev s : Stepped
  s = step c area cmd random

  abbrev d : Directory
  d = c.directory

  abbrev f : File
  f =
      in_folder c.session.folder
      (new_file k.p1 k.p2 (byte k.given 0) (byte k.given 1) (byte k.given 2) (byte k.given 3) (byte k.given 4))

  abbrev x : Folder
  x = new_folder (framed cmd).p1 (framed cmd).p2 (byte (framed cmd).given 3)

  word-is : word CreateFile c area (framed cmd) ≡ first (create_checks c (framed cmd))
  unfolding checks rule
  word-is = refl

  given_is : file_given c.session.folder (framed cmd) ≡ f
  unfolding file_given
  given_is = refl

  module _ (e : word CreateFile c area (framed cmd) ≡ 0x9000) where
    done : Settled c area (did c (create_deed c (framed cmd))) s
    unfolding effect_of rule
    done = serves r e

    asked : Passed (create_checks c (framed cmd))
    asked = passed (create_checks c (framed cmd)) (sym word-is ∙ e)

    -- a file
    module _ (other : byte (framed cmd).given 0 ≡ 0x38 → ⊥) where
      no-folder : is_folder (framed cmd) ≡ false
      no-folder = ne_eqb _ _ other

      settled : Settled c area (making c f) s
      unfolding file_given
      settled = subst (λ (b : Bool). Settled c area (did c (cond b (founds (folder_given k)) (makes (file_given c.session.folder k)))) s) no-folder done

      makes-it : creates c.directory f (length area) ≡ true
      makes-it =
          rw r.area-long
          (subst (λ (y : File). creates c.directory y 4096 ≡ true) given_is (create-asked c (framed cmd) (sound-good c area r.card-sound).folder no-folder asked))

      sixteen : length c.directory.files ≡ 16
      sixteen = (filed c.directory (sound-good c area r.card-sound).directory).places

      now : (m : ℕ) → bytes_no s.card s.area m ≡ extent (created d f) m (splice area (end d) (zeros (size f)))
      now m =
          bytes-in s.card.directory s.area m ∙ ap (λ (y : Directory). extent y m s.area) settled.directory-is
          ∙ ap (extent (created d f) m) settled.area-is

      one-file : (created d f).count ≡ d.count + 1
      unfolding created
      one-file = refl

      same-folders : (created d f).folders ≡ d.folders
      unfolding created
      same-folders = refl

      same_number : (created d f).number ≡ d.number
      unfolding created
      same_number = refl

      rest-stays : (j : ℕ) → (j < start_no c (c.directory.count + 1)) ⊎ (start_no c (c.directory.count + 1) + size_of (label_of f) ≤ j) → byte s.area j ≡ byte area j
      rest-stays j o =
          let begins = end_is c area r.card-sound in
          let fits = (made_in d f (length area) makes-it).fits in
          let long : length (zeros (size f)) ≡ size f = length-replicate (size f) 0 in
          ap (λ (y : List ℕ). byte y j) settled.area-is
          ∙ byte-apart area (end d) (zeros (size f)) j (omega (arith, fits, long))
          (⊎_elim (λ z. inl (omega (arith, z, begins))) (λ z. inr (omega (arith, z, begins, long, size_is f))) o)

      new_is : file_no s.card (d.count + 1) ≡ emptied f
      new_is = ap (λ (y : Directory). file y (d.count + 1)) settled.directory-is ∙ new-file d f area sixteen makes-it

      made : FileMade c area random cmd (step c area cmd random)
      unfolding part
      made = record {
        says = settled.says;
        credentials-are = settled.credentials-are;
        rights-are = settled.rights-are;
        challenge-is = settled.challenge-is;
        folders-are = ap (λ (y : Directory). y.folders) settled.directory-is ∙ same-folders;
        as-many-folders = ap (λ (y : Directory). y.number) settled.directory-is ∙ same_number;
        folder-is = settled.folder-is;
        one_more = ap (λ (y : Directory). y.count) settled.directory-is ∙ one-file;
        current-is = settled.current-is;
        label_is = ap label_of new_is;
        none-held = (ap (λ (y : File). y.held) new_is, ap (λ (y : File). y.newest) new_is);
        none-used = ap bytes_used new_is;
        bytes-are = now (d.count + 1) ∙ new-zero d f area sixteen makes-it ∙ ap (λ n. replicate n 0) (sym (size_is f));
        others = λ n there. (
          ap (λ (y : Directory). file y n) settled.directory-is ∙ old-file d f area sixteen makes-it n there.first there.last,
          now n ∙ old-extent d f area sixteen makes-it n there.first there.last ∙ sym (bytes-in d area n),
        );
        outside = rest-stays;
      }

    -- a directory
    module _ (this : byte (framed cmd).given 0 ≡ 0x38) (room : c.directory.number < 4) where
      founded-in : Settled c area (founding c x) s
      unfolding folder_given
      founded-in = subst (λ (b : Bool). Settled c area (did c (cond b (founds (folder_given k)) (makes (file_given c.session.folder k)))) s) (eq-eqb _ _ this) done

      now-is : s.card.directory ≡ one_more_folder d x
      unfolding founded
      now-is = founded-in.directory-is

      here : c.directory.number < length c.directory.folders
      here = let q = (filed c.directory (sound-good c area r.card-sound).directory).folders.places in omega (arith, room, q)

      founded-so : FolderMade c area random cmd (step c area cmd random)
      unfolding part splice
      founded-so = record {
        says = founded-in.says;
        credentials-are = founded-in.credentials-are;
        rights-are = founded-in.rights-are;
        challenge-is = founded-in.challenge-is;
        files-are = ap (λ (y : Directory). y.files) now-is;
        as_many = ap (λ (y : Directory). y.count) now-is;
        area-is = founded-in.area-is;
        currents-are = (founded-in.folder-is, founded-in.current-is);
        one_more = ap (λ (y : Directory). y.number) now-is;
        made-is =
            let back : d.number + 1 - 1 ≡ d.number = omega arith in
            ap tag_of (ap (λ (y : Directory). folder y (d.number + 1)) now-is ∙ rw back (get_or-set_same d.folders d.number x blank_folder here));
        others = λ n t.
            ap tag_of (ap (λ (y : Directory). folder y n) now-is
            ∙ get_or-set_other d.folders d.number (n - 1) x blank_folder (λ z. omega (arith, z, t.first, t.last)));
      }

  -- what is left of the checks, by the type given
  abbrev rest-by : Bool → List ℕ
  rest-by b =
      unless (cond b (good_folder_given (framed cmd)) (good_contents f)) 0x6A80
      ∷ unless (cond b (fid_unused c.directory (p (framed cmd))) (name_unused c.directory f)) 0x6986
      ∷ unless (cond b (folder_room c.directory) (room c.directory f)) 0x6A84
      ∷ []

  new-file-made : Rest (word CreateFile c area (framed cmd)) (rest-by false) → (byte (framed cmd).given 0 ≡ 0x38 → ⊥) → answers.NewFile c area random cmd (step c area cmd random)
  new-file-made e other =
      check r (good_contents f) 0x6A80 _ (contents-to f) (to-contents f) refl e (λ g e4.
      check r (name_unused d f) 0x6986 _
      (unused-to c area r.card-sound f (p k) refl refl) (to-unused c area r.card-sound f (p k) refl refl) refl e4 (λ u e5.
      check r (room d f) 0x6A84 [] (room-to c area r.card-sound f) (to_room c area r.card-sound f) refl e5 (λ o e6.
      made e6.is other)))

  new-folder-made : Rest (word CreateFile c area (framed cmd)) (rest-by true) → byte (framed cmd).given 0 ≡ 0x38 → answers.NewFolder c area random cmd (step c area cmd random)
  new-folder-made e this =
      check r (good_folder_given k) 0x6A80 _ (given_to c k) (to-given c k) refl e (λ g e4.
      check r (fid_unused d (p k)) 0x6986 _
      (fid-to c area r.card-sound (p k)) (to-fid c area r.card-sound (p k)) refl e4 (λ u e5.
      check r (folder_room d) 0x6A84 [] (ltb-true _ _) (lt-ltb _ _) refl e5 (λ o e6.
      founded-so e6.is this o)))

  creating : answers.CreateFile c area random cmd (step c area cmd random)
  unfolding create_checks file_given
  creating =
      check r (good_sfi (p k % 32)) 0x6A86 _
      (λ t. let q = both (leb 1 (p k % 32)) (leb (p k % 32) 30) t in (leb-true _ _ q.0, leb-true _ _ q.1))
      (λ q. join (le-leb 1 (p k % 32) q.0) (le-leb (p k % 32) 30 q.1)) refl (record { is = word-is }) (λ z e1.
      check r (eqb k.case 3 && eqb (lc k) 5) 0x6700 _
      (λ t. let q = both (eqb k.case 3) (eqb (lc k) 5) t in (eqb-true _ _ q.0, eqb-true _ _ q.1)) (λ q. join (eq-eqb _ _ q.0) (eq-eqb _ _ q.1))
      refl e1 (λ q e2.
      check r (opens c (creation_right c)) 0x6982 _ (may-to c k) (to-may c k) refl e2 (λ h e3.
      check r (not (is_folder k) || is_zero c.session.folder) 0x6A81 (rest-by (is_folder k)) (root-to c k) (to-root c k) refl e3 (λ m e4. (
        λ this. new-folder-made (subst (λ (b : Bool). Rest (word CreateFile c area k) (rest-by b)) (eq-eqb _ _ this) e4) this,
        λ other. new-file-made (subst (λ (b : Bool). Rest (word CreateFile c area k) (rest-by b)) (ne_eqb _ _ other) e4) other,
      )))))

pub create-file-answers : CreateFileAnswers
unfolding find rows kept rule
create-file-answers = by_name 0x80 0xE0 answers.CreateFile CreateFile (inr (inl refl)) refl refl (λ c k. refl) creating
