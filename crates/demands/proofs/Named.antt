-- The file that a command names, and what a rights byte asks, as the rules have them.
use Prim.Native.Nat.{ℕ, ◌-◌, ◌/◌, ◌%◌, ◌≤◌, ◌<◌, min}
use mathlib.Core.Bool.{Bool, true, cond, ◌||◌, not}
use mathlib.Core.List.{List, [], ◌∷◌}
use mathlib.Core.Logic.{by_cases}
use mathlib.Core.Path.{◌≡◌, sym, ap, ◌∙◌}
use native.Mathlib.Decide.{dec_lt, ℕ_discrete}
use native.Mathlib.Omega.{arith}
use lib.Dec.{eqb, leb}
use borrow.Author.Tests.{eqb-true, eqb-false, eq-eqb, ne_eqb, not-true, leb-true}
use Rattle.files.specs.declared.Directory.{Directory}
use Rattle.files.specs.Words.{is_zero, seek}
use Rattle.files.specs.Rights.{never, admin_bit, user_bit, device_bit, any_bit, asks, all_held, grants, any_held, allowed}
use Rattle.files.specs.Directory.{fid, sfi, good_sfi, used, file_at, of_sfi, of_fid, here, find_sfi, find_fid, folder_at, folder_here, find_folder}
use Rattle.files.specs.Directory as files
use Rattle.files.specs.Record.{sound_held, sound_used}
use Rattle.files.specs.Create.{good_contents}
use Rattle.files.specs.Sound.{sound_file, sound_directory}
use Rattle.files.proofs.Checks.{clash, each, all, both, join}
use Rattle.files.proofs.Sought.{seek-low, seek_found, seek-absent, fid-found, sfi-found, folder-found, folder-low}
use Rattle.files.proofs.Folders.{folder-alone}
use Rattle.files.proofs.Kept.{filed}
use Rattle.rules.specs.declared.Card.{Card}
use Rattle.rules.specs.State.{Which, device, admin, user, transport, number_of, login}
use Rattle.rules.specs.Sound.{sound}
use Rattle.rules.specs.Target.{target, opens}
use Rattle.rules.proofs.Checks.{one_of, either}
use Rattle.rules.proofs.Good.{Good, sound-good}
use Rattle.rules.proofs.Targets.{used-count, place-sound, fid-low, sfi-low, lies-there, target-low, target-lies}
use Rattle.demands.specs.Held.{file_no, IsFile, label_no, IsFolder, tag_no, Within, Named, right_no, Opens, OneHeld, bit_of, HeldOn}
use Rattle.demands.specs.Ledger.{sfi_of, fid_of, fid_of_tag}

-- ---- a search finds the one that has a name
pub seek-the : (p : ℕ → Bool) (m n : ℕ) → 1 ≤ n → n ≤ m → p (n - 1) ≡ true → ((i : ℕ) → i < m → p i ≡ true → i ≡ n - 1) → seek p m ≡ n
seek-the p m n low high h same =
    let most : seek p m ≤ m = seek-low p m in
    by_cases (ℕ_discrete (seek p m) 0) (λ z. clash (p (n - 1)) h (seek-absent p m z (n - 1) (omega (arith, low, high))))
    (λ o. let some : 1 ≤ seek p m = omega (arith, o) in
    let q = same (seek p m - 1) (omega (arith, some, most)) (seek_found p m some) in
    omega (arith, q, some, low))

-- of two places the later is not like the earlier: so no two are alike
pub only_one : (m : ℕ) (alike : ℕ → ℕ → Type 0) → ((i j : ℕ) → j < m → i < j → alike i j → ⊥) → ((i j : ℕ) → alike i j → alike j i) → (i j : ℕ) → i < m → j < m → alike i j → i ≡ j
only_one m alike apart turn i j hi hj e =
    by_cases (dec_lt i j) (λ l. absurd (apart i j hj l e))
    (λ l. by_cases (dec_lt j i) (λ k. absurd (apart j i hi k (turn i j e))) (λ k. omega arith))

module _ (d : Directory) (g : sound_directory d ≡ true) where
  -- no two files of a directory have one SFI
  abbrev pub Alike : ℕ → ℕ → Type 0
  Alike i j = ((file_at d.files i).folder ≡ (file_at d.files j).folder) × (sfi (file_at d.files i) ≡ sfi (file_at d.files j))

  apart : (i j : ℕ) → j < d.count → i < j → Alike i j → ⊥
  apart i j hj l e =
      let f = file_at d.files j in
      clash (of_sfi f.folder (sfi f) (file_at d.files i)) (join (eq-eqb _ _ e.0) (eq-eqb _ _ e.1))
      (seek-absent (here (of_sfi f.folder (sfi f)) d.files) j (eqb-true _ _ ((filed d g).each-sfi j hj)) i l)

  pub one-sfi : (i j : ℕ) → i < d.count → j < d.count → Alike i j → i ≡ j
  one-sfi = only_one d.count Alike apart (λ i j e. (sym e.0, sym e.1))

  -- no two directories one FID
  abbrev pub SameFid : ℕ → ℕ → Type 0
  SameFid i j = files.folder_fid (folder_at d.folders i) ≡ files.folder_fid (folder_at d.folders j)

  folders-apart : (i j : ℕ) → j < d.number → i < j → SameFid i j → ⊥
  folders-apart i j hj l e =
      let n : ℕ = files.folder_fid (folder_at d.folders j) in
      clash (folder_here n d.folders i) (eq-eqb _ _ e)
      (seek-absent (folder_here n d.folders) j (eqb-true _ _ (folder-alone d.folders d.number (filed d g).folders j hj)) i l)

  pub one-fid : (i j : ℕ) → i < d.number → j < d.number → SameFid i j → i ≡ j
  one-fid = only_one d.number SameFid folders-apart (λ i j e. sym e)

pub found-folder : (c : Card) (x : ℕ) → 1 ≤ find_folder c.directory x → IsFolder c (find_folder c.directory x) × (fid_of_tag (tag_no c (find_folder c.directory x)) ≡ x)
found-folder c x some = (record { first = some; last = folder-low c.directory x }, folder-found c.directory x some)

module _ (c : Card) (g : Good c) where
  abbrev d : Directory
  d = c.directory

  pub the-sfi : (folder x n : ℕ) → Within c folder n → sfi_of (label_no c n) ≡ x → find_sfi c.directory folder x ≡ n
  unfolding find_sfi
  the-sfi folder x n w e =
      let u = used-count d g.directory in
      seek-the (here (of_sfi folder x) d.files) (used d) n w.there.first (omega (arith, w.there.last, u)) (join (eq-eqb _ _ w.lies) (eq-eqb _ _ e))
      (λ i l q. let t = both (eqb (file_at d.files i).folder folder) (eqb (sfi (file_at d.files i)) x) q in
      one-sfi d g.directory i (n - 1) (omega (arith, l, u)) (omega (arith, w.there.first, w.there.last)) (eqb-true _ _ t.0 ∙ sym w.lies, eqb-true _ _ t.1 ∙ sym e))

  pub the-fid : (folder x n : ℕ) → Within c folder n → fid_of (label_no c n) ≡ x → find_fid c.directory folder x ≡ n
  unfolding find_fid
  the-fid folder x n w e =
      let u = used-count d g.directory in
      seek-the (here (of_fid folder x) d.files) (used d) n w.there.first (omega (arith, w.there.last, u)) (join (eq-eqb _ _ w.lies) (eq-eqb _ _ e))
      (λ i l q. let t = both (eqb (file_at d.files i).folder folder) (eqb (fid (file_at d.files i)) x) q in
      one-sfi d g.directory i (n - 1) (omega (arith, l, u)) (omega (arith, w.there.first, w.there.last))
      (eqb-true _ _ t.0 ∙ sym w.lies, ap (λ z. z % 32) (eqb-true _ _ t.1 ∙ sym e)))

  pub the-folder : (x n : ℕ) → IsFolder c n → fid_of_tag (tag_no c n) ≡ x → find_folder c.directory x ≡ n
  unfolding find_folder
  the-folder x n t e =
      let few = (filed d g.directory).folders.few in
      let u : min d.number 4 ≡ d.number = omega (arith, few) in
      rw u
      (seek-the (folder_here x d.folders) d.number n t.first t.last (eq-eqb _ _ e)
      (λ i l q. one-fid d g.directory i (n - 1) l (omega (arith, t.first, t.last)) (eqb-true _ _ q ∙ sym e)))

  -- what is found is there and has the name
  pub found-sfi : (folder x : ℕ) → 1 ≤ find_sfi c.directory folder x → Within c folder (find_sfi c.directory folder x) × (sfi_of (label_no c (find_sfi c.directory folder x)) ≡ x)
  found-sfi folder x some =
      let q = sfi-found d folder x some in
      (record { there = record { first = some; last = sfi-low d g.directory folder x }; lies = q.0 }, q.1)

  pub found-fid : (folder x : ℕ) → 1 ≤ find_fid c.directory folder x → Within c folder (find_fid c.directory folder x) × (fid_of (label_no c (find_fid c.directory folder x)) ≡ x)
  found-fid folder x some =
      let q = fid-found d folder x some in
      (record { there = record { first = some; last = fid-low d g.directory folder x }; lies = q.0 }, q.1)

  -- the target of a command is the file that it names
  pub named-target : (x n : ℕ) → Named c x n → target c x ≡ n
  unfolding target
  named-target x n q =
      by_cases (ℕ_discrete x 0) (λ e. rw (eq-eqb x 0 e) (q.current e))
      (λ o. rw (ne_eqb x 0 o) (the-sfi c.session.folder x n (record { there = q.there; lies = q.lies }) (q.by-sfi o)))

  at_zero : (x : ℕ) → x ≡ 0 → target c x ≡ c.session.current
  unfolding target
  at_zero x e = rw (eq-eqb x 0 e)

  by-sfi : (x : ℕ) → (x ≡ 0 → ⊥) → 1 ≤ target c x → sfi_of (label_no c (target c x)) ≡ x
  unfolding target
  by-sfi x o = rw (ne_eqb x 0 o) (λ some. (found-sfi c.session.folder x some).1)

  pub target-named : (x : ℕ) → 1 ≤ target c x → Named c x (target c x)
  target-named x some = record {
    there = record { first = some; last = target-low c g x };
    lies = lies-there d (target c x) c.session.folder (target-lies c g x) some;
    by-sfi = λ o. by-sfi x o some;
    current = λ e. sym (at_zero x e);
  }

-- the SFI of a file is 1 to 30
pub file-sfi : (c : Card) (area : List ℕ) → sound c area ≡ true → (n : ℕ) → IsFile c n → (1 ≤ sfi_of (label_no c n)) × (sfi_of (label_no c n) ≤ 30)
unfolding sound_file
file-sfi c area h n t =
    let f = file_no c n in
    let e = each (good_sfi (sfi f) ∷ good_contents f ∷ sound_held f ∷ sound_used f ∷ []) (place-sound c.directory (sound-good c area h).directory n t.first t.last) in
    let q = each (leb 1 (sfi f) ∷ leb (sfi f) 30 ∷ []) e.0 in
    (leb-true _ _ q.0, leb-true _ _ q.1)

-- ---- the rights byte
-- what opens by one way of holding rights opens by another
pub opens_by : {held other : Which → Type 0} (byte : ℕ) → ((w : Which) → held w → other w) → Opens held byte → Opens other byte
opens_by byte f o = record {
  all = λ e w b. f w (o.all e w b);
  any = λ e. let one = o.any e in record { which = one.which; asked = one.asked; is-held = f one.which one.is-held };
  not-never = o.not-never;
}

-- a bit that is not 0 is 1
bit-one : (n : ℕ) → (n % 2 ≡ 0 → ⊥) → n % 2 ≡ 1
bit-one n o = by_cases (dec_lt (n % 2) 1) (λ k. absurd (o (omega arith))) (λ k. omega arith)

asks-one : (n : ℕ) (held : Bool) → asks (n % 2) held ≡ true → n % 2 ≡ 1 → held ≡ true
asks-one n held h e = rw e at h

one-asks : (n : ℕ) (held : Bool) → (n % 2 ≡ 1 → held ≡ true) → asks (n % 2) held ≡ true
one-asks n held f =
    by_cases (ℕ_discrete (n % 2) 0) (λ e. rw (eq-eqb (n % 2) 0 e)) (λ o. either (is_zero (n % 2)) (f (bit-one n o)))

grants-one : (n : ℕ) (held : Bool) → grants (n % 2) held ≡ true → (n % 2 ≡ 1) × (held ≡ true)
grants-one n held h =
    let e = both (not (is_zero (n % 2))) held h in
    (bit-one n (eqb-false (n % 2) 0 (not-true (is_zero (n % 2)) e.0)), e.1)

one-grants : (n : ℕ) (held : Bool) → n % 2 ≡ 1 → held ≡ true → grants (n % 2) held ≡ true
one-grants n held e h = rw (e, h)

module _ (c : Card) (byte : ℕ) where
  abbrev dev : Bool
  dev = (login device c).held

  abbrev adm : Bool
  adm = (login admin c).held

  abbrev usr : Bool
  usr = (login user c).held

  all_asked : all_held (login device c).held (login admin c).held (login user c).held byte ≡ true → (w : Which) → bit_of w byte ≡ 1 → right_no c (number_of w) ≡ 1
  unfolding all_held
  all_asked h = go (each (asks (admin_bit byte) adm ∷ asks (user_bit byte) usr ∷ asks (device_bit byte) dev ∷ []) h)
    where
      go : (asks (admin_bit byte) adm ≡ true) × ((asks (user_bit byte) usr ≡ true) × (asks (device_bit byte) dev ≡ true))
          → (w : Which) → bit_of w byte ≡ 1 → right_no c (number_of w) ≡ 1
      go e device q = eqb-true _ _ (asks-one byte dev e.1.1 q)
      go e admin q = eqb-true _ _ (asks-one (byte / 128) adm e.0 q)
      go e user q = eqb-true _ _ (asks-one (byte / 64) usr e.1.0 q)
      go e transport q = absurd (omega (arith, q))

  asked-all : ((w : Which) → bit_of w byte ≡ 1 → right_no c (number_of w) ≡ 1) → all_held (login device c).held (login admin c).held (login user c).held byte ≡ true
  unfolding all_held
  asked-all f =
      all (asks (admin_bit byte) adm ∷ asks (user_bit byte) usr ∷ asks (device_bit byte) dev ∷ [])
      (one-asks (byte / 128) adm (λ q. eq-eqb _ _ (f admin q)), (one-asks (byte / 64) usr (λ q. eq-eqb _ _ (f user q)), one-asks byte dev (λ q. eq-eqb _ _ (f device q))))

  one-asked : any_held (login device c).held (login admin c).held (login user c).held byte ≡ true → OneHeld (λ w. right_no c (number_of w) ≡ 1) byte
  unfolding any_held
  one-asked h =
      one_of (grants (admin_bit byte) adm) (grants (user_bit byte) usr || grants (device_bit byte) dev) h
      (λ z. let k = grants-one (byte / 128) adm z in record { which = admin; asked = k.0; is-held = eqb-true _ _ k.1 })
      (λ y. one_of (grants (user_bit byte) usr) (grants (device_bit byte) dev) y
      (λ z. let k = grants-one (byte / 64) usr z in record { which = user; asked = k.0; is-held = eqb-true _ _ k.1 })
      (λ z. let k = grants-one byte dev z in record { which = device; asked = k.0; is-held = eqb-true _ _ k.1 }))

  asked-one : (w : Which) → bit_of w byte ≡ 1 → right_no c (number_of w) ≡ 1 → any_held (login device c).held (login admin c).held (login user c).held byte ≡ true
  unfolding any_held
  asked-one device q r = either (grants (admin_bit byte) adm) (either (grants (user_bit byte) usr) (one-grants byte dev q (eq-eqb _ _ r)))
  asked-one admin q r = rw (one-grants (byte / 128) adm q (eq-eqb _ _ r))
  asked-one user q r = either (grants (admin_bit byte) adm) (rw (one-grants (byte / 64) usr q (eq-eqb _ _ r)))
  asked-one transport q r = absurd (omega (arith, q))

  pub opens-asked : opens c byte ≡ true → Opens (HeldOn c) byte
  unfolding allowed
  opens-asked h =
      let e = each (not (eqb byte never) ∷ cond (is_zero (any_bit byte)) (all_held dev adm usr byte) (any_held dev adm usr byte) ∷ []) h in
      record {
        all = λ q. all_asked (rw (eq-eqb (any_bit byte) 0 q) at e.1);
        any = λ q. one-asked (rw (ne_eqb (any_bit byte) 0 (λ z. omega (arith, q, z))) at e.1);
        not-never = λ q. eqb-false byte never (not-true (eqb byte never) e.0) q;
      }

  pub asked-opens : Opens (HeldOn c) byte → opens c byte ≡ true
  unfolding allowed
  asked-opens o =
      rw (ne_eqb byte never o.not-never)
      (by_cases (ℕ_discrete (byte / 2 % 2) 0) (λ e. rw (eq-eqb (any_bit byte) 0 e) (asked-all (o.all e)))
      (λ n. let one = o.any (bit-one (byte / 2) n) in rw (ne_eqb (any_bit byte) 0 n) (asked-one one.which one.asked one.is-held)))
