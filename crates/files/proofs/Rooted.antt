-- The files of the root and the FIDs of directories: the file that is marked for a FID's SFI is the only one that can have it.
use Prim.Native.Nat.{ℕ, ◌+◌, ◌-◌, ◌*◌, ◌%◌, ◌≤◌, ◌<◌}
use mathlib.Core.Bool.{Bool, true, false, not, ◌||◌}
use mathlib.Core.List.{List}
use mathlib.Core.Logic.{by_cases}
use mathlib.Core.Path.{◌≡◌, refl, sym, ap, ◌∙◌}
use native.Mathlib.Decide.{ℕ_discrete}
use native.Mathlib.Omega.{arith}
use lib.Dec.{eqb}
use lib.ListN.{get_or}
use borrow.Author.Tests.{eqb-true, eqb-false, eq-eqb, ne_eqb}
use Rattle.files.specs.declared.File.{File}
use Rattle.files.specs.declared.Directory.{Directory}
use Rattle.files.specs.Words.{all_below, seek, is_zero}
use Rattle.files.specs.Directory.{fid, sfi, file_at, of_fid, of_sfi, here, folder_fid, folder_at, folder_here}
use Rattle.files.specs.Sound.{alone, apart_at}
use Rattle.files.proofs.Checks.{clash, both, join, below, all-below}
use Rattle.files.proofs.Sought.{seek-low, seek_found, seek-absent, seek-last, seek-nothing}
use Rattle.files.proofs.Pass.{marks, marked, apart-is}

module _ (files : List File) (n m : ℕ) where
  -- no file of the root has this FID
  abbrev pub root_lacks : Bool
  root_lacks = is_zero (seek (here (of_fid 0 m) files) n)

  -- it would have its SFI
  has-sfi : (i : ℕ) → of_fid 0 m (file_at files i) ≡ true → ((file_at files i).folder ≡ 0) × (sfi (file_at files i) ≡ m % 32) × (fid (file_at files i) ≡ m)
  has-sfi i e =
      let f = file_at files i in
      let q = both (eqb f.folder 0) (eqb (fid f) m) e in
      let t : fid f ≡ m = eqb-true (fid f) m q.1 in
      (eqb-true f.folder 0 q.0, ap (λ t. t % 32) t, t)

  module _ (p : ℕ) (told : p ≡ seek (here (of_sfi 0 (m % 32)) files) n) where
    lacking : ((i : ℕ) → i < n → of_fid 0 m (file_at files i) ≡ true → ⊥) → root_lacks ≡ true
    lacking h = eq-eqb _ 0 (seek-nothing (here (of_fid 0 m) files) n (λ i l. go i l (of_fid 0 m (file_at files i)) refl))
      where
        go : (i : ℕ) → i < n → (b : Bool) → of_fid 0 m (file_at files i) ≡ b → b ≡ false
        go i l true e = absurd (h i l e)
        go i l false e = refl

    pub none-marked : p ≡ 0 → root_lacks ≡ true
    none-marked z =
        lacking (λ i l e. let q = has-sfi i e in
        let b : of_sfi 0 (m % 32) (file_at files i) ≡ true = join (eq-eqb _ 0 q.0) (eq-eqb _ (m % 32) q.1) in
        clash (of_sfi 0 (m % 32) (file_at files i)) b (seek-absent (here (of_sfi 0 (m % 32)) files) n (sym told ∙ z) i l))

    pub there : 1 ≤ p → ((file_at files (p - 1)).folder ≡ 0) × (sfi (file_at files (p - 1)) ≡ m % 32)
    there l =
        let f = file_at files (p - 1) in
        let e : of_sfi 0 (m % 32) f ≡ true = ap (λ t. of_sfi 0 (m % 32) (file_at files (t - 1))) told ∙ seek_found (here (of_sfi 0 (m % 32)) files) n (omega (arith, l, told)) in
        let q = both (eqb f.folder 0) (eqb (sfi f) (m % 32)) e in
        (eqb-true f.folder 0 q.0, eqb-true (sfi f) (m % 32) q.1)

    pub other-marked : 1 ≤ p → all_below (alone files) n ≡ true → eqb (fid (file_at files (p - 1))) m ≡ false → root_lacks ≡ true
    other-marked l a o = lacking (λ i k e. let q = has-sfi i e in
        let t = there l in
        let low = seek-low (here (of_sfi 0 (m % 32)) files) n in
        let b : of_sfi 0 (m % 32) (file_at files i) ≡ true = join (eq-eqb _ 0 q.0) (eq-eqb _ (m % 32) q.1) in
        let last = seek-last (here (of_sfi 0 (m % 32)) files) n i k b in
        by_cases (ℕ_discrete i (p - 1)) (λ s. eqb-false (fid (file_at files (p - 1))) m o (ap (λ t. fid (file_at files t)) (sym s) ∙ q.2))
        (λ s. let before : i < p - 1 = omega (arith, last, told, s, l) in
        let h = file_at files (p - 1) in
        let c : of_sfi h.folder (sfi h) (file_at files i) ≡ true = join (eq-eqb _ h.folder (q.0 ∙ sym t.0)) (eq-eqb _ (sfi h) (q.1 ∙ sym t.1)) in
        let single : seek (here (of_sfi h.folder (sfi h)) files) (p - 1) ≡ 0 = eqb-true _ 0 (below (alone files) n a (p - 1) (omega (arith, low, told, l))) in
        clash (of_sfi h.folder (sfi h) (file_at files i)) c (seek-absent (here (of_sfi h.folder (sfi h)) files) (p - 1) single i before)))

    -- one that has it
    pub found : (p ≡ 0 → ⊥) → eqb (fid (file_at files (p - 1))) m ≡ true → (p - 1 < n) × ((file_at files (p - 1)).folder ≡ 0) × (fid (file_at files (p - 1)) ≡ m)
    found o h =
        let l = seek-low (here (of_sfi 0 (m % 32)) files) n in
        (omega (arith, l, told, o), (there (omega (arith, o))).0, eqb-true (fid (file_at files (p - 1))) m h)

pub mark-at : (files : List File) (n m at place : ℕ) (seen : List ℕ) → seen ≡ marks files n → at ≡ m % 32 → place ≡ get_or seen at 0
    → place ≡ seek (here (of_sfi 0 (m % 32)) files) n
mark-at files n m at place seen e f g =
    let z : 0 * 32 + m % 32 ≡ m % 32 = omega arith in
    g ∙ rw (e, f) (ap (λ t. get_or (marks files n) t 0) (sym z) ∙ marked files n 0 (m % 32) (omega arith) (omega arith))

-- what that tells of the directories
module _ (d : Directory) (number : ℕ) (is : number ≡ d.number) (four : number ≤ 4) where
  abbrev pub lacked : ℕ → ℕ → Bool
  lacked n j = root_lacks d.files n (folder_fid (folder_at d.folders j))

  pub not-apart : (i j : ℕ) → j < number → (file_at d.files i).folder ≡ 0 → fid (file_at d.files i) ≡ folder_fid (folder_at d.folders j) → apart_at d i ≡ false
  not-apart i j l z e =
      let m = fid (file_at d.files i) in
      let s = seek-last (folder_here m d.folders) number j l (eq-eqb _ m (sym e)) in
      apart-is d number i is four ∙ rw (z, ne_eqb (seek (folder_here m d.folders) number) 0 (λ q. omega (arith, s, q)))

  pub all_apart : (n : ℕ) → all_below (lacked n) number ≡ true → all_below (apart_at d) n ≡ true
  all_apart n h = all-below (apart_at d) n (λ i l. apart-is d number i is four ∙ by_cases (ℕ_discrete (file_at d.files i).folder 0) (rooted i l) (λ o. rw (ne_eqb (file_at d.files i).folder 0 o)))
    where
      rooted : (i : ℕ) → i < n → (file_at d.files i).folder ≡ 0
          → (not (is_zero (file_at d.files i).folder) || is_zero (seek (folder_here (fid (file_at d.files i)) d.folders) number)) ≡ true
      rooted i l z =
          let f = file_at d.files i in
          let k = seek (folder_here (fid f) d.folders) number in
          rw z (by_cases (ℕ_discrete k 0) (λ e. eq-eqb k 0 e) (λ o.
          let g : 1 ≤ k = omega (arith, o) in
          let low = seek-low (folder_here (fid f) d.folders) number in
          let e : folder_fid (folder_at d.folders (k - 1)) ≡ fid f = eqb-true _ (fid f) (seek_found (folder_here (fid f) d.folders) number g) in
          let none = eqb-true _ 0 (below (lacked n) number h (k - 1) (omega (arith, low, g))) in
          let has : of_fid 0 (folder_fid (folder_at d.folders (k - 1))) f ≡ true = join (eq-eqb f.folder 0 z) (eq-eqb (fid f) _ (sym e)) in
          clash (of_fid 0 (folder_fid (folder_at d.folders (k - 1))) f) has (seek-absent (here (of_fid 0 (folder_fid (folder_at d.folders (k - 1)))) d.files) n none i l)))
