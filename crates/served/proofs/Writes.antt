-- What a store in one file leaves: that file's label, every other file, and each byte outside of it.
use Prim.Native.Nat.{ℕ, ◌+◌, ◌-◌, ◌≤◌, ◌<◌}
use mathlib.Core.Bool.{true}
use mathlib.Core.List.{List, ◌++◌}
use mathlib.Core.Logic.{◌⊎◌, inl, inr, ⊎_elim}
use mathlib.Core.Path.{◌≡◌, sym, ap, ◌∙◌, subst}
use native.Mathlib.Omega.{arith}
use lib.ListN.{length, take, drop}
use lib.Seq.{set-get_or}
use Rattle.files.specs.declared.File.{File}
use Rattle.files.specs.declared.Directory.{Directory}
use Rattle.files.specs.Part.{part, splice}
use Rattle.files.specs.State.{with_file, blank_file}
use Rattle.files.specs.Types.{size}
use Rattle.files.specs.Directory.{file, start, extent}
use Rattle.files.proofs.Parts.{byte-apart}
use Rattle.files.proofs.Extents.{file-set, file-other, start-same, lies}
use Rattle.files.proofs.Stays.{own-written, other-written}
use Rattle.files.proofs.Kept.{filed}
use Rattle.rules.specs.declared.Card.{Card}
use Rattle.rules.specs.Words.{byte}
use Rattle.rules.specs.State.{with_current, with_directory}
use Rattle.rules.specs.Sound.{sound}
use Rattle.rules.specs.Effect.{storing, Stepped}
use Rattle.rules.proofs.Good.{sound-good}
use Rattle.demands.specs.Held.{file_no, IsFile, start_no, bytes_no, label_of, label_no}
use Rattle.demands.specs.Ledger.{size_of}
use Rattle.demands.proofs.View.{size_is, start_is, bytes-in}
use Rattle.served.specs.Left.{Written, OneRun, Stores}
use Rattle.served.proofs.View.{in-area, extent-length}
use Rattle.served.proofs.Steps.{Settled}

-- a store that leaves what is known of the file
pub stored : (c : Card) (area : List ℕ) (n at : ℕ) (ys : List ℕ) (s : Stepped) → Settled c area (storing (with_current c n) at ys) s
    → Settled c area (storing (with_current (with_directory c (with_file c.directory (n - 1) (file_no c n))) n) at ys) s
stored c area n at ys s q =
    subst (λ (fs : List File). Settled c area (storing (with_current (with_directory c (record { files = fs; count = c.directory.count; folders = c.directory.folders; number = c.directory.number })) n) at ys) s)
    (sym (set-get_or c.directory.files (n - 1) blank_file)) q

-- file n is then f, and these bytes stand in it from one of its bytes on
module _ (c : Card) (area : List ℕ) (h : sound c area ≡ true) (n : ℕ) (t : IsFile c n) (f : File) (at : ℕ) (ys : List ℕ) (s : Stepped)
    (q : Settled c area (storing (with_current (with_directory c (with_file c.directory (n - 1) f)) n) (start c.directory n + at) ys) s)
    (label : label_of f ≡ label_of (file_no c n)) (same_size : size f ≡ size (file_no c n)) (fits : at + length ys ≤ size (file_no c n)) where
  abbrev d : Directory
  d = c.directory

  abbrev e : Directory
  e = with_file c.directory (n - 1) f

  abbrev a : List ℕ
  a = splice area (start c.directory n + at) ys

  here : n - 1 < length c.directory.files
  here = let w = filed c.directory (sound-good c area h).directory in omega (arith, w.places, w.few, t.first, t.last)

  pub now-file : file_no s.card n ≡ f
  now-file = ap (λ (x : Directory). file x n) q.directory-is ∙ file-set d.files (n - 1) f here

  now-extent : (m : ℕ) → bytes_no s.card s.area m ≡ extent e m a
  now-extent m = bytes-in s.card.directory s.area m ∙ ap (λ (x : Directory). extent x m s.area) q.directory-is ∙ ap (extent e m) q.area-is

  now-bytes : bytes_no s.card s.area n ≡ splice (extent c.directory n area) at ys
  unfolding extent
  now-bytes =
      now-extent n
      ∙ rw (file-set d.files (n - 1) f here, start-same d.files (n - 1) f here same_size (n - 1), same_size)
      (own-written d n area (in-area c area h n t) at ys fits)

  other-file : (m : ℕ) → 1 ≤ m → (m ≡ n → ⊥) → file_no s.card m ≡ file_no c m
  other-file m l o =
      ap (λ (x : Directory). file x m) q.directory-is ∙ file-other d.files (n - 1) f (m - 1) (λ z. o (omega (arith, l, t.first, z)))

  other-bytes : (m : ℕ) → 1 ≤ m → (m ≡ n → ⊥) → bytes_no s.card s.area m ≡ bytes_no c area m
  unfolding extent
  other-bytes m l o =
      now-extent m
      ∙ rw (start-same d.files (n - 1) f here same_size (m - 1), file-other d.files (n - 1) f (m - 1) (λ z. o (omega (arith, l, t.first, z))))
      (other-written d n area (in-area c area h n t) at ys fits m l o)
      ∙ sym (bytes-in d area m)

  outside : (j : ℕ) → (j < start_no c n) ⊎ (start_no c n + size_of (label_no c n) ≤ j) → byte s.area j ≡ byte area j
  outside j o =
      let begins : start_no c n ≡ start d n = start_is d.files (n - 1) in
      let size : size_of (label_no c n) ≡ size (file_no c n) = size_is (file_no c n) in
      let w = lies d n (length area) (in-area c area h n t) in
      ap (λ (x : List ℕ). byte x j) q.area-is
      ∙ byte-apart area (start d n + at) ys j (omega (arith, w.fits, fits))
      (⊎_elim (λ z. inl (omega (arith, z, begins))) (λ z. inr (omega (arith, z, begins, size, fits))) o)

  pub writes : Written c area n s
  unfolding part
  writes = record {
    says = q.says;
    credentials-are = q.credentials-are;
    rights-are = q.rights-are;
    folder-is = q.folder-is;
    current-is = q.current-is;
    challenge-is = q.challenge-is;
    folders-are = ap (λ (x : Directory). x.folders) q.directory-is;
    as-many-folders = ap (λ (x : Directory). x.number) q.directory-is;
    as_many = ap (λ (x : Directory). x.count) q.directory-is;
    label_is = ap label_of now-file ∙ label;
    others = λ m l o. (other-file m l o, other-bytes m l o);
    outside = outside;
  }

  -- the file's bytes: one run stored anew
  pub stores : Stores (bytes_no c area n) at ys (bytes_no s.card s.area n)
  unfolding splice
  stores = now-bytes ∙ ap (λ (b : List ℕ). take at b ++ (ys ++ drop (at + length ys) b)) (sym (bytes-in d area n))

  pub one-run : (was : List ℕ) → part at (length was) (extent c.directory n area) ≡ was → OneRun (bytes_no c area n) was ys (bytes_no s.card s.area n)
  unfolding part
  one-run was e = record { at = at; stood = rw (bytes-in d area n) e; inside = rw (bytes-in d area n) (omega (arith, fits, extent-length c area h n t)); stores = stores }
