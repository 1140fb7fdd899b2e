-- Recovery of a card on which nothing is left to do, and of one with bytes past its last file or directory.
use Prim.Native.Nat.{ℕ, zero, suc, ◌≤◌, ◌<◌}
use mathlib.Core.Bool.{true}
use mathlib.Core.List.{List, [], ◌∷◌}
use mathlib.Core.Path.{◌≡◌, refl, sym, ap, ap₂, ◌∙◌}
use native.Mathlib.Omega.{arith}
use lib.ListN.{length, get_or}
use borrow.Author.Tests.{le-ltb}
use Rattle.files.specs.declared.File.{File}
use Rattle.files.specs.declared.Folder.{Folder}
use Rattle.files.specs.declared.Directory.{Directory}
use Rattle.files.specs.State.{blank_file, blank_folder, with_files, with_folders}
use Rattle.files.specs.Directory.{file_at, folder_at}
use Rattle.files.specs.Sound.{sound_folder, sound_directory}
use Rattle.files.proofs.Blank.{unused-blank, unused-folder}
use Rattle.files.proofs.Kept.{filed}
use Rattle.rules.specs.declared.Card.{Card}
use Rattle.rules.specs.declared.Journal.{Journal}
use Rattle.rules.specs.declared.Session.{Session}
use Rattle.rules.specs.declared.Response.{Response}
use Rattle.rules.specs.State.{with_directory, with_journal, no_journal}
use Rattle.rules.specs.Calls.{cleared}
use Rattle.power.specs.Store.{alter, alter_file, alter_folder}
use Rattle.power.specs.Journal.{Target, none, credential, entry, decode, with_known, redo}
use Rattle.power.specs.Recovery.{trim, trimmed, tidied, lost}

module _ {A : Type 0} (blank : A) where
  pub trim-none : (xs : List A) (n : ℕ) → ((i : ℕ) → n ≤ i → i < length xs → get_or xs i blank ≡ blank) → trim blank xs n ≡ xs
  trim-none [] n h = refl
  trim-none (x ∷ xs) zero h =
      ap₂ (λ (y : A) (l : List A). y ∷ l) (sym (h zero (omega arith) (omega arith))) (trim-none xs zero (λ i a l. h (suc i) (omega arith) (omega arith)))
  trim-none (x ∷ xs) (suc n) h = ap (λ (l : List A). x ∷ l) (trim-none xs n (λ i a l. h (suc i) (omega arith) (omega arith)))

  -- a place past the last does not matter
  pub alter-trimmed : (f : A → A) (xs : List A) (place n : ℕ) → n ≤ place → trim blank (alter f xs place) n ≡ trim blank xs n
  alter-trimmed f [] place n l = refl
  alter-trimmed f (x ∷ xs) zero zero l = refl
  alter-trimmed f (x ∷ xs) zero (suc n) l = absurd (omega arith)
  alter-trimmed f (x ∷ xs) (suc place) zero l = ap (λ (r : List A). blank ∷ r) (alter-trimmed f xs place zero (omega arith))
  alter-trimmed f (x ∷ xs) (suc place) (suc n) l = ap (λ (r : List A). x ∷ r) (alter-trimmed f xs place n (omega arith))

  -- nor under another that is altered then
  alter-under : (g f : A → A) (xs : List A) (q place n : ℕ) → n ≤ place → trim blank (alter g (alter f xs place) q) n ≡ trim blank (alter g xs q) n
  alter-under g f [] q place n l = refl
  alter-under g f (x ∷ xs) q zero (suc n) l = absurd (omega arith)
  alter-under g f (x ∷ xs) zero zero zero l = refl
  alter-under g f (x ∷ xs) (suc q) zero zero l = refl
  alter-under g f (x ∷ xs) zero (suc place) zero l = ap (λ (r : List A). blank ∷ r) (alter-trimmed f xs place zero (omega arith))
  alter-under g f (x ∷ xs) zero (suc place) (suc n) l = ap (λ (r : List A). g x ∷ r) (alter-trimmed f xs place n (omega arith))
  alter-under g f (x ∷ xs) (suc q) (suc place) zero l = ap (λ (r : List A). blank ∷ r) (alter-under g f xs q place zero (omega arith))
  alter-under g f (x ∷ xs) (suc q) (suc place) (suc n) l = ap (λ (r : List A). x ∷ r) (alter-under g f xs q place n (omega arith))

  -- twice is once
  pub trim-twice : (xs : List A) (n : ℕ) → trim blank (trim blank xs n) n ≡ trim blank xs n
  trim-twice [] n = refl
  trim-twice (x ∷ xs) zero = ap (λ (r : List A). blank ∷ r) (trim-twice xs zero)
  trim-twice (x ∷ xs) (suc n) = ap (λ (r : List A). x ∷ r) (trim-twice xs n)

-- a sound directory has nothing past its last file and its last directory
pub sound-trimmed : (d : Directory) → sound_directory d ≡ true → trim blank_file d.files d.count ≡ d.files
sound-trimmed d h =
    let g = filed d h in
    trim-none blank_file d.files d.count
    (λ i a l. let q = g.each-place i (omega (arith, g.places)) in unused-blank (file_at d.files i) (rw (le-ltb i d.count a) at q))

pub sound-folders : (d : Directory) → sound_directory d ≡ true → trim blank_folder d.folders d.number ≡ d.folders
unfolding sound_folder
sound-folders d h =
    let g = (filed d h).folders in
    trim-none blank_folder d.folders d.number
    (λ i a l. let q = g.each-folder i (omega (arith, g.places)) in unused-folder (folder_at d.folders i) (rw (le-ltb i d.number a) at q))

-- files and directories as recovery leaves them
abbrev shelved : Card → List File → List Folder → Card
shelved c fs xs = cleared (with_journal (with_directory c (with_folders (with_files c.directory fs) xs)) no_journal)

-- with an empty journal they are trimmed, and no more
empty-shelved : (c : Card) → c.journal ≡ no_journal
    → tidied c ≡ shelved c (trim blank_file c.directory.files c.directory.count) (trim blank_folder c.directory.folders c.directory.number)
unfolding tidied
empty-shelved c e = ap (λ (j : Journal). cleared (with_journal (trimmed (redo (decode j.what) j.bytes c)) no_journal)) e

-- a card with an empty journal and a sound directory is as it was, the session over
pub tidied-sound : (c : Card) → c.journal ≡ no_journal → sound_directory c.directory ≡ true → tidied c ≡ cleared c
tidied-sound c e h =
    empty-shelved c e ∙ ap₂ (shelved c) (sound-trimmed c.directory h) (sound-folders c.directory h) ∙ ap (λ (j : Journal). cleared (with_journal c j)) (sym e)

-- nor does an entry past the last file of any card matter, whatever its journal is about, nor a directory past the last
pub past-tidied : (c : Card) (f : File → File) (place : ℕ) → c.directory.count ≤ place → tidied (alter_file f place c) ≡ tidied c
unfolding tidied
past-tidied c f place l = go (decode c.journal.what)
  where
    go : (t : Target)
        → cleared (with_journal (trimmed (redo t c.journal.bytes (alter_file f place c))) no_journal)
        ≡ cleared (with_journal (trimmed (redo t c.journal.bytes c)) no_journal)
    go none =
        ap (λ (fs : List File). shelved c fs (trim blank_folder c.directory.folders c.directory.number))
        (alter-trimmed blank_file f c.directory.files place c.directory.count l)
    go (credential n) =
        ap (λ (fs : List File). shelved (redo (credential n) c.journal.bytes c) fs (trim blank_folder c.directory.folders c.directory.number))
        (alter-trimmed blank_file f c.directory.files place c.directory.count l)
    go (entry q) =
        ap (λ (fs : List File). shelved c fs (trim blank_folder c.directory.folders c.directory.number))
        (alter-under blank_file (with_known c.journal.bytes) f c.directory.files q place c.directory.count l)

pub past-folders : (c : Card) (f : Folder → Folder) (place : ℕ) → c.directory.number ≤ place → tidied (alter_folder f place c) ≡ tidied c
unfolding tidied
past-folders c f place l = go (decode c.journal.what)
  where
    go : (t : Target)
        → cleared (with_journal (trimmed (redo t c.journal.bytes (alter_folder f place c))) no_journal)
        ≡ cleared (with_journal (trimmed (redo t c.journal.bytes c)) no_journal)
    go none =
        ap (shelved c (trim blank_file c.directory.files c.directory.count))
        (alter-trimmed blank_folder f c.directory.folders place c.directory.number l)
    go (credential n) =
        ap (shelved (redo (credential n) c.journal.bytes c) (trim blank_file c.directory.files c.directory.count))
        (alter-trimmed blank_folder f c.directory.folders place c.directory.number l)
    go (entry q) =
        ap (shelved c (trim blank_file (alter (with_known c.journal.bytes) c.directory.files q) c.directory.count))
        (alter-trimmed blank_folder f c.directory.folders place c.directory.number l)

-- what is not lasting does not matter: whatever session, and whatever bytes wait
pub lost-tidied : (c : Card) (s : Session) (r : Response) → tidied (lost s r c) ≡ tidied c
unfolding tidied
lost-tidied c s r = go (decode c.journal.what)
  where
    go : (t : Target)
        → cleared (with_journal (trimmed (redo t c.journal.bytes (lost s r c))) no_journal)
        ≡ cleared (with_journal (trimmed (redo t c.journal.bytes c)) no_journal)
    go none = refl
    go (credential n) = refl
    go (entry place) = refl
