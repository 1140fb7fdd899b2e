-- What bytes stored in a row leave.
use Prim.Native.Nat.{ℕ, suc, ◌+◌, ◌≤◌}
use mathlib.Core.List.{List, [], ◌∷◌, append_assoc}
use mathlib.Core.Path.{◌≡◌, refl, sym, ap, ◌∙◌}
use lib.ListN.{length, take, drop, set}
use lib.Seq.{sets, sets-eq}
use Rattle.files.specs.Part.{splice}
use Rattle.files.specs.State.{with_files, with_folders}
use Rattle.rules.specs.declared.Credential.{Credential}
use Rattle.rules.specs.declared.Card.{Card}
use Rattle.rules.specs.State.{with_credentials, with_directory, with_journal, journal_of, with_bytes}
use Rattle.power.specs.Store.{Memory, memory, Store, value_byte, entry_byte, folder_byte, journal_byte, area_byte, alter, with_byte, with_folder_byte, alter_file, alter_folder, put, puts, row}
use Rattle.power.proofs.Alter.{alter-twice, alter-same}

pub sets-splice : (xs : List ℕ) (a : ℕ) (ys : List ℕ) → a + length ys ≤ length xs → sets xs a ys ≡ splice xs a ys
unfolding splice
sets-splice xs a ys h = sets-eq ys xs a h ∙ append_assoc (take a xs) ys (drop (a + length ys) xs)

pub row-area : (a : ℕ) (bs : List ℕ) (m : Memory) → puts (row area_byte a bs) m ≡ memory m.card (sets m.area a bs)
row-area a [] m = refl
row-area a (b ∷ bs) m = row-area (suc a) bs (put (area_byte a b) m)

pub row-journal : (i : ℕ) (bs : List ℕ) (m : Memory)
    → puts (row journal_byte i bs) m ≡ memory (with_journal m.card (journal_of m.card.journal.what (sets m.card.journal.bytes i bs))) m.area
row-journal i [] m = refl
row-journal i (b ∷ bs) m = row-journal (suc i) bs (put (journal_byte i b) m)

-- of a credential's value
pub row-value : (n i : ℕ) (bs : List ℕ) (m : Memory)
    → puts (row (value_byte n) i bs) m
    ≡ memory (with_credentials m.card (alter (λ x. with_bytes (sets x.value i bs) x) m.card.credentials n)) m.area
row-value n i [] m = ap (λ (l : List Credential). memory (with_credentials m.card l) m.area) (sym (alter-same (λ x. x) (λ x. refl) m.card.credentials n))
row-value n i (b ∷ bs) m =
    row-value n (suc i) bs (put (value_byte n i b) m)
    ∙ ap (λ (l : List Credential). memory (with_credentials m.card l) m.area)
    (alter-twice (λ x. with_bytes (sets x.value (suc i) bs) x) (λ x. with_bytes (set x.value i b) x) (λ x. with_bytes (sets x.value i (b ∷ bs)) x) (λ x. refl)
    m.card.credentials n)

-- of an entry, and of a directory: bytes stored over it one after another
abbrev pub over_bytes : {A : Type 0} → (ℕ → ℕ → A → A) → ℕ → List ℕ → A → A
over_bytes f i [] x = x
over_bytes f i (b ∷ bs) x = over_bytes f (suc i) bs (f i b x)

module _ {A : Type 0} (store : ℕ → ℕ → Store) (with_byte : ℕ → ℕ → A → A) (n : ℕ) (list : Card → List A) (with-list : Card → List A → Card)
    (one : (i b : ℕ) (m : Memory) → put (store i b) m ≡ memory (with-list m.card (alter (with_byte i b) (list m.card) n)) m.area)
    (kept : (c : Card) → with-list c (list c) ≡ c) (there : (c : Card) (xs : List A) → list (with-list c xs) ≡ xs)
    (again : (c : Card) (xs ys : List A) → with-list (with-list c xs) ys ≡ with-list c ys) where
  pub row-over : (i : ℕ) (bs : List ℕ) (m : Memory)
      → puts (row store i bs) m ≡ memory (with-list m.card (alter (over_bytes with_byte i bs) (list m.card) n)) m.area
  row-over i [] m =
      ap (λ (c : Card). memory c m.area) (sym (kept m.card))
      ∙ ap (λ (xs : List A). memory (with-list m.card xs) m.area) (sym (alter-same (λ x. x) (λ x. refl) (list m.card) n))
  row-over i (b ∷ bs) m =
      let c = m.card in
      let xs = alter (with_byte i b) (list m.card) n in
      ap (puts (row store (suc i) bs)) (one i b m)
      ∙ row-over (suc i) bs (memory (with-list m.card xs) m.area)
      ∙ ap (λ (ys : List A). memory (with-list (with-list m.card xs) (alter (over_bytes with_byte (suc i) bs) ys n)) m.area) (there m.card xs)
      ∙ ap (λ (y : Card). memory y m.area) (again m.card xs (alter (over_bytes with_byte (suc i) bs) xs n))
      ∙ ap (λ (ys : List A). memory (with-list m.card ys) m.area)
      (alter-twice (over_bytes with_byte (suc i) bs) (with_byte i b) (over_bytes with_byte i (b ∷ bs)) (λ x. refl) (list m.card) n)

pub row-entry : (place i : ℕ) (bs : List ℕ) (m : Memory)
    → puts (row (entry_byte place) i bs) m ≡ memory (alter_file (over_bytes with_byte i bs) place m.card) m.area
row-entry place i bs m =
    row-over (entry_byte place) with_byte place (λ c. c.directory.files) (λ c fs. with_directory c (with_files c.directory fs))
    (λ j b n. refl) (λ c. refl) (λ c xs. refl) (λ c xs ys. refl) i bs m

pub row-folder : (place i : ℕ) (bs : List ℕ) (m : Memory)
    → puts (row (folder_byte place) i bs) m ≡ memory (alter_folder (over_bytes with_folder_byte i bs) place m.card) m.area
row-folder place i bs m =
    row-over (folder_byte place) with_folder_byte place (λ c. c.directory.folders) (λ c xs. with_directory c (with_folders c.directory xs))
    (λ j b n. refl) (λ c. refl) (λ c xs. refl) (λ c xs ys. refl) i bs m
