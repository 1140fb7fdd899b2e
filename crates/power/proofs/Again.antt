-- Recovery itself is cut and done again: it gives the same card.
use Prim.Native.Nat.{ℕ, zero, suc, ◌+◌, ◌-◌, ◌≤◌, ◌<◌}
use mathlib.Core.Bool.{Bool, true, false, cond, ◌&&◌}
use mathlib.Core.List.{List, [], ◌∷◌, ◌++◌}
use mathlib.Core.Path.{◌≡◌, refl, sym, ap, ap₂, subst, ◌∙◌}
use mathlib.Core.Logic.{by_cases}
use native.Mathlib.Decide.{ℕ_discrete}
use native.Mathlib.Nat.{le_refl}
use native.Mathlib.Omega.{arith}
use lib.Dec.{eqb}
use lib.ListN.{length, take, get_or, set, length-take, length-set}
use lib.Seq.{sets, get_or-set_same, get_or-set_other}
use borrow.Author.Tests.{eqb-true}
use Rattle.files.specs.declared.File.{File}
use Rattle.files.specs.declared.Folder.{Folder}
use Rattle.files.specs.Part.{zeros}
use Rattle.files.specs.State.{blank_file, blank_folder, with_files, with_folders, file_bytes, folder_bytes}
use Rattle.files.specs.Create.{area_size}
use Rattle.files.proofs.Checks.{split}
use Rattle.rules.specs.declared.Answer.{Answer}
use Rattle.rules.specs.declared.Credential.{Credential}
use Rattle.rules.specs.declared.Card.{Card}
use Rattle.rules.specs.declared.Journal.{Journal}
use Rattle.rules.specs.State.{how_many, no_credential, with_directory, with_journal, journal_size, journal_of, no_journal, with_bytes, with_length, with_left}
use Rattle.rules.specs.State as state
use Rattle.rules.specs.Sound.{sound}
use Rattle.rules.specs.Calls.{answer, cleared}
use Rattle.rules.proofs.Checks.{one_of}
use Rattle.power.specs.Store.{Memory, memory, Store, value_byte, value_length, tries_left, entry_byte, file_count, folder_byte, folder_count, journal_what, journal_byte, area_byte, alter, alter_file, alter_folder, with_byte, with_folder_byte, put, puts, row}
use Rattle.power.specs.Journal.{Target, none, credential, entry, is_pin, is_entry, decode, with_known, redo, left_by_cut, possible, target_stores}
use Rattle.power.specs.Recovery.{Laid, RecoveryCut, RecoveryWhole, RecoveryCutAgain, cut_again, recover, trim, trimmed, tidied, blank_rows, blank_stores, recover_stores}
use Rattle.power.proofs.Alter.{alter-set, alter-each, alter-length}
use Rattle.power.proofs.Cuts.{puts-append, EachCut, cut-first, cut-then, cut-whole, cut-row, Keep, cut-kept, keep_row, keep-then}
use Rattle.power.proofs.Rows.{row-journal, row-entry, row-folder}
use Rattle.power.proofs.Journal.{Same, target-kept, empty_left}
use Rattle.power.proofs.Fits.{sets-all, credential-made, entry-made}
use Rattle.power.proofs.Tidy.{trim-none, trim-twice, past-tidied, past-folders}

-- places made blank, from one on
abbrev blanked : {A : Type 0} → A → ℕ → ℕ → List A → List A
blanked blank place zero xs = xs
blanked blank place (suc more) xs = blanked blank (suc place) more (alter (λ x. blank) xs place)

files-blanked : (place more : ℕ) (m : Memory) → puts (blank_rows entry_byte (file_bytes blank_file) place more) m
    ≡ memory (with_directory m.card (with_files m.card.directory (blanked blank_file place more m.card.directory.files))) m.area
files-blanked place zero m = refl
files-blanked place (suc more) m =
    puts-append (row (entry_byte place) 0 (file_bytes blank_file)) (blank_rows entry_byte (file_bytes blank_file) (suc place) more) m
    ∙ ap (puts (blank_rows entry_byte (file_bytes blank_file) (suc place) more)) (row-entry place 0 (file_bytes blank_file) m)
    ∙ files-blanked (suc place) more (memory (alter_file (λ f. blank_file) place m.card) m.area)

folders-blanked : (place more : ℕ) (m : Memory) → puts (blank_rows folder_byte (folder_bytes blank_folder) place more) m
    ≡ memory (with_directory m.card (with_folders m.card.directory (blanked blank_folder place more m.card.directory.folders))) m.area
folders-blanked place zero m = refl
folders-blanked place (suc more) m =
    puts-append (row (folder_byte place) 0 (folder_bytes blank_folder)) (blank_rows folder_byte (folder_bytes blank_folder) (suc place) more) m
    ∙ ap (puts (blank_rows folder_byte (folder_bytes blank_folder) (suc place) more)) (row-folder place 0 (folder_bytes blank_folder) m)
    ∙ folders-blanked (suc place) more (memory (alter_folder (λ x. blank_folder) place m.card) m.area)

-- up to there they stay, and from there on they are blank
module _ {A : Type 0} (blank : A) where
  blanked-length : (place more : ℕ) (xs : List A) → length (blanked blank place more xs) ≡ length xs
  blanked-length place zero xs = refl
  blanked-length place (suc more) xs = blanked-length (suc place) more (alter (λ x. blank) xs place) ∙ alter-length (λ x. blank) xs place

  blanked-below : (place more : ℕ) (xs : List A) (i : ℕ) → i < place → get_or (blanked blank place more xs) i blank ≡ get_or xs i blank
  blanked-below place zero xs i l = refl
  blanked-below place (suc more) xs i l =
      blanked-below (suc place) more (alter (λ x. blank) xs place) i (omega arith)
      ∙ ap (λ (ys : List A). get_or ys i blank) (alter-set (λ x. blank) xs place blank)
      ∙ get_or-set_other xs place i blank blank (λ e. omega arith)

  blanked-there : (place more : ℕ) (xs : List A) (i : ℕ) → place ≤ i → i < place + more → i < length xs → get_or (blanked blank place more xs) i blank ≡ blank
  blanked-there place zero xs i l m h = absurd (omega arith)
  blanked-there place (suc more) xs i l m h =
      by_cases (ℕ_discrete i place)
      (λ q. blanked-below (suc place) more (alter (λ x. blank) xs place) i (omega arith)
      ∙ ap (λ (ys : List A). get_or ys i blank) (alter-set (λ x. blank) xs place blank)
      ∙ rw q (get_or-set_same xs place blank blank (omega arith)))
      (λ o. blanked-there (suc place) more (alter (λ x. blank) xs place) i (omega (arith, o)) (omega arith) (omega (arith, alter-length (λ x. blank) xs place)))

  -- trimming does not look past
  trim_same : (n : ℕ) (xs ys : List A) → length xs ≡ length ys → ((i : ℕ) → i < n → get_or xs i blank ≡ get_or ys i blank) → trim blank xs n ≡ trim blank ys n
  trim_same n [] [] l h = refl
  trim_same n [] (y ∷ ys) l h = absurd (omega arith)
  trim_same n (x ∷ xs) [] l h = absurd (omega arith)
  trim_same zero (x ∷ xs) (y ∷ ys) l h = ap (λ (r : List A). blank ∷ r) (trim_same zero xs ys (omega arith) (λ i z. absurd (omega arith)))
  trim_same (suc n) (x ∷ xs) (y ∷ ys) l h =
      ap₂ (λ (z : A) (r : List A). z ∷ r) (h zero (omega arith)) (trim_same n xs ys (omega arith) (λ i z. h (suc i) (omega arith)))

  -- so blanking is trimming
  blanked-trim : (most n : ℕ) (xs : List A) → length xs ≡ most → blanked blank n (most - n) xs ≡ trim blank xs n
  blanked-trim most n xs s =
      sym (trim-none blank (blanked blank n (most - n) xs) n
      (λ i l m. blanked-there n (most - n) xs i l (omega (arith, blanked-length n (most - n) xs)) (omega (arith, blanked-length n (most - n) xs))))
      ∙ trim_same n (blanked blank n (most - n) xs) xs (blanked-length n (most - n) xs) (λ i l. blanked-below n (most - n) xs i l)

-- both kinds of places
all-blanked : (c x : Card) (area : List ℕ) → x.directory.count ≡ c.directory.count → x.directory.number ≡ c.directory.number
    → length x.directory.files ≡ 16 → length x.directory.folders ≡ 4 → puts (blank_stores c) (memory x area) ≡ memory (trimmed x) area
all-blanked c x area e q files folders =
    let n = c.directory.count in
    let k = c.directory.number in
    let fs = blanked blank_file c.directory.count (16 - c.directory.count) x.directory.files in
    puts-append (blank_rows entry_byte (file_bytes blank_file) n (16 - n)) (blank_rows folder_byte (folder_bytes blank_folder) k (4 - k)) (memory x area)
    ∙ ap (puts (blank_rows folder_byte (folder_bytes blank_folder) k (4 - k))) (files-blanked n (16 - n) (memory x area))
    ∙ folders-blanked k (4 - k) (memory (with_directory x (with_files x.directory fs)) area)
    ∙ ap₂ (λ (a : List File) (b : List Folder). memory (with_directory x (with_folders (with_files x.directory a) b)) area)
    (blanked-trim blank_file 16 n x.directory.files files ∙ ap (trim blank_file x.directory.files) (sym e))
    (blanked-trim blank_folder 4 k x.directory.folders folders ∙ ap (trim blank_folder x.directory.folders) (sym q))

redo-lengths : (t : Target) (b : List ℕ) (c : Card)
    → (length (redo t b c).directory.files ≡ length c.directory.files) × ((redo t b c).directory.folders ≡ c.directory.folders)
redo-lengths none b c = (refl, refl)
redo-lengths (credential n) b c = (refl, refl)
redo-lengths (entry place) b c = (alter-length (with_known b) c.directory.files place, refl)

module _ (c : Card) (area : List ℕ) (laid : Laid c) where
  abbrev t : Target
  t = decode c.journal.what

  abbrev j : List ℕ
  j = c.journal.bytes

  -- what recovery gives is the same, and it is served where it was
  record Gives (m : Memory) : Type 0 where
    card-is : tidied m.card ≡ tidied c
    may : possible c ≡ true → possible m.card ≡ true
    area-is : m.area ≡ area

  same_gives : (m : Memory) → Same t j c.journal c area m → Gives m
  unfolding tidied
  same_gives m s = record {
    card-is =
        ap (λ (x : Journal). cleared (with_journal (trimmed (redo (decode x.what) x.bytes m.card)) no_journal)) s.journal-is
        ∙ ap (λ (x : Card). cleared (with_journal (trimmed x) no_journal)) s.redo-is;
    may = λ e. ap₂ left_by_cut s.journal-is s.count-is ∙ e;
    area-is = s.area-is;
  }

  redoing : EachCut Gives (target_stores t j) (memory c area)
  redoing n =
      same_gives _ (cut-kept (Same t j c.journal c area) (target_stores t j) (memory c area) (target-kept t j j c.journal c area)
      (record { journal-is = refl; count-is = refl; redo-is = refl; area-is = refl }) n)

  -- a PIN's number is low
  low : (what : ℕ) → is_pin what ≡ true → what - 1 < how_many
  low what e =
      one_of (eqb what 2) (eqb what 3) e (λ a. let q : what ≡ 2 = eqb-true what 2 a in omega arith) (λ a. let q : what ≡ 3 = eqb-true what 3 a in omega arith)

  made : puts (target_stores t j) (memory c area) ≡ memory (redo t j c) area
  made = split (λ (x : Target). puts (target_stores x j) (memory c area) ≡ memory (redo x j c) area) (is_pin c.journal.what)
      (λ e. credential-made c area (c.journal.what - 1) j (taken ∙ sym (laid.values (c.journal.what - 1) (low c.journal.what e))))
      (λ e. split (λ (x : Target). puts (target_stores x j) (memory c area) ≡ memory (redo x j c) area) (is_entry c.journal.what)
      (λ q. entry-made c area (c.journal.what - 16) j) (λ q. refl))
    where
      taken : length (take 16 j) ≡ 16
      taken = omega (arith, length-take 16 j, laid.bytes)

  -- with the journal as it is then
  abbrev y : Card
  y = redo (decode c.journal.what) c.journal.bytes c

  redo-kept : (x : Target)
      → ((redo x j c).journal ≡ c.journal) × (((redo x j c).directory.count ≡ c.directory.count) × ((redo x j c).directory.number ≡ c.directory.number))
  redo-kept none = (refl, (refl, refl))
  redo-kept (credential n) = (refl, (refl, refl))
  redo-kept (entry place) = (refl, (refl, refl))

  -- past the last file and the last directory, the journal standing
  record Past (m : Memory) : Type 0 where
    gives : Gives m
    count-is : m.card.directory.count ≡ c.directory.count
    number_is : m.card.directory.number ≡ c.directory.number

  past-kept : (place : ℕ) → c.directory.count ≤ place → (i b : ℕ) (m : Memory) → Past m → Past (put (entry_byte place i b) m)
  past-kept place l i b m p = record {
    gives = record {
      card-is = past-tidied m.card (with_byte i b) place (omega (arith, p.count-is)) ∙ p.gives.card-is;
      may = p.gives.may;
      area-is = p.gives.area-is;
    };
    count-is = p.count-is;
    number_is = p.number_is;
  }

  folder-kept : (place : ℕ) → c.directory.number ≤ place → (i b : ℕ) (m : Memory) → Past m → Past (put (folder_byte place i b) m)
  folder-kept place l i b m p = record {
    gives = record {
      card-is = past-folders m.card (with_folder_byte i b) place (omega (arith, p.number_is)) ∙ p.gives.card-is;
      may = p.gives.may;
      area-is = p.gives.area-is;
    };
    count-is = p.count-is;
    number_is = p.number_is;
  }

  rows-kept : (f : ℕ → ℕ → ℕ → Store) (bytes : List ℕ) (least : ℕ) → ((place : ℕ) → least ≤ place → (i b : ℕ) (m : Memory) → Past m → Past (put (f place i b) m))
      → (place more : ℕ) → least ≤ place → Keep Past (blank_rows f bytes place more)
  rows-kept f bytes least h place zero l = tt
  rows-kept f bytes least h place (suc more) l =
      keep-then Past (row (f place) 0 bytes) (blank_rows f bytes (suc place) more)
      (keep_row Past (f place) (h place l) 0 bytes) (rows-kept f bytes least h (suc place) more (omega arith))

  start-past : Past (memory y area)
  start-past = record {
    gives = rw made at (cut-whole Gives (target_stores t j) (memory c area) redoing);
    count-is = (redo-kept t).1.0;
    number_is = (redo-kept t).1.1;
  }

  blanking : EachCut Past (blank_stores c) (memory y area)
  blanking =
      cut-kept Past (blank_stores c) (memory y area)
      (keep-then Past (blank_rows entry_byte (file_bytes blank_file) c.directory.count (16 - c.directory.count))
      (blank_rows folder_byte (folder_bytes blank_folder) c.directory.number (4 - c.directory.number))
      (rows-kept entry_byte (file_bytes blank_file) c.directory.count past-kept c.directory.count (16 - c.directory.count) (le_refl _))
      (rows-kept folder_byte (folder_bytes blank_folder) c.directory.number folder-kept c.directory.number (4 - c.directory.number) (le_refl _)))
      start-past

  blank-past : puts (blank_stores c) (memory y area) ≡ memory (trimmed y) area
  blank-past =
      let k = redo-kept t in
      let r = redo-lengths t j c in
      all-blanked c y area k.1.0 k.1.1 (r.0 ∙ laid.places) (ap length r.1 ∙ laid.folders)

  -- then the journal is about nothing, and has no bytes
  abbrev empties : List Store
  empties = row journal_byte 0 (zeros journal_size)

  said : put (journal_what 0) (memory (trimmed y) area) ≡ memory (with_journal (trimmed y) (journal_of 0 j)) area
  said = ap (λ (x : Journal). memory (with_journal (trimmed y) (journal_of 0 x.bytes)) area) (redo-kept t).0

  empty-gives : (b : List ℕ) → tidied (with_journal (trimmed y) (journal_of 0 b)) ≡ tidied c
  unfolding tidied
  empty-gives b =
      ap₂ (λ (fs : List File) (xs : List Folder). cleared (with_journal (with_directory y (with_folders (with_files y.directory fs) xs)) no_journal))
      (trim-twice blank_file y.directory.files y.directory.count) (trim-twice blank_folder y.directory.folders y.directory.number)

  emptying : EachCut Gives empties (memory (with_journal (trimmed y) (journal_of 0 j)) area)
  emptying =
      cut-row Gives journal_byte 0 (zeros journal_size) (memory (with_journal (trimmed y) (journal_of 0 j)) area)
      (λ n. rw (row-journal 0 (take n (zeros journal_size)) (memory (with_journal (trimmed y) (journal_of 0 j)) area))
      (record { card-is = empty-gives (sets j 0 (take n (zeros journal_size))); may = λ e. empty_left _ _; area-is = refl }))

  emptied : puts empties (memory (with_journal (trimmed y) (journal_of 0 j)) area) ≡ memory (with_journal (trimmed y) no_journal) area
  emptied =
      row-journal 0 (zeros journal_size) (memory (with_journal (trimmed y) (journal_of 0 j)) area)
      ∙ ap (λ (l : List ℕ). memory (with_journal (trimmed y) (journal_of 0 l)) area) (sets-all j (zeros journal_size) (sym laid.bytes))

  again : EachCut Gives (recover_stores c) (memory c area)
  again =
      cut-then Gives (target_stores t j) (blank_stores c ++ (journal_what 0 ∷ empties)) (memory c area) redoing
      (rw made
      (cut-then Gives (blank_stores c) (journal_what 0 ∷ empties) (memory y area) (λ n. (blanking n).gives)
      (rw blank-past
      (cut-first Gives (journal_what 0) empties (memory (trimmed y) area) (rw blank-past at (cut-whole Past (blank_stores c) (memory y area) blanking).gives)
      (rw said emptying)))))

  -- all of it
  path : puts (recover_stores c) (memory c area) ≡ memory (with_journal (trimmed y) no_journal) area
  path =
      puts-append (target_stores t j) (blank_stores c ++ (journal_what 0 ∷ empties)) (memory c area)
      ∙ ap (puts (blank_stores c ++ (journal_what 0 ∷ empties))) made
      ∙ puts-append (blank_stores c) (journal_what 0 ∷ empties) (memory y area)
      ∙ ap (puts (journal_what 0 ∷ empties)) blank-past
      ∙ ap (puts empties) said
      ∙ emptied

pub recovery-cut : RecoveryCut
recovery-cut c area laid n = let h = again c area laid n in (h.card-is, (h.may, h.area-is))

pub recovery-whole : RecoveryWhole
unfolding tidied
recovery-whole c area laid = ap (λ (m : Memory). cleared m.card) (path c area laid)

-- the arrays keep their lengths, whatever is stored
laid-put : (s : Store) (m : Memory) → Laid m.card → Laid (put s m).card
laid-put (value_byte n i b) m h = record {
  values = λ k l.
      alter-each (λ (x : Credential). length x.value ≡ 16) (λ x. with_bytes (set x.value i b) x) (λ x e. length-set x.value i b ∙ e)
      m.card.credentials n k no_credential (h.values k l);
  bytes = h.bytes;
  places = h.places;
  folders = h.folders;
}
laid-put (value_length n b) m h = record {
  values = λ k l.
      alter-each (λ (x : Credential). length x.value ≡ 16) (with_length b) (λ x e. e) m.card.credentials n k no_credential (h.values k l);
  bytes = h.bytes;
  places = h.places;
  folders = h.folders;
}
laid-put (tries_left n b) m h = record {
  values = λ k l.
      alter-each (λ (x : Credential). length x.value ≡ 16) (with_left b) (λ x e. e) m.card.credentials n k no_credential (h.values k l);
  bytes = h.bytes;
  places = h.places;
  folders = h.folders;
}
laid-put (entry_byte place i b) m h =
    record { values = h.values; bytes = h.bytes; places = alter-length (with_byte i b) m.card.directory.files place ∙ h.places; folders = h.folders }
laid-put (file_count b) m h = record { values = h.values; bytes = h.bytes; places = h.places; folders = h.folders }
laid-put (folder_byte place i b) m h =
    record { values = h.values; bytes = h.bytes; places = h.places; folders = alter-length (with_folder_byte i b) m.card.directory.folders place ∙ h.folders }
laid-put (folder_count b) m h = record { values = h.values; bytes = h.bytes; places = h.places; folders = h.folders }
laid-put (journal_what b) m h = record { values = h.values; bytes = h.bytes; places = h.places; folders = h.folders }
laid-put (journal_byte i b) m h =
    record { values = h.values; bytes = length-set m.card.journal.bytes i b ∙ h.bytes; places = h.places; folders = h.folders }
laid-put (area_byte i b) m h = h

laid-puts : (xs : List Store) (m : Memory) → Laid m.card → Laid (puts xs m).card
laid-puts [] m h = h
laid-puts (s ∷ xs) m h = laid-puts xs (put s m) (laid-put s m h)

-- recovery goes by what it gives, and by whether it is served
recover-as : (c x : Card) (area : List ℕ) → tidied x ≡ tidied c → possible c ≡ true → possible x ≡ true → (recover c area).outcome ≡ 0 → recover x area ≡ recover c area
unfolding recover
recover-as c x area e p q =
    rw (p, q, e)
    (split (λ (b : Answer). (b.outcome ≡ 0) → cond (eqb (length area) area_size) (cond (sound (tidied c) area) (answer 0 (tidied c) 0) (answer 4 x 0)) (answer 2 x 0) ≡ b)
    (eqb (length area) area_size) (λ a. rw a (second (sound (tidied c) area) refl)) (λ a z. absurd (omega (arith, z))))
  where
    second : (b : Bool) → sound (tidied c) area ≡ b → ((cond b (answer 0 (tidied c) 0) (answer 4 c 0)).outcome ≡ 0)
        → cond (sound (tidied c) area) (answer 0 (tidied c) 0) (answer 4 x 0) ≡ cond b (answer 0 (tidied c) 0) (answer 4 c 0)
    second true s z = rw s
    second false s z = absurd (omega (arith, z))

-- a served recovery has a journal that a cut leaves
served-possible : (c : Card) (area : List ℕ) → (recover c area).outcome ≡ 0 → possible c ≡ true
unfolding recover
served-possible c area = go (eqb (length area) area_size) (possible c) refl
  where
    go : (a b : Bool) → possible c ≡ b → ((cond a (cond (b && sound (tidied c) area) (answer 0 (tidied c) 0) (answer 4 c 0)) (answer 2 c 0)).outcome ≡ 0) → possible c ≡ true
    go true true e z = e
    go true false e z = absurd (omega (arith, z))
    go false b e z = absurd (omega (arith, z))

pub recovery-cut-again : RecoveryCutAgain
recovery-cut-again c area laid ok [] = refl
recovery-cut-again c area laid ok (n ∷ ns) =
    let m = puts (take n (recover_stores c)) (memory c area) in
    let h = recovery-cut c area laid n in
    let p = served-possible c area ok in
    let same : recover m.card area ≡ recover c area = recover-as c m.card area h.0 p (h.1.0 p) ok in
    subst (λ (y : List ℕ). recover (cut_again ns (memory m.card y)).card (cut_again ns (memory m.card y)).area ≡ recover c area) (sym h.1.1)
    (recovery-cut-again m.card area (laid-puts (take n (recover_stores c)) (memory c area) laid) (ap (λ (a : Answer). a.outcome) same ∙ ok) ns ∙ same)
