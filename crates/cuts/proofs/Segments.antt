-- What holds of recovery after each cut, by the segments of the stores: of a row of bytes in the area, of an append, of a new file or directory.
use Prim.Native.Nat.{ℕ, ◌+◌, ◌≤◌, ◌<◌}
use mathlib.Core.Bool.{true, false}
use mathlib.Core.List.{List, [], ◌∷◌, ◌++◌, append_assoc}
use mathlib.Core.Logic.{by_cases}
use mathlib.Core.Path.{◌≡◌, sym, ap, subst, ◌∙◌}
use native.Mathlib.Decide.{dec_le}
use native.Mathlib.Nat.{le_refl}
use native.Mathlib.Omega.{arith}
use lib.ListN.{length, take, length-take, length-append, length-replicate}
use lib.Seq.{take-length}
use Rattle.files.specs.declared.File.{File}
use Rattle.files.specs.declared.Folder.{Folder}
use Rattle.files.specs.Words.{is_zero}
use Rattle.files.specs.Part.{splice, zeros}
use Rattle.files.specs.State.{emptied, file_bytes, folder_bytes}
use Rattle.files.specs.Types.{size}
use Rattle.files.specs.Directory.{end}
use Rattle.files.specs.Create.{created, founded}
use Rattle.rules.specs.declared.Card.{Card}
use Rattle.rules.specs.Words.{all_of}
use Rattle.rules.specs.State.{with_directory, with_journal, no_journal}
use Rattle.power.specs.Store.{Memory, memory, Store, entry_byte, file_count, folder_byte, folder_count, journal_byte, area_byte, with_byte, with_folder_byte, alter_file, alter_folder, put, puts, row}
use Rattle.power.specs.Journal.{entry, known_bytes, redo, possible, journaled}
use Rattle.power.specs.Plan.{make_stores, found_stores}
use Rattle.power.specs.Recovery.{tidied}
use Rattle.power.proofs.Cuts.{puts-append, length-row, EachCut, cut-none, cut-then, cut-row, cut_at}
use Rattle.power.proofs.Rows.{sets-splice, row-area, over_bytes, row-entry, row-folder}
use Rattle.power.proofs.Journal.{none-possible, journal-law}
use Rattle.power.proofs.Fits.{entry-fit}
use Rattle.power.proofs.Tidy.{past-tidied, past-folders}
use Rattle.cuts.proofs.Whole.{empty-journal, entry-put, folder-put}

-- P of the recovered card and the area, and recovery may go by the journal
module _ (P : Card → List ℕ → Type 0) where
  pub record Then (m : Memory) : Type 0 where
    pub holds : P (tidied m.card) m.area
    pub may : possible m.card ≡ true

  -- of the same memory
  moved : {m n : Memory} → m ≡ n → Then n → Then m
  moved e h = subst Then (sym e) h

  take-fits : (a n : ℕ) (ys area : List ℕ) → a + length ys ≤ length area → a + length (take n ys) ≤ length area
  take-fits a n ys area h = omega (arith, length-take n ys)

  -- with an empty journal
  pub empty-then : (x : Card) (area : List ℕ) → x.journal ≡ no_journal → P (tidied x) area → Then (memory x area)
  empty-then x area e h = record { holds = h; may = none-possible x e }

  pub area-cuts : (x : Card) (area : List ℕ) (a : ℕ) (ys : List ℕ) → x.journal ≡ no_journal → a + length ys ≤ length area
      → ((n : ℕ) → P (tidied x) (splice area a (take n ys))) → EachCut Then (row area_byte a ys) (memory x area)
  area-cuts x area a ys e fits h =
      cut-row Then area_byte a ys (memory x area)
      (λ n. moved (row-area a (take n ys) (memory x area) ∙ ap (memory x) (sets-splice area a (take n ys) (take-fits a n ys area fits))) (empty-then x _ e (h n)))

  area-after : (x : Card) (area : List ℕ) (a : ℕ) (ys : List ℕ) → a + length ys ≤ length area
      → puts (row area_byte a ys) (memory x area) ≡ memory x (splice area a ys)
  area-after x area a ys fits = row-area a ys (memory x area) ∙ ap (memory x) (sets-splice area a ys fits)

  -- what recovery gives by equations
  by-equations : (m : Memory) (u : Card) (v : List ℕ) → tidied m.card ≡ u → m.area ≡ v → possible m.card ≡ true → P u v → Then m
  by-equations m u v e q p h = record { holds = rw (e, q) h; may = p }

  -- the record's bytes, then what the file knows
  pub append-cuts : (x : Card) (area : List ℕ) (place a : ℕ) (ys : List ℕ) (f : File) → x.journal ≡ no_journal → place < 16 → place < x.directory.count
      → all_of is_zero (known_bytes f) ≡ false → a + length ys ≤ length area
      → ((n : ℕ) → P (tidied x) (splice area a (take n ys)))
      → P (tidied (with_journal (redo (entry place) (known_bytes f) x) no_journal)) (splice area a ys)
      → EachCut Then (row area_byte a ys ++ journaled (entry place) (known_bytes f)) (memory x area)
  append-cuts x area place a ys f e low there some fits h k =
      cut-then Then (row area_byte a ys) (journaled (entry place) (known_bytes f)) (memory x area) (area-cuts x area a ys e fits h)
      (rw (area-after x area a ys fits ∙ ap (λ (z : Card). memory z (splice area a ys)) (empty-journal x e)) journal)
    where
      whole : P (tidied (with_journal x no_journal)) (splice area a ys)
      whole = rw (← empty-journal x e, ← take-length ys) (h (length ys))

      journal : EachCut Then (journaled (entry place) (known_bytes f)) (memory (with_journal x no_journal) (splice area a ys))
      journal n =
          let law = journal-law x (splice area a ys) (entry place) (known_bytes f) (entry-fit x (splice area a ys) place f low there some) n in
          by_cases (dec_le n (length (row journal_byte 0 (known_bytes f))))
          (λ l. let o = law.0 l in by-equations _ _ _ o.card-is o.area-is o.may whole)
          (λ l. let o = law.1 (omega arith) in by-equations _ _ _ o.card-is o.area-is o.may k)

  -- a new file: its bytes, and its entry past the last file
  pub make-before : (x : Card) (area : List ℕ) (f : File) → x.journal ≡ no_journal → end x.directory + length (zeros (size f)) ≤ length area
      → ((n : ℕ) → P (tidied x) (splice area (end x.directory) (take n (zeros (size f)))))
      → EachCut Then (row area_byte (end x.directory) (zeros (size f)) ++ row (entry_byte x.directory.count) 0 (file_bytes (emptied f))) (memory x area)
  make-before x area f e fits h =
      cut-then Then (row area_byte (end x.directory) (zeros (size f))) (row (entry_byte n) 0 bs) (memory x area)
      (area-cuts x area (end x.directory) (zeros (size f)) e fits h)
      (rw (area-after x area (end x.directory) (zeros (size f)) fits)
      (cut-row Then (entry_byte n) 0 bs (memory x y)
      (λ m. moved (row-entry n 0 (take m bs) (memory x y)) (past (over_bytes with_byte 0 (take m bs))))))
    where
      n : ℕ
      n = x.directory.count

      bs : List ℕ
      bs = file_bytes (emptied f)

      y : List ℕ
      y = splice area (end x.directory) (zeros (size f))

      whole : P (tidied x) y
      whole = rw (take-length (zeros (size f))) at (h (length (zeros (size f))))

      past : (F : File → File) → Then (memory (alter_file F x.directory.count x) y)
      past F = empty-then (alter_file F x.directory.count x) y e (rw (past-tidied x F x.directory.count (le_refl _)) whole)

  -- then the number of files, which makes it
  pub make-after : (x : Card) (area : List ℕ) (f : File) → x.journal ≡ no_journal → end x.directory + length (zeros (size f)) ≤ length area
      → P (tidied (with_directory x (created x.directory f))) (splice area (end x.directory) (zeros (size f)))
      → EachCut Then []
      (put (file_count (x.directory.count + 1))
      (puts (row area_byte (end x.directory) (zeros (size f)) ++ row (entry_byte x.directory.count) 0 (file_bytes (emptied f))) (memory x area)))
  make-after x area f e fits k =
      cut-none Then _
      (moved
      (ap (put (file_count (n + 1))) (puts-append (row area_byte (end x.directory) (zeros (size f))) (row (entry_byte n) 0 bs) (memory x area)
      ∙ ap (puts (row (entry_byte n) 0 bs)) (area-after x area (end x.directory) (zeros (size f)) fits))
      ∙ sym (puts-append (row (entry_byte n) 0 bs) (file_count (n + 1) ∷ []) (memory x y)) ∙ entry-put x f y) (empty-then (with_directory x (created x.directory f)) y e k))
    where
      n : ℕ
      n = x.directory.count

      bs : List ℕ
      bs = file_bytes (emptied f)

      y : List ℕ
      y = splice area (end x.directory) (zeros (size f))

-- the last of its stores decides: until then P, and then Q
pub make-cuts : (P Q : Card → List ℕ → Type 0) (x : Card) (area : List ℕ) (f : File) → x.journal ≡ no_journal
    → end x.directory + length (zeros (size f)) ≤ length area
    → ((n : ℕ) → P (tidied x) (splice area (end x.directory) (take n (zeros (size f)))))
    → Q (tidied (with_directory x (created x.directory f))) (splice area (end x.directory) (zeros (size f)))
    → (n : ℕ)
    → (n < size f + 13 → Then P (puts (take n (make_stores x f)) (memory x area))) × (size f + 13 ≤ n → Then Q (puts (take n (make_stores x f)) (memory x area)))
make-cuts P Q x area f e fits h k n =
    let law = cut_at (Then P) (Then Q) (first ++ second) last [] (memory x area) (make-before P x area f e fits h) (make-after Q x area f e fits k) n in (
      λ l. subst (λ (s : List Store). Then P (puts (take n s) (memory x area))) together (law.0 (omega (arith, long, l))),
      λ l. subst (λ (s : List Store). Then Q (puts (take n s) (memory x area))) together (law.1 (omega (arith, long, l))),
    )
  where
    first : List Store
    first = row area_byte (end x.directory) (zeros (size f))

    second : List Store
    second = row (entry_byte x.directory.count) 0 (file_bytes (emptied f))

    last : Store
    last = file_count (x.directory.count + 1)

    together : (first ++ second) ++ (last ∷ []) ≡ make_stores x f
    together = append_assoc first second (last ∷ [])

    long : length (first ++ second) ≡ size f + 12
    long =
        let z : length (zeros (size f)) ≡ size f = length-replicate (size f) 0 in
        omega (arith, length-append first second, length-row area_byte (end x.directory) (zeros (size f)), z)

-- a new directory: its bytes past the last, and then the number of directories, which makes it
pub found-cuts : (P Q : Card → List ℕ → Type 0) (x : Card) (area : List ℕ) (f : Folder) → x.journal ≡ no_journal → P (tidied x) area
    → Q (tidied (with_directory x (founded x.directory f))) area → (n : ℕ)
    → (n < 4 → Then P (puts (take n (found_stores x f)) (memory x area))) × (4 ≤ n → Then Q (puts (take n (found_stores x f)) (memory x area)))
found-cuts P Q x area f e h k n =
    let law = cut_at (Then P) (Then Q) (row (folder_byte place) 0 (folder_bytes f)) (folder_count (place + 1)) [] (memory x area)
    (cut-row (Then P) (folder_byte place) 0 (folder_bytes f) (memory x area)
    (λ m. moved P (row-folder place 0 (take m (folder_bytes f)) (memory x area)) (past (over_bytes with_folder_byte 0 (take m (folder_bytes f))))))
    (cut-none (Then Q) _ (moved Q (sym (puts-append (row (folder_byte place) 0 (folder_bytes f)) (folder_count (place + 1) ∷ []) (memory x area)) ∙ folder-put x f area)
    (empty-then Q (with_directory x (founded x.directory f)) area e k))) n in
    (λ l. law.0 (omega arith), λ l. law.1 (omega arith))
  where
    place : ℕ
    place = x.directory.number

    past : (F : Folder → Folder) → Then P (memory (alter_folder F x.directory.number x) area)
    past F = empty-then P (alter_folder F x.directory.number x) area e (rw (past-folders x F x.directory.number (le_refl _)) h)
