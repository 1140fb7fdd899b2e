-- The stores of each kind of change, as the code works them out.
use Prim.Native.Nat.{ℕ, zero, suc, ◌+◌, ◌-◌, ◌*◌, ◌≤◌, ◌<◌}
use mathlib.Core.Bool.{Bool, true, false, cond}
use mathlib.Core.List.{List, [], ◌∷◌, ◌++◌}
use mathlib.Core.Logic.{by_cases}
use mathlib.Core.Path.{◌≡◌, refl, sym, ap, ◌∙◌}
use native.Mathlib.Decide.{dec_lt}
use native.Mathlib.Omega.{arith}
use lib.ListN.{length, take, get_or, length-append, length-take, get_or-append, get_or-eq_default}
use lib.Seq.{get_or-take, get_or-append_right}
use Rattle.files.specs.declared.File.{File}
use Rattle.files.specs.declared.Folder.{Folder}
use Rattle.files.specs.Part.{zeros}
use Rattle.files.specs.State.{emptied, file_bytes, folder_bytes}
use Rattle.files.specs.Types.{is_variable}
use Rattle.files.specs.Record as records
use Rattle.rules.specs.Words.{filled}
use Rattle.rules.proofs.Equal.{filled-behind}
use Rattle.rules.proofs.Good.{filled-length, zero-at}
use Rattle.power.specs.Store.{Store, value_byte, value_length, tries_left, entry_byte, file_count, folder_byte, folder_count, area_byte, row}
use Rattle.power.specs.Journal.{credential, entry, value_bytes, known_bytes, target_stores, journaled}
use Rattle.power.specs.Address.{no_store, store_to, a_store, store_at}
use Rattle.power.proofs.Cuts.{length-row}
use Rattle.power.proofs.Fits.{length_taken, value-bytes}
use Rattle.stores.specs.Numbers.{only_at, turn, run_at}
use Rattle.stores.proofs.Numbers.{store-first, store-next, store-head, store_tail, store-none, store-only, store-row, store_bytes, store-zero, length-zeros, turn_low, store-run, length_run}

-- ---- a new value of a credential
module _ (d : List ℕ) (short : length d ≤ 16) where
  pub byte-length : (i : ℕ) → i ≡ 16 → length d ≡ get_or (value_bytes d) i 0
  byte-length i e = rw e (sym (length_taken d short))

  in-value : (i : ℕ) → i < 16 → get_or (value_bytes d) i 0 ≡ get_or (d ++ zeros (16 - length d)) i 0
  in-value i l = get_or-append (filled d) (length d ∷ []) 0 i (omega (arith, filled-length d short)) ∙ ap (λ (x : List ℕ). get_or x i 0) (filled-behind d)

  -- every other byte: nothing is behind a value, and 00 between it and the sixteenth
  pub byte-given : (i : ℕ) → (i ≡ 16 → ⊥) → get_or d i 0 ≡ get_or (value_bytes d) i 0
  byte-given i o =
      by_cases (dec_lt i (length d))
      (λ l. sym (in-value i (omega arith) ∙ get_or-append d (zeros (16 - length d)) 0 i l))
      (λ m. get_or-eq_default d 0 {n = i} (omega arith) ∙ by_cases (dec_lt i 16)
      (λ l. sym (in-value i l ∙ get_or-append_right d (zeros (16 - length d)) i 0 (omega arith) ∙ zero-at (i - length d) (16 - length d)))
      (λ n. sym (get_or-eq_default (value_bytes d) 0 {n = i} (omega (arith, value-bytes d short, o)))))

  module _ (n : ℕ) where
    abbrev value : List Store
    value = row (value_byte n) 0 (take 16 (value_bytes d))

    sixteen : length value ≡ 16
    sixteen = length-row (value_byte n) 0 (take 16 (value_bytes d)) ∙ omega (arith, length-take 16 (value_bytes d), value-bytes d short)

    many : length (target_stores (credential n) (value_bytes d)) ≡ 17
    many = omega (arith, length-append value (value_length n (get_or (value_bytes d) 16 0) ∷ []), sixteen)

    -- value and length are one run of bytes
    over-value : (i : ℕ) → i ≤ 16 → store_to (n * 19 + i) (get_or (value_bytes d) i 0) ≡ store_at (target_stores (credential n) (value_bytes d)) i
    over-value i l =
        by_cases (dec_lt i 16)
        (λ m. ap (λ b. store_to (n * 19 + i) b) (sym (get_or-take 16 (value_bytes d) i 0 m))
        ∙ store_bytes (value_byte n) (take 16 (value_bytes d)) i (omega (arith, length-take 16 (value_bytes d), value-bytes d short))
        ∙ store-first value (value_length n (get_or (value_bytes d) 16 0) ∷ []) 16 sixteen i m)
        (λ m. let e : i ≡ 16 = omega arith in
        rw e (store-head (value_length n (get_or (value_bytes d) 16 0)) [] (16 - 16) refl ∙ store-next value (value_length n (get_or (value_bytes d) 16 0) ∷ []) 16 sixteen 16 (omega arith)))

    pub store-value : (k : ℕ) → run_at (n + 1) 17 (get_or (value_bytes d) (turn 17 k) 0) (store_to (n * 19 + turn 17 k) (get_or (value_bytes d) (turn 17 k) 0)) k
        ≡ store_at (journaled (credential n) (value_bytes d)) k
    store-value k =
        rw (over-value (turn 17 k) (turn_low 17 k)) (store-run (credential n) (value_bytes d) 17 (value-bytes d short) many k)

    abbrev all : List Store
    all = journaled (credential n) (value_bytes d)

    -- and all tries behind it
    module _ (limit k : ℕ) where
      pub reload-value : k < 53 → store_at (journaled (credential n) (value_bytes d)) k ≡ store_at (journaled (credential n) (value_bytes d) ++ (tries_left n limit ∷ [])) k
      reload-value l = store-first all (tries_left n limit ∷ []) 53 (length_run (credential n) (value_bytes d) 17 (value-bytes d short) many) k l

      pub reload-tries : 53 ≤ k → only_at (store_to (n * 19 + 17) limit) (k - 53) ≡ store_at (journaled (credential n) (value_bytes d) ++ (tries_left n limit ∷ [])) k
      reload-tries l =
          store-only (tries_left n limit) (k - 53)
          ∙ store-next all (tries_left n limit ∷ []) 53 (length_run (credential n) (value_bytes d) 17 (value-bytes d short) many) k l

-- ---- what a file knows of its records
over-known : (p : ℕ) (f : File) (i : ℕ) → i ≤ 3 → a_store (entry_byte p (7 + i) (get_or (known_bytes f) i 0)) ≡ store_at (target_stores (entry p) (known_bytes f)) i
unfolding store_at
over-known p f zero l = refl
over-known p f (suc zero) l = refl
over-known p f (suc (suc zero)) l = refl
over-known p f (suc (suc (suc zero))) l = refl
over-known p f (suc (suc (suc (suc i)))) l = absurd (omega arith)

pub store-known : (p : ℕ) (f : File) (k : ℕ) → run_at (p + 16) 4 (get_or (known_bytes f) (turn 4 k) 0) (a_store (entry_byte p (7 + turn 4 k) (get_or (known_bytes f) (turn 4 k) 0))) k
    ≡ store_at (journaled (entry p) (known_bytes f)) k
store-known p f k = rw (over-known p f (turn 4 k) (turn_low 4 k)) (store-run (entry p) (known_bytes f) 4 refl refl k)

-- ---- a new record: its bytes, in a 2C file behind its length
at_front : (v : Bool) (d : List ℕ) (i : ℕ) → i < cond v 1 0 → length d ≡ get_or (cond v (length d ∷ d) d) i 0
at_front true d zero l = refl
at_front true d (suc i) l = absurd (omega arith)
at_front false d i l = absurd (omega arith)

behind-front : (v : Bool) (d : List ℕ) (i : ℕ) → cond v 1 0 ≤ i → get_or d (i - cond v 1 0) 0 ≡ get_or (cond v (length d ∷ d) d) i 0
behind-front true d zero l = absurd (omega arith)
behind-front true d (suc i) l = let e : suc i - 1 ≡ i = omega arith in rw e
behind-front false d i l = let e : i - 0 ≡ i = omega arith in rw e

with-front : (v : Bool) (d : List ℕ) → length (cond v (length d ∷ d) d) ≡ cond v 1 0 + length d
with-front true d = omega arith
with-front false d = omega arith

module _ (f : File) (d : List ℕ) where
  pub record-length : (i : ℕ) → i < records.lead f → length d ≡ get_or (records.entry f d) i 0
  unfolding records.entry
  record-length i l = at_front (is_variable f) d i l

  pub record-byte : (i : ℕ) → records.lead f ≤ i → get_or d (i - records.lead f) 0 ≡ get_or (records.entry f d) i 0
  unfolding records.entry
  record-byte i l = behind-front (is_variable f) d i l

  record-long : length (records.entry f d) ≡ records.lead f + length d
  unfolding records.entry
  record-long = with-front (is_variable f) d

  module _ (at k : ℕ) (more : List Store) where
    abbrev bytes : List Store
    bytes = row area_byte at (records.entry f d)

    long : length bytes ≡ records.lead f + length d
    long = length-row area_byte at (records.entry f d) ∙ record-long

    pub record-bytes : k < records.lead f + length d → a_store (area_byte (at + k) (get_or (records.entry f d) k 0)) ≡ store_at (row area_byte at (records.entry f d) ++ more) k
    record-bytes l = store-row area_byte at (records.entry f d) k (omega (arith, record-long)) ∙ store-first bytes more (records.lead f + length d) long k l

    pub record-next : records.lead f + length d ≤ k → store_at more (k - (records.lead f + length d)) ≡ store_at (row area_byte at (records.entry f d) ++ more) k
    record-next l = store-next bytes more (records.lead f + length d) long k l

-- the oldest record of a full file
module _ (full : Bool) (s : Store) (more : List Store) (k : ℕ) where
  pub oldest-stays : full ≡ false → store_at more k ≡ store_at (cond full (s ∷ []) [] ++ more) k
  oldest-stays e = rw e

  pub oldest-first : full ≡ true → k ≡ 0 → a_store s ≡ store_at (cond full (s ∷ []) [] ++ more) k
  oldest-first e z = rw e (store-head s more k z)

  pub oldest-gone : full ≡ true → (k ≡ 0 → ⊥) → store_at more (k - 1) ≡ store_at (cond full (s ∷ []) [] ++ more) k
  oldest-gone e o = rw e (store_tail s more k (omega (arith, o)))

-- ---- a presentation
module _ (agrees : Bool) (s : Store) (k : ℕ) where
  pub not-restored : agrees ≡ false → no_store ≡ store_at (cond agrees (s ∷ []) []) k
  not-restored e = rw e (store-none k)

  pub restored : agrees ≡ true → only_at (a_store s) k ≡ store_at (cond agrees (s ∷ []) []) k
  restored e = rw e (store-only s k)

-- ---- a new file
module _ (count end size : ℕ) (f : File) (k : ℕ) where
  abbrev cleared : List Store
  cleared = row area_byte end (zeros size)

  abbrev entered : List Store
  entered = row (entry_byte count) 0 (file_bytes (emptied f))

  abbrev counted : List Store
  counted = file_count (count + 1) ∷ []

  pub make-bytes : k < size → a_store (area_byte (end + k) 0) ≡ store_at (cleared ++ (entered ++ counted)) k
  make-bytes l = store-zero area_byte end size k l ∙ store-first cleared (entered ++ counted) size (length-zeros area_byte end size) k l

  make-next : size ≤ k → store_at (entered ++ counted) (k - size) ≡ store_at (cleared ++ (entered ++ counted)) k
  make-next l = store-next cleared (entered ++ counted) size (length-zeros area_byte end size) k l

  pub make-entry : size ≤ k → k - size < 12 → a_store (entry_byte count (k - size) (get_or (file_bytes (emptied f)) (k - size) 0)) ≡ store_at (cleared ++ (entered ++ counted)) k
  make-entry l m =
      store_bytes (entry_byte count) (file_bytes (emptied f)) (k - size) m ∙ store-first entered counted 12 refl (k - size) m ∙ make-next l

  pub make-count : size ≤ k → 12 ≤ k - size → only_at (a_store (file_count (count + 1))) (k - size - 12) ≡ store_at (cleared ++ (entered ++ counted)) k
  make-count l m = store-only (file_count (count + 1)) (k - size - 12) ∙ store-next entered counted 12 refl (k - size) m ∙ make-next l

-- ---- a new directory
module _ (number : ℕ) (x : Folder) (k : ℕ) where
  abbrev founded : List Store
  founded = row (folder_byte number) 0 (folder_bytes x)

  abbrev numbered : List Store
  numbered = folder_count (number + 1) ∷ []

  pub found-bytes : k < 3 → a_store (folder_byte number k (get_or (folder_bytes x) k 0)) ≡ store_at (founded ++ numbered) k
  found-bytes l = store_bytes (folder_byte number) (folder_bytes x) k l ∙ store-first founded numbered 3 refl k l

  pub found-count : 3 ≤ k → only_at (a_store (folder_count (number + 1))) (k - 3) ≡ store_at (founded ++ numbered) k
  found-count l = store-only (folder_count (number + 1)) (k - 3) ∙ store-next founded numbered 3 refl k l
