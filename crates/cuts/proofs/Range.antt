-- The proof of `specs/Range`.
use Prim.Native.Nat.{ℕ, zero, suc, ◌+◌, ◌-◌, ◌≤◌, ◌<◌}
use mathlib.Core.Bool.{true, cond}
use mathlib.Core.List.{List, [], ◌∷◌, ◌++◌}
use mathlib.Core.Path.{◌≡◌}
use mathlib.Core.Logic.{inl, inr, ⊎_elim}
use native.Mathlib.Omega.{arith}
use lib.ListN.{length, take, length-take, length-replicate}
use Rattle.files.specs.declared.File.{File}
use Rattle.files.specs.Part.{zeros}
use Rattle.files.specs.State.{emptied, file_bytes, folder_bytes}
use Rattle.files.specs.Types.{size}
use Rattle.files.specs.Directory.{start, end}
use Rattle.files.specs.Record.{next_start, appended}
use Rattle.files.specs.Record as files
use Rattle.files.proofs.Checks.{split}
use Rattle.files.proofs.Kept.{filed}
use Rattle.files.proofs.Making.{makes as made_in, founding}
use Rattle.rules.specs.declared.Card.{Card}
use Rattle.rules.specs.Words.{same}
use Rattle.rules.specs.State.{Which, number_of, login, logins}
use Rattle.rules.specs.Sound.{sound}
use Rattle.rules.specs.Frame.{framed}
use Rattle.rules.specs.Effect.{Deed, turns, enters, shows, stores, appends, makes, founds, Touch, nothing, presents, changes, reloads, challenges, Effect}
use Rattle.rules.specs.Target.{file_of}
use Rattle.rules.specs.List.{listed}
use Rattle.rules.specs.Response.{fetches}
use Rattle.rules.proofs.Good.{Good, sound-good, numbered, pin-short}
use Rattle.rules.proofs.Targets.{place-run}
use Rattle.demands.proofs.Rows.{FairTouch}
use Rattle.power.specs.Store.{Store, value_byte, value_length, tries_left, entry_byte, file_count, folder_byte, folder_count, journal_what, journal_byte, area_byte, row}
use Rattle.power.specs.Journal.{Target, credential, entry, code, value_bytes, known_bytes, target_stores, journaled}
use Rattle.power.specs.Plan.{is_full, Act, act_of, stores_for, stores_of, deed_stores, touch_stores, lowers, restores}
use Rattle.power.specs.Address.{address, store_at}
use Rattle.power.proofs.Fits.{value-bytes}
use Rattle.cuts.specs.Range.{Lasting, StoresLast, AddressesFit}
use Rattle.cuts.proofs.Planned.{plan-by}
use Rattle.cuts.proofs.Doing.{Doing, doing}

abbrev Last : List Store → Type 0
Last xs = (k : ℕ) → Lasting (store_at xs k).at

last_none : Last []
unfolding store_at
last_none k = inl (omega arith)

last-first : (s : Store) (more : List Store) → Lasting (address s) → Last more → Last (s ∷ more)
unfolding store_at
last-first s more h r zero = h
last-first s more h r (suc k) = r k

last_one : (s : Store) → Lasting (address s) → Last (s ∷ [])
last_one s h = last-first s [] h last_none

last_then : (xs ys : List Store) → Last xs → Last ys → Last (xs ++ ys)
unfolding store_at
last_then [] ys a b k = b k
last_then (s ∷ xs) ys a b zero = a zero
last_then (s ∷ xs) ys a b (suc k) = last_then xs ys (λ j. a (suc j)) b k

last_row : (f : ℕ → ℕ → Store) (i : ℕ) (bs : List ℕ) → ((j b : ℕ) → i ≤ j → j < i + length bs → Lasting (address (f j b))) → Last (row f i bs)
unfolding store_at
last_row f i [] h k = last_none k
last_row f i (b ∷ bs) h zero = h i b (omega arith) (omega arith)
last_row f i (b ∷ bs) h (suc k) = last_row f (suc i) bs (λ j x p q. h j x (omega arith) (omega arith)) k

-- the journal's run
last-journal : (b : List ℕ) → length b ≤ 17 → Last (row journal_byte 0 b)
last-journal b h = last_row journal_byte 0 b (λ j x p q. inr (omega arith, omega arith))

last-journaled : (t : Target) (b : List ℕ) → length b ≤ 17 → Last (target_stores t b) → Last (journaled t b)
last-journaled t b h r =
    let z : length (zeros (length b)) ≡ length b = length-replicate (length b) 0 in
    last_then (row journal_byte 0 b) (journal_what (code t) ∷ (target_stores t b ++ (journal_what 0 ∷ row journal_byte 0 (zeros (length b))))) (last-journal b h)
    (last-first (journal_what (code t)) (target_stores t b ++ (journal_what 0 ∷ row journal_byte 0 (zeros (length b)))) (inr (omega arith, omega arith))
    (last_then (target_stores t b) (journal_what 0 ∷ row journal_byte 0 (zeros (length b))) r
    (last-first (journal_what 0) (row journal_byte 0 (zeros (length b))) (inr (omega arith, omega arith)) (last-journal (zeros (length b)) (omega (arith, z))))))

last-value : (n : ℕ) (b : List ℕ) → n < 4 → Last (target_stores (credential n) b)
last-value n b l =
    last_then (row (value_byte n) 0 (take 16 b)) (value_length n _ ∷ []) (last_row (value_byte n) 0 (take 16 b) (λ j x p q. inl (omega (arith, length-take 16 b))))
    (last_one (value_length n _) (inl (omega arith)))

last_entry : (place i b : ℕ) → place < 16 → i < 12 → Lasting (address (entry_byte place i b))
last_entry place i b l m = inl (omega arith)

last-known : (place : ℕ) (b : List ℕ) → place < 16 → Last (target_stores (entry place) b)
last-known place b l =
    last-first _ _ (last_entry place 7 0 l (omega arith)) (last-first _ _ (last_entry place 8 0 l (omega arith))
    (last-first _ _ (last_entry place 9 0 l (omega arith)) (last_one _ (last_entry place 10 0 l (omega arith)))))

last-tries : (w : Which) (b : ℕ) → Lasting (address (tries_left (number_of w) b))
last-tries w b = let l : number_of w < 4 = numbered w in inl (omega arith)

last-area : (a : ℕ) (bs : List ℕ) → a + length bs ≤ 4096 → Last (row area_byte a bs)
last-area a bs h = last_row area_byte a bs (λ j x p q. inr (omega arith, omega arith))

module _ (c : Card) (area : List ℕ) (h : sound c area ≡ true) where
  abbrev g : Good c
  g = sound-good c area h

  file-run : (place at : ℕ) (d : List ℕ) → 1 ≤ place → place ≤ c.directory.count → at + length d ≤ size (file_of c place) → start c.directory place + at + length d ≤ 4096
  file-run place at d some low fits = place-run c.directory g.directory place some low at (length d) fits

  deed-last : (d : Deed) → Doing c.directory area d → Last (deed_stores c d)
  deed-last (turns place) q = last_none
  deed-last (enters n) q = last_none
  deed-last (shows place at n) q = last_none
  deed-last (stores place at bytes) q = last-area (start c.directory place + at) bytes (file-run place at bytes q.some q.low q.fits)
  deed-last (appends place d) q =
      let low : place - 1 < 16 = omega (arith, q.some, q.low, (filed c.directory g.directory).few) in
      last_then (cond (is_full f) (entry_byte (place - 1) 7 (f.held - 1) ∷ []) []) (row area_byte a (files.entry f d) ++ journaled (entry (place - 1)) (known_bytes new))
      (split Last (is_full f) (λ e. last_one (entry_byte (place - 1) 7 (f.held - 1)) (last_entry (place - 1) 7 (f.held - 1) low (omega arith))) (λ e. last_none))
      (last_then (row area_byte a (files.entry f d)) (journaled (entry (place - 1)) (known_bytes new)) (last-area a (files.entry f d) (file-run place (next_start f) (files.entry f d) q.some q.low q.fits))
      (last-journaled (entry (place - 1)) (known_bytes new) (omega arith) (last-known (place - 1) (known_bytes new) low)))
    where
      f : File
      f = file_of c place

      a : ℕ
      a = start c.directory place + next_start f

      new : File
      new = appended f (length d)
  deed-last (makes f) q =
      let z : length (zeros (size f)) ≡ size f = length-replicate (size f) 0 in
      let m = made_in c.directory f 4096 q in
      last_then (row area_byte (end c.directory) (zeros (size f))) (row (entry_byte c.directory.count) 0 (file_bytes (emptied f)) ++ (file_count (c.directory.count + 1) ∷ []))
      (last-area (end c.directory) (zeros (size f)) (omega (arith, z, m.fits)))
      (last_then (row (entry_byte c.directory.count) 0 (file_bytes (emptied f))) (file_count (c.directory.count + 1) ∷ [])
      (last_row (entry_byte c.directory.count) 0 (file_bytes (emptied f)) (λ j x p r. last_entry c.directory.count j x m.few (omega arith)))
      (last_one (file_count (c.directory.count + 1)) (inl (omega arith))))
  deed-last (founds x) q =
      let few = (founding c.directory x q).few in
      last_then (row (folder_byte c.directory.number) 0 (folder_bytes x)) (folder_count (c.directory.number + 1) ∷ [])
      (last_row (folder_byte c.directory.number) 0 (folder_bytes x) (λ j b p r. inl (omega (arith, few))))
      (last_one (folder_count (c.directory.number + 1)) (inl (omega arith)))

  value-last : (w : Which) (d : List ℕ) → length d ≤ 16 → Last (journaled (credential (number_of w)) (value_bytes d))
  value-last w d short =
      last-journaled (credential (number_of w)) (value_bytes d) (omega (arith, value-bytes d short)) (last-value (number_of w) (value_bytes d) (numbered w))

  touch-last : (t : Touch) → FairTouch (logins c) t → Last (touch_stores c t)
  touch-last nothing q = last_none
  touch-last (presents w value given) q =
      last-first (lowers w c) (cond (same value given) (restores w c ∷ []) []) (last-tries w ((login w c).tries.left - 1))
      (split Last (same value given) (λ e. last_one (restores w c) (last-tries w (login w c).tries.limit)) (λ e. last_none))
  touch-last (changes w d) q = value-last w d (pin-short d q.2)
  touch-last (reloads w d) q =
      last_then (journaled (credential (number_of w)) (value_bytes d)) (tries_left (number_of w) (login w c).tries.limit ∷ []) (value-last w d (pin-short d q.2))
      (last_one (tries_left (number_of w) (login w c).tries.limit) (last-tries w (login w c).tries.limit))
  touch-last (challenges n) q = last_none

  act-last : (cmd : List ℕ) → Last (stores_of c area cmd)
  unfolding act_of
  act-last cmd =
      split (λ (a : Act). Last (stores_for c a)) (fetches c (framed cmd)) (λ e. last_none)
      (λ e. plan-by (λ (x : Effect) (a : Act). Last (stores_for c a)) (listed (framed cmd)) c area h (framed cmd) []
      (λ t q d f b. last_then (touch_stores c t) (deed_stores c d) (touch-last t q.fair) (deed-last d (doing (listed (framed cmd)) c area (framed cmd) d f)))
      touch-last (λ t q sw. last_then (touch_stores c t) [] (touch-last t q.fair) last_none))

pub stores-last : StoresLast
stores-last c area cmd h = act-last c area h cmd

pub addresses-fit : AddressesFit
addresses-fit c area cmd h n = ⊎_elim (λ l. omega (arith, l)) (λ l. omega (arith, l.1)) (stores-last c area cmd h n)
