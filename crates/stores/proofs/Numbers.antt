-- Stores by their numbers, segment by segment.
use Prim.Native.Nat.{ℕ, zero, suc, ◌+◌, ◌-◌, ◌*◌, ◌≤◌, ◌<◌, min}
use mathlib.Core.Bool.{cond}
use mathlib.Core.List.{List, [], ◌∷◌, ◌++◌}
use mathlib.Core.Logic.{by_cases}
use mathlib.Core.Path.{◌≡◌, refl, sym, ap, ◌∙◌}
use native.Mathlib.Decide.{dec_lt, ℕ_discrete}
use native.Mathlib.Omega.{arith}
use lib.Dec.{ltb}
use lib.ListN.{length, get_or, length-append, length-replicate, get_or-replicate}
use borrow.Author.Tests.{eq-eqb, ne_eqb, lt-ltb, le-ltb}
use Rattle.files.specs.Part.{zeros}
use Rattle.power.specs.Store.{Store, journal_what, journal_byte, row}
use Rattle.power.specs.Journal.{Target, code, target_stores, after_commit, journaled}
use Rattle.power.specs.Address.{no_store, a_store, store_at}
use Rattle.power.proofs.Cuts.{length-row}
use Rattle.stores.specs.Numbers.{only_at, turn, run_at}

pub same_at : {xs ys : List Store} → xs ≡ ys → (k : ℕ) → store_at xs k ≡ store_at ys k
same_at e k = ap (λ (l : List Store). store_at l k) e

-- ---- two segments: in the first, and behind it
in-first : (xs ys : List Store) (k : ℕ) → k < length xs → store_at xs k ≡ store_at (xs ++ ys) k
unfolding store_at
in-first [] ys k l = absurd (omega arith)
in-first (s ∷ xs) ys zero l = refl
in-first (s ∷ xs) ys (suc k) l = in-first xs ys k (omega arith)

in-second : (xs ys : List Store) (k : ℕ) → store_at ys k ≡ store_at (xs ++ ys) (length xs + k)
unfolding store_at
in-second [] ys k = let e : 0 + k ≡ k = omega arith in rw e
in-second (s ∷ xs) ys k = let e : suc (length xs) + k ≡ suc (length xs + k) = omega arith in rw e (in-second xs ys k)

module _ (xs ys : List Store) (n : ℕ) (long : length xs ≡ n) (k : ℕ) where
  pub store-first : k < n → store_at xs k ≡ store_at (xs ++ ys) k
  store-first l = in-first xs ys k (omega arith)

  pub store-next : n ≤ k → store_at ys (k - n) ≡ store_at (xs ++ ys) k
  store-next l =
      let e : length xs + (k - n) ≡ k = omega arith in
      in-second xs ys (k - n) ∙ ap (store_at (xs ++ ys)) e

-- one store, and those behind it
pub store-head : (s : Store) (more : List Store) (k : ℕ) → k ≡ 0 → a_store s ≡ store_at (s ∷ more) k
unfolding store_at
store-head s more k e = rw e

pub store_tail : (s : Store) (more : List Store) (k : ℕ) → 1 ≤ k → store_at more (k - 1) ≡ store_at (s ∷ more) k
unfolding store_at
store_tail s more zero l = absurd (omega arith)
store_tail s more (suc k) l = let e : suc k - 1 ≡ k = omega arith in rw e

-- none is past the last
pub store-none : (k : ℕ) → no_store ≡ store_at [] k
unfolding store_at
store-none k = refl

pub store-only : (s : Store) (k : ℕ) → only_at (a_store s) k ≡ store_at (s ∷ []) k
store-only s k =
    by_cases (ℕ_discrete k 0) (λ e. rw (eq-eqb k 0 e) (store-head s [] k e))
    (λ o. rw (ne_eqb k 0 o) (store-none (k - 1) ∙ store_tail s [] k (omega (arith, o))))

-- ---- bytes in a row
pub store-row : (f : ℕ → ℕ → Store) (i : ℕ) (bs : List ℕ) (k : ℕ) → k < length bs → a_store (f (i + k) (get_or bs k 0)) ≡ store_at (row f i bs) k
unfolding store_at
store-row f i [] k l = absurd (omega arith)
store-row f i (b ∷ bs) zero l = let e : i + 0 ≡ i = omega arith in ap (λ n. a_store (f n b)) e
store-row f i (b ∷ bs) (suc k) l =
    let e : i + suc k ≡ suc i + k = omega arith in
    ap (λ n. a_store (f n (get_or bs k 0))) e ∙ store-row f (suc i) bs k (omega arith)

-- from 0 on
pub store_bytes : (f : ℕ → ℕ → Store) (bs : List ℕ) (k : ℕ) → k < length bs → a_store (f k (get_or bs k 0)) ≡ store_at (row f 0 bs) k
store_bytes f bs k l =
    let e : k ≡ 0 + k = omega arith in
    ap (λ n. a_store (f n (get_or bs k 0))) e ∙ store-row f 0 bs k l

pub row-none : (f : ℕ → ℕ → Store) (i : ℕ) (bs : List ℕ) (k : ℕ) → length bs ≤ k → no_store ≡ store_at (row f i bs) k
unfolding store_at
row-none f i [] k l = refl
row-none f i (b ∷ bs) zero l = absurd (omega arith)
row-none f i (b ∷ bs) (suc k) l = row-none f (suc i) bs k (omega arith)

-- of 00
pub store-zero : (f : ℕ → ℕ → Store) (i n k : ℕ) → k < n → a_store (f (i + k) 0) ≡ store_at (row f i (zeros n)) k
store-zero f i n k l =
    let z : length (zeros n) ≡ n = length-replicate n 0 in
    ap (λ b. a_store (f (i + k) b)) (sym (get_or-replicate n k 0 0 l)) ∙ store-row f i (zeros n) k (omega arith)

pub length-zeros : (f : ℕ → ℕ → Store) (i n : ℕ) → length (row f i (zeros n)) ≡ n
length-zeros f i n =
    let z : length (zeros n) ≡ n = length-replicate n 0 in
    length-row f i (zeros n) ∙ z

-- ---- a change of n bytes by the journal, as many as the stores of its target
pub turn_low : (n k : ℕ) → turn n k ≤ n - 1
turn_low n k = by_cases (dec_lt k n) (λ l. rw (lt-ltb k n l) (omega arith)) (λ l. rw (le-ltb k n (omega arith)) (omega arith))

module _ (t : Target) (b : List ℕ) (n : ℕ) (long : length b ≡ n) (many : length (target_stores t b) ≡ n) where
  abbrev bytes : List Store
  bytes = row journal_byte 0 b

  abbrev over : List Store
  over = target_stores t b

  abbrev emptied : List Store
  emptied = row journal_byte 0 (zeros (length b))

  pub length_run : length (journaled t b) ≡ 3 * n + 2
  length_run =
      omega (arith, length-append bytes (journal_what (code t) ∷ after_commit t b), length-append over (journal_what 0 ∷ emptied), length-row journal_byte 0 b, length-zeros journal_byte 0 (length b))

  module _ (k : ℕ) where
    second-turn : n < k → k < 2 * n + 1 → turn n k ≡ k - (n + 1)
    second-turn a l =
        let m : min (k - (n + 1)) (n - 1) ≡ k - (n + 1) = omega arith in
        rw (le-ltb k n (omega arith)) m

    after-bytes : n ≤ k → store_at (journal_what (code t) ∷ after_commit t b) (k - n) ≡ store_at (journaled t b) k
    after-bytes l = store-next bytes (journal_what (code t) ∷ after_commit t b) n (length-row journal_byte 0 b ∙ long) k l

    after-what : n < k → store_at (after_commit t b) (k - (n + 1)) ≡ store_at (journaled t b) k
    after-what l =
        let e : k - (n + 1) ≡ k - n - 1 = omega arith in
        ap (store_at (after_commit t b)) e ∙ store_tail (journal_what (code t)) (after_commit t b) (k - n) (omega arith) ∙ after-bytes (omega arith)

    after-target : 2 * n + 1 ≤ k → store_at (journal_what 0 ∷ emptied) (k - (2 * n + 1)) ≡ store_at (journaled t b) k
    after-target l =
        let e : k - (2 * n + 1) ≡ k - (n + 1) - n = omega arith in
        ap (store_at (journal_what 0 ∷ emptied)) e ∙ store-next over (journal_what 0 ∷ emptied) n many (k - (n + 1)) (omega arith) ∙ after-what (omega arith)

    after_nothing : 2 * n + 2 ≤ k → store_at emptied (k - (2 * n + 2)) ≡ store_at (journaled t b) k
    after_nothing l =
        let e : k - (2 * n + 2) ≡ k - (2 * n + 1) - 1 = omega arith in
        ap (store_at emptied) e ∙ store_tail (journal_what 0) emptied (k - (2 * n + 1)) (omega arith) ∙ after-target (omega arith)

    pub store-run : run_at (code t) n (get_or b (turn n k) 0) (store_at (target_stores t b) (turn n k)) k ≡ store_at (journaled t b) k
    store-run =
        by_cases (dec_lt k n)
        (λ l. rw (lt-ltb k n l) (store_bytes journal_byte b k (omega arith) ∙ store-first bytes (journal_what (code t) ∷ after_commit t b) n (length-row journal_byte 0 b ∙ long) k l))
        (λ a. by_cases (ℕ_discrete k n)
        (λ e. rw (le-ltb k n (omega arith), eq-eqb k n e) (store-head (journal_what (code t)) (after_commit t b) (k - n) (omega arith) ∙ after-bytes (omega arith)))
        (λ o. by_cases (dec_lt k (2 * n + 1))
        (λ l. rw (second-turn (omega (arith, o)) l, le-ltb k n (omega arith), ne_eqb k n o, lt-ltb k (2 * n + 1) l)
        (store-first over (journal_what 0 ∷ emptied) n many (k - (n + 1)) (omega (arith, o)) ∙ after-what (omega (arith, o))))
        (λ m. by_cases (ℕ_discrete k (2 * n + 1))
        (λ e. rw (le-ltb k n (omega arith), ne_eqb k n o, le-ltb k (2 * n + 1) (omega arith), eq-eqb k (2 * n + 1) e)
        (store-head (journal_what 0) emptied (k - (2 * n + 1)) (omega arith) ∙ after-target (omega arith)))
        (λ p. rw (le-ltb k n (omega arith), ne_eqb k n o, le-ltb k (2 * n + 1) (omega arith), ne_eqb k (2 * n + 1) p) (last (omega (arith, p)))))))
      where
        last : 2 * n + 2 ≤ k → cond (ltb k (3 * n + 2)) (a_store (journal_byte (k - (2 * n + 2)) 0)) no_store ≡ store_at (journaled t b) k
        last a =
            by_cases (dec_lt k (3 * n + 2))
            (λ l. let e : k - (2 * n + 2) ≡ 0 + (k - (2 * n + 2)) = omega arith in
            rw (lt-ltb k (3 * n + 2) l) (ap (λ i. a_store (journal_byte i 0)) e ∙ store-zero journal_byte 0 (length b) (k - (2 * n + 2)) (omega arith) ∙ after_nothing a))
            (λ m. let z : length (zeros (length b)) ≡ length b = length-replicate (length b) 0 in
            rw (le-ltb k (3 * n + 2) (omega arith)) (row-none journal_byte 0 (zeros (length b)) (k - (2 * n + 2)) (omega arith) ∙ after_nothing a))
