-- Laws of cuts: what holds after any of the stores, and before the first.
use Prim.Native.Nat.{ℕ, zero, suc, ◌≤◌, ◌<◌}
use mathlib.Core.List.{List, [], ◌∷◌, ◌++◌}
use mathlib.Core.Path.{◌≡◌, refl, ap}
use native.Mathlib.Omega.{arith}
use lib.ListN.{length, take}
use lib.Seq.{take-length}
use Rattle.power.specs.Store.{Memory, Store, put, puts, row}

pub puts-append : (xs ys : List Store) (m : Memory) → puts (xs ++ ys) m ≡ puts ys (puts xs m)
puts-append [] ys m = refl
puts-append (s ∷ xs) ys m = puts-append xs ys (put s m)

-- the first stores of a row are a row of the first bytes
pub take_row : (f : ℕ → ℕ → Store) (n i : ℕ) (bs : List ℕ) → take n (row f i bs) ≡ row f i (take n bs)
take_row f zero i bs = refl
take_row f (suc n) i [] = refl
take_row f (suc n) i (b ∷ bs) = ap (λ (l : List Store). f i b ∷ l) (take_row f n (suc i) bs)

pub length-row : (f : ℕ → ℕ → Store) (i : ℕ) (bs : List ℕ) → length (row f i bs) ≡ length bs
length-row f i [] = refl
length-row f i (b ∷ bs) = ap suc (length-row f (suc i) bs)

module _ (P : Memory → Type 0) where
  -- P after any number of the stores
  abbrev pub EachCut : List Store → Memory → Type 0
  EachCut xs m = (n : ℕ) → P (puts (take n xs) m)

  pub cut-none : (m : Memory) → P m → EachCut [] m
  cut-none m h zero = h
  cut-none m h (suc n) = h

  pub cut-first : (s : Store) (xs : List Store) (m : Memory) → P m → EachCut xs (put s m) → EachCut (s ∷ xs) m
  cut-first s xs m h r zero = h
  cut-first s xs m h r (suc n) = r n

  pub cut-then : (xs ys : List Store) (m : Memory) → EachCut xs m → EachCut ys (puts xs m) → EachCut (xs ++ ys) m
  cut-then [] ys m a b n = b n
  cut-then (s ∷ xs) ys m a b zero = a zero
  cut-then (s ∷ xs) ys m a b (suc n) = cut-then xs ys (put s m) (λ k. a (suc k)) b n

  pub cut-whole : (xs : List Store) (m : Memory) → EachCut xs m → P (puts xs m)
  cut-whole xs m h = rw (take-length xs) at (h (length xs))

  pub cut-row : (f : ℕ → ℕ → Store) (i : ℕ) (bs : List ℕ) (m : Memory) → ((n : ℕ) → P (puts (row f i (take n bs)) m)) → EachCut (row f i bs) m
  cut-row f i bs m h n = rw (take_row f n i bs) (h n)

  -- stores each of which leaves it so
  abbrev pub Keep : List Store → Type 0
  Keep [] = Unit
  Keep (s ∷ xs) = ((m : Memory) → P m → P (put s m)) × Keep xs

  pub cut-kept : (xs : List Store) (m : Memory) → Keep xs → P m → EachCut xs m
  cut-kept [] m k h = cut-none m h
  cut-kept (s ∷ xs) m k h = cut-first s xs m h (cut-kept xs (put s m) k.1 (k.0 m h))

  pub keep_row : (f : ℕ → ℕ → Store) → ((i b : ℕ) (m : Memory) → P m → P (put (f i b) m)) → (i : ℕ) (bs : List ℕ) → Keep (row f i bs)
  keep_row f h i [] = tt
  keep_row f h i (b ∷ bs) = (h i b, keep_row f h (suc i) bs)

  pub keep-then : (xs ys : List Store) → Keep xs → Keep ys → Keep (xs ++ ys)
  keep-then [] ys a b = b
  keep-then (s ∷ xs) ys a b = (a.0, keep-then xs ys a.1 b)

-- one store decides: before it P, from it on Q
pub cut_at : (P Q : Memory → Type 0) (xs : List Store) (s : Store) (ys : List Store) (m : Memory) → EachCut P xs m → EachCut Q ys (put s (puts xs m))
    → (n : ℕ) → (n ≤ length xs → P (puts (take n (xs ++ s ∷ ys)) m)) × (length xs < n → Q (puts (take n (xs ++ s ∷ ys)) m))
cut_at P Q [] s ys m a b zero = (λ l. a zero, λ l. absurd (omega arith))
cut_at P Q [] s ys m a b (suc n) = (λ l. absurd (omega arith), λ l. b n)
cut_at P Q (t ∷ xs) s ys m a b zero = (λ l. a zero, λ l. absurd (omega arith))
cut_at P Q (t ∷ xs) s ys m a b (suc n) =
    let r = cut_at P Q xs s ys (put t m) (λ k. a (suc k)) b n in
    (λ l. r.0 (omega arith), λ l. r.1 (omega arith))
