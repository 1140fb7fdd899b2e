-- What the padding does to a message's length and bytes, for every length.
-- Assumes nothing.
use Prim.Native.Nat.{ℕ, zero, suc, ◌+◌, ◌-◌, ◌*◌, ◌/◌, ◌%◌, ◌≤◌, ◌<◌}
use mathlib.Core.List.{List, [], ◌∷◌, ◌++◌}
use mathlib.Core.Path.{◌≡◌, refl, sym, ap, ◌∙◌}
use native.Mathlib.Omega.{arith}
use lib.ListN.{length, get_or, drop, replicate, length-append, length-replicate, length-drop, get_or-append}
use lib.Seq.{drop-append-le, get_or-append_seam, get_or-append-add}
use Rattle.codes.specs.Padding.{padded, PaddedWhole, PaddedApart}

-- as many blocks as the message fills, and one more
pub padded-length : (m : List ℕ) → length (padded m) ≡ 16 * (length m / 16 + 1)
unfolding padded
padded-length m = simp (length-append, length-replicate) (omega arith)

pub padded-whole : PaddedWhole
padded-whole m = record {
  whole = omega (arith, padded-length m);
  more = omega (arith, padded-length m);
  few = omega (arith, padded-length m);
}

-- ---- byte by byte
zeros-at : (n i : ℕ) → ◌≡◌ {A = ℕ} (get_or (replicate n 0) i 0) 0
zeros-at zero i = refl
zeros-at (suc n) zero = refl
zeros-at (suc n) (suc i) = zeros-at n i

module _ (m : List ℕ) (i : ℕ) where
  pub in-message : i < length m → get_or (padded m) i 0 ≡ get_or m i 0
  unfolding padded
  in-message h = get_or-append m _ 0 i h

  pub at-end : i ≡ length m → get_or (padded m) i 0 ≡ 0x80
  unfolding padded
  at-end e = rw e (get_or-append_seam m 0x80 (replicate (15 - length m % 16) 0) 0)

  pub past_end : length m < i → get_or (padded m) i 0 ≡ 0
  unfolding padded
  past_end h =
      let e : i ≡ length m + suc (i - length m - 1) = omega arith in
      let t : List ℕ = replicate (15 - length m % 16) 0 in
      ap (λ (j : ℕ). get_or (m ++ 0x80 ∷ t) j 0) e
      ∙ get_or-append-add m (0x80 ∷ t) (suc (i - length m - 1)) 0
      ∙ zeros-at (15 - length m % 16) (i - length m - 1)

-- what is left of a message after whole blocks is padded as the message is
pub padded-rest : (m : List ℕ) (i : ℕ) → 16 * i ≤ length m → padded (drop (16 * i) m) ≡ drop (16 * i) (padded m)
unfolding padded
padded-rest m i h =
    let e : length (drop (16 * i) m) % 16 ≡ length m % 16 = simp length-drop (omega arith) in
    rw e (sym (drop-append-le (16 * i) m (0x80 ∷ replicate (15 - length m % 16) 0) h))

-- ---- the message can be told from its padding
no_end : (n : ℕ) (m t : List ℕ) → replicate n 0 ≡ m ++ 0x80 ∷ t → ⊥
no_end zero [] t e = let z : ◌≡◌ {A = ℕ} 0 1 = cc in omega arith
no_end zero (x ∷ m) t e = let z : ◌≡◌ {A = ℕ} 0 1 = cc in omega arith
no_end (suc n) [] t e = let z : ◌≡◌ {A = ℕ} 0 0x80 = cc in omega arith
no_end (suc n) (x ∷ m) t e = no_end n m t (cc)

same-begun : (a b : List ℕ) (n k : ℕ) → a ++ 0x80 ∷ replicate n 0 ≡ b ++ 0x80 ∷ replicate k 0 → a ≡ b
same-begun [] [] n k e = refl
same-begun [] (y ∷ b) n k e = absurd (no_end n b (replicate k 0) (cc))
same-begun (x ∷ a) [] n k e = absurd (no_end k a (replicate n 0) (cc))
same-begun (x ∷ a) (y ∷ b) n k e = let t : a ≡ b = same-begun a b n k (cc) in cc

pub padded-apart : PaddedApart
unfolding padded
padded-apart a b e = same-begun a b (15 - length a % 16) (15 - length b % 16) e
