-- The chain over a message, block by block.
-- Assumes nothing.
use Prim.Native.Nat.{ℕ, zero, suc, ◌+◌, ◌-◌, ◌*◌, ◌/◌, ◌≤◌, ◌<◌}
use mathlib.Core.List.{List, [], ◌∷◌, ◌++◌}
use mathlib.Core.Path.{◌≡◌, refl, ◌∙◌}
use native.Mathlib.Numerals.{add-one}
use native.Mathlib.Omega.{arith}
use lib.Bits.{bit_xor}
use lib.ListN.{length, get_or, take, drop, length-drop, take-append-drop}
use lib.Seq.{drop-drop, take_all}
use Rattle.codes.specs.Padding.{padded}
use Rattle.codes.specs.Chaining.{added, link, chain, first_blocks, joined, ChainGoesOn, BlocksAreAll}
use Rattle.codes.specs.Code.{mac}
use Rattle.codes.proofs.Padding.{padded-length, padded-rest}

pub chain-goes-on : ChainGoesOn
unfolding chain
chain-goes-on key start [] b = refl
chain-goes-on key start (x ∷ a) b = chain-goes-on key (link key start x) a b

-- ---- blocks
one_more : (n : ℕ) (bytes : List ℕ) → first_blocks (suc n) bytes ≡ first_blocks n bytes ++ (take 16 (drop (16 * n) bytes) ∷ [])
unfolding first_blocks
one_more zero bytes = refl
one_more (suc n) bytes =
    let e : 16 * suc n ≡ 16 + 16 * n = omega arith in
    rw (one_more n (drop 16 bytes), e, drop-drop (16 * n) 16 bytes)

all-joined : (n : ℕ) (bytes : List ℕ) → length bytes ≡ 16 * n → joined (first_blocks n bytes) ≡ bytes
unfolding first_blocks joined
all-joined zero [] h = refl
all-joined zero (x ∷ bytes) h = absurd (omega arith)
all-joined (suc n) bytes h =
    rw (all-joined n (drop 16 bytes) (simp length-drop (omega arith))) (take-append-drop 16 bytes)

pub blocks-are-all : BlocksAreAll
blocks-are-all bytes h = all-joined (length bytes / 16) bytes (omega arith)

-- ---- the loop over blocks
module _ (key start m : List ℕ) where
  pub no-link : start ≡ chain key start (first_blocks 0 (padded m))
  unfolding chain first_blocks
  no-link = refl

  -- what is lent for a block is the rest of the message
  pub next-link : (i : ℕ) {c r : List ℕ} → 16 * i ≤ length m → c ≡ chain key start (first_blocks i (padded m))
      → r ≡ link key c (take 16 (padded (take (length m - 16 * i) (drop (16 * i) m)))) → r ≡ chain key start (first_blocks (i + 1) (padded m))
  unfolding chain
  next-link i {c} {r} h p q =
      let rest : take (length m - 16 * i) (drop (16 * i) m) ≡ drop (16 * i) m =
      take_all (length m - 16 * i) (drop (16 * i) m) (simp length-drop (omega arith)) in
      q
      ∙ rw (rest, padded-rest m i h, p, add-one, one_more i (padded m), chain-goes-on key start (first_blocks i (padded m)) (take 16 (drop (16 * i) (padded m)) ∷ []))

  pub all-linked : (i : ℕ) {c : List ℕ} → i ≡ length m / 16 + 1 → c ≡ chain key start (first_blocks i (padded m)) → c ≡ mac key start m
  unfolding mac
  all-linked i {c} e p =
      let n : length (padded m) / 16 ≡ i = omega (arith, padded-length m) in
      p ∙ rw n

-- ---- the bytes of a block
pub added-at : (n : ℕ) (r a b : List ℕ) → length r ≡ n → length a ≡ n → n ≤ length b
    → ((i : ℕ) → i < n → get_or r i 0 ≡ bit_xor (get_or a i 0) (get_or b i 0)) → r ≡ added a (take n b)
unfolding added
added-at zero [] [] b k l h each = refl
added-at zero [] (x ∷ a) b k l h each = absurd (omega arith)
added-at zero (z ∷ r) a b k l h each = absurd (omega arith)
added-at (suc n) [] a b k l h each = absurd (omega arith)
added-at (suc n) (z ∷ r) [] b k l h each = absurd (omega arith)
added-at (suc n) (z ∷ r) (x ∷ a) [] k l h each = absurd (omega arith)
added-at (suc n) (z ∷ r) (x ∷ a) (y ∷ b) k l h each =
    let first : z ≡ bit_xor x y = each 0 (omega arith) in
    let rest : r ≡ added a (take n b) = added-at n r a b (omega arith) (omega arith) (omega arith) (λ i j. each (suc i) (omega arith)) in
    cc
