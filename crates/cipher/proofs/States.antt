-- Four columns as the state of FIPS 197.
-- Assumes nothing.
use mathlib.Core.Path.{◌≡◌, ap₂, sym, ◌∙◌}
use mathlib.Core.Bool.{Bool, cond}
use mathlib.Core.List.{List, [], ◌∷◌, ◌++◌}
use Prim.Native.Nat.{ℕ, zero, suc, ◌+◌, ◌%◌, ◌/◌, ◌<◌}
use native.Mathlib.Omega.{arith}
use lib.ListN.{length, get_or, take, drop, length-take, length-drop, take-append-drop}
use Rattle.std.proofs.Common.{get_or-drop}
use Rattle.std.specs.Int.{w64, to_le_bytes, from_le_bytes}
use Rattle.std.proofs.lemmas.Nat.{le_bytes_8}
use Rattle.cipher.specs.declared.Block.{Block}
use Rattle.cipher.specs.Cipher.{full_round, last_round}
use Rattle.cipher.specs.Words.{bytes, columns, state}
use Rattle.cipher.proofs.Bytes.{four}

-- a round with its key, the last one or another
abbrev pub any_round : Bool → List ℕ → List ℕ → List ℕ
any_round last s k = cond last (last_round s k) (full_round s k)

pub join : {a b c d a' b' c' d' : List ℕ} → a ≡ a' → b ≡ b' → c ≡ c' → d ≡ d' → a ++ (b ++ (c ++ d)) ≡ a' ++ (b' ++ (c' ++ d'))
join p q r s = cc

-- ---- keys
pub constant : (rc : ℕ) → rc < 256 → bytes rc ≡ rc ∷ 0 ∷ 0 ∷ 0 ∷ []
constant rc h = four (omega arith) (omega arith) (omega arith) (omega arith)

-- ---- sixteen bytes as two words of two columns
eight : {a b c d e f g h a' b' c' d' e' f' g' h' : ℕ} → a ≡ a' → b ≡ b' → c ≡ c' → d ≡ d' → e ≡ e' → f ≡ f' → g ≡ g' → h ≡ h'
    → ◌≡◌ {A = List ℕ} (a ∷ b ∷ c ∷ d ∷ e ∷ f ∷ g ∷ h ∷ []) (a' ∷ b' ∷ c' ∷ d' ∷ e' ∷ f' ∷ g' ∷ h' ∷ [])
eight p q r s t u v w = cc

both-columns : (w : ℕ) → to_le_bytes w64 w ≡ bytes (w % 4294967296) ++ bytes (w / 4294967296)
both-columns w = eight (omega arith) (omega arith) (omega arith) (omega arith) (omega arith) (omega arith) (omega arith) (omega arith)

pub written : (s : Block) → to_le_bytes w64 s.lo ++ to_le_bytes w64 s.hi ≡ state (columns s)
written s = ap₂ ◌++◌ (both-columns s.lo) (both-columns s.hi)

taken_small : (n : ℕ) (s : List ℕ) → ((i : ℕ) → get_or s i 0 < 256) → (i : ℕ) → get_or (take n s) i 0 < 256
taken_small zero s small i = omega arith
taken_small (suc n) [] small i = small i
taken_small (suc n) (x ∷ s) small zero = small 0
taken_small (suc n) (x ∷ s) small (suc i) = taken_small n s (λ j. small (suc j)) i

pub loaded : (s : List ℕ) (b : Block) → length s ≡ 16 → ((i : ℕ) → get_or s i 0 < 256) → b.lo ≡ from_le_bytes w64 (take 8 s) → b.hi ≡ from_le_bytes w64 (drop 8 s)
    → state (columns b) ≡ s
loaded s b n small e f =
    let h : (i : ℕ) → get_or (drop 8 s) i 0 < 256 = λ i. rw (get_or-drop 8 s i 0) (small (8 + i)) in
    sym (written b)
    ∙ ap₂ ◌++◌ (le_bytes_8 (take 8 s) b.lo (omega (arith, length-take 8 s)) (taken_small 8 s small) e) (le_bytes_8 (drop 8 s) b.hi (omega (arith, length-drop 8 s)) h f)
    ∙ take-append-drop 8 s
