-- The loop over the rounds.
-- Assumes nothing.
use mathlib.Core.Path.{◌≡◌, ap, ap₂, ◌∙◌}
use mathlib.Core.List.{List}
use Prim.Native.Nat.{ℕ, zero, suc, ◌+◌}
use native.Mathlib.Numerals.{add-one}
use lib.Dec.{eqb}
use Rattle.cipher.specs.Field.{xtime, x_power}
use Rattle.cipher.specs.AddRoundKey.{add_round_key}
use Rattle.cipher.specs.KeyExpansion.{key_expansion}
use Rattle.cipher.specs.Cipher.{round_key, rounds, cipher, aes128}
use Rattle.cipher.proofs.States.{any_round}

-- ---- one round more, as the loop counts
pub power-more : (n : ℕ) {rc x : ℕ} → rc ≡ x_power n → x ≡ xtime rc → x ≡ x_power (n + 1)
unfolding x_power
power-more n p q = rw (add-one n) (cc)

-- the state after the rounds 1 to n, of which the tenth is the last one
unfoldable pub up_to : List (List ℕ) → List ℕ → ℕ → List ℕ
up_to w s zero = s
up_to w s (suc n) = any_round (eqb n 9) (up_to w s n) (round_key w (suc n))

pub rounds-more : (n : ℕ) (w : List (List ℕ)) (s₀ : List ℕ) {s k x : List ℕ} → s ≡ up_to w s₀ n → k ≡ round_key w (n + 1) → x ≡ any_round (eqb n 9) s k
    → x ≡ up_to w s₀ (n + 1)
unfolding up_to
rounds-more n w s₀ p q r = rw (add-one n) (let q' = rw (add-one n) at q in r ∙ ap₂ (any_round (eqb n 9)) p q')

pub all-rounds : (n : ℕ) (key block : List ℕ) {k₀ s₀ s : List ℕ} → n ≡ 10 → k₀ ≡ round_key (key_expansion key) 0 → s₀ ≡ add_round_key block k₀
    → s ≡ up_to (key_expansion key) s₀ n → s ≡ aes128 key block
unfolding aes128 cipher rounds up_to
all-rounds n key block e o p q = q ∙ ap₂ (up_to (key_expansion key)) (p ∙ ap (add_round_key block) o) e
