-- Digits written are read back, and digits read are written again.
-- Assumes nothing.
use Prim.Native.Nat.{ℕ, ◌+◌, ◌-◌, ◌*◌, ◌/◌, ◌%◌, ◌^◌, ◌≤◌, ◌<◌}
use mathlib.Core.Bool.{Bool, true, ◌&&◌}
use mathlib.Core.List.{List, [], ◌∷◌}
use mathlib.Core.Path.{◌≡◌, refl, sym, ap, ◌∙◌}
use native.Mathlib.Omega.{arith}
use lib.Dec.{eqb, leb, ltb}
use lib.ListN.{length, get_or, length-append}
use borrow.Author.Tests.{eqb-true, leb-true, lt-ltb, le-ltb}
use Rattle.files.specs.Words.{all_below}
use Rattle.files.proofs.Checks.{both, below, split}
use Rattle.digits.specs.Digits.{ended, last_digit, decimal, hex_digit, hex_pair, value}
use Rattle.digits.proofs.Decimal.{tens-one, tens-more, decimal-as, by-decimal}

-- a hex digit
abbrev digit_test : ℕ → Bool
digit_test n = eqb (value (hex_digit n)) n

digits-tested : all_below digit_test 16 ≡ true
unfolding all_below value hex_digit
digits-tested = refl

pub digit-back : (n : ℕ) → n < 16 → value (hex_digit n) ≡ n
digit-back n h = eqb-true _ _ (below digit_test 16 digits-tested n h)

pub pair-back : (b : ℕ) → b < 256 → hex_pair (hex_digit (b / 16)) (hex_digit (b % 16)) ≡ b
pair-back b h =
    let high : b / 16 < 16 = omega arith in
    let low : b % 16 < 16 = omega arith in
    rw (digit-back (b / 16) high, digit-back (b % 16) low) (omega arith)

pub digit-high : (n : ℕ) → 48 ≤ hex_digit n
unfolding hex_digit
digit-high n = split (λ (x : ℕ). 48 ≤ x) (ltb n 10) (λ _. omega arith) (λ _. omega arith)

-- what is no digit is 16, so each digit is the one written
abbrev Again : ℕ → ℕ → Type 0
Again b v = v < 16 → hex_digit v ≡ b

digit_low : (b : ℕ) → 48 ≤ b → b ≤ 57 → hex_digit (b - 48) ≡ b
unfolding hex_digit
digit_low b l h = let k : b - 48 < 10 = omega arith in rw (lt-ltb (b - 48) 10 k) (omega arith)

digit-letter : (b : ℕ) → 65 ≤ b → b ≤ 70 → hex_digit (b - 55) ≡ b
unfolding hex_digit
digit-letter b l h = let k : 10 ≤ b - 55 = omega arith in rw (le-ltb (b - 55) 10 k) (omega arith)

pub digit-again : (b : ℕ) → value b < 16 → hex_digit (value b) ≡ b
unfolding value
digit-again b =
    split (Again b) (leb 48 b && leb b 57)
    (λ e _. let k = both (leb 48 b) (leb b 57) e in digit_low b (leb-true _ _ k.0) (leb-true _ _ k.1))
    (λ _. split (Again b) (leb 65 b && leb b 70)
    (λ e _. let k = both (leb 65 b) (leb b 70) e in digit-letter b (leb-true _ _ k.0) (leb-true _ _ k.1))
    (λ _ h. absurd (omega (arith, h))))

pub pair-again : (a b : ℕ) → value a < 16 → value b < 16 → (hex_digit (hex_pair a b / 16) ≡ a) × (hex_digit (hex_pair a b % 16) ≡ b)
pair-again a b h k =
    let high : hex_pair a b / 16 ≡ value a = omega arith in
    let low : hex_pair a b % 16 ≡ value b = omega arith in
    (ap hex_digit high ∙ digit-again a h, ap hex_digit low ∙ digit-again b k)

-- a decimal digit
pub last-value : (n : ℕ) → value (last_digit n) ≡ n % 10
unfolding all_below value
last-value n = eqb-true _ _ (below (λ d. eqb (value (48 + d)) d) 10 refl (n % 10) (omega arith))

pub last-again : (b : ℕ) → value b < 10 → 48 + value b ≡ b
unfolding hex_digit
last-again b h = let e : hex_digit (value b) ≡ 48 + value b = rw (lt-ltb (value b) 10 h) in sym e ∙ digit-again b (omega arith)

-- a number of one digit, and one with a digit behind its tens
pub decimal-one : (n : ℕ) → n < 10 → decimal n ≡ last_digit n ∷ []
unfolding decimal
decimal-one n h = tens-one 19 n h

pub decimal-on : (n d : ℕ) → 1 ≤ n → n < 10 ^ 19 → d < 10 → decimal (n * 10 + d) ≡ ended (48 + d) (decimal n)
unfolding decimal
decimal-on n d l h k =
    let t : (n * 10 + d) / 10 ≡ n = omega arith in
    let r : (n * 10 + d) % 10 ≡ d = omega arith in
    let m : 10 ≤ n * 10 + d = omega arith in
    tens-more 18 (n * 10 + d) m ∙ rw (t, r, decimal-as 18 n h (omega arith))

-- no leading zero
first-stays : (w : List ℕ) (d : ℕ) → 1 ≤ length w → get_or (ended d w) 0 0 ≡ get_or w 0 0
first-stays [] d h = absurd (omega arith)
first-stays (b ∷ bs) d h = refl

abbrev Led : ℕ → List ℕ → Type 0
Led n w = (1 ≤ length w) × (1 ≤ n → get_or w 0 0 ≡ 48 → ⊥)

pub decimal-led : (n : ℕ) → n < 10 ^ 20 → 1 ≤ n → get_or (decimal n) 0 0 ≡ 48 → ⊥
decimal-led n h =
    (by-decimal Led
    (λ m k. (omega arith, λ l e. omega (arith, e)))
    (λ m w k p. (omega (arith, length-append w (last_digit m ∷ [])), λ l e. p.1 (omega arith) (sym (first-stays w (last_digit m) p.0) ∙ e)))
    n h).1
