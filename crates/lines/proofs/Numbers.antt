-- Hex and decimal fields: what is written is read back, and what is read was written so.
-- Assumes nothing.
use Prim.Native.Nat.{ℕ, zero, suc, ◌+◌, ◌*◌, ◌/◌, ◌%◌, ◌≤◌, ◌<◌}
use mathlib.Core.Bool.{Bool, true, false, ◌||◌, not}
use mathlib.Core.List.{List, [], ◌∷◌, ◌++◌, append_assoc, append-nil}
use mathlib.Core.Path.{◌≡◌, refl, sym, ap, ap₂, ◌∙◌}
use mathlib.Core.Logic.{by_cases}
use native.Mathlib.Decide.{dec_le}
use native.Mathlib.Nat.{zero-add}
use native.Mathlib.Omega.{arith}
use lib.Dec.{eqb, leb}
use lib.ListN.{length, get_or}
use borrow.Author.Tests.{eqb-true, eq-eqb, ne_eqb, le-leb, leb-true, lt-ltb, ltb-true}
use Rattle.files.proofs.Checks.{both, join, each, all, clash}
use Rattle.rules.specs.Words.{all_of, byte}
use Rattle.digits.specs.Digits.{ended, last_digit, decimal, hex_digit, hex_of, value}
use Rattle.digits.proofs.Written.{hex_of-length}
use Rattle.digits.proofs.Decimal.{each-digit, by-decimal, decimal-some}
use Rattle.digits.proofs.Back.{digit-back, digit-high, pair-back, pair-again, last-value, last-again, decimal-one, decimal-on, decimal-led}
use Rattle.lines.specs.Grammar.{tabs, digit_to, is_hex, bytes_of, number_from, number_of, is_limit}
use Rattle.lines.specs.Says.{Few}
use Rattle.lines.proofs.Scanning.{number-grows}
use Rattle.lines.proofs.Joined.{Plain, plain-append, high-plain}

abbrev Bytes : List ℕ → Type 0
Bytes bs = (i : ℕ) → get_or bs i 0 < 256

-- hex
pub hex-plain : (bs : List ℕ) → Plain (hex_of bs)
unfolding tabs hex_of
hex-plain [] = refl
hex-plain (b ∷ bs) =
    high-plain (hex_digit (b / 16)) (hex_digit (b % 16) ∷ hex_of bs) (digit-high (b / 16))
    (high-plain (hex_digit (b % 16)) (hex_of bs) (digit-high (b % 16)) (hex-plain bs))

is_digit : (n : ℕ) → n < 16 → digit_to 16 (hex_digit n) ≡ true
is_digit n h = rw (digit-back n h) (lt-ltb n 16 h)

hex-digits : (bs : List ℕ) → Bytes bs → all_of (digit_to 16) (hex_of bs) ≡ true
unfolding all_of hex_of
hex-digits [] h = refl
hex-digits (b ∷ bs) h =
    let l : b < 256 = h 0 in
    join (is_digit (b / 16) (omega arith)) (join (is_digit (b % 16) (omega arith)) (hex-digits bs (λ i. h (suc i))))

pub bytes_back : (bs : List ℕ) → Bytes bs → bytes_of (hex_of bs) ≡ bs
unfolding bytes_of hex_of
bytes_back [] h = refl
bytes_back (b ∷ bs) h = ap₂ (λ (x : ℕ) (l : List ℕ). x ∷ l) (pair-back b (h 0)) (bytes_back bs (λ i. h (suc i)))

pub hex-is : (bs : List ℕ) → Few bs → is_hex (hex_of bs) ≡ true
unfolding is_hex
hex-is bs f =
    let n = hex_of-length bs in
    let few : length (hex_of bs) ≤ 600 = omega (arith, f.few) in
    let even : length (hex_of bs) % 2 ≡ 0 = omega arith in
    all (leb (length (hex_of bs)) 600 ∷ eqb (length (hex_of bs) % 2) 0 ∷ all_of (digit_to 16) (hex_of bs) ∷ [])
    (le-leb _ _ few, (eq-eqb _ _ even, hex-digits bs f.each-byte))

-- two by two
hex-again : (s : List ℕ) → length s % 2 ≡ 0 → all_of (digit_to 16) s ≡ true → hex_of (bytes_of s) ≡ s
unfolding bytes_of hex_of all_of
hex-again [] e h = refl
hex-again (a ∷ []) e h = absurd (omega arith)
hex-again (a ∷ b ∷ s) e h =
    let k = both (digit_to 16 a) (all_of (digit_to 16) (b ∷ s)) h in
    let l = both (digit_to 16 b) (all_of (digit_to 16) s) k.1 in
    let p = pair-again a b (ltb-true (value a) 16 k.0) (ltb-true (value b) 16 l.0) in
    let r = hex-again s (omega (arith, e)) l.1 in
    rw (p.0, p.1, r)

bytes_low : (s : List ℕ) → Bytes (bytes_of s)
unfolding bytes_of
bytes_low [] i = omega arith
bytes_low (a ∷ []) i = omega arith
bytes_low (a ∷ b ∷ s) zero = omega arith
bytes_low (a ∷ b ∷ s) (suc i) = bytes_low s i

bytes-half : (s : List ℕ) → length (bytes_of s) + length (bytes_of s) ≤ length s
unfolding bytes_of
bytes-half [] = omega arith
bytes-half (a ∷ []) = omega arith
bytes-half (a ∷ b ∷ s) = let k = bytes-half s in omega arith

pub record HexRead (s : List ℕ) : Type 0 where
  pub few : Few (bytes_of s)
  pub again : hex_of (bytes_of s) ≡ s

pub hex-read : (s : List ℕ) → is_hex s ≡ true → HexRead s
unfolding is_hex
hex-read s h =
    let k = each (leb (length s) 600 ∷ eqb (length s % 2) 0 ∷ all_of (digit_to 16) s ∷ []) h in
    let l : length s ≤ 600 = leb-true _ _ k.0 in
    record {
      few = record { few = omega (arith, bytes-half s); each-byte = bytes_low s };
      again = hex-again s (eqb-true _ _ k.1.0) k.1.1;
    }

-- decimal
pub decimal-plain : (n : ℕ) → Plain (decimal n)
unfolding tabs
decimal-plain =
    each-digit Plain (λ n. high-plain (last_digit n) [] (omega arith) refl)
    (λ n w h. plain-append w (last_digit n ∷ []) h ∙ high-plain (last_digit n) [] (omega arith) refl)

last-digit : (n : ℕ) → digit_to 10 (last_digit n) ≡ true
last-digit n = rw (last-value n) (lt-ltb (n % 10) 10 (omega arith))

all-behind : (w : List ℕ) (d : ℕ) → all_of (digit_to 10) w ≡ true → digit_to 10 d ≡ true → all_of (digit_to 10) (ended d w) ≡ true
unfolding all_of
all-behind [] d h k = join k refl
all-behind (b ∷ w) d h k = let l = both (digit_to 10 b) (all_of (digit_to 10) w) h in join l.0 (all-behind w d l.1 k)

decimal-digits : (n : ℕ) → all_of (digit_to 10) (decimal n) ≡ true
unfolding all_of
decimal-digits = each-digit (λ w. all_of (digit_to 10) w ≡ true) (λ n. join (last-digit n) refl) (λ n w h. all-behind w (last_digit n) h (last-digit n))

number_behind : (m : ℕ) (w : List ℕ) (d : ℕ) → number_from m (ended d w) ≡ number_from m w * 10 + value d
unfolding number_from
number_behind m [] d = refl
number_behind m (b ∷ w) d = number_behind (m * 10 + value b) w d

pub number-back : (n : ℕ) → n ≤ 65535 → number_of (decimal n) ≡ n
unfolding number_from
number-back n h =
    by-decimal (λ n w. number_of w ≡ n)
    (λ n l. rw (last-value n) (omega arith))
    (λ n w l e. number_behind 0 w (last_digit n) ∙ rw (e, last-value n) (omega arith))
    n (omega arith)

well-led : (n : ℕ) → n ≤ 65535 → (eqb (length (decimal n)) 1 || not (eqb (byte (decimal n) 0) 0x30)) ≡ true
well-led n h =
    by_cases (dec_le 10 n)
    (λ l. let e : eqb (byte (decimal n) 0) 0x30 ≡ false = ne_eqb _ _ (decimal-led n (omega arith) (omega arith)) in or-last (eqb (length (decimal n)) 1) _ (ap not e))
    (λ l. let e : decimal n ≡ last_digit n ∷ [] = decimal-one n (omega arith) in rw e)
  where
    or-last : (a b : Bool) → b ≡ true → (a || b) ≡ true
    or-last true b k = refl
    or-last false b k = k

pub limit_is : (n : ℕ) → n ≤ 65535 → is_limit (decimal n) ≡ true
unfolding is_limit
limit_is n h =
    all
    (leb 1 (length (decimal n))
    ∷ all_of (digit_to 10) (decimal n)
    ∷ (eqb (length (decimal n)) 1 || not (eqb (byte (decimal n) 0) 0x30))
    ∷ leb (number_of (decimal n)) 65535
    ∷ [])
    (le-leb _ _ (decimal-some n), (decimal-digits n, (well-led n h, ap (λ (m : ℕ). leb m 65535) (number-back n h) ∙ le-leb n 65535 h)))

-- digits read on behind a number are the digits written behind it
decimal-behind : (n : ℕ) (s : List ℕ) → 1 ≤ n → all_of (digit_to 10) s ≡ true → number_from n s ≤ 65535 → decimal (number_from n s) ≡ decimal n ++ s
unfolding all_of number_from
decimal-behind n [] l h k = sym (append-nil (decimal n))
decimal-behind n (d ∷ s) l h k =
    let p = both (digit_to 10 d) (all_of (digit_to 10) s) h in
    let v : value d < 10 = ltb-true (value d) 10 p.0 in
    let g : n * 10 + value d ≤ 65535 = omega (arith, number-grows (n * 10 + value d) s, k) in
    let r = decimal-behind (n * 10 + value d) s (omega arith) p.1 k in
    let e : decimal (n * 10 + value d) ≡ ended d (decimal n) = decimal-on n (value d) l (omega arith) v ∙ ap (λ (x : ℕ). ended x (decimal n)) (last-again d v) in
    r ∙ ap (λ (w : List ℕ). w ++ s) e ∙ append_assoc (decimal n) (d ∷ []) s

one-digit : (d : ℕ) → value d < 10 → decimal (value d) ≡ d ∷ []
one-digit d v = let e : value d % 10 ≡ value d = omega arith in decimal-one (value d) v ∙ rw (e, last-again d v)

pub record LimitRead (s : List ℕ) : Type 0 where
  pub low : number_of s ≤ 65535
  pub again : decimal (number_of s) ≡ s

-- a first digit that is no zero
leading : (d : ℕ) (s : List ℕ) → value d < 10 → (eqb (suc (suc (length s))) 1 || not (eqb d 0x30)) ≡ true → 1 ≤ value d
leading d s v w =
    by_cases (dec_le 1 (value d)) (λ l. l)
    (λ l. let e : d ≡ 0x30 = omega (arith, last-again d v) in
    let two : eqb (suc (suc (length s))) 1 ≡ false = ne_eqb (suc (suc (length s))) 1 (λ z. omega (arith, z)) in
    clash false (rw (two, eq-eqb d 0x30 e) at w) refl)

limit-again : (s : List ℕ) → 1 ≤ length s → all_of (digit_to 10) s ≡ true → (eqb (length s) 1 || not (eqb (byte s 0) 0x30)) ≡ true → number_of s ≤ 65535 → decimal (number_of s) ≡ s
unfolding all_of number_from
limit-again [] l h w k = absurd (omega arith)
limit-again (d ∷ []) l h w k = rw (zero-add (value d)) (one-digit d (ltb-true (value d) 10 (both (digit_to 10 d) true h).0))
limit-again (d ∷ b ∷ s) l h w k =
    let p = both (digit_to 10 d) (all_of (digit_to 10) (b ∷ s)) h in
    let v : value d < 10 = ltb-true (value d) 10 p.0 in
    let low : number_from (value d) (b ∷ s) ≤ 65535 = rw (zero-add (value d)) at k in
    rw (zero-add (value d)) (decimal-behind (value d) (b ∷ s) (leading d s v w) p.1 low ∙ ap (λ (x : List ℕ). x ++ (b ∷ s)) (one-digit d v))

pub limit-read : (s : List ℕ) → is_limit s ≡ true → LimitRead s
unfolding is_limit
limit-read s h =
    let k = each (leb 1 (length s) ∷ all_of (digit_to 10) s ∷ (eqb (length s) 1 || not (eqb (byte s 0) 0x30)) ∷ leb (number_of s) 65535 ∷ []) h in
    let low : number_of s ≤ 65535 = leb-true _ _ k.1.1.1 in
    record { low = low; again = limit-again s (leb-true _ _ k.0) k.1.0 k.1.1.0 low }
