-- Numbers as they are written, over any number of digits.
-- Assumes nothing.
use Prim.Native.Nat.{ℕ, zero, suc, ◌+◌, ◌-◌, ◌*◌, ◌/◌, ◌^◌, ◌≤◌, ◌<◌}
use mathlib.Core.Logic.{by_cases}
use mathlib.Core.List.{List, [], ◌∷◌, ◌++◌, append_assoc}
use mathlib.Core.Path.{◌≡◌, refl, sym, ap, ◌∙◌}
use native.Mathlib.Decide.{dec_le}
use native.Mathlib.Nat.{pow-suc}
use native.Mathlib.Numerals.{add-one}
use native.Mathlib.Omega.{arith}
use lib.Dec.{ltb}
use lib.ListN.{length, take, drop, set, length-append, length-drop, length-set}
use lib.Seq.{take_all, drop-cons, drop-set-lt, get_or-set_same}
use borrow.Author.Tests.{lt-ltb, le-ltb}
use Rattle.files.proofs.Checks.{split}
use Rattle.digits.specs.Digits.{ended, last_digit, digits_in, decimal}

pub tens-one : (k n : ℕ) → n < 10 → digits_in k n ≡ last_digit n ∷ []
unfolding digits_in
tens-one zero n h = refl
tens-one (suc k) n h = rw (lt-ltb n 10 h)

pub tens-more : (k n : ℕ) → 10 ≤ n → digits_in (suc k) n ≡ ended (last_digit n) (digits_in k (n / 10))
unfolding digits_in
tens-more k n h = rw (le-ltb n 10 h)

-- what holds of a digit, and of a text with a digit behind it where it holds of the text, holds of a number
tens-each : (P : List ℕ → Type 0) → ((n : ℕ) → P (last_digit n ∷ [])) → ((n : ℕ) (w : List ℕ) → P w → P (ended (last_digit n) w)) → (k n : ℕ) → P (digits_in k n)
unfolding digits_in
tens-each P one more zero n = one n
tens-each P one more (suc k) n = split P (ltb n 10) (λ _. one n) (λ _. more n (digits_in k (n / 10)) (tens-each P one more k (n / 10)))

pub each-digit : (P : List ℕ → Type 0) → ((n : ℕ) → P (last_digit n ∷ [])) → ((n : ℕ) (w : List ℕ) → P w → P (ended (last_digit n) w)) → (n : ℕ) → P (decimal n)
unfolding decimal
each-digit P one more n = tens-each P one more 19 n

pub decimal-some : (n : ℕ) → 1 ≤ length (decimal n)
decimal-some = each-digit (λ w. 1 ≤ length w) (λ n. omega arith) (λ n w h. omega (arith, length-append w (last_digit n ∷ [])))

-- a number has no more digits than the power of ten below which it is
pub tens-low : (k n : ℕ) → n < 10 ^ suc k → n / 10 < 10 ^ k
tens-low k n h = let e : 10 ^ suc k ≡ 10 ^ k * 10 = pow-suc 10 k in omega arith

tens-none : (n : ℕ) → digits_in zero n ≡ last_digit n ∷ []
unfolding digits_in
tens-none n = refl

tens-length : (j k n : ℕ) → n < 10 ^ suc k → length (digits_in j n) ≤ suc k
tens-length zero k n h = let e = tens-none n in omega (arith, ap length e)
tens-length (suc j) zero n h = let l : n < 10 = h in rw (tens-one (suc j) n l) (omega arith)
tens-length (suc j) (suc k) n h =
    by_cases (dec_le 10 n)
    (λ l. rw (tens-more j n l) (omega (arith, length-append (digits_in j (n / 10)) (last_digit n ∷ []), tens-length j k (n / 10) (tens-low (suc k) n h))))
    (λ l. let m : n < 10 = omega arith in rw (tens-one (suc j) n m) (omega arith))

pub decimal-length : (k n : ℕ) → n < 10 ^ suc k → length (decimal n) ≤ suc k
unfolding decimal
decimal-length k n h = tens-length 19 k n h

digits-most : (k n : ℕ) → length (digits_in k n) ≤ suc k
digits-most zero n = omega (arith, ap length (tens-none n))
digits-most (suc k) n =
    by_cases (dec_le 10 n)
    (λ l. rw (tens-more k n l) (omega (arith, length-append (digits_in k (n / 10)) (last_digit n ∷ []), digits-most k (n / 10))))
    (λ l. let m : n < 10 = omega arith in rw (tens-one (suc k) n m) (omega arith))

-- twenty digits at most
pub decimal-most : (n : ℕ) → length (decimal n) ≤ 20
unfolding decimal
decimal-most n = digits-most 19 n

-- what holds of one digit, and of a number with its last digit where it holds of the tens with the others, holds of every number and its digits
by-tens : (P : ℕ → List ℕ → Type 0) → ((n : ℕ) → n < 10 → P n (last_digit n ∷ [])) → ((n : ℕ) (w : List ℕ) → 10 ≤ n → P (n / 10) w → P n (ended (last_digit n) w))
    → (k n : ℕ) → n < 10 ^ suc k → P n (digits_in k n)
by-tens P one more zero n h = let l : n < 10 = h in rw (tens-one zero n l) (one n l)
by-tens P one more (suc k) n h =
    by_cases (dec_le 10 n)
    (λ l. rw (tens-more k n l) (more n (digits_in k (n / 10)) l (by-tens P one more k (n / 10) (tens-low (suc k) n h))))
    (λ l. let m : n < 10 = omega arith in rw (tens-one (suc k) n m) (one n m))

pub by-decimal : (P : ℕ → List ℕ → Type 0) → ((n : ℕ) → n < 10 → P n (last_digit n ∷ [])) → ((n : ℕ) (w : List ℕ) → 10 ≤ n → P (n / 10) w → P n (ended (last_digit n) w))
    → (n : ℕ) → n < 10 ^ 20 → P n (decimal n)
unfolding decimal
by-decimal P one more n h = by-tens P one more 19 n h

-- with room for all digits it does not matter how much there is
tens-same : (j k n : ℕ) → n < 10 ^ suc j → n < 10 ^ suc k → digits_in j n ≡ digits_in k n
tens-same zero k n h l = let m : n < 10 = h in tens-one zero n m ∙ sym (tens-one k n m)
tens-same (suc j) zero n h l = let m : n < 10 = l in tens-one (suc j) n m ∙ sym (tens-one zero n m)
tens-same (suc j) (suc k) n h l =
    by_cases (dec_le 10 n)
    (λ m. tens-more j n m ∙ rw (tens-same j k (n / 10) (tens-low (suc j) n h) (tens-low (suc k) n l)) (sym (tens-more k n m)))
    (λ m. let o : n < 10 = omega arith in tens-one (suc j) n o ∙ sym (tens-one (suc k) n o))

pub decimal-as : (k n : ℕ) → n < 10 ^ suc k → n < 10 ^ 20 → digits_in k n ≡ decimal n
unfolding decimal
decimal-as k n h l = tens-same k 19 n h l

-- digits found from the last to the first: those of the tens are left to find, and there is a place for each
pub place-left : (k n : ℕ) → 9 < n → n < 10 ^ suc k → 1 ≤ k
place-left zero n h l = let m : n < 10 = l in absurd (omega arith)
place-left (suc k) n h l = omega arith

module _ (found : List ℕ) (d n : ℕ) (w : List ℕ) (is : d ≡ last_digit n) where
  one_more : (from : ℕ) → from < length found → drop from (set found from d) ≡ last_digit n ∷ drop (from + 1) found
  one_more from h =
      drop-cons (set found from d) from 0 (omega (arith, length-set found from d))
      ∙ rw (get_or-set_same found from d 0 h, drop-set-lt (suc from) found from d (omega arith), add-one from, is)

  pub found-more : (from : ℕ) → from < length found → digits_in from n ++ drop (from + 1) found ≡ w → 9 < n → n < 10 ^ suc from
      → (n / 10 < 10 ^ suc (from - 1)) × (digits_in (from - 1) (n / 10) ++ drop (from - 1 + 1) (set found from d) ≡ w)
  found-more zero h e l m = absurd (let k = place-left zero n l m in omega arith)
  found-more (suc k) h e l m =
      let i : suc k - 1 ≡ k = omega arith in
      let j : k + 1 ≡ suc k = add-one k in
      let f : digits_in (suc k) n ++ drop (suc k + 1) found ≡ digits_in k (n / 10) ++ (last_digit n ∷ drop (suc k + 1) found) =
      rw (tens-more k n (omega arith)) (append_assoc (digits_in k (n / 10)) (last_digit n ∷ []) (drop (suc k + 1) found)) in
      rw (i, j, one_more (suc k) h) (tens-low (suc k) n m, sym f ∙ e)

  pub found_all : (size from : ℕ) → length found ≡ size → from < size → digits_in from n ++ drop (from + 1) found ≡ w → n ≤ 9 → take (size - from) (drop from (set found from d)) ≡ w
  found_all size from s r e h =
      let l : length (drop from (set found from d)) ≤ size - from = omega (arith, length-drop from (set found from d), length-set found from d) in
      let m : n < 10 = omega arith in
      let f : digits_in from n ++ drop (from + 1) found ≡ last_digit n ∷ drop (from + 1) found = rw (tens-one from n m) in
      take_all (size - from) (drop from (set found from d)) l ∙ one_more from (omega arith) ∙ sym f ∙ e
