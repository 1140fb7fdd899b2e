-- A loop that looks at the bytes of a value place by place: in its length each passes a test, and behind it each is 00.
use Prim.Native.Nat.{ℕ, suc, ◌+◌, ◌-◌, ◌≤◌, ◌<◌}
use mathlib.Core.Bool.{Bool, cond, ◌&&◌, ◌||◌, and-true, and_assoc}
use mathlib.Core.List.{List, [], ◌∷◌}
use mathlib.Core.Logic.{by_cases}
use mathlib.Core.Path.{◌≡◌, refl, sym, ap, ◌∙◌}
use native.Mathlib.Decide.{dec_lt}
use native.Mathlib.Omega.{arith}
use native.Mathlib.Numerals.{add-one}
use lib.Dec.{eqb, ltb}
use lib.ListN.{length, take, drop, get_or, drop_of_length-le}
use lib.Seq.{drop-cons, take-nil, drop-nil}
use borrow.Author.Tests.{eqb-true, lt-ltb, le-ltb}
use Rattle.files.specs.Words.{all_below, is_zero}
use Rattle.files.proofs.Checks.{below}
use Rattle.rules.specs.Words.{all_of}
use Rattle.rules.specs.Sound.{digit}

abbrev pub places : List ℕ
places = 0 ∷ 1 ∷ 2 ∷ 3 ∷ 4 ∷ 5 ∷ 6 ∷ 7 ∷ 8 ∷ 9 ∷ 10 ∷ 11 ∷ 12 ∷ 13 ∷ 14 ∷ 15 ∷ []

pub place_at : (i : ℕ) → i < 16 → get_or places i 0 ≡ i
unfolding all_below
place_at i l = eqb-true _ _ (below (λ n. eqb (get_or places n 0) n) 16 refl i l)

-- the bytes from one place on, with as many of the value's
abbrev pub zeros_behind : ℕ → List ℕ → Bool
zeros_behind k v = all_of is_zero (drop k v)

abbrev pub digits_before : ℕ → List ℕ → Bool
digits_before k v = all_of digit (take k v) && zeros_behind k v

module _ (v : List ℕ) (k i : ℕ) (l : i < length v) where
  abbrev here : ℕ
  here = get_or v i 0

  abbrev rest : List ℕ
  rest = drop (i + 1) v

  behind : k ≤ i → (k - i ≡ 0) × (k - (i + 1) ≡ 0)
  behind h = (omega (arith, h), omega (arith, h))

  inside : i < k → k - i ≡ suc (k - (i + 1))
  inside h = omega (arith, h)

  cut : drop i v ≡ here ∷ rest
  cut = drop-cons v i 0 l ∙ ap (λ n. here ∷ drop n v) (sym (add-one i))

  pub zeros-more : ((ltb i k || is_zero here) && zeros_behind (k - (i + 1)) rest) ≡ zeros_behind (k - i) (drop i v)
  unfolding all_of
  zeros-more = by_cases (dec_lt i k)
      (λ h. rw (lt-ltb i k h, inside h, cut, add-one))
      (λ h. let g : k ≤ i = omega (arith, h) in rw (le-ltb i k g, (behind g).0, (behind g).1, cut))

  pub digits_more : (cond (ltb i k) (digit here) (is_zero here) && digits_before (k - (i + 1)) rest) ≡ digits_before (k - i) (drop i v)
  unfolding all_of
  digits_more = by_cases (dec_lt i k)
      (λ h. rw (lt-ltb i k h, inside h, cut, add-one) (sym (and_assoc (digit here) (all_of digit (take (k - suc i) (drop (suc i) v))) (all_of is_zero (drop (k - suc i) (drop (suc i) v))))))
      (λ h. let g : k ≤ i = omega (arith, h) in rw (le-ltb i k g, (behind g).0, (behind g).1, cut))

  pub zeros-again : (good : Bool) → ((good && (ltb i k || is_zero here)) && zeros_behind (k - (i + 1)) rest) ≡ (good && zeros_behind (k - i) (drop i v))
  zeros-again good = and_assoc good _ _ ∙ ap (λ b. good && b) zeros-more

  pub digits-again : (good : Bool) → ((good && cond (ltb i k) (digit here) (is_zero here)) && digits_before (k - (i + 1)) rest) ≡ (good && digits_before (k - i) (drop i v))
  digits-again good = and_assoc good _ _ ∙ ap (λ b. good && b) digits_more

module _ (v : List ℕ) (k : ℕ) where
  none_yet : k - 0 ≡ k
  none_yet = omega arith

  pub zeros-start : zeros_behind (k - 0) v ≡ zeros_behind k v
  zeros-start = ap (λ n. zeros_behind n v) none_yet

  pub digits-start : digits_before (k - 0) v ≡ digits_before k v
  digits-start = ap (λ n. digits_before n v) none_yet

  pub zeros-end : (i : ℕ) (good : Bool) → length v ≤ i → (good && zeros_behind (k - i) (drop i v)) ≡ good
  unfolding all_of
  zeros-end i good l = rw (drop_of_length-le v l, drop-nil {A = ℕ} (k - i)) (and-true good)

  pub digits-end : (i : ℕ) (good : Bool) → length v ≤ i → (good && digits_before (k - i) (drop i v)) ≡ good
  unfolding all_of
  digits-end i good l = rw (drop_of_length-le v l, take-nil {A = ℕ} (k - i), drop-nil {A = ℕ} (k - i)) (and-true good)
