-- What is kept of a credential's value: a key fills its place, and behind a PIN all is 00.
use Prim.Native.Nat.{ℕ, ◌≤◌, ◌<◌}
use mathlib.Core.Bool.{Bool, ◌&&◌, and-false, and_assoc}
use mathlib.Core.List.{List, [], ◌∷◌}
use mathlib.Core.Logic.{by_cases}
use mathlib.Core.Path.{◌≡◌, sym, ap, ◌∙◌}
use native.Mathlib.Decide.{dec_lt, ℕ_discrete}
use native.Mathlib.Omega.{arith}
use lib.Dec.{eqb, leb}
use lib.ListN.{length, take, drop, length-take, drop_of_length-le}
use borrow.Author.Tests.{eq-eqb, ne_eqb, le-leb, lt-leb}
use Rattle.files.specs.Words.{every, is_zero}
use Rattle.rules.specs.Words.{all_of}
use Rattle.rules.specs.Sound.{digit, good_pin_length, good_pin}

module _ (v : List ℕ) (len : ℕ) (places : length v ≡ 16) where
  abbrev zeros : Bool
  zeros = all_of is_zero (drop len v)

  front_length : len ≤ 16 → length (take len v) ≡ len
  front_length l = let e = length-take len v in omega (arith, e, places, l)

  pub key-kept : eqb len 16 ≡ every (leb len 16 ∷ eqb (length (take len v)) 16 ∷ zeros ∷ [])
  unfolding all_of
  key-kept = by_cases (ℕ_discrete len 16) fills (λ o. by_cases (dec_lt 16 len) (past o) (λ l. short o (omega (arith, l))))
    where
      fills : len ≡ 16 → eqb len 16 ≡ every (leb len 16 ∷ eqb (length (take len v)) 16 ∷ zeros ∷ [])
      fills e =
          let l : length v ≤ len = omega (arith, e, places) in
          let z : drop len v ≡ [] = drop_of_length-le v l in
          rw (eq-eqb len 16 e, le-leb len 16 (omega (arith, e)), eq-eqb (length (take len v)) 16 (front_length (omega (arith, e)) ∙ e), z)

      past : (len ≡ 16 → ⊥) → 16 < len → eqb len 16 ≡ every (leb len 16 ∷ eqb (length (take len v)) 16 ∷ zeros ∷ [])
      past o l = rw (ne_eqb len 16 o, lt-leb len 16 l)

      short : (len ≡ 16 → ⊥) → len ≤ 16 → eqb len 16 ≡ every (leb len 16 ∷ eqb (length (take len v)) 16 ∷ zeros ∷ [])
      short o l = rw (ne_eqb len 16 o, le-leb len 16 l, ne_eqb (length (take len v)) 16 (λ e. o (sym (front_length l) ∙ e)))

  pub pin-kept : every (leb len 16 ∷ good_pin (take len v) ∷ zeros ∷ []) ≡ (good_pin_length len && (all_of digit (take len v) && zeros))
  unfolding good_pin
  pin-kept = by_cases (dec_lt 16 len)
      (λ l. rw (lt-leb len 16 l) (sym (ap (λ b. b && (all_of digit (take len v) && zeros)) (and-false (leb 6 len)))))
      (λ l. let h : len ≤ 16 = omega (arith, l) in
      ap (λ b. b && (good_pin (take len v) && zeros)) (le-leb len 16 h)
      ∙ ap (λ n. (good_pin_length n && all_of digit (take len v)) && zeros) (front_length h)
      ∙ and_assoc (good_pin_length len) _ _)
