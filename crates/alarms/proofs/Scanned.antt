-- A line read byte by byte is judged as a whole.
-- Assumes nothing.
use Prim.Native.Nat.{ℕ, suc, ◌+◌, ◌*◌, ◌/◌, ◌%◌, ◌≤◌, ◌<◌}
use mathlib.Core.Bool.{Bool, true, false, cond, ◌&&◌}
use mathlib.Core.List.{List, [], ◌∷◌, ◌++◌}
use mathlib.Core.Path.{◌≡◌, refl}
use mathlib.Core.Logic.{by_cases}
use native.Mathlib.Decide.{dec_lt}
use native.Mathlib.Omega.{arith}
use lib.Dec.{eqb, leb}
use lib.ListN.{length}
use borrow.Author.Tests.{lt-ltb, le-ltb, le-leb, lt-leb, eq-eqb, ne_eqb}
use Rattle.files.specs.Words.{every}
use Rattle.digits.specs.Digits.{value}
use Rattle.sums.specs.declared.Alarm.{Alarm}
use Rattle.sums.specs.Alarm.{alarm_of}
use Rattle.alarms.specs.Line.{name_of, digits_of, all_hex, hex_from}
use Rattle.alarms.specs.Feed.{begun, name_after, digit_after, place_after, word_after}

pub by-eq {ℓ} : {A : Type ℓ} (a b : ℕ) → (a ≡ b → A) → ((a ≡ b → ⊥) → A) → A
by-eq a b f g = by_cases (dec_lt a b) (λ l. g (λ e. omega arith)) (λ n. by_cases (dec_lt b a) (λ l. g (λ e. omega arith)) (λ m. f (omega arith)))

-- where bytes lead
unfoldable pub end_at : ℕ → List ℕ → ℕ
end_at at [] = at
end_at at (b ∷ bs) = end_at (place_after (begun at) b (value b)) bs

unfoldable pub end_word : ℕ → ℕ → List ℕ → ℕ
end_word at w [] = w
end_word at w (b ∷ bs) = end_word (place_after (begun at) b (value b)) (word_after (begun at) w (value b)) bs

pub end_at-more : (at : ℕ) (l : List ℕ) (b : ℕ) → end_at at (l ++ (b ∷ [])) ≡ place_after (begun (end_at at l)) b (value b)
unfolding end_at
end_at-more at [] b = refl
end_at-more at (x ∷ l) b = end_at-more (place_after (begun at) x (value x)) l b

pub end_word-more : (at w : ℕ) (l : List ℕ) (b : ℕ) → end_word at w (l ++ (b ∷ [])) ≡ word_after (begun (end_at at l)) (end_word at w l) (value b)
unfolding end_word end_at
end_word-more at w [] b = refl
end_word-more at w (x ∷ l) b = end_word-more (place_after (begun at) x (value x)) (word_after (begun at) w (value x)) l b

-- a byte leads to 1 to 50
pub after-some : (at b v : ℕ) → (1 ≤ place_after at b v) × (place_after at b v ≤ 50)
unfolding place_after name_after digit_after
after-some at b v =
    by_cases (dec_lt at 33)
    (λ h. rw (lt-ltb at 33 h)
    (by-eq b 9
    (λ e. rw (eq-eqb b 9 e)
    (by-eq at 0 (λ z. rw (eq-eqb at 0 z) (omega arith, omega arith)) (λ z. rw (ne_eqb at 0 z) (omega arith, omega arith))))
    (λ e. rw (ne_eqb b 9 e)
    (by_cases (dec_lt at 32) (λ z. rw (lt-ltb at 32 z) (omega arith, omega arith)) (λ z. let z' : 32 ≤ at = omega arith in rw (le-ltb at 32 z') (omega arith, omega arith))))))
    (λ h. let h' : 33 ≤ at = omega arith in rw (le-ltb at 33 h')
    (by_cases (dec_lt at 49)
    (λ k. rw (lt-ltb at 49 k)
    (by_cases (dec_lt v 16) (λ z. rw (lt-ltb v 16 z) (omega arith, omega arith)) (λ z. let z' : 16 ≤ v = omega arith in rw (le-ltb v 16 z') (omega arith, omega arith))))
    (λ k. let k' : 49 ≤ at = omega arith in rw (le-ltb at 49 k') (omega arith, omega arith))))

pub begun-same : (at : ℕ) → at ≤ 50 → begun at ≡ at
unfolding begun
begun-same at h = let n : at ≡ 51 → ⊥ = λ e. omega arith in rw (ne_eqb at 51 n)

pub begun-zero : begun 0 ≡ 0
unfolding begun
begun-zero = refl

pub begun-done : begun 51 ≡ 0
unfolding begun
begun-done = refl

end_at-some : (at : ℕ) (l : List ℕ) → (1 ≤ at) × (at ≤ 50) → (1 ≤ end_at at l) × (end_at at l ≤ 50)
unfolding end_at
end_at-some at [] h = h
end_at-some at (b ∷ l) h = end_at-some (place_after (begun at) b (value b)) l (after-some (begun at) b (value b))

-- a line that is begun
pub end-some : (at b : ℕ) (l : List ℕ) → (1 ≤ end_at at (b ∷ l)) × (end_at at (b ∷ l) ≤ 50)
unfolding end_at
end-some at b l = end_at-some (place_after (begun at) b (value b)) l (after-some (begun at) b (value b))

-- no more behind a bad byte
bad-stays : (l : List ℕ) → end_at 50 l ≡ 50
unfolding end_at begun place_after digit_after
bad-stays [] = refl
bad-stays (b ∷ l) = bad-stays l

-- sixteen digits
word_next : (w v : ℕ) → v < 16 → w % 18446744073709551616 % 1152921504606846976 * 16 + v % 16 ≡ (w * 16 + v) % 18446744073709551616
word_next w v h = omega arith

alarm-word : (w : ℕ) → alarm_of (w % 18446744073709551616) ≡ alarm_of w
unfolding alarm_of
alarm-word w =
    let a : w % 18446744073709551616 / 4294967296 % 4294967296 ≡ w / 4294967296 % 4294967296 = omega arith in
    let b : w % 18446744073709551616 / 16777216 % 256 ≡ w / 16777216 % 256 = omega arith in
    let c : w % 18446744073709551616 / 65536 % 256 ≡ w / 65536 % 256 = omega arith in
    let d : w % 18446744073709551616 % 65536 ≡ w % 65536 = omega arith in
    rw (a, b, c, d)

and-false : (a : Bool) → (a && false) ≡ false
and-false true = refl
and-false false = refl

-- what comes of a line: f of its alarm where its form is good, else x
module _ {A : Type 0} (f : Alarm → A) (x : A) where
  abbrev out : ℕ → ℕ → List ℕ → A
  out at w l = cond (eqb (end_at at l) 49) (f (alarm_of (end_word at w l))) x

  out-bad : (w : ℕ) (l : List ℕ) → out 50 w l ≡ x
  out-bad w l = rw (bad-stays l)

  digits-out : (l : List ℕ) (d w : ℕ) → d ≤ 16 → out (33 + d) (w % 18446744073709551616) l ≡ cond (eqb (d + length l) 16 && all_hex l) (f (alarm_of (hex_from w l))) x
  unfolding end_at end_word all_hex hex_from begun place_after digit_after word_after
  digits-out [] d w h =
      by-eq d 16
      (λ e. let e₁ : 33 + d ≡ 49 = omega arith in let e₂ : d + 0 ≡ 16 = omega arith in rw (eq-eqb (33 + d) 49 e₁, eq-eqb (d + 0) 16 e₂, alarm-word w))
      (λ e. let e₁ : 33 + d ≡ 49 → ⊥ = λ z. omega arith in let e₂ : d + 0 ≡ 16 → ⊥ = λ z. omega arith in rw (ne_eqb (33 + d) 49 e₁, ne_eqb (d + 0) 16 e₂))
  digits-out (b ∷ bs) d w h =
      let n₁ : 33 + d ≡ 51 → ⊥ = λ z. omega arith in
      let l₁ : 33 ≤ 33 + d = omega arith in
      by-eq d 16
      (λ e. let l₂ : 49 ≤ 33 + d = omega arith in let e₂ : d + suc (length bs) ≡ 16 → ⊥ = λ z. omega arith in
      rw (ne_eqb (33 + d) 51 n₁, le-ltb (33 + d) 33 l₁, le-ltb (33 + d) 49 l₂, ne_eqb (d + suc (length bs)) 16 e₂) (out-bad _ bs))
      (λ e. let l₂ : 33 + d < 49 = omega arith in
      by_cases (dec_lt (value b) 16)
      (λ v. let s₁ : 33 + d + 1 ≡ 33 + (d + 1) = omega arith in let s₂ : d + suc (length bs) ≡ d + 1 + length bs = omega arith in let h' : d + 1 ≤ 16 = omega arith in
      rw (ne_eqb (33 + d) 51 n₁, le-ltb (33 + d) 33 l₁, lt-ltb (33 + d) 49 l₂, lt-ltb (value b) 16 v, s₁, s₂, word_next w (value b) v) (digits-out bs (d + 1) (w * 16 + value b) h'))
      (λ v. let v' : 16 ≤ value b = omega arith in
      rw (ne_eqb (33 + d) 51 n₁, le-ltb (33 + d) 33 l₁, lt-ltb (33 + d) 49 l₂, le-ltb (value b) 16 v', and-false (eqb (d + suc (length bs)) 16)) (out-bad _ bs)))

  zero-out : (l : List ℕ) → out 33 0 l ≡ cond (eqb (length l) 16 && all_hex l) (f (alarm_of (hex_from 0 l))) x
  zero-out l = let z : 0 + length l ≡ length l = omega arith in rw z at (digits-out l 0 0 (omega arith))

  -- the form of a line of which k bytes of the name are read
  abbrev formed : ℕ → List ℕ → Bool
  formed k l = every (leb 1 (k + length (name_of l)) ∷ leb (k + length (name_of l)) 32 ∷ eqb (length (digits_of l)) 16 ∷ all_hex (digits_of l) ∷ [])

  name_out : (l : List ℕ) (k w : ℕ) → k ≤ 32 → out k w l ≡ cond (formed k l) (f (alarm_of (hex_from 0 (digits_of l)))) x
  unfolding end_at end_word name_of digits_of all_hex begun place_after name_after word_after
  name_out [] k w h =
      let n : k ≡ 49 → ⊥ = λ z. omega arith in
      rw (ne_eqb k 49 n, and-false (leb (k + 0) 32), and-false (leb 1 (k + 0)))
  name_out (b ∷ bs) k w h =
      let n₁ : k ≡ 51 → ⊥ = λ z. omega arith in
      let l₁ : k < 33 = omega arith in
      by-eq b 9
      (λ e. by-eq k 0
      (λ z. let z₂ : 1 ≤ k + 0 → ⊥ = λ q. omega arith in let z₃ : k + 0 < 1 = omega arith in
      rw (ne_eqb k 51 n₁, lt-ltb k 33 l₁, eq-eqb b 9 e, eq-eqb k 0 z, lt-leb 1 (k + 0) z₃) (out-bad _ bs))
      (λ z. let z₁ : 1 ≤ k + 0 = omega arith in let z₂ : k + 0 ≤ 32 = omega arith in
      rw (ne_eqb k 51 n₁, lt-ltb k 33 l₁, eq-eqb b 9 e, ne_eqb k 0 z, le-leb 1 (k + 0) z₁, le-leb (k + 0) 32 z₂) (zero-out bs)))
      (λ e. by_cases (dec_lt k 32)
      (λ z. let h' : k + 1 ≤ 32 = omega arith in let s : k + suc (length (name_of bs)) ≡ k + 1 + length (name_of bs) = omega arith in
      rw (ne_eqb k 51 n₁, lt-ltb k 33 l₁, ne_eqb b 9 e, lt-ltb k 32 z, s) (name_out bs (k + 1) 0 h'))
      (λ z. let z₁ : 32 ≤ k = omega arith in let z₂ : 32 < k + suc (length (name_of bs)) = omega arith in
      rw (ne_eqb k 51 n₁, lt-ltb k 33 l₁, ne_eqb b 9 e, le-ltb k 32 z₁, lt-leb (k + suc (length (name_of bs))) 32 z₂, and-false (leb 1 (k + suc (length (name_of bs))))) (out-bad _ bs)))

  -- from where a line begins
  pub line-out : (at w : ℕ) (l : List ℕ) → begun at ≡ 0 → out at w l ≡ cond (formed 0 l) (f (alarm_of (hex_from 0 (digits_of l)))) x
  unfolding end_at end_word name_of digits_of
  line-out at w [] e =
      let n : at ≡ 49 → ⊥ = λ z. start-not at e z in rw (ne_eqb at 49 n)
    where
      start-not : (at : ℕ) → begun at ≡ 0 → at ≡ 49 → ⊥
      start-not at e z = let k : at ≤ 50 = omega arith in let s = begun-same at k in omega arith
  line-out at w (b ∷ bs) e = rw e (rw begun-zero at (name_out (b ∷ bs) 0 w (omega arith)))
