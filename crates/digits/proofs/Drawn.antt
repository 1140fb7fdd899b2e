-- Texts drawn one behind the other.
-- Assumes nothing.
use Prim.Native.Nat.{ℕ, suc, ◌+◌, ◌/◌, ◌%◌, ◌≤◌, ◌<◌}
use mathlib.Core.List.{List, [], ◌∷◌, ◌++◌}
use mathlib.Core.Path.{◌≡◌, refl, sym, ap, ◌∙◌}
use native.Mathlib.Nat.{add-zero, zero-add}
use native.Mathlib.Numerals.{add-one}
use native.Mathlib.Omega.{arith}
use lib.ListN.{length, set, get_or, drop, length-set, drop_of_length-le, take-append-drop}
use lib.Seq.{drop-cons}
use borrow.Author.Tests.{lt-ltb, le-ltb}
use Rattle.files.specs.Part.{splice, over}
use Rattle.files.proofs.Parts.{splice-cons, over-splice}
use Rattle.digits.specs.Digits.{hex_digit, hex_byte, hex_of}
use Rattle.digits.specs.Page.{Page, page, stroke, draw, Draws}

pub draw-append : (v w : List ℕ) (p : Page) → draw (v ++ w) p ≡ draw w (draw v p)
unfolding draw
draw-append [] w p = refl
draw-append (b ∷ bs) w p = draw-append bs w (stroke b p)

-- one text behind the other
pub draws-then : (v w : List ℕ) (p q r : Page) → q ≡ draw v p → r ≡ draw w q → r ≡ draw (v ++ w) p
draws-then v w p q r e f = f ∙ ap (draw w) e ∙ sym (draw-append v w p)

-- another name for the text
pub draws-as : (v w : List ℕ) (p q : Page) → q ≡ draw v p → v ≡ w → q ≡ draw w p
draws-as v w p q e h = e ∙ ap (λ (x : List ℕ). draw x p) h

-- a byte, where there is room and where there is none
module _ (out : List ℕ) (at b : ℕ) where
  pub put-done : at < length out → Draws (b ∷ []) out at (at + 1) (set out at b)
  unfolding draw stroke
  put-done h = rw (lt-ltb at (length out) h, add-one at)

  pub put-none : length out ≤ at → Draws (b ∷ []) out at at out
  unfolding draw stroke
  put-none h = rw (le-ltb at (length out) h)

-- bytes drawn in a loop
pub all_more : (text : List ℕ) (i : ℕ) (p q : Page) → i < length text → q ≡ draw (get_or text i 0 ∷ []) p → draw (drop (i + 1) text) q ≡ draw (drop i text) p
all_more text i p q h e = rw (drop-cons text i 0 h, add-one i, e) (sym (draw-append (get_or text i 0 ∷ []) (drop (suc i) text) p))

pub all_end : (text : List ℕ) (i : ℕ) (p : Page) → length text ≤ i → draw (drop i text) p ≡ p
unfolding draw
all_end text i p h = rw (drop_of_length-le text h)

pub hex-more : (bytes : List ℕ) (i x y : ℕ) (p q r : Page) → i < length bytes → x ≡ hex_digit (get_or bytes i 0 / 16) → y ≡ hex_digit (get_or bytes i 0 % 16)
    → q ≡ draw (x ∷ []) p → r ≡ draw (y ∷ []) q → draw (hex_of (drop (i + 1) bytes)) r ≡ draw (hex_of (drop i bytes)) p
unfolding hex_of
hex-more bytes i x y p q r h hx hy e f =
    let two : r ≡ draw (hex_byte (get_or bytes i 0)) p = draws-then (hex_digit (get_or bytes i 0 / 16) ∷ []) (hex_digit (get_or bytes i 0 % 16) ∷ []) p q r (e ∙ rw hx) (f ∙ rw hy) in
    rw (drop-cons bytes i 0 h, add-one i, two) (sym (draw-append (hex_byte (get_or bytes i 0)) (hex_of (drop (suc i) bytes)) p))

pub hex-end : (bytes : List ℕ) (i : ℕ) (p : Page) → length bytes ≤ i → draw (hex_of (drop i bytes)) p ≡ p
unfolding hex_of draw
hex-end bytes i p h = rw (drop_of_length-le bytes h)

-- with room for all of it
splice-none : (out : List ℕ) (at : ℕ) → splice out at [] ≡ out
unfolding splice
splice-none out at = rw (add-zero at) (take-append-drop at out)

draw-room : (w out : List ℕ) (at : ℕ) → at + length w ≤ length out → draw w (page out at) ≡ page (splice out at w) (at + length w)
unfolding draw stroke
draw-room [] out at h = rw (add-zero at, splice-none out at)
draw-room (b ∷ bs) out at h =
    let e : at + suc (length bs) ≡ suc at + length bs = omega arith in
    let l : at < length out = omega arith in
    let s : splice (set out at b) (suc at) bs ≡ splice out at (b ∷ bs) = ap (λ (n : ℕ). splice (set out at b) n bs) (sym (add-one at)) ∙ splice-cons out at b bs l in
    rw (lt-ltb at (length out) l, e) (draw-room bs (set out at b) (suc at) (omega (arith, length-set out at b)) ∙ ap (λ (x : List ℕ). page x (suc at + length bs)) s)

pub drawn-over : (w out left : List ℕ) (r : ℕ) → length w ≤ length out → Draws w out 0 r left → (r ≡ length w) × (left ≡ over w out)
drawn-over w out left r h d =
    let q : page left r ≡ page (splice out 0 w) (0 + length w) = d ∙ draw-room w out 0 (omega arith) in
    (ap (λ (x : Page). x.at) q ∙ zero-add (length w), ap (λ (x : Page). x.out) q ∙ over-splice w out)
