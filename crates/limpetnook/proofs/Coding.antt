-- A code worked out on the main board's side: what the blocks and the buffer are.
use Prim.Native.Nat.{ℕ, ◌≤◌}
use mathlib.Core.Bool.{true, false, ◌||◌}
use mathlib.Core.List.{List, [], ◌∷◌, append-nil}
use mathlib.Core.Path.{◌≡◌, sym, ap, ◌∙◌}
use native.Mathlib.Omega.{arith}
use lib.Dec.{eqb}
use lib.ListN.{length, take, drop, length-replicate, drop_of_length-le}
use lib.Seq.{take_all, length-take-le}
use borrow.Author.Tests.{eqb-true}
use Rattle.codes.specs.Code.{mac}
use Rattle.files.specs.Part.{part, over, zeros, shown, shows}
use Rattle.files.proofs.Checks.{each}
use Rattle.rules.specs.Words.{filled}
use Rattle.rules.specs.Sound.{good_challenge}
use Rattle.rules.proofs.Checks.{one_of}
use Rattle.rules.proofs.Equal.{equal-same}
use Rattle.limpetnook.specs.Board.{served, outcome, output, Coded, CardTakes}

challenge-few : (n : ℕ) → good_challenge n ≡ true → n ≤ 16
challenge-few n h =
    one_of (eqb n 4) (eqb n 8 || eqb n 16) h (λ e. omega (arith, eqb-true n 4 e))
    (λ k. one_of (eqb n 8) (eqb n 16) k (λ e. omega (arith, eqb-true n 8 e)) (λ e. omega (arith, eqb-true n 16 e)))

-- sixteen bytes are filled with nothing
whole-block : (d : List ℕ) → length d ≡ 16 → filled (take 16 d) ≡ d
unfolding over
whole-block d e =
    let l : length (zeros 16) ≤ length d = omega (arith, length-replicate {A = ℕ} 16 0) in
    let none : drop (length d) (zeros 16) ≡ [] = drop_of_length-le (zeros 16) l in
    rw (take_all 16 d (omega arith), none) (append-nil d)

-- the front of a block over a buffer of just so many bytes
front-over : (block out : List ℕ) → length block ≡ 16 → length out ≡ 4 → shown (shows (length block) 0 4 (length out)) (part 0 4 block) out ≡ take 4 block
unfolding shown shows part over
front-over block out e h =
    let n : length (take 4 block) ≡ 4 = length-take-le 4 block (omega arith) in
    let l : length out ≤ 4 = omega arith in
    let none : drop 4 out ≡ [] = drop_of_length-le out l in
    rw (e, h, n, none) (append-nil (take 4 block))

module _ (key challenge message out : List ℕ) where
  pub not-coded : served key challenge out ≡ false → Coded key challenge message out 6 out
  unfolding outcome output
  not-coded h = record { answered = rw h; written = rw h }

  pub is-coded : served key challenge out ≡ true → {k s block left : List ℕ} → k ≡ filled (take 16 key) → s ≡ filled (take 16 challenge) → block ≡ mac k s message → length block ≡ 16
      → left ≡ shown (shows (length block) 0 4 (length out)) (part 0 4 block) out → Coded key challenge message out 0 left
  unfolding outcome output
  is-coded h {block = block} hk hs hb l w =
      let e = each (eqb (length key) 16 ∷ good_challenge (length challenge) ∷ eqb (length out) 4 ∷ []) h in
      let few : length challenge ≤ 16 = challenge-few (length challenge) e.1.0 in
      let b : block ≡ mac key (filled challenge) message = hb ∙ rw (hk, hs, whole-block key (eqb-true _ _ e.0), take_all 16 challenge few) in
      record { answered = rw h; written = rw h (w ∙ front-over block out l (eqb-true _ _ e.1.1) ∙ ap (take 4) b) }

pub card-takes : CardTakes
unfolding output
card-takes l challenge k out h e = equal-same _ _ (sym (e ∙ rw h))
