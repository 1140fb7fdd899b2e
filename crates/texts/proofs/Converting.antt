-- Conversion between the forms, from "accepted exactly when it is the text of a sound card" of each.
-- Assumes nothing.
use Prim.Native.Nat.{ℕ, ◌≤◌}
use mathlib.Core.Bool.{true, cond}
use mathlib.Core.List.{List}
use mathlib.Core.Path.{◌≡◌, refl, sym, ap, ◌∙◌}
use native.Mathlib.Omega.{arith}
use lib.Dec.{eqb, leb}
use lib.ListN.{length, take, drop}
use lib.Seq.{take_at}
use borrow.Author.Tests.{eqb-true, eq-eqb, leb-true, le-leb}
use Rattle.files.specs.Part.{over}
use Rattle.files.specs.Create.{area_size}
use Rattle.files.proofs.Checks.{split}
use Rattle.files.proofs.Kept.{filed}
use Rattle.rules.specs.declared.Card.{Card}
use Rattle.rules.specs.Calls.{answer}
use Rattle.rules.specs.Sound.{sound}
use Rattle.rules.proofs.Good.{sound-good}
use Rattle.texts.specs.Text.{Form, old, text, of_form}
use Rattle.texts.specs.Reading.{card_in, area_in}
use Rattle.texts.specs.Calls.{Wrote, to_text, wrote, Got, from_text, accepted, kept, converted}
use Rattle.texts.specs.Laws.{SoundCard, written, Converts, Refuses, BackAgain, CardStays, InRoot, OldInRoot}
use Rattle.texts.proofs.Trips.{not_so, home-low, card-is, area-is, text-kept, kept-sound, text-accepted, read-form, area-length, read_by, written_read}
use Rattle.texts.proofs.Exact.{text_of}

module _ (given wanted : Form) where
  -- the text of a sound card
  module _ (c : Card) (area : List ℕ) (ok : SoundCard given c area) where
    kept-size : length (kept c area) ≡ area_size
    kept-size = ap length (sym (area-is given c area ok)) ∙ area-length given (text given c area)

    pub carried : (out : List ℕ) → converted given wanted (text given c area) out
        ≡ cond (of_form wanted c)
        (cond (leb (length (text wanted c area)) (length out)) (wrote (answer 0 c (length (text wanted c area))) (over (text wanted c area) out))
        (wrote (answer 10 c 0) out))
        (wrote (answer 13 c 0) out)
    unfolding converted to_text
    carried out =
        rw (text-accepted given c area ok, card-is given c area ok, area-is given c area ok, eq-eqb _ _ kept-size, kept-sound given c area ok, text-kept given c area ok wanted)

    -- it has a text of the form wanted too
    pub other-sound : of_form wanted c ≡ true → SoundCard wanted c area
    other-sound o = record { is-sound = ok.is-sound; of-form = o; card-bytes = ok.card-bytes; area-bytes = ok.area-bytes; size = ok.size }

  pub converts : Converts given wanted
  converts s c area out t = rw (← t.text-is) (carried c area t.card-is out)

  pub refuses : Refuses given wanted
  unfolding converted
  refuses s out none = rw (not_so (accepted given s) (λ h. none (card_in given s) (area_in given s) (text_of given s h)))

  -- what is served
  abbrev into : List ℕ → List ℕ
  into s = text wanted (card_in given s) (area_in given s)

  abbrev IfServed : (Wrote → Type 0) → Wrote → Type 0
  IfServed P w = w.answer.outcome ≡ 0 → P w

  served-by : (P : Wrote → Type 0) (s out : List ℕ)
      → (accepted given s ≡ true → of_form wanted (card_in given s) ≡ true → length (into s) ≤ length out → P (wrote (answer 0 (card_in given s) (length (into s))) (over (into s) out)))
      → (converted given wanted s out).answer.outcome ≡ 0 → P (converted given wanted s out)
  unfolding converted to_text
  served-by P s out h =
      split (IfServed P) (accepted given s)
      (λ a. split (IfServed P) (eqb (length (area_in given s)) area_size)
      (λ b. split (IfServed P) (sound (card_in given s) (area_in given s))
      (λ g. split (IfServed P) (of_form wanted (card_in given s))
      (λ o. split (IfServed P) (leb (length (into s)) (length out)) (λ l z. h a o (leb-true _ _ l)) (λ l z. absurd (omega arith)))
      (λ o z. absurd (omega arith)))
      (λ g z. absurd (omega arith)))
      (λ b z. absurd (omega arith)))
      (λ a z. absurd (omega arith))

  -- the text in the buffer is the card's text in the form wanted
  over-front : (t out : List ℕ) → take (length t) (over t out) ≡ t
  unfolding over
  over-front t out = take_at t (drop (length t) out) (length t) refl

  module _ (s : List ℕ) (a : accepted given s ≡ true) (o : of_form wanted (card_in given s) ≡ true) where
    sound-there : SoundCard wanted (card_in given s) (area_in given s)
    sound-there = other-sound (card_in given s) (area_in given s) (text_of given s a).card-is o

pub back-again : (given wanted : Form) → BackAgain given wanted
back-again given wanted s out back z l =
    served-by given wanted (λ (w : Wrote). converted wanted given (written w) back ≡ wrote (answer 0 w.answer.card (length s)) (over s back)) s out
    (λ a o n. let t = (text_of given s a).text-is in
    rw (over-front given wanted (into given wanted s) out, carried wanted given (card_in given s) (area_in given s) (sound-there given wanted s a o) back, read-form given s, t, le-leb _ _ l))
    z

pub card-stays : (given wanted : Form) → CardStays given wanted
card-stays given wanted s out lent z size =
    served-by given wanted (λ (w : Wrote). from_text wanted (written w) lent ≡ from_text given s lent) s out
    (λ a o n. let t = text_of given s a in
    ap (λ (x : List ℕ). from_text wanted x lent) (over-front given wanted (into given wanted s) out)
    ∙ written_read wanted (card_in given s) (area_in given s) lent (sound-there given wanted s a o) size
    ∙ sym (written_read given (card_in given s) (area_in given s) lent t.card-is size)
    ∙ ap (λ (x : List ℕ). from_text given x lent) t.text-is)
    z

-- a sound card without a directory has all in the root
in-root : (c : Card) (area : List ℕ) → SoundCard old c area → InRoot c
in-root c area ok =
    let g = sound-good c area ok.is-sound in
    let fd = filed c.directory g.directory in
    let z : c.directory.number ≡ 0 = eqb-true _ _ ok.of-form in
    record {
      no-folder = z;
      root-current = omega (arith, g.folder);
      each-root = λ i h. omega (arith, home-low c.directory fd i h);
    }

pub old-in-root : OldInRoot
old-in-root s lent z = read_by (λ (x : Got). InRoot x.answer.card) old s lent (λ a. in-root (card_in old s) (area_in old s) (text_of old s a).card-is) z
