-- A run of stores as it is laid down, one after another.
use Prim.Native.Nat.{ℕ, zero, suc, ◌+◌, ◌*◌, ◌/◌, ◌≤◌, ◌<◌, min}
use mathlib.Core.Bool.{Bool, cond, true, false, true≢false}
use mathlib.Core.List.{List, [], ◌∷◌}
use mathlib.Core.Path.{◌≡◌, refl, sym, ap, ◌∙◌}
use native.Mathlib.Numerals.{add-one}
use native.Mathlib.Nat.{div-add-mod'}
use native.Mathlib.Omega.{arith}
use lib.Dec.{eqb, leb}
use lib.ListN.{length}
use Rattle.files.specs.Part.{splice, stored}
use Rattle.files.proofs.Parts.{splice-length}
use borrow.Author.Tests.{le-leb, ne_eqb}
use Rattle.rules.specs.declared.Card.{Card}
use Rattle.power.specs.declared.Numbered.{Numbered}
use Rattle.power.specs.Store.{Store}
use Rattle.power.specs.Plan.{stores_of}
use Rattle.power.specs.Address.{store_at}
use Rattle.stores.specs.Handing.{refusal}
use Rattle.stores.specs.Runs.{three_bytes, laid, most, Laid, stores, Hands}

numbered : (xs : List Store) (k : ℕ) → (store_at xs k).there ≡ true → k < length xs
unfolding store_at
numbered [] k e = absurd (true≢false (sym e))
numbered (s ∷ xs) zero e = omega arith
numbered (s ∷ xs) (suc k) e = omega (arith, numbered xs k e)

past_all : (xs : List Store) (k : ℕ) → (store_at xs k).there ≡ false → length xs ≤ k
unfolding store_at
past_all [] k e = omega arith
past_all (s ∷ xs) zero e = absurd (true≢false e)
past_all (s ∷ xs) (suc k) e = omega (arith, past_all xs k e)

-- what was found under a number
module _ (xs : List Store) (k : ℕ) (s : Numbered) (e : s ≡ store_at xs k) where
  pub there-is : s.there ≡ true → k < length xs
  there-is t = numbered xs k (ap (λ (z : Numbered). z.there) (sym e) ∙ t)

  pub not_there : s.there ≡ false → length xs ≤ k
  not_there t = past_all xs k (ap (λ (z : Numbered). z.there) (sym e) ∙ t)

-- as many as fit
pub most-fit : (first room : ℕ) → 3 * most first room ≤ room
most-fit first room = go (eqb first 0) where
  go : (b : Bool) → 3 * cond b (min 1 (room / 3)) (room / 3) ≤ room
  go true = omega (arith, div-add-mod' room 3)
  go false = omega (arith, div-add-mod' room 3)

-- one more of them
pub laid_one : (xs : List Store) (first k : ℕ) (out now : List ℕ) (s : Numbered) (three last : List ℕ) → s ≡ store_at xs (first + k) → three ≡ three_bytes s → now ≡ laid xs first k out → 3 * k + 3 ≤ length now
    → last ≡ stored (leb (3 * k + length three) (length now)) now (3 * k) three → (length last ≡ length now) × (last ≡ laid xs first (k + 1) out)
unfolding stored laid
laid_one xs first k out now s three last e t is room l =
    let r : leb (3 * k + 3) (length now) ≡ true = le-leb _ _ room in
    let m : last ≡ splice now (3 * k) (three_bytes s) = l ∙ rw (t, r) refl in
    (ap length m ∙ splice-length now (3 * k) (three_bytes s) room, m ∙ rw (e, is, add-one) refl)

-- the call
module _ (c : Card) (area cmd random : List ℕ) (first : ℕ) (out : List ℕ) {o : ℕ} (e : o ≡ refusal c area random) where
  pub refused-run : (o ≡ 0 → ⊥) → Hands (stores c area cmd random first out) (record { outcome = o; n = 0 }) out
  unfolding stores
  refused-run z = record { counted_is = rw (sym e, ne_eqb o 0 z) refl; out-is = rw (sym e, ne_eqb o 0 z) refl }

  pub served-run : o ≡ 0 → {m n : ℕ} {last : List ℕ} → m ≡ most first (length out) → Laid (stores_of c area cmd) first m out n last → Hands (stores c area cmd random first out) (record { outcome = 0; n = n }) last
  unfolding stores
  served-run z is l = record {
    counted_is = rw (sym e, z, sym is) (ap (λ (k : ℕ). record { outcome = 0; n = k }) l.count-is);
    out-is = rw (sym e, z, sym is) (l.out-is ∙ ap (λ (k : ℕ). laid (stores_of c area cmd) first k out) l.count-is);
  }
