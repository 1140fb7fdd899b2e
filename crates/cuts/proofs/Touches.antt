-- Credentials after a cut, by the number of stores.
use Prim.Native.Nat.{ℕ, zero, suc, ◌≤◌, ◌<◌}
use mathlib.Core.Bool.{Bool, true, false, cond, ◌&&◌}
use mathlib.Core.List.{List, [], ◌∷◌, ◌++◌}
use mathlib.Core.Logic.{by_cases, inl, inr}
use mathlib.Core.Path.{◌≡◌, refl, sym, ap, subst, ◌∙◌}
use native.Mathlib.Decide.{dec_le}
use native.Mathlib.Omega.{arith}
use lib.Dec.{leb}
use lib.ListN.{length, take, length-append, length-take, length-replicate}
use lib.Seq.{take-append-le, take_all}
use borrow.Author.Tests.{le-leb, lt-leb, ne_eqb}
use Rattle.files.specs.Words.{is_zero}
use Rattle.files.specs.Create.{area_size}
use Rattle.files.specs.Sound.{sound_directory}
use Rattle.files.proofs.Checks.{both, split}
use Rattle.rules.specs.declared.Card.{Card}
use Rattle.rules.specs.Words.{same, filled}
use Rattle.rules.specs.Tries.{restored, lowered}
use Rattle.rules.specs.State.{Which, number_of, login, logins, with_journal, no_journal, with_login, with_value}
use Rattle.rules.specs.Pins.{compared_at}
use Rattle.rules.specs.Sound.{is_key, sound}
use Rattle.rules.specs.Effect.{Touch, nothing, presents, changes, reloads, challenges}
use Rattle.rules.specs.Calls.{cleared}
use Rattle.rules.proofs.Good.{Good, sound-good, filled-length, pin-short}
use Rattle.rules.proofs.Equal.{same-equal}
use Rattle.demands.proofs.Rows.{FairTouch}
use Rattle.power.specs.Store.{Memory, memory, Store, journal_byte, put, puts, row}
use Rattle.power.specs.Journal.{credential, value_bytes, possible, journaled}
use Rattle.power.specs.Plan.{lowers, restores, present_stores, touch_stores}
use Rattle.power.specs.Recovery.{tidied}
use Rattle.power.proofs.Cuts.{puts-append, length-row}
use Rattle.power.proofs.Journal.{none-possible, journal-law}
use Rattle.power.proofs.Fits.{value-bytes, credential-fit}
use Rattle.power.proofs.Tidy.{tidied-sound}
use Rattle.cuts.specs.Ledger.{journal_bytes, change_stores}
use Rattle.cuts.specs.Cut.{AllowedTouch, presented_to, LoweredFirst, RestoredWhereEqual}
use Rattle.cuts.proofs.Heard.{present-put}
use Rattle.cuts.proofs.Whole.{empty-journal, value-sixteen, value-put, presented-is, value-left, value-whole, reload-put}

-- a cut leaves this card, once recovered, and the area
pub record Gives (x : Card) (area : List ℕ) (m : Memory) : Type 0 where
  pub card-is : tidied m.card ≡ cleared x
  pub area-is : m.area ≡ area
  pub may : possible m.card ≡ true

-- that card, by the number of stores: the first lowers the tries, the second restores them; a new PIN is whole from the store on that comes after
-- the 17 bytes in the journal, and a change has 53 stores in all, after which a reload restores the tries
abbrev pub cut_touch : Card → Touch → ℕ → Card
cut_touch c nothing n = c
cut_touch c (presents w value given) n =
    cond (is_zero n) c
    (cond (leb 2 n && same value given) (with_login w c (restored (login w c).tries) true) (with_login w c (lowered (login w c).tries) false))
cut_touch c (changes w d) n = cond (leb n journal_bytes) c (with_value w c d)
cut_touch c (reloads w d) n =
    cond (leb n journal_bytes) c
    (cond (leb n change_stores) (with_value w c d) (with_login w (with_value w c d) (restored (login w c).tries) false))
cut_touch c (challenges k) n = c

-- how many stores there are in a change
change-length : (n : ℕ) (d : List ℕ) → length d ≤ 16 → length (journaled (credential n) (value_bytes d)) ≡ change_stores
change-length n d short =
    let e : length (filled d) ≡ 16 = filled-length d short in
    simp (length-append, length-row, length-take, length-replicate) (omega (arith, e))

module _ (c : Card) (area : List ℕ) (h : sound c area ≡ true) (size_is : length area ≡ area_size) where
  abbrev g : Good c
  g = sound-good c area h

  -- a card with the same files and an empty journal
  tidy : (x : Card) → x.journal ≡ c.journal → x.directory ≡ c.directory → tidied x ≡ cleared x
  tidy x e q = tidied-sound x (e ∙ g.journal) (ap sound_directory q ∙ g.directory)

  unchanged : Gives c area (memory c area)
  unchanged = record { card-is = tidy c refl refl; area-is = refl; may = none-possible c g.journal }

  module _ (w : Which) where
    abbrev second : Store
    second = restores w c

    -- the card that a comparison leaves
    abbrev compared : Bool → Card
    compared agrees = cond agrees (with_login w c (restored (login w c).tries) true) (with_login w c (lowered (login w c).tries) false)

    presented-gives : (agrees : Bool) → Gives (compared agrees) area (puts (present_stores c w agrees) (memory c area))
    unfolding compared_at
    presented-gives agrees =
        rw (present-put c area w agrees)
        (record { card-is = tidy (presented_to c w agrees) refl refl ∙ presented-is c area h size_is w agrees ∙ go agrees; area-is = refl; may = none-possible (presented_to c w agrees) g.journal })
      where
        go : (b : Bool) → cleared (compared_at (number_of w) c b).card ≡ cleared (compared b)
        go true = refl
        go false = refl

    present-cut : (agrees : Bool) (n : ℕ)
        → Gives (cond (is_zero n) c (cond (leb 2 n && agrees) (with_login w c (restored (login w c).tries) true) (with_login w c (lowered (login w c).tries) false))) area
        (puts (take n (present_stores c w agrees)) (memory c area))
    present-cut agrees zero = unchanged
    present-cut agrees (suc zero) = presented-gives false
    present-cut true (suc (suc zero)) = presented-gives true
    present-cut true (suc (suc (suc n))) = rw (ne_eqb (suc (suc (suc n))) 0 (λ e. omega arith), le-leb 2 (suc (suc (suc n))) (omega arith)) (presented-gives true)
    present-cut false (suc (suc n)) = rw (ne_eqb (suc (suc n)) 0 (λ e. omega arith), le-leb 2 (suc (suc n)) (omega arith)) (presented-gives false)

    module _ (d : List ℕ) (pin : is_key (number_of w) ≡ false) (short : length d ≤ 16) where
      abbrev stores : List Store
      stores = journaled (credential (number_of w)) (value_bytes d)

      abbrev valued : Card
      valued = with_value w c d

      old-or-new : (n : ℕ)
          → (n ≤ 17 → Gives c area (puts (take n (journaled (credential (number_of w)) (value_bytes d))) (memory c area)))
          × (17 < n → Gives (with_value w c d) area (puts (take n (journaled (credential (number_of w)) (value_bytes d))) (memory c area)))
      old-or-new n =
          let e : length (row journal_byte 0 (value_bytes d)) ≡ 17 = length-row journal_byte 0 (value_bytes d) ∙ value-bytes d short in
          let law = journal-law c area (credential (number_of w)) (value_bytes d) (credential-fit d short c area w pin (value-sixteen c g w)) n in
          let back = empty-journal c g.journal in (
            λ l. let o = law.0 (omega (arith, e)) in
                subst (λ (x : Card). Gives c area (puts (take n stores) (memory x area))) (sym back)
                (record { card-is = o.card-is ∙ ap tidied (sym back) ∙ tidy c refl refl; area-is = o.area-is; may = o.may }),
            λ l. let o = law.1 (omega (arith, e)) in
                subst (λ (x : Card). Gives valued area (puts (take n stores) (memory x area))) (sym back) (record {
                  card-is = o.card-is ∙ ap (λ (x : Card). tidied (with_journal x no_journal)) (value-put c w d short) ∙ ap tidied (value-left c area h size_is w d pin short) ∙ tidy valued refl refl;
                  area-is = o.area-is;
                  may = o.may;
                }),
          )

      change-cut : (n : ℕ) → Gives (cond (leb n journal_bytes) c (with_value w c d)) area (puts (take n (journaled (credential (number_of w)) (value_bytes d))) (memory c area))
      change-cut n =
          by_cases (dec_le n 17) (λ l. rw (le-leb n 17 l) ((old-or-new n).0 l)) (λ l. rw (lt-leb n 17 (omega arith)) ((old-or-new n).1 (omega arith)))

      -- with the tries restored after it
      reload-cut : (n : ℕ)
          → Gives
          (cond (leb n journal_bytes) c (cond (leb n change_stores) (with_value w c d) (with_login w (with_value w c d) (restored (login w c).tries) false))) area
          (puts (take n (journaled (credential (number_of w)) (value_bytes d) ++ (second ∷ []))) (memory c area))
      reload-cut n =
          let long = change-length (number_of w) d short in
          by_cases (dec_le n 53)
          (λ l. rw (le-leb n 53 l, take-append-le n stores (second ∷ []) (omega (arith, long))) (change-cut n))
          (λ l. let all : length (stores ++ (second ∷ [])) ≤ n = omega (arith, long, length-append stores (second ∷ [])) in
          rw (
            lt-leb n 53 (omega arith),
            lt-leb n 17 (omega arith),
            take_all n (stores ++ (second ∷ [])) all,
            puts-append stores (second ∷ []) (memory c area),
            value-whole c area h size_is w d pin short,
          )
          (record { card-is = tidy (put second (memory valued area)).card refl refl ∙ reload-put c area h size_is w d pin short; area-is = refl; may = none-possible (put second (memory valued area)).card g.journal }))

  pub touch-cut : (t : Touch) → FairTouch (logins c) t → (n : ℕ) → Gives (cut_touch c t n) area (puts (take n (touch_stores c t)) (memory c area))
  touch-cut nothing q zero = unchanged
  touch-cut nothing q (suc n) = unchanged
  touch-cut (presents w value given) q n = present-cut w (same value given) n
  touch-cut (changes w d) q n = change-cut w d q.0 (pin-short d q.2) n
  touch-cut (reloads w d) q n = reload-cut w d (ap (λ (v : Which). is_key (number_of v)) q.0) (pin-short d q.2) n
  touch-cut (challenges k) q zero = unchanged
  touch-cut (challenges k) q (suc n) = unchanged

-- which is one of those that are allowed
pub touch-allowed : (c : Card) (t : Touch) (n : ℕ) (x : Card) → x ≡ cleared (cut_touch c t n) → AllowedTouch c t x
touch-allowed c nothing n x = λ e. e
touch-allowed c (presents w value given) n x =
    split (λ (y : Card). x ≡ cleared y → AllowedTouch c (presents w value given) x) (is_zero n) (λ z e. inl e)
    (λ z. split (λ (y : Card). x ≡ cleared y → AllowedTouch c (presents w value given) x) (leb 2 n && same value given)
    (λ a e. inr (inr (same-equal value given (both (leb 2 n) (same value given) a).1, e))) (λ a e. inr (inl e)))
touch-allowed c (changes w d) n x =
    split (λ (y : Card). x ≡ cleared y → AllowedTouch c (changes w d) x) (leb n journal_bytes) (λ a e. inl e) (λ a e. inr e)
touch-allowed c (reloads w d) n x =
    split (λ (y : Card). x ≡ cleared y → AllowedTouch c (reloads w d) x) (leb n journal_bytes) (λ a e. inl e)
    (λ a. split (λ (y : Card). x ≡ cleared y → AllowedTouch c (reloads w d) x) (leb n change_stores) (λ b e. inr (inl e)) (λ b e. inr (inr e)))
touch-allowed c (challenges k) n x = λ e. e

pub lowered-first : LoweredFirst
lowered-first c w value given = refl

pub restored-where-equal : RestoredWhereEqual
restored-where-equal c w value given n = go (same value given) refl
  where
    go : (b : Bool) → same value given ≡ b → present_stores c w b ≡ lowers w c ∷ []
    go true e = absurd (n (same-equal value given e))
    go false e = refl
