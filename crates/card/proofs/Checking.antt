-- Checks in a row, as results.
-- Assumes nothing.
use Rattle.std.proofs.Common.{◌≡◌, ◌≢◌, ℕ, ◌+◌, Bool, true, false, eqb, refl, Ok, Err, sym, ap, ◌∙◌, arith, not, ltb}
use borrow.Author.Tests.{ne_eqb, ltb-true}
use Rattle.rules.specs.Tries.{count_sw}
use Rattle.std.specs.Prelude.{Result, cond}
use Rattle.std.specs.Result.{IsErr, IsErrAnd, is_ok}
use Rattle.std.proofs.lemmas.Bool.{eqb-true}
use Rattle.card.specs.declared.Refused.{Refused}
use Rattle.rules.specs.Words.{unless, or_else}
use Rattle.card.specs.Checks.{checked}

abbrev verdict : Bool → ℕ → Result Unit Refused
verdict t sw = cond t (Ok tt) (Err (record { sw = sw }))

past : (t : Bool) (a b : ℕ) {u : Unit} → verdict t a ≡ Ok u → verdict (eqb (cond t b a) 0x9000) (cond t b a) ≡ verdict (eqb b 0x9000) b
past true a b h = refl
past false a b h = cc

at : (t : Bool) (a b : ℕ) {e : Refused} → eqb a 0x9000 ≡ t → verdict t a ≡ Err e → verdict (eqb (cond t b a) 0x9000) (cond t b a) ≡ Err e
at true a b q h = cc
at false a b q h = rw q h

-- behind a check that passes the others speak
pub goes : (a b : ℕ) {u : Unit} → checked a ≡ Ok u → checked (or_else a b) ≡ checked b
unfolding checked or_else
goes a b h = past (eqb a 0x9000) a b h

-- one that refuses ends them
pub stops : (a b : ℕ) {e : Refused} → checked a ≡ Err e → checked (or_else a b) ≡ Err e
unfolding checked or_else
stops a b h = at (eqb a 0x9000) a b refl h

-- what `?` hands on
pub raised : (r : Result Unit Refused) {e : Refused} → IsErr r → IsErrAnd r (λ f. f ≡ e) → r ≡ Err e
raised (Ok u) h k = cc
raised (Err f) h k = ap Err k

all-pass : (t : Bool) (a : ℕ) {u : Unit} → eqb a 0x9000 ≡ t → verdict t a ≡ Ok u → a ≡ 0x9000
all-pass true a q h = eqb-true a 0x9000 q
all-pass false a q h = cc

by-word : (t : Bool) (a : ℕ) {e : Refused} → verdict t a ≡ Err e → e.sw ≡ a
by-word true a h = cc
by-word false a h = cc

no-pass : (t : Bool) (a : ℕ) {e : Refused} → eqb a 0x9000 ≡ t → verdict t a ≡ Err e → a ≢ 0x9000
no-pass true a q h p = cc
no-pass false a q h p = cc (ap (λ n. eqb n 0x9000) p)

-- what the checks say where they pass
pub passed : (a : ℕ) {u : Unit} → checked a ≡ Ok u → a ≡ 0x9000
unfolding checked
passed a h = all-pass (eqb a 0x9000) a refl h

-- and where one refuses
pub refused : (a : ℕ) {e : Refused} → checked a ≡ Err e → e.sw ≡ a
unfolding checked
refused a h = by-word (eqb a 0x9000) a h

pub refuses : (a : ℕ) {e : Refused} → checked a ≡ Err e → e.sw ≢ 0x9000
unfolding checked
refuses a h p = no-pass (eqb a 0x9000) a refl h (sym (by-word (eqb a 0x9000) a h) ∙ p)

-- VERIFY without data: no try left, or so many
pub none-left : (z : Bool) (n : ℕ) {e : Refused} → checked (unless (not z) 0x6983) ≡ Err e → checked (cond z 0x6983 n) ≡ Err e
unfolding checked
none-left true n h = h
none-left false n h = cc

pub some-left : (z : Bool) (n : ℕ) {u : Unit} → n ≢ 0x9000 → checked (unless (not z) 0x6983) ≡ Ok u → Err (record { sw = n }) ≡ checked (cond z 0x6983 n)
unfolding checked
some-left true n m h = cc
some-left false n m h = rw (ne_eqb _ _ m)

counted : (b : Bool) (left : ℕ) → ltb left 15 ≡ b → cond b (0x63C0 + left) 0x63CF ≢ 0x9000
counted true left h p = let few = ltb-true left 15 h in absurd (omega (arith, few, p))
counted false left h p = absurd (omega (arith, p))

pub is-refusal : (left : ℕ) → count_sw left ≢ 0x9000
is-refusal left = counted (ltb left 15) left refl

-- whether they all pass
ok-by : (t : Bool) (a : ℕ) → is_ok (verdict t a) ≡ t
ok-by true a = refl
ok-by false a = refl

pub all-good : (a : ℕ) {r : Result Unit Refused} → r ≡ checked a → is_ok r ≡ eqb a 0x9000
unfolding checked
all-good a h = ap is_ok h ∙ ok-by (eqb a 0x9000) a
