-- Laws of recovery for its code.
-- Assumes nothing.
use Prim.Native.Nat.{ℕ, zero, suc, ◌+◌, ◌-◌, ◌≤◌, ◌<◌}
use mathlib.Core.Bool.{Bool, true, false, ◌||◌}
use mathlib.Core.List.{List, [], ◌∷◌, ◌++◌, append-nil}
use mathlib.Core.Path.{◌≡◌, refl, sym, ap, ◌∙◌}
use native.Mathlib.Numerals.{add-one}
use native.Mathlib.Omega.{arith}
use lib.Dec.{eqb, leb, ltb}
use lib.ListN.{length, take, drop, get_or, set, length-take}
use borrow.Author.Tests.{leb-true, ltb-true, eqb-true}
use Rattle.files.specs.declared.File.{File}
use Rattle.files.specs.Part.{over, zeros}
use Rattle.files.specs.State.{blank_file, with_files}
use Rattle.files.proofs.Checks.{clash, both}
use Rattle.rules.specs.declared.Card.{Card}
use Rattle.rules.specs.Words.{filled}
use Rattle.rules.specs.State.{no_credential, with_credentials, with_directory}
use Rattle.power.specs.Journal.{credential, entry, is_pin, is_entry, with_value_of, with_known, redo}
use Rattle.power.specs.Recovery.{trim, redone}
use Rattle.power.proofs.Alter.{alter-set}

-- ---- what the journal is about
filled-whole : (d : List ℕ) → length d ≡ 16 → filled d ≡ d
unfolding over
filled-whole d e = ap (λ n. d ++ drop n (zeros 16)) e ∙ append-nil d

pub value-held : (b : List ℕ) → length b ≡ 17 → filled (take 16 b) ≡ take 16 b
value-held b l = filled-whole (take 16 b) (omega (arith, length-take 16 b))

module _ (c : Card) (b : List ℕ) where
  pub value-redone : (n : ℕ) → with_credentials c (set c.credentials n (with_value_of b (get_or c.credentials n no_credential))) ≡ redo (credential n) b c
  value-redone n = ap (with_credentials c) (sym (alter-set (with_value_of b) c.credentials n no_credential))

  pub entry-redone : (place : ℕ)
      → with_directory c (with_files c.directory (set c.directory.files place (with_known b (get_or c.directory.files place blank_file)))) ≡ redo (entry place) b c
  entry-redone place = ap (λ (l : List File). with_directory c (with_files c.directory l)) (sym (alter-set (with_known b) c.directory.files place blank_file))

module _ (c : Card) where
  pub redone-pin : is_pin c.journal.what ≡ true → redone c ≡ redo (credential (c.journal.what - 1)) c.journal.bytes c
  redone-pin e = rw e

  pub redone-entry : is_pin c.journal.what ≡ false → is_entry c.journal.what ≡ true → redone c ≡ redo (entry (c.journal.what - 16)) c.journal.bytes c
  redone-entry e q = rw (e, q)

  pub redone-none : is_pin c.journal.what ≡ false → is_entry c.journal.what ≡ false → redone c ≡ c
  redone-none e q = rw (e, q)

pin-by : (what : ℕ) (a b : Bool) → eqb what 2 ≡ a → eqb what 3 ≡ b → (a || b) ≡ true → (1 ≤ what) × (what - 1 < 4)
pin-by what true b p q e = let r : what ≡ 2 = eqb-true what 2 p in (omega arith, omega arith)
pin-by what false true p q e = let r : what ≡ 3 = eqb-true what 3 q in (omega arith, omega arith)
pin-by what false false p q e = clash false e refl

pub pin-low : (what : ℕ) → is_pin what ≡ true → (1 ≤ what) × (what - 1 < 4)
pin-low what = pin-by what (eqb what 2) (eqb what 3) refl refl

pub entry-low : (what : ℕ) → is_entry what ≡ true → (16 ≤ what) × (what - 16 < 16)
entry-low what e =
    let b = both (leb 16 what) (ltb what 32) e in
    let p : 16 ≤ what = leb-true 16 what b.0 in
    let q : what < 32 = ltb-true what 32 b.1 in
    (p, omega arith)

-- ---- places past the last
module _ {A : Type 0} (blank : A) where
  -- one more made blank is one less to do
  trim-suc : (xs : List A) (i : ℕ) → trim blank (set xs i blank) (suc i) ≡ trim blank xs i
  trim-suc [] i = refl
  trim-suc (x ∷ xs) zero = refl
  trim-suc (x ∷ xs) (suc i) = ap (λ (ys : List A). x ∷ ys) (trim-suc xs i)

  pub trim-more : (xs : List A) (i : ℕ) → trim blank (set xs i blank) (i + 1) ≡ trim blank xs i
  trim-more xs i = ap (trim blank (set xs i blank)) (add-one i) ∙ trim-suc xs i

  trim-length : (xs : List A) (i : ℕ) → length (trim blank xs i) ≡ length xs
  trim-length [] i = refl
  trim-length (x ∷ xs) zero = ap suc (trim-length xs zero)
  trim-length (x ∷ xs) (suc i) = ap suc (trim-length xs i)

  trim-all : (xs : List A) (i : ℕ) → length xs ≤ i → trim blank xs i ≡ xs
  trim-all [] i l = refl
  trim-all (x ∷ xs) zero l = absurd (omega arith)
  trim-all (x ∷ xs) (suc i) l = ap (λ (ys : List A). x ∷ ys) (trim-all xs i (omega arith))

  pub trim-end : (xs ys : List A) (i n : ℕ) → length ys ≤ i → trim blank xs i ≡ trim blank ys n → xs ≡ trim blank ys n
  trim-end xs ys i n l e = sym (trim-all xs i (omega (arith, sym (trim-length xs i) ∙ ap length e ∙ trim-length ys n))) ∙ e
