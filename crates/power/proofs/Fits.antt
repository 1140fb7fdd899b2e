-- The two targets fit the journal: a credential's value with its length, and what an entry knows of its records.
use Prim.Native.Nat.{ℕ, ◌+◌, ◌-◌, ◌≤◌, ◌<◌}
use mathlib.Core.Bool.{true, false}
use mathlib.Core.List.{List, [], ◌∷◌, ◌++◌, append-nil}
use mathlib.Core.Path.{◌≡◌, refl, sym, ap, ◌∙◌}
use native.Mathlib.Omega.{arith}
use native.Mathlib.Nat.{le_of_eq}
use lib.Dec.{eqb, leb, ltb}
use lib.ListN.{length, take, drop, get_or, length-append, length-replicate}
use lib.Seq.{sets, sets-eq, take_at, get_or_at, drop-length}
use borrow.Author.Tests.{le-leb, lt-ltb, ne_eqb}
use Rattle.files.specs.declared.File.{File}
use Rattle.files.specs.Words.{is_zero}
use Rattle.files.specs.Part.{zeros}
use Rattle.files.specs.State.{with_files}
use Rattle.rules.specs.declared.Credential.{Credential}
use Rattle.rules.specs.declared.Card.{Card}
use Rattle.rules.specs.Words.{byte, all_of, filled}
use Rattle.rules.specs.Sound.{is_key}
use Rattle.rules.specs.State.{Which, device, admin, user, transport, number_of, no_credential, with_credentials, with_directory, with_journal, journal_size, journal_of, with_bytes, with_length}
use Rattle.rules.specs.State as state
use Rattle.files.proofs.Checks.{clash}
use Rattle.rules.proofs.Good.{filled-length}
use Rattle.power.specs.Store.{memory, value_byte, value_length, alter, with_byte, put, puts, row}
use Rattle.power.specs.Journal.{credential, entry, code, decode, value_bytes, known_bytes, with_value_of, with_known, redo, left_by_cut, target_stores}
use Rattle.power.proofs.Alter.{alter-twice, alter-as}
use Rattle.power.proofs.Cuts.{puts-append}
use Rattle.power.proofs.Rows.{row-value}
use Rattle.power.proofs.Journal.{Fit}

-- all bytes of a list stored over
pub sets-all : (xs ys : List ℕ) → length ys ≡ length xs → sets xs 0 ys ≡ ys
sets-all xs ys e =
    let z : 0 + length ys ≡ length xs = omega arith in
    sets-eq ys xs 0 (le_of_eq z) ∙ ap (λ n. ys ++ drop n xs) z ∙ ap (λ (l : List ℕ). ys ++ l) (drop-length xs) ∙ append-nil ys

-- the stores of a target make what recovery makes from the same bytes
pub credential-made : (c : Card) (area : List ℕ) (n : ℕ) (b : List ℕ) → length (take 16 b) ≡ length (state.credential c n).value
    → puts (target_stores (credential n) b) (memory c area) ≡ memory (redo (credential n) b c) area
credential-made c area n b long =
    puts-append (row (value_byte n) 0 (take 16 b)) (value_length n (get_or b 16 0) ∷ []) (memory c area)
    ∙ ap (put (value_length n (get_or b 16 0))) (row-value n 0 (take 16 b) (memory c area))
    ∙ ap (λ (l : List Credential). memory (with_credentials c l) area)
    (alter-twice (with_length (get_or b 16 0)) (λ x. with_bytes (sets x.value 0 (take 16 b)) x) over (λ x. refl) c.credentials n
    ∙ alter-as over (with_value_of b) c.credentials n no_credential
    (ap (λ (v : List ℕ). record { value = v; len = get_or b 16 0; tries = (state.credential c n).tries }) (sets-all (state.credential c n).value (take 16 b) long)))
  where
    over : Credential → Credential
    over x = record { value = sets x.value 0 (take 16 b); len = get_or b 16 0; tries = x.tries }

pub entry-made : (c : Card) (area : List ℕ) (place : ℕ) (b : List ℕ) → puts (target_stores (entry place) b) (memory c area) ≡ memory (redo (entry place) b c) area
entry-made c area place b =
    ap (λ (l : List File). memory (with_directory c (with_files c.directory l)) area)
    (ap (λ (l : List File). alter (with_byte 10 (byte b 3)) (alter (with_byte 9 (byte b 2)) l place) place)
    (alter-twice (with_byte 8 (byte b 1)) (with_byte 7 (byte b 0)) two (λ f. refl) c.directory.files place)
    ∙ ap (λ (l : List File). alter (with_byte 10 (byte b 3)) l place) (alter-twice (with_byte 9 (byte b 2)) two three (λ f. refl) c.directory.files place)
    ∙ alter-twice (with_byte 10 (byte b 3)) three (with_known b) (λ f. refl) c.directory.files place)
  where
    two : File → File
    two f = with_byte 8 (byte b 1) (with_byte 7 (byte b 0) f)

    three : File → File
    three f = with_byte 9 (byte b 2) (with_byte 8 (byte b 1) (with_byte 7 (byte b 0) f))

-- a PIN is a target, and a key is none
coded-pin : (w : Which) → is_key (number_of w) ≡ false → decode (code (credential (number_of w))) ≡ credential (number_of w)
coded-pin device e = clash true refl e
coded-pin admin e = refl
coded-pin user e = refl
coded-pin transport e = clash true refl e

pin-left : (w : Which) → is_key (number_of w) ≡ false → (b : List ℕ) (count : ℕ) → left_by_cut (journal_of (code (credential (number_of w))) b) count ≡ true
unfolding left_by_cut
pin-left device e b count = clash true refl e
pin-left admin e b count = refl
pin-left user e b count = refl
pin-left transport e b count = clash true refl e

module _ (d : List ℕ) (short : length d ≤ 16) where
  value_taken : take 16 (value_bytes d) ≡ filled d
  value_taken = take_at (filled d) (length d ∷ []) 16 (filled-length d short)

  pub length_taken : get_or (value_bytes d) 16 0 ≡ length d
  length_taken = get_or_at (filled d) (length d) [] 0 16 (filled-length d short)

  pub value-bytes : length (value_bytes d) ≡ 17
  value-bytes = let e = filled-length d short in simp length-append (omega (arith, e))

  -- value and length are the new ones
  pub value_made : (x : Credential) → with_value_of (value_bytes d) x ≡ record { value = filled d; len = length d; tries = x.tries }
  value_made x = rw (value_taken, length_taken)

  pub credential-fit : (c : Card) (area : List ℕ) (w : Which) → is_key (number_of w) ≡ false → length (state.credential c (number_of w)).value ≡ 16
      → Fit c area (credential (number_of w)) (value_bytes d)
  credential-fit c area w pin sixteen = record {
    coded = coded-pin w pin;
    may = pin-left w pin (sets (zeros journal_size) 0 b) c.directory.count;
    made = λ J. credential-made (with_journal c J) area n b (ap length value_taken ∙ filled-length d short ∙ sym sixteen);
    kept_in = λ x. ap (λ (l : List ℕ). redo (credential n) l x) kept;
    emptied-again =
        ap (λ (l : List ℕ). sets l 0 (zeros (length b))) kept
        ∙ sets-all b (zeros (length b)) (length-replicate (length b) 0)
        ∙ ap zeros (value-bytes);
  }
    where
      n : ℕ
      n = number_of w

      b : List ℕ
      b = value_bytes d

      kept : sets (zeros journal_size) 0 b ≡ b
      kept = sets-all (zeros journal_size) b value-bytes

coded-place : (place : ℕ) → place < 16 → decode (code (entry place)) ≡ entry place
coded-place place h =
    let a : eqb (place + 16) 2 ≡ false = ne_eqb (place + 16) 2 (λ e. omega arith) in
    let z : eqb (place + 16) 3 ≡ false = ne_eqb (place + 16) 3 (λ e. omega arith) in
    let b : leb 16 (place + 16) ≡ true = le-leb 16 (place + 16) (omega arith) in
    let e : ltb (place + 16) 32 ≡ true = lt-ltb (place + 16) 32 (omega arith) in
    let q : place + 16 - 16 ≡ place = omega arith in
    rw (a, z, b, e, q)

-- a file that is there, and has a record then
place-left : (place count : ℕ) (b : List ℕ) → place < count → all_of is_zero (take 4 b) ≡ false → left_by_cut (journal_of (code (entry place)) b) count ≡ true
unfolding left_by_cut
place-left place count b low some =
    let o : eqb (place + 16) 0 ≡ false = ne_eqb (place + 16) 0 (λ e. omega arith) in
    let a : eqb (place + 16) 2 ≡ false = ne_eqb (place + 16) 2 (λ e. omega arith) in
    let z : eqb (place + 16) 3 ≡ false = ne_eqb (place + 16) 3 (λ e. omega arith) in
    let m : leb 16 (place + 16) ≡ true = le-leb 16 (place + 16) (omega arith) in
    let e : ltb (place + 16) (16 + count) ≡ true = lt-ltb (place + 16) (16 + count) (omega arith) in
    rw (o, a, z, m, e, some)

pub entry-fit : (c : Card) (area : List ℕ) (place : ℕ) (g : File) → place < 16 → place < c.directory.count → all_of is_zero (known_bytes g) ≡ false
    → Fit c area (entry place) (known_bytes g)
entry-fit c area place g low there some = record {
  coded = coded-place place low;
  may = place-left place c.directory.count (sets (zeros journal_size) 0 (known_bytes g)) there some;
  made = λ J. entry-made (with_journal c J) area place (known_bytes g);
  kept_in = λ x. refl;
  emptied-again = refl;
}
