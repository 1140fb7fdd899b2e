-- A good line is one that is written so.
-- Assumes nothing.
use Prim.Native.Nat.{ℕ, zero, suc, ◌+◌, ◌*◌, ◌/◌, ◌%◌, ◌≤◌, ◌<◌}
use mathlib.Core.Bool.{Bool, true, false, ◌&&◌}
use mathlib.Core.List.{List, [], ◌∷◌, ◌++◌}
use mathlib.Core.Path.{◌≡◌, refl, sym, ap, ◌∙◌}
use native.Mathlib.Omega.{arith}
use lib.Dec.{ltb}
use lib.ListN.{length, get_or}
use borrow.Author.Tests.{eqb-true, eq-eqb, ne_eqb, le-leb, leb-true, lt-ltb, ltb-true}
use Rattle.files.specs.Words.{every}
use Rattle.files.proofs.Checks.{both}
use Rattle.digits.specs.Digits.{tab, value, hex_digit, hex_of, hex_pair}
use Rattle.digits.proofs.Back.{digit-back, pair-again}
use Rattle.digits.proofs.Written.{hex_of-length}
use Rattle.sums.specs.declared.Alarm.{Alarm}
use Rattle.sums.specs.Alarm.{good, alarm_of}
use Rattle.alarms.specs.Line.{name_of, digits_of, all_hex, hex_from, alarm_in, good_line}
use Rattle.alarms.specs.Says.{record_in, spelled, SpelledRead, ReadSpelled}
use Rattle.alarms.proofs.Scanned.{by-eq}

-- a name without tab stands before the first one
name-before : (name rest : List ℕ) → ((i : ℕ) → i < length name → get_or name i 0 ≡ tab → ⊥) → name_of (name ++ (tab ∷ rest)) ≡ name
unfolding name_of
name-before [] rest h = refl
name-before (b ∷ bs) rest h = rw (ne_eqb b 9 (h 0 (omega arith))) (ap (λ (l : List ℕ). b ∷ l) (name-before bs rest (λ i l. h (suc i) (omega arith))))

digits-behind : (name rest : List ℕ) → ((i : ℕ) → i < length name → get_or name i 0 ≡ tab → ⊥) → digits_of (name ++ (tab ∷ rest)) ≡ rest
unfolding digits_of
digits-behind [] rest h = refl
digits-behind (b ∷ bs) rest h = rw (ne_eqb b 9 (h 0 (omega arith))) (digits-behind bs rest (λ i l. h (suc i) (omega arith)))

-- bytes written in hex are read back
abbrev bytes_from : ℕ → List ℕ → ℕ
bytes_from n [] = n
bytes_from n (b ∷ bs) = bytes_from (n * 256 + b) bs

byte-read : (n b : ℕ) (ds : List ℕ) → b < 256 → hex_from n (hex_digit (b / 16) ∷ hex_digit (b % 16) ∷ ds) ≡ hex_from (n * 256 + b) ds
unfolding hex_from
byte-read n b ds h =
    let high : b / 16 < 16 = omega arith in
    let low : b % 16 < 16 = omega arith in
    let e : (n * 16 + b / 16) * 16 + b % 16 ≡ n * 256 + b = omega arith in
    rw (digit-back (b / 16) high, digit-back (b % 16) low, e)

none_read : (n : ℕ) → hex_from n [] ≡ n
unfolding hex_from
none_read n = refl

bytes_read : (n : ℕ) (bs : List ℕ) → ((i : ℕ) → get_or bs i 0 < 256) → hex_from n (hex_of bs) ≡ bytes_from n bs
unfolding hex_of
bytes_read n [] h = none_read n
bytes_read n (b ∷ bs) h = byte-read n b (hex_of bs) (h 0) ∙ bytes_read (n * 256 + b) bs (λ i. h (suc i))

bytes-hex : (bs : List ℕ) → ((i : ℕ) → get_or bs i 0 < 256) → all_hex (hex_of bs) ≡ true
unfolding hex_of all_hex
bytes-hex [] h = refl
bytes-hex (b ∷ bs) h =
    let l : b < 256 = h 0 in
    let high : b / 16 < 16 = omega arith in
    let low : b % 16 < 16 = omega arith in
    rw (digit-back (b / 16) high, digit-back (b % 16) low, lt-ltb (b / 16) 16 high, lt-ltb (b % 16) 16 low) (bytes-hex bs (λ i. h (suc i)))

alarm-same : {n n' l l' k k' m m' : ℕ} → n ≡ n' → l ≡ l' → k ≡ k' → m ≡ m' → ◌≡◌ {A = Alarm} record { number = n; line = l; kind = k; minutes = m } record { number = n'; line = l'; kind = k'; minutes = m' }
alarm-same e f g h i = record { number = e i; line = f i; kind = g i; minutes = h i }

alarm-read : (a b c d e f g h : ℕ) → a < 256 → b < 256 → c < 256 → d < 256 → e < 256 → f < 256 → g < 256 → h < 256
    → alarm_of (bytes_from 0 (a ∷ b ∷ c ∷ d ∷ e ∷ f ∷ g ∷ h ∷ [])) ≡ record_in (a ∷ b ∷ c ∷ d ∷ e ∷ f ∷ g ∷ h ∷ [])
unfolding alarm_of
alarm-read a b c d e f g h ha hb hc hd he hf hg hh = alarm-same (omega arith) (omega arith) (omega arith) (omega arith)

eight-read : (bytes : List ℕ) → length bytes ≡ 8 → ((i : ℕ) → get_or bytes i 0 < 256) → alarm_of (bytes_from 0 bytes) ≡ record_in bytes
eight-read (a ∷ b ∷ c ∷ d ∷ e ∷ f ∷ g ∷ h ∷ []) l k = alarm-read a b c d e f g h (k 0) (k 1) (k 2) (k 3) (k 4) (k 5) (k 6) (k 7)
eight-read [] l k = absurd (omega arith)
eight-read (a ∷ []) l k = absurd (omega arith)
eight-read (a ∷ b ∷ []) l k = absurd (omega arith)
eight-read (a ∷ b ∷ c ∷ []) l k = absurd (omega arith)
eight-read (a ∷ b ∷ c ∷ d ∷ []) l k = absurd (omega arith)
eight-read (a ∷ b ∷ c ∷ d ∷ e ∷ []) l k = absurd (omega arith)
eight-read (a ∷ b ∷ c ∷ d ∷ e ∷ f ∷ []) l k = absurd (omega arith)
eight-read (a ∷ b ∷ c ∷ d ∷ e ∷ f ∷ g ∷ []) l k = absurd (omega arith)
eight-read (a ∷ b ∷ c ∷ d ∷ e ∷ f ∷ g ∷ h ∷ i ∷ more) l k = absurd (omega arith)

pub spelled-read : SpelledRead
unfolding alarm_in good_line
spelled-read name bytes n b =
    let e : digits_of (spelled name bytes) ≡ hex_of bytes = digits-behind name (hex_of bytes) n.tab-free in
    let f : name_of (spelled name bytes) ≡ name = name-before name (hex_of bytes) n.tab-free in
    let a : alarm_of (hex_from 0 (hex_of bytes)) ≡ record_in bytes = ap alarm_of (bytes_read 0 bytes b.each-byte) ∙ eight-read bytes b.eight b.each-byte in
    let s : length (hex_of bytes) ≡ 16 = omega (arith, hex_of-length bytes, b.eight) in
    (rw e a, rw (e, f, a, le-leb 1 (length name) n.some, le-leb (length name) 32 n.few, eq-eqb (length (hex_of bytes)) 16 s, bytes-hex bytes b.each-byte) (cut (good (record_in bytes))))
  where
    cut : (x : Bool) → every (true ∷ true ∷ true ∷ true ∷ x ∷ []) ≡ x
    cut true = refl
    cut false = refl

-- the digits of a line, two by two
abbrev pairs_of : List ℕ → List ℕ
pairs_of [] = []
pairs_of (d ∷ []) = []
pairs_of (d ∷ e ∷ ds) = hex_pair d e ∷ pairs_of ds

pairs-again : (k : ℕ) (ds : List ℕ) → length ds ≡ k + k → all_hex ds ≡ true → (hex_of (pairs_of ds) ≡ ds) × (length (pairs_of ds) ≡ k)
unfolding hex_of all_hex
pairs-again zero [] l h = (refl, refl)
pairs-again zero (d ∷ ds) l h = absurd (omega arith)
pairs-again (suc k) [] l h = absurd (omega arith)
pairs-again (suc k) (d ∷ []) l h = absurd (omega arith)
pairs-again (suc k) (d ∷ e ∷ ds) l h =
    let p = both (ltb (value d) 16) (ltb (value e) 16 && all_hex ds) h in
    let q = both (ltb (value e) 16) (all_hex ds) p.1 in
    let again = pair-again d e (ltb-true _ _ p.0) (ltb-true _ _ q.0) in
    let r = pairs-again k ds (omega arith) q.1 in
    (rw (again.0, again.1, r.0), ap suc r.1)

pairs-bytes : (ds : List ℕ) (i : ℕ) → get_or (pairs_of ds) i 0 < 256
pairs-bytes [] i = omega arith
pairs-bytes (d ∷ []) i = omega arith
pairs-bytes (d ∷ e ∷ ds) zero = omega arith
pairs-bytes (d ∷ e ∷ ds) (suc i) = pairs-bytes ds i

-- a line with digits has a tab
tab-there : (l : List ℕ) → 1 ≤ length (digits_of l) → l ≡ name_of l ++ (tab ∷ digits_of l)
unfolding name_of digits_of
tab-there [] h = absurd (omega arith)
tab-there (b ∷ bs) h =
    by-eq b 9
    (λ e. rw (eq-eqb b 9 e, e))
    (λ e. let k : 1 ≤ length (digits_of bs) = rw (ne_eqb b 9 e) at h in rw (ne_eqb b 9 e) (ap (λ (l : List ℕ). b ∷ l) (tab-there bs k)))

name_free : (l : List ℕ) (i : ℕ) → i < length (name_of l) → get_or (name_of l) i 0 ≡ tab → ⊥
unfolding name_of
name_free [] i h e = omega arith
name_free (b ∷ bs) i h e =
    by-eq b 9
    (λ z. let k : i < 0 = rw (eq-eqb b 9 z) at h in omega arith)
    (λ z. let k : i < length (b ∷ name_of bs) = rw (ne_eqb b 9 z) at h in let f : get_or (b ∷ name_of bs) i 0 ≡ tab = rw (ne_eqb b 9 z) at e in step b z (name_of bs) (name_free bs) i k f)
  where
    step : (b : ℕ) → (b ≡ 9 → ⊥) → (l : List ℕ) → ((i : ℕ) → i < length l → get_or l i 0 ≡ tab → ⊥) → (i : ℕ) → i < length (b ∷ l) → get_or (b ∷ l) i 0 ≡ tab → ⊥
    step b z l h zero k e = z e
    step b z l h (suc i) k e = h i (omega arith) e

pub read-spelled : ReadSpelled
unfolding good_line
read-spelled line g =
    let p = both _ _ g in
    let q = both _ _ p.1 in
    let r = both _ _ q.1 in
    let s = both _ _ r.1 in
    let n : length (digits_of line) ≡ 16 = eqb-true _ _ r.0 in
    let d = pairs-again 8 (digits_of line) n s.0 in
    record {
      name = name_of line;
      bytes = pairs_of (digits_of line);
      good-name = record { some = leb-true _ _ p.0; few = leb-true _ _ q.0; tab-free = name_free line };
      eight-bytes = record { eight = d.1; each-byte = pairs-bytes (digits_of line) };
      is = tab-there line (omega arith) ∙ ap (λ (ds : List ℕ). name_of line ++ (tab ∷ ds)) (sym d.0);
    }
