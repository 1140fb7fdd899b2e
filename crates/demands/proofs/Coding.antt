-- The ledger's own code, over the command's bytes as sent, is that of the rules; and so is what it asks before the comparison.
use Prim.Native.Nat.{ℕ, zero, suc, ◌+◌, ◌-◌, ◌/◌, ◌≤◌, ◌<◌}
use mathlib.Core.Bool.{Bool, true, false, cond, ◌&&◌, ◌||◌, not, and-false}
use mathlib.Core.List.{List, [], ◌∷◌, ◌++◌}
use mathlib.Core.Logic.{by_cases}
use mathlib.Core.Path.{◌≡◌, refl, sym, ap, ap₂, ◌∙◌}
use native.Mathlib.Decide.{dec_le, dec_lt, ℕ_discrete}
use native.Mathlib.Omega.{arith}
use lib.ListN.{length, take, drop, length-take, length-drop}
use lib.Dec.{eqb, leb}
use borrow.Author.Tests.{eqb-true, eq-eqb, ne_eqb, le-leb, lt-leb, leb-true}
use Rattle.cipher.specs.Cipher.{aes128}
use Rattle.codes.specs.Padding.{padded}
use Rattle.codes.specs.Chaining.{added, link, chain, first_blocks}
use Rattle.codes.specs.Code.{mac}
use Rattle.codes.proofs.Padding.{padded-length}
use Rattle.files.specs.Part.{zeros}
use Rattle.files.specs.Words.{is_zero}
use Rattle.files.proofs.Checks.{both}
use Rattle.rules.specs.Words.{unless, or_else, first, byte}
use Rattle.rules.specs.State.{transport, Logins}
use Rattle.rules.specs.Frame.{Command, framed, frame_sw, class_sw, lc, coded, read_case_sw, write_case_sw}
use Rattle.rules.specs.Pins.{tries_sw}
use Rattle.rules.specs.Device.{challenge_sw}
use Rattle.rules.specs.Code.{expected}
use Rattle.rules.proofs.Checks.{holds}
use Rattle.rules.proofs.Equal.{filled-behind}
use Rattle.demands.specs.Ledger.{Kind, other, passes, presented, lc_sent, code_covers, code_sent, in_blocks, sum, cbc, code_of, read_frame, write_frame, code_asks, code_kind}
use Rattle.demands.specs.Credentials.{CodeOfBytes}
use Rattle.demands.proofs.Framing.{data-there}
use Rattle.demands.proofs.Trees.{all-passed}

-- what a read, update or append is to the transport key in the rules' words
abbrev pub code_by : List ℕ → Logins → List ℕ → Command → Kind
code_by front l ch k =
    cond (coded k && passes (first front ∷ tries_sw (l transport) ∷ challenge_sw ch ∷ []) k) (presented (expected l ch k) k.code) other

-- ---- the code
sum_is : (a b : List ℕ) → sum a b ≡ added a b
unfolding sum added
sum_is [] b = refl
sum_is (x ∷ a) [] = refl
sum_is (x ∷ a) (y ∷ b) = rw (sum_is a b)

chain-is : (key : List ℕ) (n : ℕ) (before bytes : List ℕ) → cbc key n before bytes ≡ chain key before (first_blocks n bytes)
unfolding cbc chain first_blocks link
chain-is key zero before bytes = refl
chain-is key (suc n) before bytes =
    ap (λ (z : List ℕ). cbc key n (aes128 key z) (drop 16 bytes)) (sum_is before (take 16 bytes)) ∙ chain-is key n _ (drop 16 bytes)

mac-is : (key start m : List ℕ) → mac key start m ≡ cbc key (length m / 16 + 1) start (in_blocks m)
unfolding mac padded
mac-is key start m =
    let n : length (padded m) / 16 ≡ length m / 16 + 1 = omega (arith, padded-length m) in
    ap (λ (z : ℕ). chain key start (first_blocks z (padded m))) n ∙ sym (chain-is key (length m / 16 + 1) start (in_blocks m))

module _ (cmd : List ℕ) (cla : byte cmd 0 ≡ 0x04) (low : 4 ≤ lc_sent cmd) where
  covers : (framed cmd).covered ≡ code_covers cmd
  unfolding framed
  covers = let n : 5 + (byte cmd 4 - 4) ≡ 5 + byte cmd 4 - 4 = omega (arith, low) in rw (eq-eqb (byte cmd 0) 0x04 cla, n)

  sent : (framed cmd).code ≡ code_sent cmd
  unfolding framed
  sent =
      let n : 5 + (byte cmd 4 - 4) ≡ 5 + byte cmd 4 - 4 = omega (arith, low) in
      let four : byte cmd 4 - (byte cmd 4 - 4) ≡ 4 = omega (arith, low) in
      rw (eq-eqb (byte cmd 0) 0x04 cla, n, four)

pub code-of-bytes : CodeOfBytes
code-of-bytes l ch cmd cla low = (
  ap₂ (λ (z m : List ℕ). take 4 (mac (l transport).value z m)) (filled-behind ch) (covers cmd cla low)
      ∙ ap (take 4) (mac-is (l transport).value (ch ++ zeros (16 - length ch)) (code_covers cmd)),
  sent cmd cla low,
)

-- ---- case and Lc
module _ (cmd : List ℕ) (cla : eqb (byte cmd 0) 0x04 ≡ true) (there : 5 + byte cmd 4 ≤ length cmd) where
  given-long : length (framed cmd).given ≡ byte cmd 4 - 4
  unfolding framed
  given-long = rw cla (simp (length-take, length-drop) (omega (arith, there)))

  code-long : length (framed cmd).code ≡ byte cmd 4 - (byte cmd 4 - 4)
  unfolding framed
  code-long = rw cla (simp (length-take, length-drop) (omega (arith, there)))

-- Lc 04 is no data and four bytes behind, and 05 or more is some data
four-alone : (n : ℕ) → eqb n 4 ≡ (is_zero (n - 4) && eqb (n - (n - 4)) 4)
four-alone n =
    by_cases (ℕ_discrete n 4) (λ e. rw e)
    (λ o. by_cases (dec_lt n 4)
    (λ l. rw (ne_eqb n 4 o, ne_eqb (n - (n - 4)) 4 (λ z. omega (arith, l, z))) (sym (and-false (is_zero (n - 4)))))
    (λ l. rw (ne_eqb n 4 o, ne_eqb (n - 4) 0 (λ z. omega (arith, l, o, z)))))

five-more : (n : ℕ) → leb 5 n ≡ not (is_zero (n - 4))
five-more n =
    by_cases (dec_le 5 n) (λ l. rw (le-leb 5 n l, ne_eqb (n - 4) 0 (λ z. omega (arith, l, z))))
    (λ o. let l : n < 5 = omega (arith, o) in rw (lt-leb 5 n l, eq-eqb (n - 4) 0 (omega (arith, l))))

module _ (cmd : List ℕ) (cla : eqb (byte cmd 0) 0x04 ≡ true) where
  abbrev k : Command
  k = framed cmd

  is-coded : coded (framed cmd) ≡ true
  unfolding framed
  is-coded = cla

  read-frame : unless (read_frame cmd) 0x6700 ≡ read_case_sw (framed cmd)
  read-frame =
      ap (λ (b : Bool). unless b 0x6700) (go (eqb k.case 4) refl)
      ∙ sym (ap (λ (b : Bool). unless (cond b (eqb k.case 4 && (is_zero (lc k) && eqb (length k.code) 4)) (eqb k.case 2)) 0x6700) is-coded)
    where
      go : (b : Bool) → eqb k.case 4 ≡ b → (b && eqb (byte cmd 4) 4) ≡ (b && (is_zero (lc k) && eqb (length k.code) 4))
      go true e =
          let there = data-there cmd (omega (arith, eqb-true k.case 4 e)) in
          four-alone (byte cmd 4) ∙ sym (ap₂ (λ (m n : ℕ). is_zero m && eqb n 4) (given-long cmd cla there) (code-long cmd cla there))
      go false e = refl

  write-frame : unless (write_frame cmd) 0x6700 ≡ write_case_sw (framed cmd)
  write-frame =
      ap (λ (b : Bool). unless b 0x6700) (go (eqb k.case 3) refl)
      ∙ sym (ap (λ (b : Bool). unless (eqb k.case 3 && (not b || not (is_zero (lc k)))) 0x6700) is-coded)
    where
      go : (b : Bool) → eqb k.case 3 ≡ b → (b && leb 5 (byte cmd 4)) ≡ (b && not (is_zero (lc k)))
      go true e =
          let there = data-there cmd (omega (arith, eqb-true k.case 3 e)) in
          five-more (byte cmd 4) ∙ sym (ap (λ (m : ℕ). not (is_zero m)) (given-long cmd cla there))
      go false e = refl

-- ---- what is asked before the comparison
same-asks : (p frame : Bool) (a b : ℕ)
    → first (unless p 0x6A86 ∷ unless frame 0x6700 ∷ a ∷ b ∷ []) ≡ first (first (unless p 0x6A86 ∷ unless frame 0x6700 ∷ []) ∷ a ∷ b ∷ [])
unfolding or_else
same-asks true true a b = refl
same-asks true false a b = refl
same-asks false true a b = refl
same-asks false false a b = refl

module _ (p frame : Bool) (case_sw : ℕ) (l : Logins) (ch cmd : List ℕ)
    (same-frame : eqb (byte cmd 0) 0x04 ≡ true → unless frame 0x6700 ≡ case_sw) (long : frame ≡ true → 4 ≤ lc_sent cmd) where
  abbrev front : List ℕ
  front = unless p 0x6A86 ∷ case_sw ∷ []

  abbrev own : Kind
  own = presented (code_of (l transport).value ch cmd) (code_sent cmd)

  asks-same : eqb (byte cmd 0) 0x04 ≡ true
      → passes (code_asks p frame (l transport) ch) (framed cmd)
      ≡ passes (first (unless p 0x6A86 ∷ case_sw ∷ []) ∷ tries_sw (l transport) ∷ challenge_sw ch ∷ []) (framed cmd)
  unfolding code_asks
  asks-same e =
      ap (λ (n : ℕ). eqb (first (frame_sw (framed cmd) ∷ class_sw (framed cmd) ∷ n ∷ [])) 0x9000)
      (same-asks p frame (tries_sw (l transport)) (challenge_sw ch)
      ∙ ap (λ (n : ℕ). first (first (unless p 0x6A86 ∷ n ∷ []) ∷ tries_sw (l transport) ∷ challenge_sw ch ∷ [])) (same-frame e))

  compared : eqb (byte cmd 0) 0x04 ≡ true → passes (code_asks p frame (l transport) ch) (framed cmd) ≡ true
      → presented (code_of (l transport).value ch cmd) (code_sent cmd) ≡ presented (expected l ch (framed cmd)) (framed cmd).code
  unfolding code_asks
  compared e h =
      let q = code-of-bytes l ch cmd (eqb-true (byte cmd 0) 0x04 e) (long (holds frame 0x6700 refl (all-passed (code_asks p frame (l transport) ch) (framed cmd) h).1.0)) in
      sym (ap₂ presented q.0 q.1)

  pub code_same : code_kind p frame l ch cmd ≡ code_by (unless p 0x6A86 ∷ case_sw ∷ []) l ch (framed cmd)
  unfolding framed
  code_same = by-class (eqb (byte cmd 0) 0x04) refl
    where
      by-asks : eqb (byte cmd 0) 0x04 ≡ true → (b : Bool) → passes (code_asks p frame (l transport) ch) (framed cmd) ≡ b
          → cond b own other ≡ cond b (presented (expected l ch (framed cmd)) (framed cmd).code) other
      by-asks e true h = compared e h
      by-asks e false h = refl

      by-class : (b : Bool) → eqb (byte cmd 0) 0x04 ≡ b
          → cond (b && passes (code_asks p frame (l transport) ch) (framed cmd)) own other
          ≡ cond (b && passes (first front ∷ tries_sw (l transport) ∷ challenge_sw ch ∷ []) (framed cmd)) (presented (expected l ch (framed cmd)) (framed cmd).code) other
      by-class true e = by-asks e (passes (code_asks p frame (l transport) ch) (framed cmd)) refl
          ∙ ap (λ (b : Bool). cond b (presented (expected l ch (framed cmd)) (framed cmd).code) other) (asks-same e)
      by-class false e = refl

-- of a read, and of an update or append
module _ (p : Bool) (l : Logins) (ch cmd : List ℕ) where
  pub read_same : code_kind p (read_frame cmd) l ch cmd ≡ code_by (unless p 0x6A86 ∷ read_case_sw (framed cmd) ∷ []) l ch (framed cmd)
  read_same =
      code_same p (read_frame cmd) (read_case_sw (framed cmd)) l ch cmd (read-frame cmd)
      (λ e. let n = eqb-true (lc_sent cmd) 4 (both (eqb (framed cmd).case 4) (eqb (lc_sent cmd) 4) e).1 in omega (arith, n))

  pub write_same : code_kind p (write_frame cmd) l ch cmd ≡ code_by (unless p 0x6A86 ∷ write_case_sw (framed cmd) ∷ []) l ch (framed cmd)
  write_same =
      code_same p (write_frame cmd) (write_case_sw (framed cmd)) l ch cmd (write-frame cmd)
      (λ e. let n = leb-true 5 (lc_sent cmd) (both (eqb (framed cmd).case 3) (leb 5 (lc_sent cmd)) e).1 in omega (arith, n))
