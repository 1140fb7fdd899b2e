-- A line written is read as what it says, what is read was written so, and no line says two things.
-- Assumes nothing.
use Prim.Native.Nat.{ℕ, ◌≤◌}
use mathlib.Core.Bool.{Bool, true, false}
use mathlib.Core.List.{List, [], ◌∷◌}
use mathlib.Core.Path.{◌≡◌, refl, sym, ap, ap₂, ◌∙◌}
use native.Mathlib.Omega.{arith}
use lib.Dec.{eqb}
use lib.ListN.{length, get_or}
use borrow.Author.Tests.{eqb-true, eq-eqb}
use Rattle.files.proofs.Checks.{both, join, each, all, clash}
use Rattle.rules.specs.Words.{same}
use Rattle.rules.specs.State.{device, admin, user, transport}
use Rattle.rules.specs.Calls.{Order}
use Rattle.rules.proofs.Equal.{same-equal, equal-same}
use Rattle.digits.specs.Digits.{decimal, hex_of}
use Rattle.lines.specs.Grammar.{first_at, tabs, before, field, record_of, is_hex, bytes_of, number_of, is_limit, issue_word, command_word, reset_word, is_issue, order_in, is_command, command_in, random_in, is_reset}
use Rattle.lines.specs.Says.{joined, Issue, issues, commands, resets, spelled, Few, GoodIssue, IsLine, order_for, ReadAs, SpelledRead, ReadSpelled, OneMeaning}
use Rattle.lines.proofs.Joined.{plain-from, plain-free, AllPlain, tabs-joined, first-joined, field-joined, field_plain, joined-again, before-all}
use Rattle.lines.proofs.Numbers.{hex-plain, hex-is, bytes_back, decimal-plain, limit_is, number-back, hex-read, limit-read}

-- a line's fields behind its word
abbrev issue_fields : Issue → List (List ℕ)
issue_fields i =
    hex_of i.key ∷ decimal i.key_limit ∷ i.admin_pin ∷ decimal i.admin_limit ∷ i.user_pin ∷ decimal i.user_limit ∷ decimal i.mode
    ∷ hex_of i.transport_key ∷ decimal i.transport_limit ∷ []

abbrev command_fields : List ℕ → List ℕ → List (List ℕ)
command_fields cmd random = hex_of cmd ∷ hex_of random ∷ []

-- the line of a word and fields
module _ (word : List ℕ) (fs : List (List ℕ)) (plain : AllPlain (word ∷ fs)) where
  is-record : (n : ℕ) → length fs ≡ n → record_of n word (joined (word ∷ fs)) ≡ true
  is-record n e = join (eq-eqb _ _ (tabs-joined word fs plain ∙ e)) (equal-same _ _ (first-joined word fs plain))

  no_record : (n : ℕ) (other : List ℕ) → eqb (length fs) n ≡ false → record_of n other (joined (word ∷ fs)) ≡ false
  no_record n other e = let k : eqb (tabs (joined (word ∷ fs))) n ≡ false = rw (tabs-joined word fs plain) e in rw k

  nth : (n : ℕ) → n ≤ length fs → field n (joined (word ∷ fs)) ≡ get_or (word ∷ fs) n []
  nth n h = field-joined n word fs plain h

module _ (i : Issue) (g : GoodIssue i) where
  issue-plain : AllPlain (issue_word ∷ issue_fields i)
  unfolding tabs
  issue-plain = (
    refl,
    (
      hex-plain i.key,
      (
        decimal-plain i.key_limit,
        (
          plain-from i.admin_pin g.admin-pin,
          (
            decimal-plain i.admin_limit,
            (
              plain-from i.user_pin g.user-pin,
              (decimal-plain i.user_limit, (decimal-plain i.mode, (hex-plain i.transport_key, (decimal-plain i.transport_limit, tt)))),
            ),
          ),
        ),
      ),
    ),
  )

  abbrev issue_text : List ℕ
  issue_text = joined (issue_word ∷ issue_fields i)

  at : (n : ℕ) → n ≤ 9 → field n issue_text ≡ get_or (issue_word ∷ issue_fields i) n []
  at n h = nth issue_word (issue_fields i) issue-plain n h

  issue-is : is_issue issue_text ≡ true
  unfolding is_issue
  issue-is =
      all
      (record_of 9 issue_word issue_text ∷ is_hex (field 1 issue_text) ∷ is_limit (field 2 issue_text) ∷ is_limit (field 4 issue_text) ∷ is_limit (field 6 issue_text)
      ∷ is_limit (field 7 issue_text) ∷ is_hex (field 8 issue_text) ∷ is_limit (field 9 issue_text) ∷ []) (
        is-record issue_word (issue_fields i) issue-plain 9 refl,
        (
          ap is_hex (at 1 (omega arith)) ∙ hex-is i.key g.key,
          (
            ap is_limit (at 2 (omega arith)) ∙ limit_is i.key_limit g.key-limit,
            (
              ap is_limit (at 4 (omega arith)) ∙ limit_is i.admin_limit g.admin-limit,
              (
                ap is_limit (at 6 (omega arith)) ∙ limit_is i.user_limit g.user-limit,
                (
                  ap is_limit (at 7 (omega arith)) ∙ limit_is i.mode g.mode,
                  (
                    ap is_hex (at 8 (omega arith)) ∙ hex-is i.transport_key g.transport-key,
                    ap is_limit (at 9 (omega arith)) ∙ limit_is i.transport_limit g.transport-limit,
                  ),
                ),
              ),
            ),
          ),
        ),
      )

  issue-no-command : is_command issue_text ≡ false
  unfolding is_command
  issue-no-command = rw (no_record issue_word (issue_fields i) issue-plain 2 command_word refl)

  issue-no-reset : is_reset issue_text ≡ false
  unfolding is_reset
  issue-no-reset = no_record issue_word (issue_fields i) issue-plain 0 reset_word refl

  issue-order : order_in issue_text ≡ order_for i
  unfolding order_in
  issue-order =
      let k₁ : bytes_of (field 1 issue_text) ≡ i.key = ap bytes_of (at 1 (omega arith)) ∙ bytes_back i.key g.key.each-byte in
      let k₂ : number_of (field 2 issue_text) ≡ i.key_limit = ap number_of (at 2 (omega arith)) ∙ number-back i.key_limit g.key-limit in
      let k₃ : field 3 issue_text ≡ i.admin_pin = at 3 (omega arith) in
      let k₄ : number_of (field 4 issue_text) ≡ i.admin_limit = ap number_of (at 4 (omega arith)) ∙ number-back i.admin_limit g.admin-limit in
      let k₅ : field 5 issue_text ≡ i.user_pin = at 5 (omega arith) in
      let k₆ : number_of (field 6 issue_text) ≡ i.user_limit = ap number_of (at 6 (omega arith)) ∙ number-back i.user_limit g.user-limit in
      let k₇ : number_of (field 7 issue_text) ≡ i.mode = ap number_of (at 7 (omega arith)) ∙ number-back i.mode g.mode in
      let k₈ : bytes_of (field 8 issue_text) ≡ i.transport_key = ap bytes_of (at 8 (omega arith)) ∙ bytes_back i.transport_key g.transport-key.each-byte in
      let k₉ : number_of (field 9 issue_text) ≡ i.transport_limit = ap number_of (at 9 (omega arith)) ∙ number-back i.transport_limit g.transport-limit in
      rw (k₁, k₂, k₃, k₄, k₅, k₆, k₇, k₈, k₉)

module _ (cmd random : List ℕ) (f : Few cmd) (g : Few random) where
  command-plain : AllPlain (command_word ∷ command_fields cmd random)
  unfolding tabs
  command-plain = (refl, (hex-plain cmd, (hex-plain random, tt)))

  abbrev command_text : List ℕ
  command_text = joined (command_word ∷ command_fields cmd random)

  command-is : is_command command_text ≡ true
  unfolding is_command
  command-is =
      all (record_of 2 command_word command_text ∷ is_hex (field 1 command_text) ∷ is_hex (field 2 command_text) ∷ []) (
        is-record command_word (command_fields cmd random) command-plain 2 refl,
        (
          ap is_hex (nth command_word (command_fields cmd random) command-plain 1 (omega arith)) ∙ hex-is cmd f,
          ap is_hex (nth command_word (command_fields cmd random) command-plain 2 (omega arith)) ∙ hex-is random g,
        ),
      )

  command-no-issue : is_issue command_text ≡ false
  unfolding is_issue
  command-no-issue = rw (no_record command_word (command_fields cmd random) command-plain 9 issue_word refl)

  command-no-reset : is_reset command_text ≡ false
  unfolding is_reset
  command-no-reset = no_record command_word (command_fields cmd random) command-plain 0 reset_word refl

  command-cmd : command_in command_text ≡ cmd
  command-cmd = ap bytes_of (nth command_word (command_fields cmd random) command-plain 1 (omega arith)) ∙ bytes_back cmd f.each-byte

  command-random : random_in command_text ≡ random
  command-random = ap bytes_of (nth command_word (command_fields cmd random) command-plain 2 (omega arith)) ∙ bytes_back random g.each-byte

reset-read : ReadAs resets reset_word
unfolding is_issue is_command is_reset tabs before first_at same
reset-read = (refl, refl, refl)

pub spelled-read : SpelledRead
unfolding spelled
spelled-read (issues i) g = (issue-is i g, issue-no-command i g, issue-no-reset i g, issue-order i g)
spelled-read (commands cmd random) (f, g) =
    (command-no-issue cmd random f g, command-is cmd random f g, command-no-reset cmd random f g, command-cmd cmd random f g, command-random cmd random f g)
spelled-read resets g = reset-read

-- what is read was written
module _ (s : List ℕ) where
  record-parts : (n : ℕ) (word : List ℕ) → record_of n word s ≡ true → (tabs s ≡ n) × (before s ≡ word)
  record-parts n word h = let k = both (eqb (tabs s) n) (same (before s) word) h in (eqb-true _ _ k.0, same-equal _ _ k.1)

  issue-written : is_issue s ≡ true → IsLine s
  unfolding is_issue spelled
  issue-written h =
      let p =
      each
      (record_of 9 issue_word s ∷ is_hex (field 1 s) ∷ is_limit (field 2 s) ∷ is_limit (field 4 s) ∷ is_limit (field 6 s) ∷ is_limit (field 7 s) ∷ is_hex (field 8 s) ∷ is_limit (field 9 s) ∷ [])
      h in
      let w = record-parts 9 issue_word p.0 in
      let k = hex-read (field 1 s) p.1.0 in
      let l = limit-read (field 2 s) p.1.1.0 in
      let al = limit-read (field 4 s) p.1.1.1.0 in
      let ul = limit-read (field 6 s) p.1.1.1.1.0 in
      let m = limit-read (field 7 s) p.1.1.1.1.1.0 in
      let t = hex-read (field 8 s) p.1.1.1.1.1.1.0 in
      let tl = limit-read (field 9 s) p.1.1.1.1.1.1.1 in
      record {
        line =
            issues
            (record {
              key = bytes_of (field 1 s);
              key_limit = number_of (field 2 s);
              admin_pin = field 3 s;
              admin_limit = number_of (field 4 s);
              user_pin = field 5 s;
              user_limit = number_of (field 6 s);
              mode = number_of (field 7 s);
              transport_key = bytes_of (field 8 s);
              transport_limit = number_of (field 9 s);
            });
        good = record {
          key = k.few;
          key-limit = l.low;
          admin-pin = plain-free (field 3 s) (field_plain 3 s);
          admin-limit = al.low;
          user-pin = plain-free (field 5 s) (field_plain 5 s);
          user-limit = ul.low;
          mode = m.low;
          transport-key = t.few;
          transport-limit = tl.low;
        };
        is = sym (joined-again 9 s w.0) ∙ sym (rw (k.again, l.again, al.again, ul.again, m.again, t.again, tl.again, w.1));
      }

  command-written : is_command s ≡ true → IsLine s
  unfolding is_command spelled
  command-written h =
      let p = each (record_of 2 command_word s ∷ is_hex (field 1 s) ∷ is_hex (field 2 s) ∷ []) h in
      let w = record-parts 2 command_word p.0 in
      let k = hex-read (field 1 s) p.1.0 in
      let r = hex-read (field 2 s) p.1.1 in
      record {
        line = commands (bytes_of (field 1 s)) (bytes_of (field 2 s));
        good = (k.few, r.few);
        is = sym (joined-again 2 s w.0) ∙ sym (rw (k.again, r.again, w.1));
      }

  reset-written : is_reset s ≡ true → IsLine s
  unfolding is_reset spelled
  reset-written h = let w = record-parts 0 reset_word h in record { line = resets; good = tt; is = sym (before-all s w.0) ∙ w.1 }

pub read-spelled : ReadSpelled
read-spelled s h = go (is_issue s) refl (is_command s) refl
  where
    go : (a : Bool) → is_issue s ≡ a → (b : Bool) → is_command s ≡ b → IsLine s
    go true e b f = issue-written s e
    go false e true f = command-written s f
    go false e false f = reset-written s (rw (e, f) at h)

-- no line says two things
module _ (i j : Issue) (e : order_for i ≡ order_for j) where
  abbrev made : List ℕ → ℕ → List ℕ → ℕ → List ℕ → ℕ → ℕ → List ℕ → ℕ → Issue
  made key l a al u ul m t tl = record { key = key; key_limit = l; admin_pin = a; admin_limit = al; user_pin = u; user_limit = ul; mode = m; transport_key = t; transport_limit = tl }

  same-issue : i ≡ j
  same-issue =
      ap (λ (o : Order). made (o.given device).value (o.given device).limit (o.given admin).value (o.given admin).limit (o.given user).value (o.given user).limit o.mode (o.given transport).value (o.given transport).limit) e

pub one-meaning : OneMeaning
one-meaning (issues i) (issues j) g h e = ap issues (same-issue i j (sym (spelled-read (issues i) g).3 ∙ ap order_in e ∙ (spelled-read (issues j) h).3))
one-meaning (commands a b) (commands c d) g h e =
    let p = spelled-read (commands a b) g in
    let q = spelled-read (commands c d) h in
    ap₂ commands (sym p.3 ∙ ap command_in e ∙ q.3) (sym p.4 ∙ ap random_in e ∙ q.4)
one-meaning resets resets g h e = refl
one-meaning (issues i) (commands c d) g h e = clash (is_issue (spelled (issues i))) (spelled-read (issues i) g).0 (ap is_issue e ∙ (spelled-read (commands c d) h).0)
one-meaning (issues i) resets g h e = clash (is_issue (spelled (issues i))) (spelled-read (issues i) g).0 (ap is_issue e ∙ (spelled-read resets h).0)
one-meaning (commands a b) (issues j) g h e = clash (is_issue (spelled (commands a b))) (ap is_issue e ∙ (spelled-read (issues j) h).0) (spelled-read (commands a b) g).0
one-meaning (commands a b) resets g h e = clash (is_command (spelled (commands a b))) (spelled-read (commands a b) g).1 (ap is_command e ∙ (spelled-read resets h).1)
one-meaning resets (issues j) g h e = clash (is_issue (spelled resets)) (ap is_issue e ∙ (spelled-read (issues j) h).0) (spelled-read resets g).0
one-meaning resets (commands c d) g h e = clash (is_command (spelled resets)) (ap is_command e ∙ (spelled-read (commands c d) h).1) (spelled-read resets g).1
