-- A CMD is told by its word, its second tab, and hex before and behind that: hex has no tab in it.
-- Assumes nothing.
use Prim.Native.Nat.{ℕ, zero, suc, ◌+◌, ◌≤◌, ◌<◌}
use mathlib.Core.Bool.{Bool, true, false, ◌&&◌}
use mathlib.Core.List.{List, [], ◌∷◌}
use mathlib.Core.Path.{◌≡◌, refl, sym, ap, subst, ◌∙◌}
use mathlib.Core.Logic.{by_cases}
use native.Mathlib.Decide.{dec_lt}
use native.Mathlib.Omega.{arith}
use lib.Dec.{eqb, ltb}
use lib.ListN.{length, take, length-take, drop_of_length-le}
use borrow.Author.Tests.{lt-ltb, le-ltb, eqb-true, eq-eqb, ne_eqb}
use Rattle.files.proofs.Checks.{both, each, last-fails, third-fails}
use Rattle.rules.specs.Words.{same}
use Rattle.digits.specs.Digits.{tab}
use Rattle.lines.specs.Grammar.{first_at, tab_at, tabs, before, after, field, record_of, is_hex, bytes_of, command_word, is_issue, is_command, random_in}
use Rattle.lines.proofs.Joined.{Plain, tab-or-not, head_plain, before-all, parted}
use Rattle.lines.proofs.Numbers.{hex-plain, hex-read}

hex-tabless : (s : List ℕ) → is_hex s ≡ true → Plain s
hex-tabless s h = subst Plain (hex-read s h).again (hex-plain (bytes_of s))

plain_end : (s : List ℕ) → Plain s → tab_at s ≡ length s
unfolding first_at
plain_end [] h = refl
plain_end (b ∷ s) h = let k = head_plain b s h in rw k.0 (ap suc (plain_end s k.1))

plain-after : (s : List ℕ) → Plain s → after s ≡ []
unfolding after
plain-after s h = let e : tab_at s ≡ length s = plain_end s h in let k : length s ≤ tab_at s + 1 = omega (arith, e) in drop_of_length-le s k

tab-inside : (s : List ℕ) (n : ℕ) → tabs s ≡ suc n → tab_at s < length s
unfolding first_at tabs
tab-inside [] n h = absurd (omega arith)
tab-inside (b ∷ s) n h =
    tab-or-not b
    (λ e. rw (eq-eqb b tab e) (omega arith))
    (λ e. let k : 0 + tabs s ≡ suc n = rw e at h in let m : tab_at s < length s = tab-inside s n (omega arith) in rw e (omega (arith, m)))

-- what stands before the first tab is shorter than all where there is a tab
before-short : (s : List ℕ) → ltb (length (before s)) (length s) ≡ ltb (tab_at s) (length s)
unfolding before
before-short s =
    let l = length-take (tab_at s) s in
    by_cases (dec_lt (tab_at s) (length s))
    (λ h. lt-ltb (length (take (tab_at s) s)) (length s) (omega (arith, l, h)) ∙ sym (lt-ltb (tab_at s) (length s) h))
    (λ h. le-ltb (length (take (tab_at s) s)) (length s) (omega (arith, l, h)) ∙ sym (le-ltb (tab_at s) (length s) (omega (arith, h))))

by-tabs : {A : Type 0} (s : List ℕ) → (Plain s → A) → ((n : ℕ) → tabs s ≡ suc n → A) → A
by-tabs {A} s f g = go (tabs s) refl
  where
    go : (n : ℕ) → tabs s ≡ n → A
    go zero e = f e
    go (suc n) e = g n e

module _ (s : List ℕ) where
  not-command : (tabs s ≡ 2 → ⊥) → is_command s ≡ false
  unfolding is_command
  not-command h = let e : eqb (tabs s) 2 ≡ false = ne_eqb (tabs s) 2 h in rw e

  -- a tab behind the first
  tabs-before : (n : ℕ) → tabs (after s) ≡ suc n → tabs s ≡ suc (suc n)
  unfolding tabs
  tabs-before n h =
      by-tabs s
      (λ p. absurd (let k : tabs [] ≡ suc n = rw (plain-after s p) at h in omega (arith, k)))
      (λ m e. let k : tabs (after s) ≡ m = (parted s m e).1 in omega (arith, h, k, e))

  -- at most one tab
  one-tab : Plain (after s) → tabs s ≡ 2 → ⊥
  one-tab p e = let k : tabs (after s) ≡ 1 = (parted s 1 e).1 in omega (arith, p, k)

  module _ (w : same (before s) command_word ≡ true) where
    abbrev rest : List ℕ
    rest = after s

    read-hex : (n : ℕ) → tabs rest ≡ suc n → is_hex (after rest) ≡ true → is_command s ≡ (is_hex (before rest) && true)
    unfolding is_command
    read-hex n h t =
        let p : Plain (after rest) = hex-tabless (after rest) t in
        let k : tabs (after rest) ≡ n = (parted rest n h).1 in
        let m : tabs s ≡ suc (suc n) = tabs-before n h in
        let e : eqb (tabs s) 2 ≡ true = eq-eqb (tabs s) 2 (omega (arith, p, k, m)) in
        let b : is_hex (before (after rest)) ≡ true = ap is_hex (before-all (after rest) p) ∙ t in
        rw (e, w, b)

    read-other : (n : ℕ) → tabs rest ≡ suc n → is_hex (after rest) ≡ false → is_command s ≡ false
    unfolding is_command
    read-other n h f =
        by-tabs (after rest)
        (λ p. third-fails (record_of 2 command_word s) (is_hex (before rest)) (is_hex (before (after rest))) (ap is_hex (before-all (after rest) p) ∙ f))
        (λ j e. let k : tabs (after rest) ≡ n = (parted rest n h).1 in
        let m : tabs s ≡ suc (suc n) = tabs-before n h in
        not-command (λ z. omega (arith, k, m, e, z)))

    command-read : is_command s ≡ (ltb (tab_at rest) (length rest) && (is_hex (before rest) && is_hex (after rest)))
    command-read =
        by-tabs rest
        (λ p. let e : ltb (tab_at rest) (length rest) ≡ false = le-ltb (tab_at rest) (length rest) (let k : tab_at rest ≡ length rest = plain_end rest p in omega (arith, k)) in
        not-command (one-tab p) ∙ sym (rw e))
        (λ n h. let e : ltb (tab_at rest) (length rest) ≡ true = lt-ltb (tab_at rest) (length rest) (tab-inside rest n h) in
        go n h e (is_hex (after rest)) refl)
      where
        go : (n : ℕ) → tabs rest ≡ suc n → ltb (tab_at rest) (length rest) ≡ true → (t : Bool) → is_hex (after rest) ≡ t
            → is_command s ≡ (ltb (tab_at rest) (length rest) && (is_hex (before rest) && is_hex (after rest)))
        go n h e true t = read-hex n h t ∙ sym (rw (e, t))
        go n h e false t = read-other n h t ∙ sym (third-fails (ltb (tab_at rest) (length rest)) (is_hex (before rest)) (is_hex (after rest)) t)

  -- another word
  other_word : same (before s) command_word ≡ false → is_command s ≡ false
  unfolding is_command
  other_word f = let e : (eqb (tabs s) 2 && same (before s) command_word) ≡ false = last-fails (eqb (tabs s) 2) (same (before s) command_word) f in rw e

  -- with any word
  pub command-parted : (t : Bool) → same (before s) command_word ≡ t
      → is_command s ≡ (t && (ltb (length (before (after s))) (length (after s)) && (is_hex (before (after s)) && is_hex (after (after s)))))
  command-parted true w = command-read w ∙ sym (rw (before-short (after s)))
  command-parted false w = other_word w

  -- a CMD is no ISSUE, and both its parts are hex
  module _ (c : is_command s ≡ true) where
    pub command-no-issue : is_issue s ≡ false
    unfolding is_command is_issue
    command-no-issue =
        let e = eqb-true (tabs s) 2 (both (eqb (tabs s) 2) (same (before s) command_word) (each (record_of 2 command_word s ∷ is_hex (field 1 s) ∷ is_hex (field 2 s) ∷ []) c).0).0 in
        let n : eqb (tabs s) 9 ≡ false = ne_eqb (tabs s) 9 (λ h. omega (arith, e, h)) in
        rw n

    pub command-hex : (is_hex (before (after s)) ≡ true) × (is_hex (after (after s)) ≡ true)
    command-hex =
        let w = same (before s) command_word in
        let l = ltb (length (before (after s))) (length (after s)) in
        let f = is_hex (before (after s)) in
        let g = is_hex (after (after s)) in
        both f g (both l (f && g) (both w (l && (f && g)) (sym (command-parted w refl) ∙ c)).1).1

  -- the random, to the line's end
  pub random-read : is_hex (after (after s)) ≡ true → random_in s ≡ bytes_of (after (after s))
  random-read t = ap bytes_of (before-all (after (after s)) (hex-tabless (after (after s)) t))
