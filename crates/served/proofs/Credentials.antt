-- VERIFY, CHANGE PIN, RELOAD PIN, EXTERNAL AUTHENTICATE and GET CHALLENGE.
use Prim.Native.Nat.{ℕ, zero, suc, ◌+◌, ◌-◌, ◌≤◌, ◌<◌}
use mathlib.Core.Bool.{Bool, true, false, cond, ◌&&◌, ◌||◌, not}
use mathlib.Core.List.{List, [], ◌∷◌, ◌++◌, append-nil}
use mathlib.Core.Logic.{◌⊎◌, inl, inr, ⊎_elim, by_cases}
use mathlib.Core.Path.{◌≡◌, refl, sym, ap, ◌∙◌, subst}
use native.Mathlib.Decide.{dec_lt, ℕ_discrete}
use native.Mathlib.Omega.{arith}
use lib.Dec.{eqb, leb}
use lib.ListN.{length, take, drop, get_or, set, length-set, replicate}
use lib.Seq.{get_or-set_same, get_or-set_other, length-take-le}
use borrow.Author.Tests.{eqb-true, eqb-false, eq-eqb, ne_eqb, leb-true, le-leb, lt-ltb, le-ltb, not-true}
use Rattle.cipher.specs.Cipher.{aes128}
use Rattle.files.specs.Words.{is_zero}
use Rattle.files.specs.Part.{part, splice}
use Rattle.files.proofs.Checks.{both, join, each}
use Rattle.rules.specs.declared.Tries.{Tries}
use Rattle.rules.specs.declared.Credential.{Credential}
use Rattle.rules.specs.declared.Card.{Card}
use Rattle.rules.specs.declared.Ins.TheVariants.{Verify, ChangePin, ReloadPin, Authenticate, GetChallenge}
use Rattle.rules.specs.Words.{unless, first, all_of, same}
use Rattle.rules.specs.Tries.{lowered, restored, count_sw}
use Rattle.rules.specs.State.{number_of, mark, marked, no_credential, credential, login, login_at, logins, challenge, credential_of, with_tries, with_login_at, with_value_at}
use Rattle.rules.specs.Sound.{digit, good_pin_length, good_challenge, sound_challenge, sound}
use Rattle.rules.specs.Frame.{Command, framed, p, lc}
use Rattle.rules.specs.Effect.{Effect, answers as answered, Stepped}
use Rattle.rules.specs.Pins.{compared_at, pin_named, pin_given, tries_sw, digits_sw, held_sw, query_sw, verify_checks, change_checks, reload_checks}
use Rattle.rules.specs.Device.{cryptogram, authenticate_checks, get_challenge_checks}
use Rattle.rules.specs.List.{find, rows, rule}
use Rattle.rules.specs.Step.{checks, effect_of, kept, step}
use Rattle.rules.proofs.Checks.{one_of, either}
use Rattle.rules.proofs.Good.{Good, sound-good, said-short, filled-back}
use Rattle.rules.proofs.Equal.{same-equal, equal-same, cryptogram-is}
use Rattle.demands.specs.Held.{credential_no, value_no, left_no, limit_no, right_no}
use Rattle.served.specs.Left.{Left, Refused, Credited}
use Rattle.served.specs.Answers.{Digits, counted, Compared, Queried, VerifyAnswers, ChangePinAnswers, ReloadPinAnswers, AuthenticateAnswers, GetChallengeAnswers}
use Rattle.served.specs.Answers as answers
use Rattle.served.proofs.Steps.{Settled, quiet, word, Rest, Runs, by_name, refuses, serves, check}

-- ---- tests in the paper's words
pub digits-to : (d : List ℕ) → all_of digit d ≡ true → Digits d
unfolding all_of
digits-to [] h i l = absurd (omega (arith, l))
digits-to (b ∷ d) h zero l =
    let e = both (digit b) (all_of digit d) h in
    let q = both (leb 0x30 b) (leb b 0x39) e.0 in (leb-true _ _ q.0, leb-true _ _ q.1)
digits-to (b ∷ d) h (suc i) l = digits-to d (both (digit b) (all_of digit d) h).1 i (omega (arith, l))

pub to-digits : (d : List ℕ) → Digits d → all_of digit d ≡ true
unfolding all_of
to-digits [] h = refl
to-digits (b ∷ d) h =
    let q = h 0 (omega arith) in join (join (le-leb 0x30 b q.0) (le-leb b 0x39 q.1)) (to-digits d (λ i l. h (suc i) (omega arith)))

pub given_to : (k : Command) → pin_given k ≡ true → (k.case ≡ 3) × (6 ≤ length k.given) × (length k.given ≤ 16)
given_to k h =
    let e = both (eqb k.case 3) (good_pin_length (lc k)) h in
    let q = both (leb 6 (lc k)) (leb (lc k) 16) e.1 in (eqb-true _ _ e.0, leb-true _ _ q.0, leb-true _ _ q.1)

pub to-given : (k : Command) → (k.case ≡ 3) × (6 ≤ length k.given) × (length k.given ≤ 16) → pin_given k ≡ true
to-given k q = join (eq-eqb _ _ q.0) (join (le-leb 6 (lc k) q.1) (le-leb (lc k) 16 q.2))

pub some_to : (n : ℕ) → not (is_zero n) ≡ true → 1 ≤ n
some_to n h = let o = eqb-false n 0 (not-true (is_zero n) h) in omega (arith, o)

pub to_some : (n : ℕ) → 1 ≤ n → not (is_zero n) ≡ true
to_some n l = rw (ne_eqb n 0 (λ z. omega (arith, z, l)))

counted_is : (n : ℕ) → count_sw n ≡ counted n
counted_is n =
    by_cases (dec_lt n 15) (λ l. rw (lt-ltb n 15 l) (omega (arith, l))) (λ l. let m : 15 ≤ n = omega arith in rw (le-ltb n 15 m) (omega (arith, m)))

not-9000 : (n : ℕ) → count_sw n ≡ 0x9000 → ⊥
not-9000 n e = omega (arith, sym (counted_is n) ∙ e)

-- P2 names a PIN by its number
pin-number : (k : Command) → k.p2 ≤ 1 → number_of (pin_named k) ≡ k.p2 + 1
pin-number k l =
    by_cases (ℕ_discrete k.p2 0) (λ e. rw (eq-eqb k.p2 0 e, e))
    (λ o. let one : k.p2 ≡ 1 = omega (arith, o, l) in rw (ne_eqb k.p2 0 o, one))

-- ---- a credential that is set
-- credential n of a card is then this, and all else is as it was
record Put (c x : Card) (n : ℕ) (value : List ℕ) (left right : ℕ) : Type 0 where
  directory-is : x.directory ≡ c.directory
  folder-is : x.session.folder ≡ c.session.folder
  current-is : x.session.current ≡ c.session.current
  value-is : value_no x n ≡ value
  left_is : left_no x n ≡ left
  limit_is : limit_no x n ≡ limit_no c n
  right_is : right_no x n ≡ right
  others : (m : ℕ) → (m ≡ n → ⊥) → (credential_no x m ≡ credential_no c m) × (right_no x m ≡ right_no c m)

credited : (c : Card) (area : List ℕ) (sw n : ℕ) (x : Card) (value : List ℕ) (left right : ℕ) (s : Stepped) → Settled c area (answered sw x) s → Put c x n value left right
    → Credited c area sw n value left right s
unfolding part splice
credited c area sw n x value left right s q w = record {
  says = q.says;
  value-is = rw q.credentials-are w.value-is;
  left_is = rw q.credentials-are w.left_is;
  limit_is = rw q.credentials-are w.limit_is;
  right_is = rw q.rights-are w.right_is;
  others = λ m o. (rw q.credentials-are (w.others m o).0, rw q.rights-are (w.others m o).1);
  directory-is = q.directory-is ∙ w.directory-is;
  area-is = q.area-is;
  folder-is = q.folder-is ∙ w.folder-is;
  current-is = q.current-is ∙ w.current-is;
  challenge-is = q.challenge-is;
}

module _ (c : Card) (g : Good c) (n : ℕ) (low : n < 3) where
  in-credentials : n < length c.credentials
  in-credentials = omega (arith, low, g.all_there)

  in-rights : n < length c.session.rights
  in-rights = omega (arith, low, g.all-kept)

  -- tries and right
  put-login : (t : Tries) (h : Bool) → t.limit ≡ limit_no c n → Put c (with_login_at n c t h) n (value_no c n) t.left (mark h)
  put-login t h e =
      let same = get_or-set_same c.credentials n (with_tries (credential c n) t) no_credential in-credentials in
      record {
        directory-is = refl;
        folder-is = refl;
        current-is = refl;
        value-is = ap (λ (x : Credential). take x.len x.value) same;
        left_is = ap (λ (x : Credential). x.tries.left) same;
        limit_is = ap (λ (x : Credential). x.tries.limit) same ∙ e;
        right_is = get_or-set_same c.session.rights n (mark h) 0 in-rights;
        others = λ m o. (get_or-set_other c.credentials n m (with_tries (credential c n) t) no_credential o, get_or-set_other c.session.rights n m (mark h) 0 o);
      }

  -- the value
  put-value : (d : List ℕ) → Put c (with_value_at n c d) n d (left_no c n) (right_no c n)
  put-value d =
      let same = get_or-set_same c.credentials n (credential_of d (credential c n).tries) no_credential in-credentials in
      record {
        directory-is = refl;
        folder-is = refl;
        current-is = refl;
        value-is = ap (λ (x : Credential). take x.len x.value) same ∙ filled-back d;
        left_is = ap (λ (x : Credential). x.tries.left) same;
        limit_is = ap (λ (x : Credential). x.tries.limit) same;
        right_is = refl;
        others = λ m o. (get_or-set_other c.credentials n m (credential_of d (credential c n).tries) no_credential o, refl);
      }

  -- both
  put_both : (d : List ℕ) (t : Tries) (h : Bool) → t.limit ≡ limit_no c n → Put c (with_login_at n (with_value_at n c d) t h) n d t.left (mark h)
  put_both d t h e =
      let v = credential_of d (credential c n).tries in
      let first-set = get_or-set_same c.credentials n v no_credential in-credentials in
      let same = get_or-set_same (set c.credentials n v) n (with_tries (get_or (set c.credentials n v) n no_credential) t) no_credential (rw (length-set c.credentials n v) in-credentials) in
      record {
        directory-is = refl;
        folder-is = refl;
        current-is = refl;
        value-is = ap (λ (x : Credential). take x.len x.value) same ∙ ap (λ (x : Credential). take x.len x.value) first-set ∙ filled-back d;
        left_is = ap (λ (x : Credential). x.tries.left) same;
        limit_is = ap (λ (x : Credential). x.tries.limit) same ∙ e;
        right_is = get_or-set_same c.session.rights n (mark h) 0 in-rights;
        others = λ m o. (
          get_or-set_other (set c.credentials n v) n m (with_tries (get_or (set c.credentials n v) n no_credential) t) no_credential o
              ∙ get_or-set_other c.credentials n m v no_credential o,
          get_or-set_other c.session.rights n m (mark h) 0 o,
        );
      }

-- ---- the comparison
compared-equal : (n : ℕ) (c : Card) (a b : List ℕ) → a ≡ b → compared_at n c (same a b) ≡ answered 0x9000 (with_login_at n c (restored (login_at n c).tries) true)
unfolding compared_at
compared-equal n c a b e = rw (equal-same a b e)

compared-unequal : (n : ℕ) (c : Card) (a b : List ℕ) → (a ≡ b → ⊥)
    → compared_at n c (same a b) ≡ answered (count_sw (lowered (login_at n c).tries).left) (with_login_at n c (lowered (login_at n c).tries) false)
unfolding compared_at
compared-unequal n c a b o = go (same a b) refl
  where
    go : (t : Bool) → same a b ≡ t
        → cond t (answered 0x9000 (with_login_at n c (restored (login_at n c).tries) true)) (answered (count_sw (lowered (login_at n c).tries).left) (with_login_at n c (lowered (login_at n c).tries) false))
        ≡ answered (count_sw (lowered (login_at n c).tries).left) (with_login_at n c (lowered (login_at n c).tries) false)
    go true e = absurd (o (same-equal a b e))
    go false e = refl

compares : (c : Card) (area random cmd : List ℕ) (s : Stepped) → sound c area ≡ true → (n : ℕ) → n < 3 → (expected : List ℕ)
    → Settled c area (compared_at n c (same expected (framed cmd).given)) s → Compared c area random cmd s n expected
compares c area random cmd s h n low expected q = record {
  equal = λ e.
      credited c area 0x9000 n _ (value_no c n) (limit_no c n) 1 s (subst (λ (x : Effect). Settled c area x s) (compared-equal n c expected (framed cmd).given e) q)
      (put-login c (sound-good c area h) n low (restored (login_at n c).tries) true refl);
  unequal = λ o.
      subst (λ w. Credited c area w n (value_no c n) (left_no c n - 1) 0 s) (counted_is (left_no c n - 1))
      (credited c area (count_sw (left_no c n - 1)) n _ (value_no c n) (left_no c n - 1) 0 s (subst (λ (x : Effect). Settled c area x s) (compared-unequal n c expected (framed cmd).given o) q)
      (put-login c (sound-good c area h) n low (lowered (login_at n c).tries) false refl));
}

-- ---- VERIFY
module _ (c : Card) (area cmd random : List ℕ) (r : Runs c area cmd random Verify) where
  abbrev k : Command
  k = framed cmd

  abbrev s : Stepped
  s = step c area cmd random

  verify-word : word Verify c area (framed cmd) ≡ first (verify_checks (logins c) (framed cmd))
  unfolding checks rule
  verify-word = refl

  -- without data
  query-left : (framed cmd).case ≡ 1 → word Verify c area (framed cmd) ≡ 0x9000 → Left c area 0x9000 [] c.session.current [] (step c area cmd random)
  unfolding effect_of rule part
  query-left one e =
      quiet c area 0x9000 c.session.current [] 0 0 [] (step c area cmd random) (rw (eq-eqb (framed cmd).case 1 one) at (serves r e)) refl

  queries : (n : ℕ) → (framed cmd).case ≡ 1 → word Verify c area (framed cmd) ≡ query_sw (login_at n c) → Queried c area random cmd (step c area cmd random) n
  queries n one e = record {
    held = λ h. query-left one (e ∙ rw (eq-eqb (right_no c n) 1 h));
    blocked = λ o z. refuses r 0x6983 (λ y. omega (arith, y)) (e ∙ rw (ne_eqb (right_no c n) 1 o, eq-eqb (left_no c n) 0 z));
    tries = λ o l.
        subst (λ v. Refused c area v (step c area cmd random)) (counted_is (left_no c n))
        (refuses r (count_sw (left_no c n)) (not-9000 (left_no c n)) (e ∙ rw (ne_eqb (right_no c n) 1 o, ne_eqb (left_no c n) 0 (λ z. omega (arith, z, l)))));
  }

  -- with data
  presented : (framed cmd).case ≡ 3 → word Verify c area (framed cmd) ≡ 0x9000
      → Settled c area (compared_at (number_of (pin_named (framed cmd))) c (same (value_no c (number_of (pin_named (framed cmd)))) (framed cmd).given)) (step c area cmd random)
  unfolding effect_of rule
  presented three e = rw (ne_eqb (framed cmd).case 1 (λ z. omega (arith, z, three))) at (serves r e)

  presents-pin : (n : ℕ) → number_of (pin_named (framed cmd)) ≡ n → n < 3 → (framed cmd).case ≡ 3
      → Rest (word Verify c area (framed cmd)) (tries_sw (login_at n c) ∷ digits_sw (framed cmd) ∷ [])
      → answers.Asks c area random cmd (step c area cmd random) (1 ≤ left_no c n) 0x6983
      (answers.Asks c area random cmd (step c area cmd random) (Digits (framed cmd).given) 0x6A80 (Compared c area random cmd (step c area cmd random) n (value_no c n)))
  presents-pin n q low three e =
      check r (not (is_zero (left_no c n))) 0x6983 _ (some_to (left_no c n)) (to_some (left_no c n)) refl e (λ some e1.
      check r (all_of digit k.given) 0x6A80 [] (digits-to k.given) (to-digits k.given) refl e1 (λ d e2.
      compares c area random cmd s r.card-sound n low (value_no c n)
      (subst (λ m. Settled c area (compared_at m c (same (value_no c m) k.given)) s) q (presented three e2.is))))

  -- one or the other, by the case
  abbrev named : ℕ
  named = cond (eqb (framed cmd).case 1) (query_sw (login (pin_named (framed cmd)) c)) (first (tries_sw (login (pin_named (framed cmd)) c) ∷ digits_sw (framed cmd) ∷ []))

  by-case : (framed cmd).p2 ≤ 1 → Rest (word Verify c area (framed cmd)) (named ∷ [])
      → ((framed cmd).case ≡ 1 → Queried c area random cmd (step c area cmd random) ((framed cmd).p2 + 1))
      × ((framed cmd).case ≡ 3
      → answers.Asks c area random cmd (step c area cmd random) (1 ≤ left_no c ((framed cmd).p2 + 1)) 0x6983
      (answers.Asks c area random cmd (step c area cmd random) (Digits (framed cmd).given) 0x6A80
      (Compared c area random cmd (step c area cmd random) ((framed cmd).p2 + 1) (value_no c ((framed cmd).p2 + 1)))))
  by-case low e =
      let pin = pin-number (framed cmd) low in
      let query : (framed cmd).case ≡ 1 → named ≡ query_sw (login_at ((framed cmd).p2 + 1) c) = λ one. rw (eq-eqb (framed cmd).case 1 one, pin) in
      let given : (framed cmd).case ≡ 3 → named ≡ first (tries_sw (login_at ((framed cmd).p2 + 1) c) ∷ digits_sw (framed cmd) ∷ []) =
      λ three. rw (ne_eqb (framed cmd).case 1 (λ y. omega (arith, y, three)), pin) in (
        λ one. queries ((framed cmd).p2 + 1) one (e.is ∙ query one),
        λ three. presents-pin ((framed cmd).p2 + 1) pin (omega (arith, low)) three (record { is = e.is ∙ given three }),
      )

  verifies : answers.Verify c area random cmd (step c area cmd random)
  unfolding verify_checks
  verifies =
      check r (eqb k.p1 0x00 && leb k.p2 0x01) 0x6A86 _
      (λ t. let q = both (eqb k.p1 0x00) (leb k.p2 0x01) t in (eqb-true _ _ q.0, leb-true _ _ q.1))
      (λ q. join (eq-eqb _ _ q.0) (le-leb k.p2 0x01 q.1)) refl (record { is = verify-word }) (λ q e1.
      check r (eqb k.case 1 || pin_given k) 0x6700 (named ∷ [])
      (λ t. one_of (eqb k.case 1) (pin_given k) t (λ z. inl (eqb-true _ _ z)) (λ z. inr (given_to k z)))
      (⊎_elim (λ z. rw (eq-eqb _ _ z)) (λ z. either (eqb k.case 1) (to-given k z))) refl e1 (λ z e2. by-case q.1 e2))

pub verify-answers : VerifyAnswers
unfolding find rows kept rule
verify-answers = by_name 0x00 0x20 answers.Verify Verify (inl refl) refl refl (λ c k. refl) verifies

-- a right is held
held_to : (n : ℕ) → marked n ≡ true → n ≡ 1
held_to n h = eqb-true n 1 h

-- ---- CHANGE PIN
module _ (c : Card) (area cmd random : List ℕ) (r : Runs c area cmd random ChangePin) where
  change-word : word ChangePin c area (framed cmd) ≡ first (change_checks (logins c) (framed cmd))
  unfolding checks rule
  change-word = refl

  changed : word ChangePin c area (framed cmd) ≡ 0x9000
      → Settled c area (answered 0x9000 (with_value_at (number_of (pin_named (framed cmd))) c (framed cmd).given)) (step c area cmd random)
  unfolding effect_of rule
  changed e = serves r e

  changes-pin : (n : ℕ) → number_of (pin_named (framed cmd)) ≡ n → n < 3
      → Rest (word ChangePin c area (framed cmd)) (unless (pin_given (framed cmd)) 0x6700 ∷ held_sw (login_at (number_of (pin_named (framed cmd))) c) ∷ digits_sw (framed cmd) ∷ [])
      → answers.Asks c area random cmd (step c area cmd random) (((framed cmd).case ≡ 3) × (6 ≤ length (framed cmd).given) × (length (framed cmd).given ≤ 16)) 0x6700
      (answers.Asks c area random cmd (step c area cmd random) (right_no c n ≡ 1) 0x6982
      (answers.Asks c area random cmd (step c area cmd random) (Digits (framed cmd).given) 0x6A80
      (Credited c area 0x9000 n (framed cmd).given (left_no c n) (right_no c n) (step c area cmd random))))
  changes-pin n q low e =
      check r (pin_given (framed cmd)) 0x6700 (held_sw (login_at n c) ∷ digits_sw (framed cmd) ∷ []) (given_to (framed cmd)) (to-given (framed cmd)) refl
      (subst (λ m. Rest (word ChangePin c area (framed cmd)) (unless (pin_given (framed cmd)) 0x6700 ∷ held_sw (login_at m c) ∷ digits_sw (framed cmd) ∷ [])) q e) (λ z e1.
      check r (marked (right_no c n)) 0x6982 _ (held_to (right_no c n)) (eq-eqb (right_no c n) 1) refl e1 (λ h e2.
      check r (all_of digit (framed cmd).given) 0x6A80 [] (digits-to (framed cmd).given) (to-digits (framed cmd).given) refl e2 (λ d e3.
      credited c area 0x9000 n _ (framed cmd).given (left_no c n) (right_no c n) (step c area cmd random)
      (subst (λ m. Settled c area (answered 0x9000 (with_value_at m c (framed cmd).given)) (step c area cmd random)) q (changed e3.is))
      (put-value c (sound-good c area r.card-sound) n low (framed cmd).given))))

  changing : answers.ChangePin c area random cmd (step c area cmd random)
  unfolding change_checks
  changing =
      check r (eqb (framed cmd).p1 0x01 && leb (framed cmd).p2 0x01) 0x6A86 _
      (λ t. let q = both (eqb (framed cmd).p1 0x01) (leb (framed cmd).p2 0x01) t in (eqb-true _ _ q.0, leb-true _ _ q.1))
      (λ q. join (eq-eqb _ _ q.0) (le-leb (framed cmd).p2 0x01 q.1)) refl (record { is = change-word })
      (λ q e1. changes-pin ((framed cmd).p2 + 1) (pin-number (framed cmd) q.1) (omega (arith, q.1)) e1)

pub change-pin-answers : ChangePinAnswers
unfolding find rows kept rule
change-pin-answers = by_name 0x00 0x24 answers.ChangePin ChangePin (inl refl) refl refl (λ c k. refl) changing

-- ---- RELOAD PIN
module _ (c : Card) (area cmd random : List ℕ) (r : Runs c area cmd random ReloadPin) where
  reload-word : word ReloadPin c area (framed cmd) ≡ first (reload_checks (logins c) (framed cmd))
  unfolding checks rule
  reload-word = refl

  reloaded : word ReloadPin c area (framed cmd) ≡ 0x9000
      → Settled c area (answered 0x9000 (with_login_at 2 (with_value_at 2 c (framed cmd).given) (restored (login_at 2 c).tries) false)) (step c area cmd random)
  unfolding effect_of rule
  reloaded e = serves r e

  reloading : answers.ReloadPin c area random cmd (step c area cmd random)
  unfolding reload_checks
  reloading =
      check r (eqb (p (framed cmd)) 0x0201) 0x6A86 _ (eqb-true _ _) (eq-eqb _ _) refl (record { is = reload-word }) (λ z e1.
      check r (pin_given (framed cmd)) 0x6700 _ (given_to (framed cmd)) (to-given (framed cmd)) refl e1 (λ y e2.
      check r (marked (right_no c 1)) 0x6982 _ (held_to (right_no c 1)) (eq-eqb (right_no c 1) 1) refl e2 (λ h e3.
      check r (all_of digit (framed cmd).given) 0x6A80 [] (digits-to (framed cmd).given) (to-digits (framed cmd).given) refl e3 (λ d e4.
      credited c area 0x9000 2 _ (framed cmd).given (limit_no c 2) 0 (step c area cmd random) (reloaded e4.is)
      (put_both c (sound-good c area r.card-sound) 2 (omega arith) (framed cmd).given (restored (login_at 2 c).tries) false refl)))))

pub reload-pin-answers : ReloadPinAnswers
unfolding find rows kept rule
reload-pin-answers = by_name 0x00 0x2C answers.ReloadPin ReloadPin (inl refl) refl refl (λ c k. refl) reloading

-- ---- EXTERNAL AUTHENTICATE
-- a challenge is as long as it says
pub challenge-long : (c : Card) (area : List ℕ) → sound c area ≡ true → length (challenge c) ≡ c.session.len
unfolding sound_challenge
challenge-long c area h =
    let e = each (eqb (length c.session.challenge) 16 ∷ (is_zero c.session.len || good_challenge c.session.len) ∷ all_of is_zero (drop c.session.len c.session.challenge) ∷ [])
    (sound-good c area h).challenge in
    let long : length c.session.challenge ≡ 16 = eqb-true _ _ e.0 in
    let few = said-short c.session.len e.1.0 in
    length-take-le c.session.len c.session.challenge (omega (arith, long, few))

module _ (c : Card) (area cmd random : List ℕ) (r : Runs c area cmd random Authenticate) where
  authenticate-word : word Authenticate c area (framed cmd) ≡ first (authenticate_checks (logins c) (challenge c) (framed cmd))
  unfolding checks rule
  authenticate-word = refl

  abbrev expected : List ℕ
  expected = answers.cryptogram c area random cmd (step c area cmd random)

  expected-is : cryptogram (value_no c 0) (challenge c) ≡ expected
  expected-is = cryptogram-is (value_no c 0) (challenge c) ∙ ap (λ n. aes128 (value_no c 0) (challenge c ++ replicate (16 - n) 0)) (challenge-long c area r.card-sound)

  shown-key : word Authenticate c area (framed cmd) ≡ 0x9000 → Settled c area (compared_at 0 c (same (cryptogram (value_no c 0) (challenge c)) (framed cmd).given)) (step c area cmd random)
  unfolding effect_of rule
  shown-key e = serves r e

  authenticating : answers.Authenticate c area random cmd (step c area cmd random)
  unfolding authenticate_checks
  authenticating =
      let long = challenge-long c area r.card-sound in
      check r (eqb (p (framed cmd)) 0x0000) 0x6A86 _ (eqb-true _ _) (eq-eqb _ _) refl (record { is = authenticate-word }) (λ z e1.
      check r (eqb (framed cmd).case 3 && eqb (lc (framed cmd)) 16) 0x6700 _
      (λ t. let q = both (eqb (framed cmd).case 3) (eqb (lc (framed cmd)) 16) t in (eqb-true _ _ q.0, eqb-true _ _ q.1)) (λ q. join (eq-eqb _ _ q.0) (eq-eqb _ _ q.1))
      refl e1 (λ q e2.
      check r (not (is_zero (left_no c 0))) 0x6983 _ (some_to (left_no c 0)) (to_some (left_no c 0)) refl e2 (λ some e3.
      check r (not (is_zero (length (challenge c)))) 0x6984 [] (λ t. subst (λ n. 1 ≤ n) long (some_to _ t)) (λ l. to_some _ (subst (λ n. 1 ≤ n) (sym long) l))
      refl e3 (λ ch e4.
      compares c area random cmd (step c area cmd random) r.card-sound 0 (omega arith) expected
      (subst (λ (d : List ℕ). Settled c area (compared_at 0 c (same d (framed cmd).given)) (step c area cmd random)) expected-is (shown-key e4.is))))))

pub authenticate-answers : AuthenticateAnswers
unfolding find rows kept rule
authenticate-answers = by_name 0x00 0x82 answers.Authenticate Authenticate (inl refl) refl refl (λ c k. refl) authenticating

-- ---- GET CHALLENGE
-- 4, 8 or 16 bytes
pub le-to : (n : ℕ) → good_challenge n ≡ true → (n ≡ 4) ⊎ ((n ≡ 8) ⊎ (n ≡ 16))
le-to n h =
    one_of (eqb n 4) (eqb n 8 || eqb n 16) h (λ e. inl (eqb-true _ _ e))
    (λ q. inr (one_of (eqb n 8) (eqb n 16) q (λ e. inl (eqb-true _ _ e)) (λ e. inr (eqb-true _ _ e))))

pub to_le : (n : ℕ) → (n ≡ 4) ⊎ ((n ≡ 8) ⊎ (n ≡ 16)) → good_challenge n ≡ true
to_le n = ⊎_elim (λ e. rw e) (⊎_elim (λ e. rw e) (λ e. rw e))

module _ (c : Card) (area cmd random : List ℕ) (r : Runs c area cmd random GetChallenge) where
  challenge-word : word GetChallenge c area (framed cmd) ≡ first (get_challenge_checks (framed cmd))
  unfolding checks rule
  challenge-word = refl

  said : word GetChallenge c area (framed cmd) ≡ 0x9000
      → Left c area 0x9000 (take (framed cmd).le random) c.session.current (take (framed cmd).le random) (step c area cmd random)
  unfolding effect_of rule part
  said e =
      quiet c area 0x9000 c.session.current (take (framed cmd).le random) 0 0 (take (framed cmd).le random) (step c area cmd random) (serves r e)
      (append-nil (take (framed cmd).le random))

  challenging : answers.GetChallenge c area random cmd (step c area cmd random)
  unfolding get_challenge_checks
  challenging =
      check r (eqb (p (framed cmd)) 0x0000) 0x6A86 _ (eqb-true _ _) (eq-eqb _ _) refl (record { is = challenge-word }) (λ z e1.
      check r (eqb (framed cmd).case 2 && good_challenge (framed cmd).le) 0x6700 []
      (λ t. let q = both (eqb (framed cmd).case 2) (good_challenge (framed cmd).le) t in (eqb-true _ _ q.0, le-to (framed cmd).le q.1))
      (λ q. join (eq-eqb _ _ q.0) (to_le (framed cmd).le q.1)) refl e1 (λ q e2. said e2.is))

pub get-challenge-answers : GetChallengeAnswers
unfolding find rows kept rule
get-challenge-answers = by_name 0x00 0x84 answers.GetChallenge GetChallenge (inl refl) refl refl (λ c k. refl) challenging
