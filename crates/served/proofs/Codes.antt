-- Codes on the bus: P and case, the code, and the card that it leaves to the file's checks.
use Prim.Native.Nat.{ℕ, ◌-◌, ◌/◌, ◌%◌, ◌≤◌}
use mathlib.Core.Bool.{Bool, true, false, ◌&&◌, ◌||◌, not}
use mathlib.Core.List.{List, [], ◌∷◌, ◌++◌}
use mathlib.Core.Logic.{by_cases}
use mathlib.Core.Path.{◌≡◌, refl, sym, ap, ◌∙◌, subst}
use native.Mathlib.Decide.{ℕ_discrete}
use native.Mathlib.Omega.{arith}
use lib.Dec.{eqb}
use lib.ListN.{length, set}
use borrow.Author.Tests.{eqb-true, eqb-false, eq-eqb, ne_eqb, not-true}
use Rattle.files.specs.declared.Directory.{Directory}
use Rattle.files.specs.declared.Located.{Located}
use Rattle.files.specs.Words.{is_zero}
use Rattle.files.specs.Rights.{asks_code}
use Rattle.files.proofs.Checks.{clash, split}
use Rattle.files.proofs.Kept.{PartedIn}
use Rattle.rules.specs.declared.Card.{Card}
use Rattle.rules.specs.declared.Credential.{Credential}
use Rattle.rules.specs.declared.Ins.{Ins}
use Rattle.rules.specs.Words.{unless, or_else, first}
use Rattle.rules.specs.State.{transport, login, logins, challenge, credential, with_credentials}
use Rattle.rules.specs.Sound.{sound}
use Rattle.rules.specs.Frame.{Command, framed, coded}
use Rattle.rules.specs.Effect.{Deed}
use Rattle.rules.specs.Pins.{tries_sw}
use Rattle.rules.specs.Device.{challenge_sw}
use Rattle.rules.specs.Code.{expected, agrees, code_sw, presents_code, key_after, credentials_after, after_code}
use Rattle.rules.specs.Record.{record_found}
use Rattle.rules.specs.List.{of_contents, rule}
use Rattle.rules.specs.Step.{checks, effect_of, kept, did, step}
use Rattle.rules.proofs.Checks.{one_of, either}
use Rattle.rules.proofs.Good.{Good, tried-in, keyed, no-right, sound-good, sound-parted, sound-both}
use Rattle.rules.proofs.Equal.{same-equal, equal-same}
use Rattle.rules.proofs.Coded.{coded-good}
use Rattle.demands.specs.Ledger.{lc_sent, code_sent, code_of}
use Rattle.demands.specs.Held.{value_no, left_no, limit_no, AsksCode}
use Rattle.demands.proofs.Coding.{code-of-bytes}
use Rattle.served.specs.Left.{with_key_tries, Ask, Refused}
use Rattle.served.specs.Answers.{WithCode, CodeAgrees, AsksContents}
use Rattle.served.proofs.Steps.{first_after, first_stops, word, effect_in, checks-by, Checked, refuses, Sends, checked}
use Rattle.served.proofs.Credentials.{some_to, to_some, challenge-long}

-- ---- the comparison, in a command that counts four bytes or more
module _ (cmd : List ℕ) (with_code : (framed cmd).cla ≡ 0x04) (long : 4 ≤ lc_sent cmd) (c : Card) where
  by_bytes : (expected (logins c) (challenge c) (framed cmd) ≡ code_of (value_no c 3) (challenge c) cmd) × ((framed cmd).code ≡ code_sent cmd)
  unfolding framed
  by_bytes = code-of-bytes (logins c) (challenge c) cmd with_code long

  pub agrees-to : agrees (logins c) (challenge c) (framed cmd) ≡ true → CodeAgrees c cmd
  agrees-to h = sym by_bytes.0 ∙ same-equal _ _ h ∙ by_bytes.1

  pub to-agrees : CodeAgrees c cmd → agrees (logins c) (challenge c) (framed cmd) ≡ true
  to-agrees e = equal-same _ _ (by_bytes.0 ∙ e ∙ sym by_bytes.1)

-- ---- a code where a file's right asks for one
pub code-to : (cmd : List ℕ) (right : ℕ) → (not (asks_code right) || coded (framed cmd)) ≡ true → AsksCode right → WithCode cmd
code-to cmd right h a =
    one_of (not (asks_code right)) (coded (framed cmd)) h
    (λ z. absurd (clash (asks_code right) (rw (ne_eqb (right / 4 % 2) 0 (λ y. omega (arith, y, a.bit-set)))) (not-true (asks_code right) z))) (λ z. eqb-true _ _ z)

pub to-code : (cmd : List ℕ) (right : ℕ) → (right ≡ 0x0F → ⊥) → (AsksCode right → WithCode cmd) → (not (asks_code right) || coded (framed cmd)) ≡ true
to-code cmd right o f =
    by_cases (ℕ_discrete (right / 4 % 2) 0) (λ z. rw (eq-eqb (right / 4 % 2) 0 z))
    (λ n. either (not (asks_code right)) (eq-eqb _ _ (f (record { bit-set = omega (arith, n); has-bits = o }))))

-- ---- a sound card with other tries of the transport key
module _ (c : Card) (area : List ℕ) (h : sound c area ≡ true) where
  pub key-few : left_no c 3 ≤ limit_no c 3
  key-few = (tried-in c (sound-good c area h) transport).few

  pub tries-sound : (n : ℕ) → n ≤ limit_no c 3 → sound (with_key_tries c n) area ≡ true
  tries-sound n l =
      let g = sound-good c area h in
      sound-both (with_key_tries c n) area
      (keyed c g transport (record { left = n; limit = limit_no c 3 }) (record { limit = (tried-in c g transport).limit; few = l; full = rw (no-right c g) }))
      (sound-parted c area h)

-- ---- checks in a row: a first part that fails gives the word, and one that passes lets the rest speak
pub first-fails : (l more : List ℕ) (sw : ℕ) → (sw ≡ 0x9000 → ⊥) → first l ≡ sw → first (l ++ more) ≡ sw
unfolding or_else
first-fails [] more sw o e = absurd (o (sym e))
first-fails (a ∷ []) more sw o e = first_stops a more (λ z. o (sym e ∙ z)) ∙ e
first-fails (a ∷ b ∷ l) more sw o e =
    split (λ n. n ≡ sw → first ((a ∷ b ∷ l) ++ more) ≡ sw) (eqb a 0x9000)
    (λ t q. rw t (first-fails (b ∷ l) more sw o q)) (λ t q. rw t q) e

pub first_passes : (l more : List ℕ) → first l ≡ 0x9000 → first (l ++ more) ≡ first more
unfolding or_else
first_passes [] more e = refl
first_passes (a ∷ []) more e = first_after a more e
first_passes (a ∷ b ∷ l) more e =
    split (λ n. n ≡ 0x9000 → first ((a ∷ b ∷ l) ++ more) ≡ first more) (eqb a 0x9000)
    (λ t q. rw t (first_passes (b ∷ l) more q)) (λ t q. absurd (eqb-false a 0x9000 t q)) e

-- ---- what the five have in common: f is P and case, t the file's checks and d what is done
module _ {c : Card} {area cmd random : List ℕ} {i : Ins} (r : Sends c area cmd random i) (f : Command → List ℕ) (t : Card → Located → Command → List ℕ)
    (d : Card → Located → Command → Deed) (is : rule i ≡ of_contents f t d) where
  abbrev k : Command
  k = framed cmd

  abbrev l : Located
  l = record_found c area (framed cmd)

  -- a try left and a challenge
  abbrev pub tried : List ℕ
  tried = tries_sw (login transport c) ∷ challenge_sw (challenge c) ∷ []

  word-is : word i c area (framed cmd) ≡ first (first (f (framed cmd)) ∷ code_sw (logins c) (challenge c) (framed cmd) ∷ t c (record_found c area (framed cmd)) (framed cmd))
  unfolding checks
  word-is = rw is

  pub kept-is : kept i c (framed cmd) ≡ after_code (f (framed cmd)) c (framed cmd)
  unfolding kept
  kept-is = rw is

  pub effect_is : effect_in i c area (framed cmd) random ≡ did (after_code (f (framed cmd)) c (framed cmd)) (d c (record_found c area (framed cmd)) (framed cmd))
  unfolding effect_of
  effect_is = rw is

  presents-is : presents_code (f (framed cmd)) (logins c) (challenge c) (framed cmd) ≡ (coded (framed cmd) && eqb (first (first (f (framed cmd)) ∷ tried)) 0x9000)
  unfolding presents_code or_else
  presents-is = rw (ne_eqb (framed cmd).case 0 r.good-frame, r.good-class)

  -- no code is presented
  none_left : presents_code (f (framed cmd)) (logins c) (challenge c) (framed cmd) ≡ false → after_code (f (framed cmd)) c (framed cmd) ≡ c
  unfolding credentials_after
  none_left e = ap (with_credentials c) (rw e)

  pub uncoded-left : (WithCode cmd → ⊥) → after_code (f (framed cmd)) c (framed cmd) ≡ c
  uncoded-left o = none_left (presents-is ∙ rw (ne_eqb (framed cmd).cla 0x04 o))

  pub stopped-left : (sw : ℕ) → (sw ≡ 0x9000 → ⊥) → first (first (f (framed cmd)) ∷ tried) ≡ sw → after_code (f (framed cmd)) c (framed cmd) ≡ c
  stopped-left sw o e = none_left (presents-is ∙ rw (e, ne_eqb sw 0x9000 o) (go (coded (framed cmd))))
    where
      go : (b : Bool) → (b && false) ≡ false
      go true = refl
      go false = refl

  -- one is, and is right or wrong
  pub compared-left : (right : Bool) → WithCode cmd → first (first (f (framed cmd)) ∷ tried) ≡ 0x9000 → agrees (logins c) (challenge c) (framed cmd) ≡ right
      → after_code (f (framed cmd)) c (framed cmd) ≡ with_credentials c (set c.credentials 3 (key_after (credential c 3) right))
  unfolding credentials_after
  compared-left right w e a =
      let p : presents_code (f (framed cmd)) (logins c) (challenge c) (framed cmd) ≡ true = presents-is ∙ rw (e, eq-eqb (framed cmd).cla 0x04 w) in
      ap (with_credentials c) (rw (p, a))

  left-sound : (x : Card) → after_code (f (framed cmd)) c (framed cmd) ≡ x → x.directory ≡ c.directory → sound x area ≡ true
  left-sound x e q =
      sound-both x area (subst Good e (coded-good c (sound-good c area r.card-sound) (f (framed cmd)) (framed cmd)))
      (subst (λ (y : Directory). PartedIn y area) (sym q) (sound-parted c area r.card-sound))

  -- the checks from a word on, on the card that is left
  from-word : (x : Card) (w : ℕ) → after_code (f (framed cmd)) c (framed cmd) ≡ x → x.response ≡ c.response → x.directory ≡ c.directory → word i c area (framed cmd) ≡ w
      → Checked x area w (did x (d c (record_found c area (framed cmd)) (framed cmd))) (step c area cmd random)
  from-word x w e m q p =
      checked r x w (did x (d c l k)) (kept-is ∙ e) m (left-sound x e q) p (effect_is ∙ ap (λ (y : Card). did y (d c l k)) e)

  -- refused at P or case
  pub front-refuses : (sw : ℕ) → (sw ≡ 0x9000 → ⊥) → first (f (framed cmd)) ≡ sw → Refused c area sw (step c area cmd random)
  front-refuses sw o e =
      let stop : first (first (f k) ∷ tried) ≡ sw = first_stops (first (f k)) tried (λ z. o (sym e ∙ z)) ∙ e in
      refuses (from-word c (word i c area k) (stopped-left sw o stop) refl refl refl) sw o
      (word-is ∙ first_stops (first (f k)) (code_sw (logins c) (challenge c) k ∷ t c l k) (λ z. o (sym e ∙ z)) ∙ e)

  module _ (passed : first (f (framed cmd)) ≡ 0x9000) where
    word_on : word i c area (framed cmd) ≡ first (code_sw (logins c) (challenge c) (framed cmd) ∷ t c (record_found c area (framed cmd)) (framed cmd))
    word_on = word-is ∙ first_after (first (f k)) (code_sw (logins c) (challenge c) k ∷ t c l k) passed

    tried-on : first (first (f (framed cmd)) ∷ tried) ≡ first tried
    tried-on = first_after (first (f k)) tried passed

    -- no code
    pub uncoded : (WithCode cmd → ⊥)
        → Checked c area (first (t c (record_found c area (framed cmd)) (framed cmd))) (did c (d c (record_found c area (framed cmd)) (framed cmd))) (step c area cmd random)
    unfolding code_sw
    uncoded o =
        let none : code_sw (logins c) (challenge c) k ≡ 0x9000 = rw (ne_eqb (framed cmd).cla 0x04 o) in
        from-word c (first (t c l k)) (uncoded-left o) refl refl (word_on ∙ first_after (code_sw (logins c) (challenge c) k) (t c l k) none)

    module _ (w : WithCode cmd) where
      -- the checks of a code, in a row
      code_is : code_sw (logins c) (challenge c) (framed cmd) ≡ first (tried ++ (unless (agrees (logins c) (challenge c) (framed cmd)) 0x6988 ∷ []))
      unfolding code_sw
      code_is = rw (eq-eqb (framed cmd).cla 0x04 w)

      -- refused before the comparison
      pub tried-refuses : (sw : ℕ) → (sw ≡ 0x9000 → ⊥) → first tried ≡ sw → Refused c area sw (step c area cmd random)
      tried-refuses sw o e =
          let code : code_sw (logins c) (challenge c) k ≡ sw = code_is ∙ first-fails tried (unless (agrees (logins c) (challenge c) k) 0x6988 ∷ []) sw o e in
          refuses (from-word c (word i c area k) (stopped-left sw o (tried-on ∙ e)) refl refl refl) sw o
          (word_on ∙ first_stops _ (t c l k) (λ z. o (sym code ∙ z)) ∙ code)

      module _ (ready : first tried ≡ 0x9000) where
        compared : code_sw (logins c) (challenge c) (framed cmd) ≡ unless (agrees (logins c) (challenge c) (framed cmd)) 0x6988
        compared = code_is ∙ first_passes tried (unless (agrees (logins c) (challenge c) k) 0x6988 ∷ []) ready

        -- wrong
        pub wrong-refuses : agrees (logins c) (challenge c) (framed cmd) ≡ false → Refused (with_key_tries c (left_no c 3 - 1)) area 0x6988 (step c area cmd random)
        wrong-refuses a =
            let code : code_sw (logins c) (challenge c) k ≡ 0x6988 = compared ∙ rw a in
            refuses (from-word (with_key_tries c (left_no c 3 - 1)) (word i c area k) (compared-left false w (tried-on ∙ ready) a) refl refl refl) 0x6988 (λ y. omega (arith, y))
            (word_on ∙ first_stops _ (t c l k) (λ z. omega (arith, sym code ∙ z)) ∙ code)

        -- right
        pub right-goes-on : agrees (logins c) (challenge c) (framed cmd) ≡ true
            → Checked (with_key_tries c (limit_no c 3)) area (first (t c (record_found c area (framed cmd)) (framed cmd)))
            (did (with_key_tries c (limit_no c 3)) (d c (record_found c area (framed cmd)) (framed cmd))) (step c area cmd random)
        right-goes-on a =
            let code : code_sw (logins c) (challenge c) k ≡ 0x9000 = compared ∙ rw a in
            from-word (with_key_tries c (limit_no c 3)) (first (t c l k)) (compared-left true w (tried-on ∙ ready) a) refl refl (word_on ∙ first_after (code_sw (logins c) (challenge c) k) (t c l k) code)

  -- with a code, from what holds of the file's checks on the card that it leaves
  with_code : (Next : Type 0) → first (f (framed cmd)) ≡ 0x9000 → WithCode cmd → 4 ≤ lc_sent cmd
      → (Checked (with_key_tries c (limit_no c 3)) area (first (t c (record_found c area (framed cmd)) (framed cmd)))
      (did (with_key_tries c (limit_no c 3)) (d c (record_found c area (framed cmd)) (framed cmd))) (step c area cmd random) → Next)
      → Ask (λ v. Refused c area v (step c area cmd random)) (1 ≤ left_no c 3) 0x6983
      (Ask (λ v. Refused c area v (step c area cmd random)) (1 ≤ c.session.len) 0x6984
      (Ask (λ v. Refused (with_key_tries c (left_no c 3 - 1)) area v (step c area cmd random)) (CodeAgrees c cmd) 0x6988 Next))
  with_code Next passed w long next =
      let n = challenge-long c area r.card-sound in
      checks-by (not (is_zero (left_no c 3))) 0x6983 (challenge_sw (challenge c) ∷ []) (tried-refuses passed w) (some_to (left_no c 3)) (to_some (left_no c 3)) refl (record { is = refl }) (λ left e3.
      checks-by (not (is_zero (length (challenge c)))) 0x6984 [] (tried-refuses passed w) (λ y. rw n at (some_to (length (challenge c)) y)) (λ y. to_some (length (challenge c)) (rw n y)) refl e3
      (λ some e4. compares e4.is (agrees (logins c) (challenge c) (framed cmd)) refl))
    where
      compares : first tried ≡ 0x9000 → (right : Bool) → agrees (logins c) (challenge c) (framed cmd) ≡ right
          → Ask (λ v. Refused (with_key_tries c (left_no c 3 - 1)) area v (step c area cmd random)) (CodeAgrees c cmd) 0x6988 Next
      compares ready true a = (λ o. absurd (o (agrees-to cmd w long c a)), λ e. next (right-goes-on passed w ready a))
      compares ready false a = (λ o. wrong-refuses passed w ready a, λ e. clash _ (to-agrees cmd w long c e) a)

  -- the clauses whole: x is the card that the file's checks see
  pub contents : {P Case : Type 0} (Next : Card → Type 0) (a b : Bool) → f (framed cmd) ≡ unless a 0x6A86 ∷ unless b 0x6700 ∷ [] → (a ≡ true → P) → (P → a ≡ true) → (b ≡ true → Case)
      → (Case → b ≡ true) → (Case → WithCode cmd → 4 ≤ lc_sent cmd)
      → ((xs : List Credential) → P → Case
      → Checked (with_credentials c xs) area (first (t c (record_found c area (framed cmd)) (framed cmd))) (did (with_credentials c xs) (d c (record_found c area (framed cmd)) (framed cmd))) (step c area cmd random)
      → Next (with_credentials c xs))
      → AsksContents c area random cmd (step c area cmd random) P Case Next
  contents Next a b e p-to to-p case-to to-case long next =
      checks-by a 0x6A86 (unless b 0x6700 ∷ []) front-refuses p-to to-p refl (record { is = ap first e }) (λ p e1.
      checks-by b 0x6700 [] front-refuses case-to to-case refl e1 (λ q e2.
      (λ o. next c.credentials p q (uncoded e2.is o), λ w. with_code (Next (with_key_tries c (limit_no c 3))) e2.is w (long q w) (next (with_key_tries c (limit_no c 3)).credentials p q))))
