-- The transport key: what a code leaves of it, and that nothing else touches it.
use Prim.Native.Nat.{ℕ, ◌-◌, ◌≤◌}
use mathlib.Core.Bool.{Bool, true, false, cond, ◌&&◌, ◌||◌}
use mathlib.Core.List.{List, [], ◌∷◌, ◌++◌}
use mathlib.Core.Logic.{◌⊎◌, inl, inr, ⊎_elim, by_cases}
use mathlib.Core.Path.{◌≡◌, refl, sym, ap, ◌∙◌, subst}
use native.Mathlib.Decide.{ℕ_discrete}
use native.Mathlib.Omega.{arith}
use native.Mathlib.Nat.{le_of_eq}
use lib.Dec.{eqb, leb, ltb}
use lib.ListN.{length, take, get_or, set, get_or-eq_default}
use lib.Seq.{get_or-set_same, get_or-set_other}
use borrow.Author.Tests.{ne_eqb, leb-true}
use Rattle.files.specs.declared.Located.{Located}
use Rattle.files.specs.Words.{is_zero}
use Rattle.files.specs.Part.{part}
use Rattle.files.proofs.Checks.{clash, split}
use Rattle.rules.specs.declared.Card.{Card}
use Rattle.rules.specs.declared.Credential.{Credential}
use Rattle.rules.specs.declared.Ins.{Ins}
use Rattle.rules.specs.declared.Ins.TheVariants.{Select, ReadBinary, UpdateBinary, ReadRecord, UpdateRecord, AppendRecord, Verify, Authenticate, ChangePin, ReloadPin, CreateFile, GetChallenge, GetResponse, Unlisted}
use Rattle.rules.specs.Words.{unless, or_else, first, same}
use Rattle.rules.specs.Tries.{restored}
use Rattle.rules.specs.State.{admin, user, transport, number_of, no_credential, credential, login, logins, challenge, credential_of, with_tries, mode}
use Rattle.rules.specs.Sound.{sound}
use Rattle.rules.specs.Frame.{Command, framed, class_sw}
use Rattle.rules.specs.Effect.{Deed, turns, enters, shows, stores, appends, makes, founds, Touch, nothing, presents, changes, reloads, challenges, Effect, answers, Stepped}
use Rattle.rules.specs.Pins.{tries_sw, compared_at, pin_named}
use Rattle.rules.specs.Device.{challenge_sw, authenticate_touch}
use Rattle.rules.specs.Select.{select_deed}
use Rattle.rules.specs.Create.{create_deed}
use Rattle.rules.specs.Code.{agrees, after_code}
use Rattle.rules.specs.Binary.{by_sfi, read_binary_front, read_binary_checks, read_binary_deed, update_binary_front, update_binary_checks, update_binary_deed}
use Rattle.rules.specs.Record.{good_p2, record_found, read_record_front, read_record_checks, read_record_deed, update_record_front, update_record_checks, update_record_deed, append_front, append_checks, append_deed}
use Rattle.rules.specs.List.{listed, find, rows, is_get_response, of_contents, rule}
use Rattle.rules.specs.Response.{fetches}
use Rattle.rules.specs.Step.{checks, effect_of, kept, did, touched, outcome, step}
use Rattle.rules.proofs.Checks.{passed, holds, ruled-by}
use Rattle.rules.proofs.Good.{sound-good, responded}
use Rattle.demands.specs.Soundness.{Bytes}
use Rattle.demands.specs.Framing.{NamedBy}
use Rattle.demands.specs.Ledger.{lc_sent}
use Rattle.demands.proofs.Soundness.{step-sound}
use Rattle.demands.proofs.Framing.{listed-by-bytes}
use Rattle.demands.proofs.Delivered.{fetch-is, fetched-by}
use Rattle.demands.specs.Held.{credential_no, value_no, left_no, limit_no, right_no}
use Rattle.served.specs.Left.{Says, with_key_tries, Refused}
use Rattle.served.specs.Answers.{WithCode, CodeAgrees}
use Rattle.served.specs.Calls.{EndsWell}
use Rattle.served.specs.Transport.{InForm, read-binary, update-binary, read-record, update-record, append-record, Presents, KeyAfter, KeyByCodes}
use Rattle.served.proofs.Steps.{first_on, not-fetched, Checked, refuses, serves, settles, Sends}
use Rattle.served.proofs.Codes.{tries-sound, kept-is, effect_is, uncoded-left, stopped-left, compared-left, agrees-to, to-agrees, wrong-refuses, right-goes-on}
use Rattle.served.proofs.Frames.{read-test, read-to, to_read, read-four, write-test, write-to, to_write, write-four}
use Rattle.served.proofs.Binary.{p-to, to-p}
use Rattle.served.proofs.Records.{record-p, p-record}
use Rattle.served.proofs.Append.{append-p, p-append}
use Rattle.served.proofs.Unknown.{refused-by, good-class, deed-ends, unknown-answers}
use Rattle.served.proofs.Credentials.{some_to, to_some, challenge-long}

-- ---- deeds and touches
deed-keeps : (c : Card) (d : Deed) → ((did c d).card.credentials ≡ c.credentials) × ((did c d).card.session.rights ≡ c.session.rights)
deed-keeps c (turns place) = (refl, refl)
deed-keeps c (enters n) = (refl, refl)
deed-keeps c (shows place at n) = (refl, refl)
deed-keeps c (stores place at bytes) = (refl, refl)
deed-keeps c (appends place bytes) = (refl, refl)
deed-keeps c (makes f) = (refl, refl)
deed-keeps c (founds x) = (refl, refl)

-- a touch of another credential
abbrev Other : Touch → Type 0
Other nothing = Unit
Other (presents w value given) = number_of w ≡ 3 → ⊥
Other (changes w d) = number_of w ≡ 3 → ⊥
Other (reloads w d) = number_of w ≡ 3 → ⊥
Other (challenges n) = Unit

touch-keeps : (c : Card) (t : Touch) (random : List ℕ) → Other t → credential_no (touched c t random).card 3 ≡ credential_no c 3
unfolding compared_at
touch-keeps c nothing random o = refl
touch-keeps c (presents w value given) random o =
    split (λ (e : Effect). credential_no e.card 3 ≡ credential_no c 3) (same value given)
    (λ e. get_or-set_other c.credentials (number_of w) 3 _ no_credential (λ z. o (sym z))) (λ e. get_or-set_other c.credentials (number_of w) 3 _ no_credential (λ z. o (sym z)))
touch-keeps c (changes w d) random o = get_or-set_other c.credentials (number_of w) 3 _ no_credential (λ z. o (sym z))
touch-keeps c (reloads w d) random o =
    let v = credential_of d (credential c (number_of w)).tries in
    get_or-set_other (set c.credentials (number_of w) v) (number_of w) 3 (with_tries (get_or (set c.credentials (number_of w) v) (number_of w) no_credential) (restored (login w c).tries)) no_credential (λ z. o (sym z))
    ∙ get_or-set_other c.credentials (number_of w) 3 v no_credential (λ z. o (sym z))
touch-keeps c (challenges n) random o = refl

pin-other : (k : Command) → number_of (pin_named k) ≡ 3 → ⊥
pin-other k = go (is_zero k.p2)
  where
    go : (b : Bool) → number_of (cond b admin user) ≡ 3 → ⊥
    go true e = omega (arith, e)
    go false e = omega (arith, e)

-- ---- a card with other tries of the key
module _ (c : Card) (area : List ℕ) (h : sound c area ≡ true) (n : ℕ) where
  key_set : credential_no (with_key_tries c n) 3 ≡ record { value = (credential_no c 3).value; len = (credential_no c 3).len; tries = record { left = n; limit = limit_no c 3 } }
  key_set = get_or-set_same c.credentials 3 _ no_credential (omega (arith, (sound-good c area h).all_there))

  set_value : value_no (with_key_tries c n) 3 ≡ value_no c 3
  set_value = ap (λ (x : Credential). take x.len x.value) key_set

  set-left : left_no (with_key_tries c n) 3 ≡ n
  set-left = ap (λ (x : Credential). x.tries.left) key_set

  set-limit : limit_no (with_key_tries c n) 3 ≡ limit_no c 3
  set-limit = ap (λ (x : Credential). x.tries.limit) key_set

-- ---- the word that a command says
module _ (c : Card) (area : List ℕ) (h : sound c area ≡ true) (s : Stepped) where
  by_mode : {A : Type 0} → (mode c ≡ 0 → A) → (mode c ≡ 1 → A) → A
  by_mode f g =
      by_cases (ℕ_discrete (mode c) 0) f (λ o. g (let low = leb-true (mode c) 1 (responded c.response (sound-good c area h).response).mode in omega (arith, o, low)))

  refused-word : (sw : ℕ) → Says c sw [] s → s.sw ≡ sw
  refused-word sw q = by_mode (λ m. (q.at-once m).0) (λ m. q.no-data m refl)

  ends-well : (d : List ℕ) → Says c 0x9000 d s → EndsWell s
  ends-well d q =
      by_mode (λ m. inl (q.at-once m).0)
      (λ m. by_cases (ℕ_discrete (length d) 0) (λ z. inl (q.no-data m (none d z)))
      (λ o. let e = q.some-data m (omega (arith, o)) in inr (omega (arith, e), omega (arith, e))))
    where
      none : (x : List ℕ) → length x ≡ 0 → x ≡ []
      none [] e = refl
      none (b ∷ x) e = absurd (omega (arith, e))

  -- a refusal on the card, where the command does not end well
  refused-behind : {w : ℕ} {e : Effect} → Checked c area w e s → e.sw ≡ 0x9000 → (EndsWell s → ⊥) → Refused c area s.sw s
  refused-behind {w} {e} r good o =
      by_cases (ℕ_discrete w 0x9000)
      (λ z. absurd (o (ends-well _ (subst (λ v. Says c v (e.says ++ part e.from e.shows area) s) good (serves r z).says))))
      (λ n. let q = refuses r w n refl in subst (λ v. Refused c area v s) (sym (refused-word w q.says)) q)

-- ---- no right of the key, as the three rights are kept
none-held : (c : Card) (area cmd random : List ℕ) → sound c area ≡ true → length area ≡ 4096 → length random ≡ 16 → right_no (step c area cmd random).card 3 ≡ 0
none-held c area cmd random h la l =
    let x = step c area cmd random in
    get_or-eq_default x.card.session.rights 0 (le_of_eq (sound-good x.card x.area (step-sound c area cmd random h la l)).all-kept)

-- ---- the five that may have a code
module _ {c : Card} {area cmd random : List ℕ} {i : Ins} (r : Sends c area cmd random i) (f : Command → List ℕ) (t : Card → Located → Command → List ℕ)
    (d : Card → Located → Command → Deed) (is : rule i ≡ of_contents f t d) (to_front : InForm cmd → first (f (framed cmd)) ≡ 0x9000)
    (from_front : first (f (framed cmd)) ≡ 0x9000 → InForm cmd) (long : InForm cmd → WithCode cmd → 4 ≤ lc_sent cmd) where
  abbrev h : sound c area ≡ true
  h = r.card-sound

  abbrev s : Stepped
  s = step c area cmd random

  abbrev After : Card
  After = after_code (f (framed cmd)) c (framed cmd)

  abbrev ready-list : List ℕ
  ready-list = tries_sw (login transport c) ∷ challenge_sw (challenge c) ∷ []

  ready : Presents c cmd → first ready-list ≡ 0x9000
  unfolding or_else
  ready p =
      rw (to_some (left_no c 3) p.try-left, to_some (length (challenge c)) (rw (challenge-long c area h) p.with-challenge))

  all-ready : Presents c cmd → first (first (f (framed cmd)) ∷ ready-list) ≡ 0x9000
  all-ready p = rw (to_front p.form) (first_on ready-list) ∙ ready p

  presenting : WithCode cmd → first (first (f (framed cmd)) ∷ ready-list) ≡ 0x9000 → Presents c cmd
  presenting w e =
      let p = passed (first (f (framed cmd)) ∷ ready-list) e in
      record {
        with_code = w;
        form = from_front p.0;
        try-left = some_to (left_no c 3) (holds _ 0x6983 refl p.1.0);
        with-challenge = rw (challenge-long c area h) at (some_to (length (challenge c)) (holds _ 0x6984 refl p.1.1.0));
      }

  not-presented : (Presents c cmd → ⊥) → after_code (f (framed cmd)) c (framed cmd) ≡ c
  not-presented o =
      by_cases (ℕ_discrete (framed cmd).cla 0x04)
      (λ w. by_cases (ℕ_discrete (first (first (f (framed cmd)) ∷ ready-list)) 0x9000) (λ e. absurd (o (presenting w e))) (λ n. stopped-left r f t d is _ n refl))
      (λ n. uncoded-left r f t d is n)

  four : Presents c cmd → 4 ≤ lc_sent cmd
  four p = long p.form p.with_code

  rightly : Presents c cmd → CodeAgrees c cmd → agrees (logins c) (challenge c) (framed cmd) ≡ true
  rightly p e = to-agrees cmd p.with_code (four p) c e

  wrongly : Presents c cmd → (CodeAgrees c cmd → ⊥) → agrees (logins c) (challenge c) (framed cmd) ≡ false
  wrongly p o = go (agrees (logins c) (challenge c) (framed cmd)) refl
    where
      go : (b : Bool) → agrees (logins c) (challenge c) (framed cmd) ≡ b → b ≡ false
      go true e = absurd (o (agrees-to cmd p.with_code (four p) c e))
      go false e = refl

  after-right : Presents c cmd → CodeAgrees c cmd → after_code (f (framed cmd)) c (framed cmd) ≡ with_key_tries c (limit_no c 3)
  after-right p e = compared-left r f t d is true p.with_code (all-ready p) (rightly p e)

  -- what is so of each card that may be left is so of the one that is
  by_after : (P : Card → Type 0) → P c → P (with_key_tries c (limit_no c 3)) → P (with_key_tries c (left_no c 3 - 1)) → P (after_code (f (framed cmd)) c (framed cmd))
  by_after P none right wrong =
      by_cases (ℕ_discrete (framed cmd).cla 0x04)
      (λ w. by_cases (ℕ_discrete (first (first (f (framed cmd)) ∷ ready-list)) 0x9000) (λ e. compared (presenting w e) (agrees (logins c) (challenge c) (framed cmd)) refl)
      (λ n. subst P (sym (stopped-left r f t d is _ n refl)) none))
      (λ n. subst P (sym (uncoded-left r f t d is n)) none)
    where
      compared : Presents c cmd → (b : Bool) → agrees (logins c) (challenge c) (framed cmd) ≡ b → P (after_code (f (framed cmd)) c (framed cmd))
      compared p true e = subst P (sym (compared-left r f t d is true p.with_code (all-ready p) e)) right
      compared p false e = subst P (sym (compared-left r f t d is false p.with_code (all-ready p) e)) wrong

  abbrev Keeps : Effect → Type 0
  Keeps e = (e.card.credentials ≡ (after_code (f (framed cmd)) c (framed cmd)).credentials) × (e.card.session.rights ≡ c.session.rights)

  left_so : (s.card.credentials ≡ (after_code (f (framed cmd)) c (framed cmd)).credentials) × (s.card.session.rights ≡ c.session.rights)
  left_so =
      let l = record_found c area (framed cmd) in
      let q = settles c area cmd random h r.random-long r.bytes (not-fetched c (framed cmd) i r.named r.other) in
      let e : Keeps (outcome (listed (framed cmd)) c l (framed cmd) random) =
      rw r.named
      (ruled-by Keeps i c l (framed cmd) random (λ a b p. subst Keeps (sym (effect_is r f t d is)) (deed-keeps After (d c l (framed cmd))))
      (λ sw. subst (λ (x : Card). Keeps (answers sw x)) (sym (kept-is r f t d is)) (refl, refl))) in
      (q.credentials-are ∙ e.0, q.rights-are ∙ e.1)

  key-now : credential_no s.card 3 ≡ credential_no (after_code (f (framed cmd)) c (framed cmd)) 3
  key-now = ap (λ (xs : List Credential). get_or xs 3 no_credential) left_so.0

  pub contents-key : KeyAfter c area cmd (step c area cmd random)
  contents-key = record {
    right = λ p e. ap (λ (x : Credential). x.tries.left) key-now ∙ ap (λ (x : Card). left_no x 3) (after-right p e) ∙ set-left c area h (limit_no c 3);
    right-refused = λ p e o.
        refused-behind (with_key_tries c (limit_no c 3)) area (tries-sound c area h (limit_no c 3) (omega arith)) (step c area cmd random) (right-goes-on r f t d is (to_front p.form) p.with_code (ready p) (rightly p e)) (deed-ends (with_key_tries c (limit_no c 3)) (d c (record_found c area (framed cmd)) (framed cmd))) o;
    wrong = λ p o. wrong-refuses r f t d is (to_front p.form) p.with_code (ready p) (wrongly p o);
    other = λ o. ap (λ (x : Credential). x.tries.left) key-now ∙ ap (λ (x : Card). left_no x 3) (not-presented o);
    value-is =
        ap (λ (x : Credential). take x.len x.value) key-now
        ∙ by_after (λ (x : Card). value_no x 3 ≡ value_no c 3) refl (set_value c area h (limit_no c 3)) (set_value c area h (left_no c 3 - 1));
    limit_is =
        ap (λ (x : Credential). x.tries.limit) key-now
        ∙ by_after (λ (x : Card). limit_no x 3 ≡ limit_no c 3) refl (set-limit c area h (limit_no c 3)) (set-limit c area h (left_no c 3 - 1));
    no-right = none-held c area cmd random h r.area-long r.random-long;
    rights-are = λ w. left_so.1;
  }

-- ---- P and case of each
pass-both : (a b : Bool) → a ≡ true → b ≡ true → first (unless a 0x6A86 ∷ unless b 0x6700 ∷ []) ≡ 0x9000
unfolding or_else
pass-both a b p q = rw (p, q)

both-pass : (a b : Bool) → first (unless a 0x6A86 ∷ unless b 0x6700 ∷ []) ≡ 0x9000 → (a ≡ true) × (b ≡ true)
both-pass a b e =
    let p = passed (unless a 0x6A86 ∷ unless b 0x6700 ∷ []) e in (holds a 0x6A86 refl p.0, holds b 0x6700 refl p.1.0)

form-four : (cmd : List ℕ) → InForm cmd → WithCode cmd → 4 ≤ lc_sent cmd
form-four cmd (read-binary i p q) w = read-four cmd q w
form-four cmd (update-binary i p q) w = write-four cmd q w
form-four cmd (read-record i p m q) w = read-four cmd q w
form-four cmd (update-record i p m q) w = write-four cmd q w
form-four cmd (append-record i p m q) w = write-four cmd q w

-- with a code it is one of the five by name
abbrev is_five : Ins → Bool
is_five Select = false
is_five ReadBinary = true
is_five UpdateBinary = true
is_five ReadRecord = true
is_five UpdateRecord = true
is_five AppendRecord = true
is_five Verify = false
is_five Authenticate = false
is_five ChangePin = false
is_five ReloadPin = false
is_five CreateFile = false
is_five GetChallenge = false
is_five GetResponse = false
is_five Unlisted = false

five-named : (cmd : List ℕ) → WithCode cmd → InForm cmd → is_five (listed (framed cmd)) ≡ true
unfolding listed find rows
five-named cmd w (read-binary i p q) = rw (w, i)
five-named cmd w (update-binary i p q) = rw (w, i)
five-named cmd w (read-record i p m q) = rw (w, i)
five-named cmd w (update-record i p m q) = rw (w, i)
five-named cmd w (append-record i p m q) = rw (w, i)

form-framed : (cmd : List ℕ) → WithCode cmd → InForm cmd → 1 ≤ (framed cmd).case
form-framed cmd w (read-binary i p q) = omega (arith, (q.coded w).0)
form-framed cmd w (update-binary i p q) = omega (arith, q.case-is)
form-framed cmd w (read-record i p m q) = omega (arith, (q.coded w).0)
form-framed cmd w (update-record i p m q) = omega (arith, q.case-is)
form-framed cmd w (append-record i p m q) = omega (arith, q.case-is)

module _ (cmd : List ℕ) where
  read-binary-to : (framed cmd).ins ≡ 0xB0 → InForm cmd → first (read_binary_front (framed cmd)) ≡ 0x9000
  read-binary-to n (read-binary i p q) = pass-both _ (read-test cmd) (to-p (framed cmd) p) (to_read cmd q)
  read-binary-to n (update-binary i p q) = absurd (omega (arith, n, i))
  read-binary-to n (read-record i p m q) = absurd (omega (arith, n, i))
  read-binary-to n (update-record i p m q) = absurd (omega (arith, n, i))
  read-binary-to n (append-record i p m q) = absurd (omega (arith, n, i))

  to-read-binary : (framed cmd).ins ≡ 0xB0 → first (read_binary_front (framed cmd)) ≡ 0x9000 → InForm cmd
  to-read-binary n e = let q = both-pass (ltb (framed cmd).p1 0x80 || by_sfi (framed cmd)) (read-test cmd) e in read-binary n (p-to (framed cmd) q.0) (read-to cmd q.1)

  update-binary-to : (framed cmd).ins ≡ 0xD6 → InForm cmd → first (update_binary_front (framed cmd)) ≡ 0x9000
  update-binary-to n (read-binary i p q) = absurd (omega (arith, n, i))
  update-binary-to n (update-binary i p q) = pass-both _ (write-test cmd) (to-p (framed cmd) p) (to_write cmd q)
  update-binary-to n (read-record i p m q) = absurd (omega (arith, n, i))
  update-binary-to n (update-record i p m q) = absurd (omega (arith, n, i))
  update-binary-to n (append-record i p m q) = absurd (omega (arith, n, i))

  to-update-binary : (framed cmd).ins ≡ 0xD6 → first (update_binary_front (framed cmd)) ≡ 0x9000 → InForm cmd
  to-update-binary n e = let q = both-pass (ltb (framed cmd).p1 0x80 || by_sfi (framed cmd)) (write-test cmd) e in update-binary n (p-to (framed cmd) q.0) (write-to cmd q.1)

  read-record-to : (framed cmd).ins ≡ 0xB2 → InForm cmd → first (read_record_front (framed cmd)) ≡ 0x9000
  read-record-to n (read-binary i p q) = absurd (omega (arith, n, i))
  read-record-to n (update-binary i p q) = absurd (omega (arith, n, i))
  read-record-to n (read-record i p m q) = pass-both _ (read-test cmd) (p-record cmd (p, m)) (to_read cmd q)
  read-record-to n (update-record i p m q) = absurd (omega (arith, n, i))
  read-record-to n (append-record i p m q) = absurd (omega (arith, n, i))

  to-read-record : (framed cmd).ins ≡ 0xB2 → first (read_record_front (framed cmd)) ≡ 0x9000 → InForm cmd
  to-read-record n e =
      let q = both-pass (leb 1 (framed cmd).p1 && good_p2 4 (framed cmd)) (read-test cmd) e in
      let p = record-p cmd q.0 in read-record n p.0 p.1 (read-to cmd q.1)

  update-record-to : (framed cmd).ins ≡ 0xDC → InForm cmd → first (update_record_front (framed cmd)) ≡ 0x9000
  update-record-to n (read-binary i p q) = absurd (omega (arith, n, i))
  update-record-to n (update-binary i p q) = absurd (omega (arith, n, i))
  update-record-to n (read-record i p m q) = absurd (omega (arith, n, i))
  update-record-to n (update-record i p m q) = pass-both _ (write-test cmd) (p-record cmd (p, m)) (to_write cmd q)
  update-record-to n (append-record i p m q) = absurd (omega (arith, n, i))

  to-update-record : (framed cmd).ins ≡ 0xDC → first (update_record_front (framed cmd)) ≡ 0x9000 → InForm cmd
  to-update-record n e =
      let q = both-pass (leb 1 (framed cmd).p1 && good_p2 4 (framed cmd)) (write-test cmd) e in
      let p = record-p cmd q.0 in update-record n p.0 p.1 (write-to cmd q.1)

  append-to : (framed cmd).ins ≡ 0xE2 → InForm cmd → first (append_front (framed cmd)) ≡ 0x9000
  append-to n (read-binary i p q) = absurd (omega (arith, n, i))
  append-to n (update-binary i p q) = absurd (omega (arith, n, i))
  append-to n (read-record i p m q) = absurd (omega (arith, n, i))
  append-to n (update-record i p m q) = absurd (omega (arith, n, i))
  append-to n (append-record i p m q) = pass-both _ (write-test cmd) (p-append cmd (p, m)) (to_write cmd q)

  to-append : (framed cmd).ins ≡ 0xE2 → first (append_front (framed cmd)) ≡ 0x9000 → InForm cmd
  to-append n e =
      let q = both-pass (is_zero (framed cmd).p1 && good_p2 0 (framed cmd)) (write-test cmd) e in
      let p = append-p cmd q.0 in append-record n p.0 p.1 (write-to cmd q.1)

-- ---- every command
module _ (c : Card) (area cmd random : List ℕ) (h : sound c area ≡ true) (la : length area ≡ 4096) (l : length random ≡ 16) (b : Bytes cmd) where
  -- one that leaves the key, and presents no code
  leaves-key : (Presents c cmd → ⊥) → credential_no (step c area cmd random).card 3 ≡ credential_no c 3 → (WithCode cmd → (step c area cmd random).card.session.rights ≡ c.session.rights)
      → KeyAfter c area cmd (step c area cmd random)
  leaves-key o e w = record {
    right = λ p. absurd (o p);
    right-refused = λ p. absurd (o p);
    wrong = λ p. absurd (o p);
    other = λ p. ap (λ (x : Credential). x.tries.left) e;
    value-is = ap (λ (x : Credential). take x.len x.value) e;
    limit_is = ap (λ (x : Credential). x.tries.limit) e;
    no-right = none-held c area cmd random h la l;
    rights-are = w;
  }

  refused-key : (Presents c cmd → ⊥) → (sw : ℕ) → Refused c area sw (step c area cmd random) → KeyAfter c area cmd (step c area cmd random)
  refused-key o sw q = leaves-key o (ap (λ (xs : List Credential). get_or xs 3 no_credential) q.credentials-are) (λ w. q.rights-are)

  abbrev SameKey : Effect → Type 0
  SameKey e = credential_no e.card 3 ≡ credential_no c 3

  deed-key : (d : Deed) → SameKey (did c d)
  deed-key d = ap (λ (xs : List Credential). get_or xs 3 no_credential) (deed-keeps c d).0

  other_key : (i : Ins) → is_five i ≡ false → SameKey (outcome i c (record_found c area (framed cmd)) (framed cmd) random)
  unfolding effect_of kept rule
  other_key i e =
      ruled-by SameKey i c (record_found c area (framed cmd)) (framed cmd) random (λ x y p. effect i e) (λ sw. refusal i e)
    where
      effect : (j : Ins) → is_five j ≡ false → SameKey (effect_of j c (record_found c area (framed cmd)) (framed cmd) random)
      effect Select o = deed-key (select_deed c (framed cmd))
      effect ReadBinary o = clash true refl o
      effect UpdateBinary o = clash true refl o
      effect ReadRecord o = clash true refl o
      effect UpdateRecord o = clash true refl o
      effect AppendRecord o = clash true refl o
      effect Verify o =
          split (λ (t : Touch). SameKey (touched c t random)) (eqb (framed cmd).case 1) (λ z. refl) (λ z. touch-keeps c (presents (pin_named (framed cmd)) (login (pin_named (framed cmd)) c).value (framed cmd).given) random (pin-other (framed cmd)))
      effect Authenticate o = touch-keeps c (authenticate_touch (logins c) (challenge c) (framed cmd)) random (λ z. omega (arith, z))
      effect ChangePin o = touch-keeps c (changes (pin_named (framed cmd)) (framed cmd).given) random (pin-other (framed cmd))
      effect ReloadPin o = touch-keeps c (reloads user (framed cmd).given) random (λ z. omega (arith, z))
      effect CreateFile o = deed-key (create_deed c (framed cmd))
      effect GetChallenge o = refl
      effect GetResponse o = refl
      effect Unlisted o = refl

      refusal : (j : Ins) → is_five j ≡ false → credential_no (kept j c (framed cmd)) 3 ≡ credential_no c 3
      refusal Select o = refl
      refusal ReadBinary o = clash true refl o
      refusal UpdateBinary o = clash true refl o
      refusal ReadRecord o = clash true refl o
      refusal UpdateRecord o = clash true refl o
      refusal AppendRecord o = clash true refl o
      refusal Verify o = refl
      refusal Authenticate o = refl
      refusal ChangePin o = refl
      refusal ReloadPin o = refl
      refusal CreateFile o = refl
      refusal GetChallenge o = refl
      refusal GetResponse o = refl
      refusal Unlisted o = refl

  -- no code, by name
  none-presented : is_five (listed (framed cmd)) ≡ false → Presents c cmd → ⊥
  none-presented e p = clash (is_five (listed (framed cmd))) (five-named cmd p.with_code p.form) e

  other_after : fetches c (framed cmd) ≡ false → is_five (listed (framed cmd)) ≡ false → (WithCode cmd → (step c area cmd random).card.session.rights ≡ c.session.rights)
      → KeyAfter c area cmd (step c area cmd random)
  other_after f e w =
      leaves-key (none-presented e)
      (ap (λ (xs : List Credential). get_or xs 3 no_credential) (settles c area cmd random h l b f).credentials-are ∙ other_key (listed (framed cmd)) e) w

  sends-it : (i : Ins) → ((framed cmd).case ≡ 0 → ⊥) → class_sw (framed cmd) ≡ 0x9000 → listed (framed cmd) ≡ i → is_get_response i ≡ false → Sends c area cmd random i
  sends-it i f class named other =
      record { card-sound = h; area-long = la; random-long = l; bytes = b; good-frame = f; good-class = class; named = named; other = other }

  by_name : fetches c (framed cmd) ≡ false → ((framed cmd).case ≡ 0 → ⊥) → ((framed cmd).cla ≡ 0x00) ⊎ (((framed cmd).cla ≡ 0x80) ⊎ ((framed cmd).cla ≡ 0x04)) → (i : Ins)
      → listed (framed cmd) ≡ i → NamedBy i (framed cmd).cla (framed cmd).ins → KeyAfter c area cmd (step c area cmd random)
  unfolding rule checks kept or_else
  by_name g f class ReadBinary e n =
      contents-key (sends-it ReadBinary f (good-class (framed cmd) class) e refl) read_binary_front (λ c l k. read_binary_checks c k) (λ c l k. read_binary_deed c k) refl
      (read-binary-to cmd n.1) (to-read-binary cmd n.1) (form-four cmd)
  by_name g f class UpdateBinary e n =
      contents-key (sends-it UpdateBinary f (good-class (framed cmd) class) e refl) update_binary_front (λ c l k. update_binary_checks c k) (λ c l k. update_binary_deed c k) refl
      (update-binary-to cmd n.1) (to-update-binary cmd n.1) (form-four cmd)
  by_name g f class ReadRecord e n =
      contents-key (sends-it ReadRecord f (good-class (framed cmd) class) e refl) read_record_front read_record_checks read_record_deed refl
      (read-record-to cmd n.1) (to-read-record cmd n.1) (form-four cmd)
  by_name g f class UpdateRecord e n =
      contents-key (sends-it UpdateRecord f (good-class (framed cmd) class) e refl) update_record_front update_record_checks update_record_deed refl
      (update-record-to cmd n.1) (to-update-record cmd n.1) (form-four cmd)
  by_name g f class AppendRecord e n =
      contents-key (sends-it AppendRecord f (good-class (framed cmd) class) e refl) append_front (λ c l k. append_checks c k) (λ c l k. append_deed c k) refl
      (append-to cmd n.1) (to-append cmd n.1) (form-four cmd)
  by_name g f class Select e n = other_after g (rw e) (λ w. absurd (omega (arith, n.0, w)))
  by_name g f class Verify e n = other_after g (rw e) (λ w. absurd (omega (arith, n.0, w)))
  by_name g f class Authenticate e n = other_after g (rw e) (λ w. absurd (omega (arith, n.0, w)))
  by_name g f class ChangePin e n = other_after g (rw e) (λ w. absurd (omega (arith, n.0, w)))
  by_name g f class ReloadPin e n = other_after g (rw e) (λ w. absurd (omega (arith, n.0, w)))
  by_name g f class CreateFile e n = other_after g (rw e) (λ w. absurd (omega (arith, n.0, w)))
  by_name g f class GetChallenge e n = other_after g (rw e) (λ w. absurd (omega (arith, n.0, w)))
  by_name g f class GetResponse e n = other_after g (rw e) (λ w. absurd (omega (arith, n.0, w)))
  by_name g f class Unlisted e n =
      refused-key (none-presented (rw e)) 0x6D00
      (refused-by c area cmd random h l b g 0x6D00 (λ y. omega (arith, y)) (rw e) (rw (ne_eqb (framed cmd).case 0 f, good-class (framed cmd) class, e)))

  -- GET RESPONSE of mode 1
  abbrev SameCard : Stepped → Type 0
  SameCard s = (s.card.credentials ≡ c.credentials) × (s.card.session.rights ≡ c.session.rights)

  fetched-same : fetches c (framed cmd) ≡ true → SameCard (step c area cmd random)
  unfolding step
  fetched-same e = rw e (fetched-by SameCard c area (framed cmd) (λ q. (refl, refl)) (λ sw. (refl, refl)))

  response-after : fetches c (framed cmd) ≡ true → KeyAfter c area cmd (step c area cmd random)
  response-after e =
      let q = fetched-same e in
      leaves-key (none-presented (go (listed (framed cmd)) (fetch-is c (framed cmd) e).by_name)) (ap (λ (xs : List Credential). get_or xs 3 no_credential) q.0) (λ w. q.1)
    where
      go : (i : Ins) → is_get_response i ≡ true → is_five i ≡ false
      go Select z = refl
      go ReadBinary z = clash false z refl
      go UpdateBinary z = clash false z refl
      go ReadRecord z = clash false z refl
      go UpdateRecord z = clash false z refl
      go AppendRecord z = clash false z refl
      go Verify z = refl
      go Authenticate z = refl
      go ChangePin z = refl
      go ReloadPin z = refl
      go CreateFile z = refl
      go GetChallenge z = refl
      go GetResponse z = refl
      go Unlisted z = refl

  after : (t : Bool) → fetches c (framed cmd) ≡ t → KeyAfter c area cmd (step c area cmd random)
  after true e = response-after e
  after false e =
      let unknown = unknown-answers c area cmd random h la l b in
      by_cases (ℕ_discrete (framed cmd).case 0)
      (λ z. refused-key (λ p. omega (arith, z, form-framed cmd p.with_code p.form)) 0x6700 (unknown.0 (λ y. omega (arith, y, z))))
      (λ f. let some : 1 ≤ (framed cmd).case = omega (arith, f) in
      by_cases (ℕ_discrete (framed cmd).cla 0x00) (λ z. by_name e f (inl z) (listed (framed cmd)) refl (listed-by-bytes (framed cmd)))
      (λ n0. by_cases (ℕ_discrete (framed cmd).cla 0x80) (λ z. by_name e f (inr (inl z)) (listed (framed cmd)) refl (listed-by-bytes (framed cmd)))
      (λ n1. by_cases (ℕ_discrete (framed cmd).cla 0x04) (λ z. by_name e f (inr (inr z)) (listed (framed cmd)) refl (listed-by-bytes (framed cmd)))
      (λ n2. refused-key (λ p. n2 p.with_code) 0x6E00 ((unknown.1 some).0 (⊎_elim n0 (⊎_elim n1 n2)))))))

pub key-by-codes : KeyByCodes
key-by-codes c area cmd random h la l b = after c area cmd random h la l b (fetches c (framed cmd)) refl
