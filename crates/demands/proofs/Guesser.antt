-- What a guesser can learn: one call of two cards that differ in the value of a credential, and so any list.
use Prim.Native.Nat.{ℕ, ◌<◌}
use mathlib.Core.Bool.{Bool, true, false, cond, ◌&&◌, not}
use mathlib.Core.List.{List, [], ◌++◌, ◌∷◌}
use mathlib.Core.Logic.{by_cases}
use mathlib.Core.Path.{◌≡◌, refl, sym, ap, ap₂, subst, ◌∙◌}
use native.Mathlib.Decide.{ℕ_discrete}
use lib.ListN.{length, take, get_or, set, length-set}
use lib.Seq.{get_or-set_same, get_or-set_other, set-set, set_comm, ext_get_or}
use lib.Dec.{eqb}
use borrow.Author.Tests.{eq-eqb, eqb-true}
use Rattle.codes.specs.Code.{mac, code}
use Rattle.files.specs.declared.Located.{Located}
use Rattle.files.specs.Words.{is_zero}
use Rattle.files.specs.Part.{part, splice}
use Rattle.files.proofs.Checks.{clash, join, split}
use Rattle.rules.specs.declared.Tries.{Tries}
use Rattle.rules.specs.declared.Credential.{Credential}
use Rattle.rules.specs.declared.Session.{Session}
use Rattle.rules.specs.declared.Card.{Card}
use Rattle.rules.specs.declared.Ins.{Ins}
use Rattle.rules.specs.declared.Ins.TheVariants.{Select, ReadBinary, UpdateBinary, ReadRecord, UpdateRecord, AppendRecord, Verify, Authenticate, ChangePin, ReloadPin, CreateFile, GetChallenge, GetResponse, Unlisted}
use Rattle.rules.specs.Words.{unless, or_else, first, same, filled}
use Rattle.rules.specs.Tries.{lowered, restored, count_sw, tried}
use Rattle.rules.specs.State.{Which, device, admin, transport, number_of, no_credential, credential, Logins, login, logins, challenge, blank_card, credential_of, with_tries, with_credentials, with_credential, with_directory, with_session, with_response, with_journal, with_login, with_value, with_challenge, with_waiting}
use Rattle.rules.specs.Frame.{Command, framed, coded, frame_sw, class_sw}
use Rattle.rules.specs.Effect.{Deed, turns, enters, shows, stores, appends, makes, founds, Touch, nothing, presents, changes, reloads, challenges, Effect, effect, answers}
use Rattle.rules.specs.Select.{select_checks}
use Rattle.rules.specs.Binary.{read_binary_checks, update_binary_checks}
use Rattle.rules.specs.Target.{target}
use Rattle.rules.specs.Record.{record_found, read_record_checks, update_record_checks, append_checks}
use Rattle.rules.specs.Pins.{compared_at, compared, reloading, pin_named, tries_sw, verify_checks, change_checks, change_touch, reload_checks, reload_touch}
use Rattle.rules.specs.Device.{cryptogram, challenge_sw, authenticate_checks, get_challenge_touch}
use Rattle.rules.specs.Create.{creation_right, create_checks}
use Rattle.rules.specs.Code.{expected, agrees, code_sw, presents_code, key_after, credentials_after, after_code}
use Rattle.rules.specs.List.{listed, Rule, of_files, of_contents, of_credentials, rule}
use Rattle.rules.specs.Step.{checks_of, did, touched, checks, effect_of, kept, ruled, outcome, settled, at_once, step}
use Rattle.rules.specs.Calls.{cleared}
use Rattle.rules.proofs.Checks.{passing}
use Rattle.rules.proofs.Good.{sound-good, sound-parted, sound-both, numbered, same-which, valued, filled-back}
use Rattle.demands.specs.Ledger.{Kind, Event, sent, resets, other, right, wrong, is_right, passes, presented, about}
use Rattle.demands.specs.Run.{World, world, SoundWorld, called}
use Rattle.demands.specs.Held.{credential_no}
use Rattle.demands.specs.Codes.{kind_on}
use Rattle.demands.specs.Outsider.{heard, AllButValue, SameVerdict, Guesser, NoneRight, Unguessed, OtherValue}
use Rattle.demands.proofs.Presented.{presented-is}
use Rattle.demands.proofs.Coding.{code_by}
use Rattle.demands.proofs.Rows.{ruled_by, kind_of, kind_by, kind-same}
use Rattle.demands.proofs.Live.{call-live}
use Rattle.demands.proofs.Pairs.{StepAlike, picked, Waited, step_both, command-alike, reset-alike, each-call, before-less}

-- ---- lists of credentials that are alike but for a value
record ButAt (n : ℕ) (xs ys : List Credential) : Type 0 where
  other : Credential
  tries-are : other.tries ≡ (get_or xs n no_credential).tries
  list-is : ys ≡ set xs n other

module _ (n : ℕ) (xs : List Credential) (x : Credential) (t : x.tries ≡ (get_or xs n no_credential).tries) (l : n < length xs) where
  at_others : (m : ℕ) → (m ≡ n → ⊥) → get_or (set xs n x) m no_credential ≡ get_or xs m no_credential
  at_others m o = get_or-set_other xs n m x no_credential o

  tries-at : (m : ℕ) → (get_or (set xs n x) m no_credential).tries ≡ (get_or xs m no_credential).tries
  tries-at m =
      by_cases (ℕ_discrete m n) (λ e. rw (e, get_or-set_same xs n x no_credential l) t) (λ o. ap (λ (y : Credential). y.tries) (at_others m o))

  -- the credential of a number becomes another, by what it was: of its value nothing goes into tries
  put_both : (m : ℕ) (f : Credential → Credential) → ((a b : Credential) → a.tries ≡ b.tries → (f a).tries ≡ (f b).tries)
      → ButAt n (set xs m (f (get_or xs m no_credential))) (set (set xs n x) m (f (get_or (set xs n x) m no_credential)))
  put_both m f keeps =
      by_cases (ℕ_discrete m n)
      (λ e. rw (e, get_or-set_same xs n x no_credential l)
      (record {
        other = f x;
        tries-are = keeps x (get_or xs n no_credential) t ∙ ap (λ (y : Credential). y.tries) (sym (get_or-set_same xs n (f (get_or xs n no_credential)) no_credential l));
        list-is = set-set xs n x (f x) ∙ sym (set-set xs n (f (get_or xs n no_credential)) (f x));
      }))
      (λ o. rw (at_others m o)
      (record {
        other = x;
        tries-are = t ∙ ap (λ (y : Credential). y.tries) (sym (get_or-set_other xs m n (f (get_or xs m no_credential)) no_credential (λ e. o (sym e))));
        list-is = set_comm xs n m x (f (get_or xs m no_credential)) (λ e. o (sym e));
      }))

-- ---- cards that are alike but for a value, and effects
record ButValue (which : Which) (c d : Card) : Type 0 where
  other : Credential
  tries-are : other.tries ≡ (credential c (number_of which)).tries
  card-is : d ≡ with_credential c (number_of which) other

abbrev cardless : Effect → Effect
cardless e = effect e.sw blank_card e.says e.from e.shows e.into e.stores

record EffectAlike (which : Which) (e f : Effect) : Type 0 where
  cards : ButValue which e.card f.card
  rest-is : cardless e ≡ cardless f

-- a command is to the credential a right presentation on both cards or on neither
abbrev Verdict : Kind → Kind → Type 0
Verdict a b = (a ≡ right → b ≡ right) × (b ≡ right → a ≡ right)

-- then the comparison says the same on both
verdict : (a b given : List ℕ) → Verdict (presented a given) (presented b given) → same a given ≡ same b given
verdict a b given q = go (same a given) (same b given) (presented-is a given) (presented-is b given)
  where
    never : wrong ≡ right → ⊥
    never h = clash false (ap is_right h) refl

    go : (s t : Bool) → cond s right wrong ≡ presented a given → cond t right wrong ≡ presented b given → s ≡ t
    go true true h k = refl
    go false false h k = refl
    go true false h k = absurd (never (k ∙ q.0 (sym h)))
    go false true h k = absurd (never (h ∙ q.1 (sym k)))

-- checks that ask tries and rights, and no value
module _ (a b : Logins) (tries : (v : Which) → (b v).tries ≡ (a v).tries) (held : (v : Which) → (b v).held ≡ (a v).held) (k : Command) where
  verify-blind : verify_checks b k ≡ verify_checks a k
  unfolding verify_checks
  verify-blind = rw (tries (pin_named k), held (pin_named k))

  authenticate-blind : (ch : List ℕ) → authenticate_checks b ch k ≡ authenticate_checks a ch k
  unfolding authenticate_checks
  authenticate-blind ch = rw (tries device)

  change-blind : change_checks b k ≡ change_checks a k
  unfolding change_checks
  change-blind = rw (held (pin_named k))

  reload-blind : reload_checks b k ≡ reload_checks a k
  unfolding reload_checks
  reload-blind = rw (held admin)

-- where a check before the comparison of a code fails, what the comparison says does not matter
or_same : (a r s : ℕ) → (a ≡ 0x9000 → r ≡ s) → or_else a r ≡ or_else a s
unfolding or_else
or_same a r s h = go (eqb a 0x9000) refl
  where
    go : (b : Bool) → eqb a 0x9000 ≡ b → cond b r a ≡ cond b s a
    go true e = h (eqb-true a 0x9000 e)
    go false e = refl

before-code : (a b f t ch x y : ℕ) (rest : List ℕ) → eqb (first (a ∷ b ∷ f ∷ t ∷ ch ∷ [])) 0x9000 ≡ false
    → first (a ∷ b ∷ first (f ∷ first (t ∷ ch ∷ x ∷ []) ∷ rest) ∷ []) ≡ first (a ∷ b ∷ first (f ∷ first (t ∷ ch ∷ y ∷ []) ∷ rest) ∷ [])
before-code a b f t ch x y rest h =
    or_same a _ _ (λ ea. or_same b _ _ (λ eb. or_same f _ _ (λ ef. ap (λ (z : ℕ). first (z ∷ rest)) (or_same t _ _ (λ et. or_same ch x y (λ ec.
    clash (eqb (first (a ∷ b ∷ f ∷ t ∷ ch ∷ [])) 0x9000) (eq-eqb _ _ (passing (a ∷ b ∷ f ∷ t ∷ ch ∷ []) (ea, (eb, (ef, (et, (ec, tt))))))) h))))))

-- ---- a card, and the same with another value
module _ (which : Which) (c : Card) (x : Credential) (t : x.tries ≡ (credential c (number_of which)).tries) (l : number_of which < length c.credentials) where
  abbrev d : Card
  d = with_credential c (number_of which) x

  as-given : ButValue which c d
  as-given = record { other = x; tries-are = t; card-is = refl }

  tries-same : (v : Which) → (login v d).tries ≡ (login v c).tries
  tries-same v = tries-at (number_of which) c.credentials x t l (number_of v)

  value_same : (v : Which) → (v ≡ which → ⊥) → (login v d).value ≡ (login v c).value
  value_same v o = ap (λ (y : Credential). take y.len y.value) (at_others (number_of which) c.credentials x t l (number_of v) (λ e. o (same-which v which e)))

  deed-alike : (y : Deed) → EffectAlike which (did c y) (did d y)
  deed-alike (turns place) = record { cards = record { other = x; tries-are = t; card-is = refl }; rest-is = refl }
  deed-alike (enters n) = record { cards = record { other = x; tries-are = t; card-is = refl }; rest-is = refl }
  deed-alike (shows place at n) = record { cards = record { other = x; tries-are = t; card-is = refl }; rest-is = refl }
  deed-alike (stores place at bytes) = record { cards = record { other = x; tries-are = t; card-is = refl }; rest-is = refl }
  deed-alike (appends place bytes) = record { cards = record { other = x; tries-are = t; card-is = refl }; rest-is = refl }
  deed-alike (makes f) = record { cards = record { other = x; tries-are = t; card-is = refl }; rest-is = refl }
  deed-alike (founds y) = record { cards = record { other = x; tries-are = t; card-is = refl }; rest-is = refl }

  -- a credential put, with rights as they are then
  put : (m : ℕ) (f : Credential → Credential) (s : Session) → ((a b : Credential) → a.tries ≡ b.tries → (f a).tries ≡ (f b).tries)
      → ButValue which (with_session (with_credential c m (f (credential c m))) s) (with_session (with_credential d m (f (credential d m))) s)
  put m f s keeps =
      let q = put_both (number_of which) c.credentials x t l m f keeps in
      record {
        other = q.other;
        tries-are = q.tries-are;
        card-is = ap (λ (cr : List Credential). with_session (with_credentials c cr) s) q.list-is;
      }

  -- the same verdict on both
  compare_alike : (v : Which) (b : Bool) → EffectAlike which (compared v c b) (compared v d b)
  unfolding compared_at
  compare_alike v true = record {
    cards = put (number_of v) (λ a. with_tries a (restored a.tries)) _ (λ a b e. ap restored e);
    rest-is = refl;
  }
  compare_alike v false = record {
    cards = put (number_of v) (λ a. with_tries a (lowered a.tries)) _ (λ a b e. ap lowered e);
    rest-is = ap (λ (y : Tries). effect (count_sw (lowered y).left) blank_card [] 0 0 0 []) (sym (tries-same v));
  }

-- a credential put once more
module _ (which : Which) (c d : Card) (b : ButValue which c d) (l : number_of which < length c.credentials) where
  put-again : (m : ℕ) (f : Credential → Credential) (s : Session) → ((a b : Credential) → a.tries ≡ b.tries → (f a).tries ≡ (f b).tries)
      → ButValue which (with_session (with_credential c m (f (credential c m))) s) (with_session (with_credential d m (f (credential d m))) s)
  put-again m f s keeps =
      subst (λ (y : Card). ButValue which (with_session (with_credential c m (f (credential c m))) s) (with_session (with_credential y m (f (credential y m))) s))
      (sym b.card-is) (put which c b.other b.tries-are l m f s keeps)

module _ (which : Which) (c : Card) (x : Credential) (t : x.tries ≡ (credential c (number_of which)).tries) (l : number_of which < length c.credentials) where
  abbrev e : Card
  e = with_credential c (number_of which) x

  value-alike : (v : Which) (bytes : List ℕ) → ButValue which (with_value v c bytes) (with_value v e bytes)
  value-alike v bytes = put which c x t l (number_of v) (λ a. credential_of bytes a.tries) c.session (λ a b q. q)

  reload-alike : (v : Which) (bytes : List ℕ) → ButValue which (reloading v c bytes).card (reloading v e bytes).card
  reload-alike v bytes =
      subst (λ (y : Tries). ButValue which (reloading v c bytes).card (with_login v (with_value v e bytes) (restored y) false)) (sym (tries-same which c x t l v))
      (put-again which (with_value v c bytes) (with_value v e bytes) (value-alike v bytes) (rw (length-set c.credentials (number_of v) (credential_of bytes (credential c (number_of v)).tries)) l)
      (number_of v) (λ a. with_tries a (restored (login v c).tries)) _ (λ a b q. refl))

  touch-alike : (y : Touch) (random : List ℕ) → EffectAlike which (touched c y random) (touched e y random)
  touch-alike nothing random = record { cards = as-given which c x t l; rest-is = refl }
  touch-alike (presents v value given) random = compare_alike which c x t l v (same value given)
  touch-alike (changes v bytes) random = record { cards = value-alike v bytes; rest-is = refl }
  touch-alike (reloads v bytes) random = record { cards = reload-alike v bytes; rest-is = refl }
  touch-alike (challenges n) random = record { cards = as-given which c x t l; rest-is = refl }

  -- what is compared may differ for the credential itself, where the verdict is the same
  presents-alike : (v : Which) (a b given random : List ℕ) → ((v ≡ which → ⊥) → b ≡ a) → Verdict (kind_of (presents v a given) which) (kind_of (presents v b given) which)
      → EffectAlike which (touched c (presents v a given) random) (touched e (presents v b given) random)
  presents-alike v a b given random o q =
      subst (λ (z : Bool). EffectAlike which (compared v c (same a given)) (compared v e z))
      (by_cases (ℕ_discrete (number_of v) (number_of which))
      (λ n. let z : eqb (number_of v) (number_of which) ≡ true = eq-eqb _ _ n in verdict a b given (rw z at q))
      (λ n. ap (λ (y : List ℕ). same y given) (sym (o (λ m. n (ap number_of m))))))
      (compare_alike which c x t l v (same a given))

  -- ---- a clause for each command: its checks ask no value, and what it does is alike where the verdict is the same
  abbrev SameRule : Rule → Type 0
  SameRule (of_files u f) = (k : Command) → (u e k ≡ u c k) × (f e k ≡ f c k)
  SameRule (of_contents f u d) = (l : Located) (k : Command) → (u e l k ≡ u c l k) × (d e l k ≡ d c l k)
  SameRule (of_credentials u f) =
      (ch : List ℕ) (k : Command) → (u (logins e) ch k ≡ u (logins c) ch k)
      × (Verdict (kind_of (f (logins c) ch k) which) (kind_of (f (logins e) ch k) which) → (random : List ℕ)
      → EffectAlike which (touched c (f (logins c) ch k) random) (touched e (f (logins e) ch k) random))

  verify-alike : (k : Command) (b : Bool)
      → let a = cond b nothing (presents (pin_named k) (login (pin_named k) c).value k.given) in
      let z = cond b nothing (presents (pin_named k) (login (pin_named k) e).value k.given) in
      Verdict (kind_of a which) (kind_of z which) → (random : List ℕ) → EffectAlike which (touched c a random) (touched e z random)
  verify-alike k true q random = touch-alike nothing random
  verify-alike k false q random = presents-alike (pin_named k) _ _ k.given random (value_same which c x t l (pin_named k)) q

  same-rule : (i : Ins) → SameRule (rule i)
  unfolding rule select_checks target read_binary_checks update_binary_checks read_record_checks update_record_checks append_checks create_checks creation_right
  same-rule Select = λ k. (refl, refl)
  same-rule ReadBinary = λ l k. (refl, refl)
  same-rule UpdateBinary = λ l k. (refl, refl)
  same-rule ReadRecord = λ l k. (refl, refl)
  same-rule UpdateRecord = λ l k. (refl, refl)
  same-rule AppendRecord = λ l k. (refl, refl)
  same-rule CreateFile = λ k. (refl, refl)
  same-rule Verify = λ ch k. (verify-blind (logins c) (logins e) (tries-same which c x t l) (λ v. refl) k, verify-alike k (eqb k.case 1))
  same-rule Authenticate = λ ch k. (
    authenticate-blind (logins c) (logins e) (tries-same which c x t l) (λ v. refl) k ch,
    λ q random. presents-alike device _ _ k.given random (λ o. ap (λ (y : List ℕ). cryptogram y ch) (value_same which c x t l device o)) q,
  )
  same-rule ChangePin = λ ch k. (change-blind (logins c) (logins e) (tries-same which c x t l) (λ v. refl) k, λ q random. touch-alike (change_touch k) random)
  same-rule ReloadPin = λ ch k. (reload-blind (logins c) (logins e) (tries-same which c x t l) (λ v. refl) k, λ q random. touch-alike (reload_touch k) random)
  same-rule GetChallenge = λ ch k. (refl, λ q random. touch-alike (get_challenge_touch k) random)
  same-rule GetResponse = λ ch k. (refl, λ q random. touch-alike nothing random)
  same-rule Unlisted = λ ch k. (refl, λ q random. touch-alike nothing random)

  -- ---- a code, behind these checks of P and case
  module _ (front : List ℕ) (k : Command)
      (q : Verdict (about transport which (code_by front (logins c) (challenge c) k)) (about transport which (code_by front (logins e) (challenge c) k))) where
    tried_same : presents_code front (logins e) (challenge c) k ≡ presents_code front (logins c) (challenge c) k
    unfolding presents_code
    tried_same =
        ap (λ (y : Tries). coded k && eqb (first (frame_sw k ∷ class_sw k ∷ first front ∷ unless (not (is_zero y.left)) 0x6983 ∷ challenge_sw (challenge c) ∷ [])) 0x9000)
        (tries-same which c x t l transport)

    -- what the command is to the transport key
    code_is : (m : Logins) → presents_code front m (challenge c) k ≡ true → number_of transport ≡ number_of which
        → about transport which (code_by front m (challenge c) k) ≡ presented (expected m (challenge c) k) k.code
    unfolding presents_code
    code_is m h n = rw (eq-eqb (number_of transport) (number_of which) n, h)

    agrees-same : presents_code front (logins c) (challenge c) k ≡ true → agrees (logins e) (challenge c) k ≡ agrees (logins c) (challenge c) k
    agrees-same h =
        by_cases (ℕ_discrete (number_of transport) (number_of which))
        (λ n. let on-c = code_is (logins c) h n in
        let on-e = code_is (logins e) (tried_same ∙ h) n in
        sym (verdict (expected (logins c) (challenge c) k) (expected (logins e) (challenge c) k) k.code
        (λ r. sym on-e ∙ q.0 (on-c ∙ r), λ r. sym on-c ∙ q.1 (on-e ∙ r))))
        (λ n. ap (λ (y : List ℕ). same (code (mac y (filled (challenge c)) k.covered)) k.code) (value_same which c x t l transport (λ m. n (ap number_of m))))

    presents-by : coded k ≡ true
        → eqb (first (frame_sw k ∷ class_sw k ∷ first front ∷ tries_sw (logins c transport) ∷ challenge_sw (challenge c) ∷ [])) 0x9000 ≡ true
        → presents_code front (logins c) (challenge c) k ≡ true
    unfolding presents_code
    presents-by a b = join a b

    -- the same status word: the comparison agrees, or an earlier check speaks
    abbrev word : Bool → Bool → List ℕ → ℕ
    word b agree m =
        first (frame_sw k ∷ class_sw k
        ∷ first (first front ∷ cond b (first (tries_sw (logins c transport) ∷ challenge_sw (challenge c) ∷ unless agree 0x6988 ∷ [])) 0x9000 ∷ m) ∷ [])

    word_on : (m : List ℕ) (b p : Bool) → coded k ≡ b
        → eqb (first (frame_sw k ∷ class_sw k ∷ first front ∷ tries_sw (logins c transport) ∷ challenge_sw (challenge c) ∷ [])) 0x9000 ≡ p
        → word b (agrees (logins e) (challenge c) k) m ≡ word b (agrees (logins c) (challenge c) k) m
    word_on m true true a h = ap (λ (z : Bool). word true z m) (agrees-same (presents-by a h))
    word_on m true false a h = before-code (frame_sw k) (class_sw k) (first front) _ _ _ _ m h
    word_on m false p a h = refl

    word_same : (m : List ℕ)
        → first (frame_sw k ∷ class_sw k ∷ first (first front ∷ code_sw (logins e) (challenge c) k ∷ m) ∷ [])
        ≡ first (frame_sw k ∷ class_sw k ∷ first (first front ∷ code_sw (logins c) (challenge c) k ∷ m) ∷ [])
    unfolding code_sw
    word_same m =
        ap (λ (z : Tries). first (frame_sw k ∷ class_sw k
        ∷ first (first front ∷ cond (coded k) (first (unless (not (is_zero z.left)) 0x6983 ∷ challenge_sw (challenge c) ∷ unless (agrees (logins e) (challenge c) k) 0x6988 ∷ [])) 0x9000 ∷ m) ∷ []))
        (tries-same which c x t l transport)
        ∙ word_on m (coded k) _ refl refl

    -- the cards as the code leaves them
    abbrev keyed : Card → Bool → Bool → Card
    keyed z b agree = with_credentials z (cond b (set z.credentials (number_of transport) (key_after (credential z (number_of transport)) agree)) z.credentials)

    keyed-both : (b : Bool) → presents_code front (logins c) (challenge c) k ≡ b
        → ButValue which (keyed c b (agrees (logins c) (challenge c) k)) (keyed e b (agrees (logins e) (challenge c) k))
    keyed-both true h =
        subst (λ (z : Bool). ButValue which (keyed c true (agrees (logins c) (challenge c) k)) (keyed e true z)) (sym (agrees-same h))
        (put which c x t l (number_of transport) (λ a. key_after a (agrees (logins c) (challenge c) k)) c.session
        (λ a b n. ap (λ (z : Tries). tried z (agrees (logins c) (challenge c) k)) n))
    keyed-both false h = as-given which c x t l

    codes-alike : ButValue which (after_code front c k) (after_code front e k)
    unfolding credentials_after
    codes-alike =
        subst (λ (b : Bool). ButValue which (keyed c (presents_code front (logins c) (challenge c) k) (agrees (logins c) (challenge c) k)) (keyed e b (agrees (logins e) (challenge c) k)))
        (sym tried_same) (keyed-both (presents_code front (logins c) (challenge c) k) refl)

    still-there : number_of which < length (credentials_after front c k)
    unfolding credentials_after
    still-there =
        split (λ (xs : List Credential). number_of which < length xs) (presents_code front (logins c) (challenge c) k)
        (λ h. rw (length-set c.credentials (number_of transport) (key_after (credential c (number_of transport)) (agrees (logins c) (challenge c) k))) l) (λ h. l)

    contents-alike : (y : Deed) → EffectAlike which (did (after_code front c k) y) (did (after_code front e k) y)
    contents-alike y =
        subst (λ (z : Card). EffectAlike which (did (after_code front c k) y) (did z y)) (sym codes-alike.card-is)
        (deed-alike which (after_code front c k) codes-alike.other codes-alike.tries-are still-there y)

  module _ (i : Ins) (y : Located) (k : Command) (random : List ℕ)
      (q : Verdict (kind_by (rule i) (logins c) (challenge c) k which) (kind_by (rule i) (logins e) (challenge c) k which)) where
    outcome-alike : EffectAlike which (outcome i c y k random) (outcome i e y k random)
    unfolding outcome effect_of checks kept
    outcome-alike = go (rule i) (same-rule i) q
      where
        none : (sw : ℕ) → EffectAlike which (answers sw c) (answers sw e)
        none sw = record { cards = as-given which c x t l; rest-is = refl }

        go : (r : Rule) → SameRule r → Verdict (kind_by r (logins c) (challenge c) k which) (kind_by r (logins e) (challenge c) k which)
            → EffectAlike which (ruled_by r c y k random) (ruled_by r e y k random)
        go (of_files u f) s q =
            rw ((s k).0, (s k).1) (picked (EffectAlike which) (passes (u c k) k) (λ h. deed-alike which c x t l (f c k)) (none _))
        go (of_contents f u g) s q =
            rw ((s y k).0, (s y k).1)
            (subst (λ (sw : ℕ). EffectAlike which (ruled_by (of_contents f u g) c y k random) (ruled sw (after_code (f k) e k) (did (after_code (f k) e k) (g c y k))))
            (sym (word_same (f k) k q (u c y k)))
            (picked (EffectAlike which) (passes (checks_of (of_contents f u g) c y k) k) (λ h. contents-alike (f k) k q (g c y k))
            (record { cards = codes-alike (f k) k q; rest-is = refl })))
        go (of_credentials u f) s q =
            let g = s (challenge c) k in
            rw g.0 (picked (EffectAlike which) (passes (u (logins c) (challenge c) k) k) (λ h. g.1 (told h) random) (none _))
          where
            told : passes (u (logins c) (challenge c) k) k ≡ true
                → Verdict (kind_of (f (logins c) (challenge c) k) which) (kind_of (f (logins e) (challenge c) k) which)
            told h =
                let on-c = ap (λ (b : Bool). cond b (kind_of (f (logins c) (challenge c) k) which) other) h in
                let on-e = ap (λ (b : Bool). cond b (kind_of (f (logins e) (challenge c) k) which) other) (ap (λ (n : List ℕ). passes n k) (s (challenge c) k).0 ∙ h) in
                (λ r. sym on-e ∙ q.0 (on-c ∙ r), λ r. sym on-c ∙ q.1 (on-e ∙ r))

-- ---- the command at once, the step and the call
record Paired (which : Which) (w v : World) : Type 0 where
  cards : ButValue which w.card v.card
  area-is : w.area ≡ v.area

-- setters of both cards
module _ (which : Which) (c d : Card) (b : ButValue which c d) where
  challenged-both : (bytes : List ℕ) → ButValue which (with_challenge c bytes) (with_challenge d bytes)
  challenged-both bytes = record { other = b.other; tries-are = b.tries-are; card-is = ap (λ (y : Card). with_challenge y bytes) b.card-is }

  waiting-both : (bytes : List ℕ) → ButValue which (with_waiting c bytes) (with_waiting d bytes)
  waiting-both bytes = record { other = b.other; tries-are = b.tries-are; card-is = ap (λ (y : Card). with_waiting y bytes) b.card-is }

  cleared_both : ButValue which (cleared c) (cleared d)
  cleared_both = record { other = b.other; tries-are = b.tries-are; card-is = ap cleared b.card-is }

settled-alike : (which : Which) (e f : Effect) (area : List ℕ) → EffectAlike which e f → StepAlike (Paired which) (settled e area) (settled f area)
unfolding settled
settled-alike which e f area k = record {
  bytes-are = ap (λ (z : Effect). z.says ++ part z.from z.shows area) k.rest-is;
  sw-is = ap (λ (z : Effect). z.sw) k.rest-is;
  worlds = record {
    cards = subst (λ (z : List ℕ). ButValue which (with_challenge e.card e.says) (with_challenge f.card z)) (ap (λ (z : Effect). z.says) k.rest-is)
        (challenged-both which e.card f.card k.cards e.says);
    area-is = ap (λ (z : Effect). splice area z.into z.stores) k.rest-is;
  };
}

value-waited : (which : Which) → Waited (Paired which)
value-waited which w v bytes r = record { cards = waiting-both which w.card v.card r.cards bytes; area-is = r.area-is }

module _ (which : Which) (c : Card) (x : Credential) (t : x.tries ≡ (credential c (number_of which)).tries) (l : number_of which < length c.credentials)
    (area cmd random : List ℕ) where
  abbrev z : Card
  z = with_credential c (number_of which) x

  module _ (q : Verdict (kind_on c cmd which) (kind_on z cmd which)) where
    -- by the command's rule
    by-rule : Verdict (kind_by (rule (listed (framed cmd))) (logins c) (challenge c) (framed cmd) which) (kind_by (rule (listed (framed cmd))) (logins z) (challenge c) (framed cmd) which)
    by-rule =
        let on-c = kind-same (listed (framed cmd)) (logins c) (challenge c) cmd which in
        let on-z = kind-same (listed (framed cmd)) (logins z) (challenge c) cmd which in
        (λ r. sym on-z ∙ q.0 (on-c ∙ r), λ r. sym on-c ∙ q.1 (on-z ∙ r))

    at-once-alike : StepAlike (Paired which) (at_once c area cmd random) (at_once z area cmd random)
    unfolding at_once record_found target
    at-once-alike =
        settled-alike which (outcome (listed (framed cmd)) c (record_found c area (framed cmd)) (framed cmd) random)
        (outcome (listed (framed cmd)) z (record_found c area (framed cmd)) (framed cmd) random) area
        (outcome-alike which c x t l (listed (framed cmd)) (record_found c area (framed cmd)) (framed cmd) random by-rule)

    value-step : StepAlike (Paired which) (step c area cmd random) (step z area cmd random)
    value-step =
        step_both (Paired which) (value-waited which) (world c area) (world z area)
        (record { cards = record { other = x; tries-are = t; card-is = refl }; area-is = refl }) refl cmd random at-once-alike

-- all four are there
there : (which : Which) (w : World) → SoundWorld w → number_of which < length w.card.credentials
there which w s = rw (sound-good w.card w.area s.sound-card).all_there (numbered which)

module _ (which : Which) where
  value-call : (w : World) (x : Credential) → x.tries ≡ (credential w.card (number_of which)).tries → (e : Event) → SoundWorld w
      → let v = world (with_credential w.card (number_of which) x) w.area in
      SoundWorld v → SameVerdict which w v e → (heard w e ≡ heard v e) × Paired which (called w e) (called v e)
  value-call w x t (sent cmd random reply) lw lv q =
      let v = world (with_credential w.card (number_of which) x) w.area in
      command-alike (Paired which) w v lw lv cmd random reply
      (record { cards = record { other = x; tries-are = t; card-is = refl }; area-is = refl })
      (λ s. value-step which w.card x t (there which w lw) w.area cmd random (q s))
  value-call w x t resets lw lv q =
      let v = world (with_credential w.card (number_of which) x) w.area in
      reset-alike (Paired which) w v lw lv
      (record { cards = cleared_both which w.card v.card (record { other = x; tries-are = t; card-is = refl }); area-is = refl })

  paired-call : (w v : World) (e : Event) → SoundWorld w → SoundWorld v → Paired which w v → SameVerdict which w v e
      → (heard w e ≡ heard v e) × Paired which (called w e) (called v e)
  paired-call w v e lw lv r =
      subst (λ (y : World). SoundWorld y → SameVerdict which w y e → (heard w e ≡ heard y e) × Paired which (called w e) (called y e))
      (ap₂ world (sym r.cards.card-is) r.area-is)
      (value-call w r.cards.other r.cards.tries-are e lw) lv

  -- ---- in the statement's words
  -- one credential of the list is another, and all else is the same
  other-card : (c d : Card) (xs : List Credential) → d.credentials ≡ xs → c.directory ≡ d.directory → c.session ≡ d.session → c.response ≡ d.response
      → c.journal ≡ d.journal → d ≡ with_credentials c xs
  other-card c d xs a b s r j =
      sym (ap₂ (λ x y. with_credentials (with_directory c x) y) b (sym a)
      ∙ ap₂ (λ x y. with_credentials (with_directory (with_session (with_response c y) x) d.directory) d.credentials) s r
      ∙ ap (λ x. with_credentials (with_directory (with_session (with_response (with_journal c x) d.response) d.session) d.directory) d.credentials) j)

  to-pair : (w v : World) → SoundWorld w → SoundWorld v → AllButValue which w v → Paired which w v
  to-pair w v lw lv r = record {
    cards = record {
      other = x;
      tries-are = sym r.tries-are;
      card-is =
          other-card w.card v.card (set xs n x) list-is r.directory-is r.session-is r.response-is
          ((sound-good w.card w.area lw.sound-card).journal ∙ sym (sound-good v.card v.area lv.sound-card).journal);
    };
    area-is = r.area-is;
  }
    where
      n : ℕ
      n = number_of which

      xs : List Credential
      xs = w.card.credentials

      x : Credential
      x = credential_no v.card n

      long : length v.card.credentials ≡ length (set xs n x)
      long = (sound-good v.card v.area lv.sound-card).all_there ∙ sym (sound-good w.card w.area lw.sound-card).all_there ∙ sym (length-set xs n x)

      list-is : v.card.credentials ≡ set xs n x
      list-is =
          ext_get_or no_credential v.card.credentials (set xs n x) long
          (λ m h. by_cases (ℕ_discrete m n) (λ e. rw e (sym (get_or-set_same xs n x no_credential (there which w lw))))
          (λ o. sym (r.others-are m o) ∙ sym (get_or-set_other xs n m x no_credential o)))

  from-pair : (w v : World) → SoundWorld w → Paired which w v → AllButValue which w v
  from-pair w v lw r =
      subst (λ (y : World). AllButValue which w y) (ap₂ world (sym r.cards.card-is) r.area-is)
      (record {
        tries-are = sym (tries-same which w.card r.cards.other r.cards.tries-are (there which w lw) which);
        others-are = λ m o. sym (at_others (number_of which) w.card.credentials r.cards.other r.cards.tries-are (there which w lw) m o);
        directory-is = refl;
        session-is = refl;
        response-is = refl;
        area-is = refl;
      })

  one_value : (w v : World) (e : Event) → SoundWorld w → SoundWorld v → AllButValue which w v → SameVerdict which w v e
      → (heard w e ≡ heard v e) × AllButValue which (called w e) (called v e)
  one_value w v e lw lv r q =
      let k = paired-call w v e lw lv (to-pair w v lw lv r) q in (k.0, from-pair (called w e) (called v e) (call-live w e lw) k.1)

pub guesser : Guesser
guesser which w v es sw sv r p = each-call (AllButValue which) (SameVerdict which) (one_value which) w v es sw sv r p

none-same : (which : Which) (w v : World) (e : Event) → NoneRight which w v e → SameVerdict which w v e
none-same which w v (sent cmd random reply) p = λ s. (λ r. absurd ((p s).0 r), λ r. absurd ((p s).1 r))
none-same which w v resets p = p

pub unguessed : Unguessed
unguessed which w v es sw sv r p = guesser which w v es sw sv r (before-less (NoneRight which) (SameVerdict which) (none-same which) w v es p)

pub other-value : OtherValue
other-value which value w s good =
    let g = sound-good w.card w.area s.sound-card in
    let x = credential_of value (credential w.card (number_of which)).tries in
    let v = world (with_value which w.card value) w.area in (
      record {
        sound-card = sound-both (with_value which w.card value) w.area (valued w.card g which value good) (sound-parted w.card w.area s.sound-card);
        size_is = s.size_is;
      },
      (
        from-pair which w v s (record { cards = record { other = x; tries-are = refl; card-is = refl }; area-is = refl }),
        ap (λ (y : Credential). take y.len y.value) (get_or-set_same w.card.credentials (number_of which) x no_credential (there which w s)) ∙ filled-back value,
      ),
    )
