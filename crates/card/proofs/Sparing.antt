-- What a command leaves alone: the journal and what waits; and the transport key, whose tries a code alone changes. They are put into the card at the end.
-- Assumes nothing.
use Prim.Native.Nat.{ℕ}
use native.Mathlib.Omega.{arith}
use mathlib.Core.Bool.{Bool, true, false, cond}
use mathlib.Core.List.{List}
use mathlib.Core.Path.{◌≡◌, refl, sym, ap, ◌∙◌}
use lib.Dec.{eqb}
use lib.ListN.{get_or, set}
use lib.Seq.{set-get_or, get_or-set_other}
use Rattle.files.specs.declared.Located.{Located}
use Rattle.files.specs.Words.{is_zero}
use Rattle.files.proofs.Checks.{split}
use Rattle.rules.specs.declared.Card.{Card}
use Rattle.rules.specs.declared.Credential.{Credential}
use Rattle.rules.specs.declared.Ins.{Ins}
use Rattle.rules.specs.declared.Ins.TheVariants.{Select, ReadBinary, UpdateBinary, ReadRecord, UpdateRecord, AppendRecord, Verify, Authenticate, ChangePin, ReloadPin, CreateFile, GetChallenge, GetResponse, Unlisted}
use Rattle.rules.specs.Words.{same}
use Rattle.rules.specs.Tries.{restored}
use Rattle.rules.specs.State.{admin, user, number_of, no_credential, credential, logins, challenge, credential_of, with_tries, with_credentials}
use Rattle.rules.specs.Frame.{Command}
use Rattle.rules.specs.Effect.{Deed, turns, enters, shows, stores, appends, makes, founds, Touch, nothing, presents, changes, reloads, challenges, Effect, effect, answers}
use Rattle.rules.specs.Pins.{compared_at}
use Rattle.rules.specs.List.{Rule, of_files, of_contents, of_credentials, rule}
use Rattle.rules.specs.Code.{credentials_after, after_code}
use Rattle.rules.specs.Step.{sw_of, kept_by, effect_by, kept, effect_of, did, touched, ruled, outcome}
use Rattle.card.specs.Carried.{with_key_left}

-- ---- tries put back as they are
pub same_left : (c : Card) → with_key_left c (credential c 3).tries.left ≡ c
same_left c = ap (with_credentials c) (set-get_or c.credentials 3 no_credential)

-- an effect with so many tries left of the transport key
abbrev pub keyed : ℕ → Effect → Effect
keyed n e = effect e.sw (with_key_left e.card n) e.says e.from e.shows e.into e.stores

-- ---- what is done to files goes by no credential
pub did-keyed : (n : ℕ) (c : Card) (d : Deed) → did (with_key_left c n) d ≡ keyed n (did c d)
did-keyed n c (turns place) = refl
did-keyed n c (enters x) = refl
did-keyed n c (shows place at x) = refl
did-keyed n c (stores place at bytes) = refl
did-keyed n c (appends place bytes) = refl
did-keyed n c (makes f) = refl
did-keyed n c (founds x) = refl

pub ruled-keyed : (n sw : ℕ) (c : Card) (e : Effect) → keyed n (ruled sw c e) ≡ ruled sw (with_key_left c n) (keyed n e)
ruled-keyed n sw c e = go (eqb sw 0x9000)
  where
    go : (b : Bool) → keyed n (cond b e (answers sw c)) ≡ cond b (keyed n e) (answers sw (with_key_left c n))
    go true = refl
    go false = refl

-- ---- no command touches the transport key
abbrev pub Spares : Touch → Type 0
Spares nothing = Unit
Spares (presents w value given) = 3 ≡ number_of w → ⊥
Spares (changes w d) = 3 ≡ number_of w → ⊥
Spares (reloads w d) = 3 ≡ number_of w → ⊥
Spares (challenges n) = Unit

module _ (c : Card) where
  compared-spared : (n : ℕ) → (3 ≡ n → ⊥) → (b : Bool) → credential (compared_at n c b).card 3 ≡ credential c 3
  unfolding compared_at
  compared-spared n o true = get_or-set_other c.credentials n 3 _ no_credential o
  compared-spared n o false = get_or-set_other c.credentials n 3 _ no_credential o

  touched-spared : (t : Touch) → Spares t → (random : List ℕ) → credential (touched c t random).card 3 ≡ credential c 3
  touched-spared nothing o random = refl
  touched-spared (presents w value given) o random = compared-spared (number_of w) o (same value given)
  touched-spared (changes w d) o random = get_or-set_other c.credentials (number_of w) 3 _ no_credential o
  touched-spared (reloads w d) o random =
      let xs = set c.credentials (number_of w) (credential_of d (credential c (number_of w)).tries) in
      get_or-set_other xs (number_of w) 3 (with_tries (get_or xs (number_of w) no_credential) (restored (credential c (number_of w)).tries)) no_credential o
      ∙ get_or-set_other c.credentials (number_of w) 3 (credential_of d (credential c (number_of w)).tries) no_credential o
  touched-spared (challenges n) o random = refl

  pub touched-keyed : (t : Touch) → Spares t → (random : List ℕ) → keyed (credential c 3).tries.left (touched c t random) ≡ touched c t random
  touched-keyed t o random =
      let e = touched c t random in
      let p : with_key_left e.card (credential c 3).tries.left ≡ e.card =
      ap (λ (x : Credential). with_key_left e.card x.tries.left) (sym (touched-spared t o random)) ∙ same_left e.card in
      ap (λ (x : Card). effect e.sw x e.says e.from e.shows e.into e.stores) p

abbrev pub SparesBy : Rule → Command → Card → Type 0
SparesBy (of_files t d) k c = Unit
SparesBy (of_contents f t d) k c = Unit
SparesBy (of_credentials t d) k c = Spares (d (logins c) (challenge c) k)

pin-spared : (b : Bool) → 3 ≡ number_of (cond b admin user) → ⊥
pin-spared true e = omega (arith, e)
pin-spared false e = omega (arith, e)

pub spares : (i : Ins) (k : Command) (c : Card) → SparesBy (rule i) k c
unfolding rule
spares Select k c = tt
spares ReadBinary k c = tt
spares UpdateBinary k c = tt
spares ReadRecord k c = tt
spares UpdateRecord k c = tt
spares AppendRecord k c = tt
spares Verify k c = split Spares (eqb k.case 1) (λ t. tt) (λ t. pin-spared (is_zero k.p2))
spares Authenticate k c = λ e. omega (arith, e)
spares ChangePin k c = pin-spared (is_zero k.p2)
spares ReloadPin k c = λ e. omega (arith, e)
spares CreateFile k c = tt
spares GetChallenge k c = tt
spares GetResponse k c = tt
spares Unlisted k c = tt

-- ---- the journal and what waits
abbrev pub Stays : Card → Card → Type 0
Stays c x = (x.response ≡ c.response) × (x.journal ≡ c.journal)

module _ (c : Card) where
  did-stays : (d : Deed) → Stays c (did c d).card
  did-stays (turns place) = (refl, refl)
  did-stays (enters x) = (refl, refl)
  did-stays (shows place at x) = (refl, refl)
  did-stays (stores place at bytes) = (refl, refl)
  did-stays (appends place bytes) = (refl, refl)
  did-stays (makes f) = (refl, refl)
  did-stays (founds x) = (refl, refl)

  compared-stays : (n : ℕ) (b : Bool) → Stays c (compared_at n c b).card
  unfolding compared_at
  compared-stays n true = (refl, refl)
  compared-stays n false = (refl, refl)

  touched-stays : (t : Touch) (random : List ℕ) → Stays c (touched c t random).card
  touched-stays nothing random = (refl, refl)
  touched-stays (presents w value given) random = compared-stays (number_of w) (same value given)
  touched-stays (changes w d) random = (refl, refl)
  touched-stays (reloads w d) random = (refl, refl)
  touched-stays (challenges n) random = (refl, refl)

pub outcome-stays : (i : Ins) (c : Card) (l : Located) (k : Command) (random : List ℕ) → Stays c (outcome i c l k random).card
unfolding outcome kept effect_of credentials_after
outcome-stays i c l k random = go (rule i) (sw_of i c l k)
  where
    go : (q : Rule) (sw : ℕ) → Stays c (ruled sw (kept_by q c k) (effect_by q c l k random)).card
    go (of_files t d) sw = split (λ (e : Effect). Stays c e.card) (eqb sw 0x9000) (λ y. did-stays c (d c k)) (λ y. (refl, refl))
    go (of_contents f t d) sw = split (λ (e : Effect). Stays c e.card) (eqb sw 0x9000) (λ y. did-stays (after_code (f k) c k) (d c l k)) (λ y. (refl, refl))
    go (of_credentials t d) sw = split (λ (e : Effect). Stays c e.card) (eqb sw 0x9000) (λ y. touched-stays c (d (logins c) (challenge c) k) random) (λ y. (refl, refl))
