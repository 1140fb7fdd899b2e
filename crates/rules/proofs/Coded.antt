-- What a code leaves: the card as it was but for the tries of the transport key, and sound where it was.
use Prim.Native.Nat.{ℕ}
use mathlib.Core.Bool.{Bool, true, false}
use mathlib.Core.List.{List, [], ◌∷◌}
use mathlib.Core.Path.{◌≡◌, refl}
use Rattle.files.proofs.Checks.{split}
use Rattle.rules.specs.declared.Credential.{Credential}
use Rattle.rules.specs.declared.Card.{Card}
use Rattle.rules.specs.Words.{unless}
use Rattle.rules.specs.State.{transport, Logins, login, logins, challenge, with_credentials}
use Rattle.rules.specs.Frame.{Command, coded}
use Rattle.rules.specs.Pins.{tries_sw}
use Rattle.rules.specs.Device.{challenge_sw}
use Rattle.rules.specs.Code.{agrees, code_sw, presents_code, credentials_after, after_code}
use Rattle.rules.specs.Tries.{tried}
use Rattle.rules.proofs.Checks.{passed, holds}
use Rattle.rules.proofs.Good.{Good, Tried, tried-full, tried-lowered, tried-in, keyed, no-right}

module _ (c : Card) (g : Good c) where
  pub tried-after : (right : Bool) → Tried (tried (login transport c).tries right) (login transport c).held
  tried-after true = tried-full (login transport c).tries.limit (login transport c).held (tried-in c g transport).limit
  tried-after false = rw (no-right c g) (tried-lowered _ _ (tried-in c g transport))

  pub coded-good : (front : List ℕ) (k : Command) → Good (after_code front c k)
  unfolding credentials_after
  coded-good front k =
      split (λ (xs : List Credential). Good (with_credentials c xs)) (presents_code front (logins c) (challenge c) k)
      (λ e. keyed c g transport _ (tried-after (agrees (logins c) (challenge c) k))) (λ e. g)

-- where a command with a code passes, the code agrees, a try was left and there was a challenge
pub record Agreed (l : Logins) (ch : List ℕ) (k : Command) : Type 0 where
  pub tries : tries_sw (l transport) ≡ 0x9000
  pub challenge : challenge_sw ch ≡ 0x9000
  pub agreed : agrees l ch k ≡ true

pub code-agreed : (l : Logins) (ch : List ℕ) (k : Command) → code_sw l ch k ≡ 0x9000 → coded k ≡ true → Agreed l ch k
unfolding code_sw
code-agreed l ch k h e =
    let p = passed (tries_sw (l transport) ∷ challenge_sw ch ∷ unless (agrees l ch k) 0x6988 ∷ []) (rw e at h) in
    record { tries = p.0; challenge = p.1.0; agreed = holds (agrees l ch k) 0x6988 refl p.1.1.0 }
