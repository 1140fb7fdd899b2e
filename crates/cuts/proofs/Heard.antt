-- The card once a code's own stores are made.
use Prim.Native.Nat.{ℕ, ◌-◌}
use mathlib.Core.Bool.{Bool, true, false}
use mathlib.Core.List.{List}
use mathlib.Core.Path.{◌≡◌, refl, sym, ap, ◌∙◌, subst}
use Rattle.rules.specs.declared.Card.{Card}
use Rattle.rules.specs.declared.Credential.{Credential}
use Rattle.rules.specs.Words.{same}
use Rattle.rules.specs.State.{Which, transport, number_of, no_credential, login, with_credentials, with_left}
use Rattle.rules.specs.Sound.{sound}
use Rattle.rules.specs.Effect.{Touch, nothing, presents, changes, reloads, challenges}
use Rattle.rules.proofs.Good.{Good, sound-good, sound-parted, sound-both, keyed}
use Rattle.rules.proofs.Coded.{tried-after}
use Rattle.power.specs.Store.{memory, puts}
use Rattle.power.specs.Plan.{present_stores, touch_stores}
use Rattle.power.proofs.Alter.{alter-twice, alter-set}
use Rattle.cuts.specs.Cut.{presented_to, heard}
use Rattle.cuts.proofs.Planned.{IsCode}

-- the stores of a presentation
pub present-put : (c : Card) (area : List ℕ) (w : Which) (agrees : Bool) → puts (present_stores c w agrees) (memory c area) ≡ memory (presented_to c w agrees) area
present-put c area w true =
    ap (λ (l : List Credential). memory (with_credentials c l) area)
    (alter-twice (with_left (login w c).tries.limit) (with_left ((login w c).tries.left - 1)) (with_left (login w c).tries.limit) (λ x. refl) c.credentials (number_of w)
    ∙ alter-set (with_left (login w c).tries.limit) c.credentials (number_of w) no_credential)
present-put c area w false =
    ap (λ (l : List Credential). memory (with_credentials c l) area) (alter-set (with_left ((login w c).tries.left - 1)) c.credentials (number_of w) no_credential)

pub heard-put : (c : Card) (area : List ℕ) (t : Touch) → IsCode t → puts (touch_stores c t) (memory c area) ≡ memory (heard c t) area
heard-put c area nothing q = refl
heard-put c area (presents w value given) q = present-put c area w (same value given)
heard-put c area (changes w d) q = absurd q
heard-put c area (reloads w d) q = absurd q
heard-put c area (challenges n) q = absurd q

-- it is sound
heard-good : (c : Card) → Good c → (t : Touch) → IsCode t → Good (heard c t)
heard-good c g nothing q = g
heard-good c g (presents w value given) q =
    subst (λ (v : Which). Good (presented_to c v (same value given))) (sym q) (keyed c g transport _ (tried-after c g (same value given)))
heard-good c g (changes w d) q = absurd q
heard-good c g (reloads w d) q = absurd q
heard-good c g (challenges n) q = absurd q

-- and all but the credentials is as it was
pub heard-files : (c : Card) (t : Touch) → (heard c t).directory ≡ c.directory
heard-files c nothing = refl
heard-files c (presents w value given) = refl
heard-files c (changes w d) = refl
heard-files c (reloads w d) = refl
heard-files c (challenges n) = refl

pub heard-sound : (c : Card) (area : List ℕ) → sound c area ≡ true → (t : Touch) → IsCode t → sound (heard c t) area ≡ true
heard-sound c area h nothing q = h
heard-sound c area h (presents w value given) q =
    sound-both (heard c (presents w value given)) area (heard-good c (sound-good c area h) (presents w value given) q) (sound-parted c area h)
heard-sound c area h (changes w d) q = absurd q
heard-sound c area h (reloads w d) q = absurd q
heard-sound c area h (challenges n) q = absurd q
