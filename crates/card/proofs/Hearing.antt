-- The three ways out of a command with or without a code.
-- Assumes nothing.
use Prim.Native.Nat.{ℕ}
use mathlib.Core.Bool.{Bool, true, false, cond, ◌&&◌}
use mathlib.Core.List.{List, [], ◌∷◌}
use mathlib.Core.Logic.{by_cases}
use mathlib.Core.Path.{◌≡◌, refl, sym, ap, ◌∙◌}
use native.Mathlib.Decide.{ℕ_discrete}
use lib.Dec.{eqb}
use borrow.Author.Tests.{eq-eqb, ne_eqb}
use Rattle.codes.specs.Code.{mac, code}
use Rattle.rules.specs.declared.Card.{Card}
use Rattle.rules.specs.Words.{unless, or_else, first, same, filled}
use Rattle.rules.specs.State.{transport, value_of, credential, login, logins, challenge, with_credential}
use Rattle.rules.specs.Frame.{Command, frame_sw, class_sw}
use Rattle.rules.specs.Pins.{tries_sw}
use Rattle.rules.specs.Device.{challenge_sw}
use Rattle.rules.specs.Code.{agrees, code_sw, presents_code, key_after, credentials_after}
use Rattle.rules.proofs.Checks.{passed, passing}
use Rattle.card.specs.declared.Heard.{Heard}
use Rattle.rules.specs.Tries.{tried}
use Rattle.card.specs.Carried.{with_key_left}
use Rattle.card.specs.Checks.{checked}
use Rattle.card.specs.Coded.{code_given, heard_so, Hears}
use Rattle.card.proofs.Sparing.{same_left}

-- 9000 behind a check is nothing
last-good : (a : ℕ) → a ≡ or_else a 0x9000
unfolding or_else
last-good a = by_cases (ℕ_discrete a 0x9000) (λ e. rw (eq-eqb a 0x9000 e) e) (λ n. rw (ne_eqb a 0x9000 n))

-- and nothing comes behind a refusal
refused-early : (a b c d : ℕ) → (or_else a (or_else b c) ≡ 0x9000 → ⊥) → or_else a (or_else b c) ≡ or_else a (or_else b (or_else c d))
unfolding or_else
refused-early a b c d h =
    by_cases (ℕ_discrete a 0x9000)
    (λ p. by_cases (ℕ_discrete b 0x9000)
    (λ q. by_cases (ℕ_discrete c 0x9000)
    (λ r. absurd (h (passing (a ∷ b ∷ c ∷ []) (p, (q, (r, tt))))))
    (λ r. rw (ne_eqb c 0x9000 r)))
    (λ q. rw (ne_eqb b 0x9000 q)))
    (λ p. rw (ne_eqb a 0x9000 p))

all-good : {a b c : ℕ} (d : ℕ) → a ≡ 0x9000 → b ≡ 0x9000 → c ≡ 0x9000 → d ≡ or_else a (or_else b (or_else c d))
unfolding or_else
all-good d p q r = rw (p, q, r)

module _ (front : ℕ) (c : Card) (k : Command) (r : Heard) where
  pub no_code : (k.cla ≡ 0x04 → ⊥) → r ≡ heard_so (checked front) (credential c 3).tries.left → Hears front c k r
  unfolding credentials_after presents_code code_sw
  no_code n e = record {
    left_is = ap (λ (x : Heard). with_key_left c x.left) e ∙ same_left c ∙ rw (ne_eqb k.cla 0x04 n);
    verdict-is = ap (λ (x : Heard). x.verdict) e ∙ rw (ne_eqb k.cla 0x04 n) (ap checked (last-good front));
  }

  module _ (e : k.cla ≡ 0x04) (good : or_else (frame_sw k) (class_sw k) ≡ 0x9000) where
    test-is : presents_code (front ∷ []) (logins c) (challenge c) k ≡ eqb (or_else front (or_else (tries_sw (login transport c)) (challenge_sw (challenge c)))) 0x9000
    unfolding presents_code or_else
    test-is =
        let p = passed (frame_sw k ∷ class_sw k ∷ []) good in
        ap (λ (b : Bool). b && eqb (first (frame_sw k ∷ class_sw k ∷ front ∷ tries_sw (login transport c) ∷ challenge_sw (challenge c) ∷ [])) 0x9000) (eq-eqb k.cla 0x04 e)
        ∙ ap (λ (a : ℕ). eqb (first (a ∷ class_sw k ∷ front ∷ tries_sw (login transport c) ∷ challenge_sw (challenge c) ∷ [])) 0x9000) p.0
        ∙ ap (λ (a : ℕ). eqb (first (a ∷ front ∷ tries_sw (login transport c) ∷ challenge_sw (challenge c) ∷ [])) 0x9000) p.1.0

    code_is : code_sw (logins c) (challenge c) k
        ≡ or_else (tries_sw (login transport c)) (or_else (challenge_sw (challenge c)) (unless (agrees (logins c) (challenge c) k) 0x6988))
    unfolding code_sw
    code_is = ap (λ (b : Bool). cond b (first (tries_sw (login transport c) ∷ challenge_sw (challenge c) ∷ unless (agrees (logins c) (challenge c) k) 0x6988 ∷ [])) 0x9000) (eq-eqb k.cla 0x04 e)

    pub refused-code : (sw : ℕ) → sw ≡ or_else front (or_else (tries_sw (login transport c)) (challenge_sw (challenge c))) → (sw ≡ 0x9000 → ⊥)
        → r ≡ heard_so (checked sw) (credential c 3).tries.left → Hears front c k r
    unfolding credentials_after
    refused-code sw is n a =
        let m : or_else front (or_else (tries_sw (login transport c)) (challenge_sw (challenge c))) ≡ 0x9000 → ⊥ = λ z. n (is ∙ z) in
        record {
          left_is = ap (λ (x : Heard). with_key_left c x.left) a ∙ same_left c ∙ rw (test-is, ne_eqb _ 0x9000 m);
          verdict-is = ap (λ (x : Heard). x.verdict) a ∙ rw code_is (ap checked (is ∙ refused-early front _ _ _ m));
        }

    -- the limit stays
    key-after : (right : Bool) → with_key_left c (tried (credential c 3).tries right).left ≡ with_credential c 3 (key_after (credential c 3) right)
    key-after true = refl
    key-after false = refl

    pub presented-code : value_of (credential c 3) ≡ (credential c 3).value → (sw : ℕ) → sw ≡ or_else front (or_else (tries_sw (login transport c)) (challenge_sw (challenge c))) → sw ≡ 0x9000
        → (right : Bool) → right ≡ code_given c k.covered k.code
        → r ≡ heard_so (checked (unless right 0x6988)) (tried (credential c 3).tries right).left → Hears front c k r
    unfolding credentials_after
    presented-code whole sw is n right given a =
        let f : right ≡ agrees (logins c) (challenge c) k = given ∙ ap (λ (v : List ℕ). same (code (mac v (filled (challenge c)) k.covered)) k.code) (sym whole) in
        let g : or_else front (or_else (tries_sw (login transport c)) (challenge_sw (challenge c))) ≡ 0x9000 = sym is ∙ n in
        let w = passed (front ∷ tries_sw (login transport c) ∷ challenge_sw (challenge c) ∷ []) g in
        record {
          left_is = ap (λ (x : Heard). with_key_left c x.left) a ∙ key-after right ∙ rw (test-is, eq-eqb _ 0x9000 g, f);
          verdict-is = ap (λ (x : Heard). x.verdict) a ∙ rw code_is (ap checked (ap (λ (b : Bool). unless b 0x6988) f ∙ all-good _ w.0 w.1.0 w.1.1.0));
        }
