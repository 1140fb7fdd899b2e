-- Where the tests hold the theorems apply.
use Prim.Native.Nat.{ℕ, ◌<◌}
use mathlib.Core.Bool.{Bool, true, false, cond, ◌&&◌, not}
use mathlib.Core.List.{List, [], ◌∷◌}
use mathlib.Core.Logic.{inl, inr}
use mathlib.Core.Path.{◌≡◌, refl, sym, ap, ◌∙◌}
use native.Mathlib.Omega.{arith}
use lib.Dec.{eqb, leb}
use borrow.Author.Tests.{eqb-true, leb-true, not-true}
use Rattle.files.specs.Walk.{length_at}
use Rattle.files.specs.Record.{length_byte, records_held}
use Rattle.files.proofs.Checks.{clash, both, below}
use Rattle.rules.specs.declared.Card.{Card}
use Rattle.rules.specs.Words.{first, same}
use Rattle.rules.specs.State.{Which, transport, number_of, logins, challenge}
use Rattle.rules.specs.Frame.{Command, framed, coded}
use Rattle.rules.specs.Effect.{Touch, nothing, presents, changes, reloads, challenges}
use Rattle.rules.specs.Target.{file_of, opens}
use Rattle.rules.specs.Pins.{tries_sw}
use Rattle.rules.specs.Device.{challenge_sw}
use Rattle.rules.specs.Code.{expected}
use Rattle.rules.specs.List.{listed, Rule, of_files, of_contents, of_credentials, rule}
use Rattle.rules.proofs.Checks.{one_of}
use Rattle.rules.proofs.Good.{Good, sound-good}
use Rattle.demands.specs.Ledger.{Event, sent, resets, Kind, other, right, wrong, changed, reloaded, is_right, passes, presented}
use Rattle.demands.specs.Run.{World, SoundWorld, called}
use Rattle.demands.specs.Codes.{kind_on}
use Rattle.demands.specs.Outsider.{Before, IsReadOf, Unsatisfied, NoneRight}
use Rattle.demands.proofs.Presented.{presented-is}
use Rattle.demands.proofs.Rows.{kind_of, kind_by, kind-same}
use Rattle.demands.proofs.Named.{named-target, asked-opens}
use Rattle.demands.proofs.Live.{call-live}
use Rattle.outsider_examples.specs.Tests.{read_from, closed, closed_all, ClosedBefore, LengthsTold, right_by, right_under, right_on, wrong_on, wrong_all, WrongBefore}

pub lengths-told : LengthsTold
lengths-told f x y h v k l =
    eqb-true _ _ (below (λ k. eqb (length_at y (length_byte f x k)) (length_at x (length_byte f x k))) (records_held f x) (rw v at h) k l)

-- a read of the file is a READ that names it
read-from : (c : Card) → Good c → (k : Command) (n : ℕ) → IsReadOf c k n → read_from c k ≡ n
read-from c g k n (inl r) = rw r.addresses.instruction-is (named-target c g _ n r.addresses.named)
read-from c g k n (inr r) = rw r.addresses.instruction-is (named-target c g _ n r.addresses.named)

closed-one : (m n : ℕ) (w v : World) (e : Event) → SoundWorld w → m < n → closed m w e ≡ true → Unsatisfied n w v e
closed-one m n w v (sent cmd random reply) s low h = λ served r held.
    let k = framed cmd in
    let e = read-from w.card (sound-good w.card w.area s.sound-card) k n r in
    one_of (leb (read_from w.card k) m) (not (opens w.card (file_of w.card (read_from w.card k)).read)) h
    (λ z. absurd (omega (arith, e, low, leb-true (read_from w.card k) m z)))
    (λ z. clash (opens w.card (file_of w.card n).read) (asked-opens w.card (file_of w.card n).read held)
    (ap (λ (x : ℕ). opens w.card (file_of w.card x).read) (sym e) ∙ not-true _ z))
closed-one m n w v resets s low h = tt

pub closed-before : ClosedBefore
unfolding closed_all Before
closed-before m n w v [] s low h = tt
closed-before m n w v (e ∷ es) s low h =
    let b = both (closed m w e) (closed_all m (called w e) es) h in
    (closed-one m n w v e s low b.0, closed-before m n (called w e) (called v e) es (call-live w e s) low b.1)

-- the ledger's comparison is the rules'
compare-right : (a b : Bool) (value given : List ℕ) → is_right (cond a (cond b (presented value given) other) other) ≡ (a && (b && same value given))
compare-right a b value given = ap (λ (x : Kind). is_right (cond a (cond b x other) other)) (sym (presented-is value given)) ∙ go a b (same value given)
  where
    go : (a b s : Bool) → is_right (cond a (cond b (cond s right wrong) other) other) ≡ (a && (b && s))
    go true true true = refl
    go true true false = refl
    go true false s = refl
    go false b s = refl

touch-right : (t : Touch) (w : Which) → is_right (kind_of t w) ≡ right_by t w
touch-right nothing w = refl
touch-right (presents v value given) w = compare-right (eqb (number_of v) (number_of w)) true value given
touch-right (changes v d) w = named (eqb (number_of v) (number_of w))
  where
    named : (a : Bool) → is_right (cond a (changed d) other) ≡ false
    named true = refl
    named false = refl
touch-right (reloads v d) w = named (eqb (number_of v) (number_of w))
  where
    named : (a : Bool) → is_right (cond a (reloaded d) other) ≡ false
    named true = refl
    named false = refl
touch-right (challenges n) w = refl

right-on : (c : Card) (cmd : List ℕ) (w : Which) → is_right (kind_on c cmd w) ≡ right_on c cmd w
right-on c cmd w = ap is_right (kind-same (listed (framed cmd)) (logins c) (challenge c) cmd w) ∙ go (rule (listed (framed cmd)))
  where
    k : Command
    k = framed cmd

    where-passed : (b : Bool) (t : Touch) → is_right (cond b (kind_of t w) other) ≡ (b && right_by t w)
    where-passed true t = touch-right t w
    where-passed false t = refl

    go : (r : Rule) → is_right (kind_by r (logins c) (challenge c) (framed cmd) w) ≡ right_under r c (framed cmd) w
    go (of_files t d) = refl
    go (of_contents f t d) =
        compare-right (eqb (number_of transport) (number_of w)) (coded k && passes (first (f k) ∷ tries_sw (logins c transport) ∷ challenge_sw (challenge c) ∷ []) k)
        (expected (logins c) (challenge c) k) k.code
    go (of_credentials t d) = where-passed (passes (t (logins c) (challenge c) k) k) (d (logins c) (challenge c) k)

wrong-one : (which : Which) (w v : World) (e : Event) → wrong_on which w v e ≡ true → NoneRight which w v e
wrong-one which w v (sent cmd random reply) h = λ served.
    let b = both (not (right_on w.card cmd which)) (not (right_on v.card cmd which)) h in (
      λ r. clash (right_on w.card cmd which) (sym (right-on w.card cmd which) ∙ ap is_right r) (not-true _ b.0),
      λ r. clash (right_on v.card cmd which) (sym (right-on v.card cmd which) ∙ ap is_right r) (not-true _ b.1),
    )
wrong-one which w v resets h = tt

pub wrong-before : WrongBefore
unfolding wrong_all Before
wrong-before which w v [] h = tt
wrong-before which w v (e ∷ es) h =
    let b = both (wrong_on which w v e) (wrong_all which (called w e) (called v e) es) h in
    (wrong-one which w v e b.0, wrong-before which (called w e) (called v e) es b.1)
