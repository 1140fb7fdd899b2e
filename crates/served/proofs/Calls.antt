-- The calls: a command, an issue, a reset; and the rights byte both ways.
use Prim.Native.Nat.{ℕ, ◌+◌, ◌/◌, ◌%◌, ◌≤◌}
use mathlib.Core.Bool.{Bool, true, false}
use mathlib.Core.List.{List, [], ◌∷◌, ◌++◌, map, append_assoc}
use mathlib.Core.Path.{◌≡◌, refl, sym, ap, ◌∙◌}
use native.Mathlib.Omega.{arith}
use lib.Dec.{eqb, leb}
use lib.ListN.{length, take, drop, get_or, length-append}
use borrow.Author.Tests.{eqb-true, eq-eqb, leb-true, le-leb}
use Rattle.files.specs.Words.{every}
use Rattle.files.specs.Part.{over}
use Rattle.files.proofs.Checks.{clash, both, join}
use Rattle.rules.specs.declared.Card.{Card}
use Rattle.rules.specs.declared.Credential.{Credential}
use Rattle.rules.specs.Words.{unless, all_of, sw_bytes}
use Rattle.rules.specs.Tries.{good_limit, full}
use Rattle.rules.specs.State.{Which, mode, device, admin, user, transport, number_of, how_many_rights, whiches, credential_of, no_credential, marked}
use Rattle.rules.specs.Sound.{digit, good_pin_length, good_pin, good_value, sound}
use Rattle.rules.specs.Target.{opens}
use Rattle.rules.specs.Step.{step}
use Rattle.rules.specs.Calls.{refused, served, Order, good_given, good_order, command, issue, reset}
use Rattle.rules.proofs.Good.{for-which, filled-back, at-which, zero-at, waits_back}
use Rattle.demands.specs.Ledger.{is_held, opens_right, page, ledger}
use Rattle.demands.specs.Run.{after}
use Rattle.demands.specs.Held.{right_no, bit_of, Opens, HeldOn}
use Rattle.demands.proofs.Bound.{credentials-follow}
use Rattle.demands.proofs.Named.{opens-asked, asked-opens}
use Rattle.served.specs.Left.{Ask}
use Rattle.served.specs.Calls.{TurnedAway, Carried, CommandAnswers, NotIssued, GoodPin, GoodOrder, Fresh, IssueAnswers, NotReset, Ended, ResetAnswers, BlankZero, RightsBothWays, OpensFollows}
use Rattle.served.proofs.Credentials.{digits-to, to-digits}

-- a test that says whether a condition holds
tests : (R : ℕ → Type 0) (A : Type 0) (number : ℕ) (next : Type 0) (t : Bool) → (t ≡ true → A) → (A → t ≡ true) → (t ≡ false → R number) → (t ≡ true → next) → Ask R A number next
tests R A number next true to back f g = (λ o. absurd (o (to refl)), λ a. g refl)
tests R A number next false to back f g = (λ o. f refl, λ a. clash false (back a) refl)

-- ---- a command
module _ (c : Card) (area cmd random reply : List ℕ) where
  turned : (n : ℕ) → TurnedAway c area reply (refused n c area reply) n
  turned n = record { outcome-is = refl; card-is = refl; count-is = refl; area-is = refl; reply-is = refl }

  carried : Carried (step c area cmd random) reply (served (step c area cmd random) reply)
  unfolding over
  carried =
      let s = step c area cmd random in
      let long : length (s.bytes ++ sw_bytes s.sw) ≡ length s.bytes + 2 = length-append s.bytes (sw_bytes s.sw) in
      record {
        outcome-is = refl;
        card-is = refl;
        count-is = refl;
        area-is = refl;
        reply-is =
            append_assoc s.bytes (sw_bytes s.sw) (drop (length (s.bytes ++ sw_bytes s.sw)) reply)
            ∙ ap (λ n. s.bytes ++ ((s.sw / 256) ∷ (s.sw % 256) ∷ drop n reply)) long;
      }

pub command-answers : CommandAnswers
unfolding command
command-answers c area cmd random reply =
    tests (TurnedAway c area reply (command c area cmd random reply)) (258 ≤ length reply) 1 _ (leb 258 (length reply)) (leb-true _ _) (le-leb _ _) (λ e. rw e (turned c area cmd random reply 1)) (λ e1.
    tests (TurnedAway c area reply (command c area cmd random reply)) (length area ≡ 4096) 2 _ (eqb (length area) 4096) (eqb-true _ _) (eq-eqb _ _) (λ e. rw (e1, e) (turned c area cmd random reply 2)) (λ e2.
    tests (TurnedAway c area reply (command c area cmd random reply)) (length random ≡ 16) 3 _ (eqb (length random) 16) (eqb-true _ _) (eq-eqb _ _) (λ e. rw (e1, e2, e) (turned c area cmd random reply 3)) (λ e3.
    tests (TurnedAway c area reply (command c area cmd random reply)) (sound c area ≡ true) 4 (Carried (step c area cmd random) reply (command c area cmd random reply)) (sound c area) (λ e. e) (λ e. e)
    (λ e. rw (e1, e2, e3, e) (turned c area cmd random reply 4)) (λ e4. rw (e1, e2, e3, e4) (carried c area cmd random reply)))))

-- ---- a reset
pub reset-answers : ResetAnswers
unfolding reset
reset-answers c area =
    tests (NotReset c (reset c area)) (length area ≡ 4096) 2 _ (eqb (length area) 4096) (eqb-true _ _) (eq-eqb _ _) (λ e. rw e (record { outcome-is = refl; count-is = refl; card-is = refl })) (λ e1.
    tests (NotReset c (reset c area)) (sound c area ≡ true) 4 (Ended c (reset c area)) (sound c area) (λ e. e) (λ e. e) (λ e. rw (e1, e) (record { outcome-is = refl; count-is = refl; card-is = refl })) (λ e2.
    rw (e1, e2)
    (record {
      outcome-is = refl;
      count-is = refl;
      no-rights = λ n. zero-at n how_many_rights;
      none-current = refl;
      in-root = refl;
      no-challenge = record { length-is = refl; bytes-are = refl };
      none-wait = waits_back (mode c) [];
      credentials-are = refl;
      directory-is = refl;
      mode-is = refl;
    })))

-- ---- an issue
pub pin-to : (d : List ℕ) → good_pin d ≡ true → GoodPin d
unfolding good_pin
pin-to d h =
    let e = both (good_pin_length (length d)) (all_of digit d) h in
    let q = both (leb 6 (length d)) (leb (length d) 16) e.0 in (leb-true _ _ q.0, leb-true _ _ q.1, digits-to d e.1)

pub to-pin : (d : List ℕ) → GoodPin d → good_pin d ≡ true
unfolding good_pin
to-pin d q = join (join (le-leb 6 (length d) q.0) (le-leb (length d) 16 q.1)) (to-digits d q.2)

module _ (o : Order) where
  order-to : good_order o ≡ true → GoodOrder o
  unfolding good_order good_value
  order-to h =
      let e = both (every (map (λ w. good_given (number_of w) (o.given w)) whiches)) (leb o.mode 1) h in
      let given : (w : Which) → good_given (number_of w) (o.given w) ≡ true = for-which (λ w. good_given (number_of w) (o.given w)) e.0 in
      let value : (w : Which) → good_value (number_of w) (o.given w).value ≡ true =
      λ w. (both (good_value (number_of w) (o.given w).value) (good_limit (o.given w).limit) (given w)).0 in
      let limit : (w : Which) → good_limit (o.given w).limit ≡ true = λ w. (both (good_value (number_of w) (o.given w).value) (good_limit (o.given w).limit) (given w)).1 in
      record {
        device-key = eqb-true _ _ (value device);
        admin-pin = pin-to (o.given admin).value (value admin);
        user-pin = pin-to (o.given user).value (value user);
        transport-key = eqb-true _ _ (value transport);
        limits = λ w. let q = both (leb 1 (o.given w).limit) (leb (o.given w).limit 128) (limit w) in (leb-true _ _ q.0, leb-true _ _ q.1);
        mode = leb-true _ _ e.1;
      }

  to-order : GoodOrder o → good_order o ≡ true
  unfolding good_order good_value
  to-order g =
      let limit : (w : Which) → good_limit (o.given w).limit ≡ true =
      λ w. join (le-leb 1 (o.given w).limit (g.limits w).0) (le-leb (o.given w).limit 128 (g.limits w).1) in
      join
      (join (join (eq-eqb (length (o.given device).value) 16 g.device-key) (limit device))
      (join (join (to-pin (o.given admin).value g.admin-pin) (limit admin)) (join (join (to-pin (o.given user).value g.user-pin) (limit user)) (join (eq-eqb (length (o.given transport).value) 16 g.transport-key) (limit transport)))))
      (le-leb o.mode 1 g.mode)

  abbrev credential_given : Which → Credential
  credential_given w = credential_of (o.given w).value (full (o.given w).limit)

  is-fresh : (w : Which) → get_or (map credential_given whiches) (number_of w) no_credential ≡ credential_of (o.given w).value (full (o.given w).limit)
  is-fresh w = at-which credential_given w

pub issue-answers : IssueAnswers
unfolding issue
issue-answers o area =
    tests (NotIssued area (issue o area)) (length area ≡ 4096) 2 _ (eqb (length area) 4096) (eqb-true _ _) (eq-eqb _ _)
    (λ e. rw e (record { outcome-is = refl; card-is = refl; count-is = refl; area-is = refl })) (λ e1.
    tests (NotIssued area (issue o area)) (GoodOrder o) 5 (Fresh o (issue o area)) (good_order o) (order-to o) (to-order o)
    (λ e. rw (e1, e) (record { outcome-is = refl; card-is = refl; count-is = refl; area-is = refl })) (λ e2.
    rw (e1, e2)
    (record {
      outcome-is = refl;
      count-is = refl;
      values-are = λ w. ap (λ (x : Credential). take x.len x.value) (is-fresh o w) ∙ filled-back (o.given w).value;
      left-are = λ w. ap (λ (x : Credential). x.tries.left) (is-fresh o w);
      limits-are = λ w. ap (λ (x : Credential). x.tries.limit) (is-fresh o w);
      no-rights = λ n. zero-at n how_many_rights;
      no-files = refl;
      no-directories = refl;
      none-current = refl;
      in-root = refl;
      no-challenge = record { length-is = refl; bytes-are = refl };
      mode-is = refl;
      none-wait = waits_back o.mode [];
      area-is = refl;
    })))

-- ---- a blank state
pub blank-zero : BlankZero
unfolding over
blank-zero = record {
  credentials-are = refl;
  files-are = (refl, refl);
  folders-are = (refl, refl);
  rights-are = refl;
  currents-are = (refl, refl);
  challenge-is = record { length-is = refl; bytes-are = refl };
  mode-is = refl;
  counts-are = (refl, refl);
  waiting-are = refl;
  journal-is = (refl, refl);
}

-- ---- the rights byte
pub rights-both-ways : RightsBothWays
rights-both-ways c byte = (λ o. rw (asked-opens c byte o), λ n. shut (opens c byte) refl n)
  where
    shut : (t : Bool) → opens c byte ≡ t → (Opens (HeldOn c) byte → ⊥) → unless t 0x6982 ≡ 0x6982
    shut true e n = absurd (n (opens-asked c byte e))
    shut false e n = refl

asked-right : (byte : ℕ) (w : Which) → bit_of w byte ≡ 1 → opens_right w ≡ true
asked-right byte device b = refl
asked-right byte admin b = refl
asked-right byte user b = refl
asked-right byte transport b = absurd (omega (arith, b))

-- what opens by one way of holding rights opens by another: none that a byte asks for is the transport key's
opens-other : {held other : Which → Type 0} (byte : ℕ) → ((w : Which) → opens_right w ≡ true → held w → other w) → Opens held byte → Opens other byte
opens-other byte f o = record {
  all = λ e w b. f w (asked-right byte w b) (o.all e w b);
  any = λ e. let one = o.any e in record { which = one.which; asked = one.asked; is-held = f one.which (asked-right byte one.which one.asked) one.is-held };
  not-never = o.not-never;
}

pub opens-follows : OpensFollows
opens-follows o area es h byte =
    let c = (after o area es).card in
    let told : (w : Which) → opens_right w ≡ true → marked (right_no c (number_of w)) ≡ is_held (page w (ledger o es)).history =
    λ w q. (credentials-follow o area es h w).held-is ∙ rw q in
    (opens-other byte (λ w q e. eqb-true _ _ (told w q ∙ e)), opens-other byte (λ w q e. sym (told w q) ∙ eq-eqb _ _ e))
