-- Store 0 of a presentation is the same whatever is presented.
use Prim.Native.Nat.{ℕ, zero, suc, ◌+◌, ◌-◌, ◌<◌}
use mathlib.Core.Bool.{Bool, true, false, cond, ◌&&◌}
use mathlib.Core.List.{List, [], ◌∷◌}
use mathlib.Core.Path.{◌≡◌, refl, sym, ap, ap₂, ◌∙◌}
use native.Mathlib.Omega.{arith}
use lib.Dec.{eqb}
use lib.ListN.{length, take, drop, get_or, length-take, length-drop}
use lib.Seq.{get_or-take, take-take, take-nil}
use Rattle.files.specs.declared.Located.{Located}
use Rattle.rules.specs.declared.Card.{Card}
use Rattle.rules.specs.declared.Ins.{Ins}
use Rattle.rules.specs.declared.Ins.TheVariants.{Select, ReadBinary, UpdateBinary, ReadRecord, UpdateRecord, AppendRecord, Verify, Authenticate, ChangePin, ReloadPin, CreateFile, GetChallenge, GetResponse, Unlisted}
use Rattle.rules.specs.Words.{first, all_of, byte}
use Rattle.rules.specs.State.{Which, device, transport, login, logins, challenge}
use Rattle.rules.specs.Sound.{digit}
use Rattle.rules.specs.Frame.{Command, case_of, lc_before, framed, frame_sw, class_sw, coded}
use Rattle.rules.specs.Pins.{pin_named, tries_sw, verify_checks}
use Rattle.rules.specs.Device.{challenge_sw, cryptogram, authenticate_checks}
use Rattle.rules.specs.Record.{record_found}
use Rattle.rules.specs.Effect.{nothing, presents}
use Rattle.rules.specs.List.{find, rows, listed, rule}
use Rattle.rules.specs.Code.{agrees, presents_code}
use Rattle.rules.specs.Response.{fetches}
use Rattle.rules.specs.Step.{sw_of, checks}
use Rattle.card.specs.Coded.{takes_code, front_of, rest_of}
use Rattle.power.specs.Store.{Store}
use Rattle.power.specs.Plan.{idle, act, credentials, planned, act_of, work_by, work_stores, stores_for}
use Rattle.power.specs.Address.{store_at}
use Rattle.stores.specs.Handing.{stores_if, coded_stores, plan_stores}
use Rattle.stores.specs.Unseen.{Alike, SameFirst, PinUnseen, CryptogramUnseen, CodeUnseen}
use Rattle.stores.proofs.Numbers.{same_at}
use Rattle.stores.proofs.Calling.{coded_by}

-- a command with another value, another code and what else may differ behind them
abbrev but : Command → List ℕ → List ℕ → List ℕ → ℕ → Command
but k g x v le = record {
  cla = k.cla;
  ins = k.ins;
  p1 = k.p1;
  p2 = k.p2;
  case = k.case;
  given = g;
  code = x;
  covered = v;
  le = le;
}

module _ (c : Card) where
  first-touch : (b t : Bool) (w : Which) (v g u d : List ℕ)
      → store_at (work_stores c (cond b (credentials (cond t nothing (presents w v g))) idle)) 0
      ≡ store_at (work_stores c (cond b (credentials (cond t nothing (presents w u d))) idle)) 0
  unfolding store_at
  first-touch true true w v g u d = refl
  first-touch true false w v g u d = refl
  first-touch false t w v g u d = refl

  module _ (l m : Located) (k : Command) (g x v : List ℕ) (le : ℕ) where
    verify-first : length k.given ≡ length g → all_of digit k.given ≡ all_of digit g
        → store_at (plan_stores Verify c l k) 0 ≡ store_at (plan_stores Verify c m (but k g x v le)) 0
    unfolding checks rule verify_checks
    verify-first n d =
        rw (n, d) (first-touch (eqb (sw_of Verify c m (but k g x v le)) 0x9000) (eqb k.case 1) (pin_named k) (login (pin_named k) c).value k.given (login (pin_named k) c).value g)

    authenticate-first : length k.given ≡ length g → store_at (plan_stores Authenticate c l k) 0 ≡ store_at (plan_stores Authenticate c m (but k g x v le)) 0
    unfolding checks rule authenticate_checks
    authenticate-first n =
        rw n (first-touch (eqb (sw_of Authenticate c m (but k g x v le)) 0x9000) false device (cryptogram (login device c).value (challenge c)) k.given (cryptogram (login device c).value (challenge c)) g)

    -- P and case look at the code for its length alone
    module _ (n : length k.code ≡ length x) where
      front_same : (i : Ins) → first (front_of (rule i) k) ≡ first (front_of (rule i) (but k k.given x v le))
      unfolding rule
      front_same Select = refl
      front_same ReadBinary = rw n
      front_same UpdateBinary = refl
      front_same ReadRecord = rw n
      front_same UpdateRecord = refl
      front_same AppendRecord = refl
      front_same Verify = refl
      front_same Authenticate = refl
      front_same ChangePin = refl
      front_same ReloadPin = refl
      front_same CreateFile = refl
      front_same GetChallenge = refl
      front_same GetResponse = refl
      front_same Unlisted = refl

      presented-same : (i : Ins) → presents_code (front_of (rule i) k) (logins c) (challenge c) k
          ≡ presents_code (front_of (rule i) (but k k.given x v le)) (logins c) (challenge c) (but k k.given x v le)
      unfolding presents_code
      presented-same i =
          ap (λ (sw : ℕ). coded k && eqb (first (frame_sw k ∷ class_sw k ∷ sw ∷ tries_sw (login transport c) ∷ challenge_sw (challenge c) ∷ [])) 0x9000) (front_same i)

      first-coded : (p q : Bool) → p ≡ q → (a b : Bool) (xs ys : List Store) → store_at (cond p (coded_stores c a xs) []) 0 ≡ store_at (cond q (coded_stores c b ys) []) 0
      unfolding store_at
      first-coded p q e a b xs ys = rw e (go q)
        where
          go : (t : Bool) → store_at (cond t (coded_stores c a xs) []) 0 ≡ store_at (cond t (coded_stores c b ys) []) 0
          go true = refl
          go false = refl

      code-first : (i : Ins) → takes_code (rule i) ≡ true → coded k ≡ true → store_at (plan_stores i c l k) 0 ≡ store_at (plan_stores i c m (but k k.given x v le)) 0
      unfolding checks
      code-first i y e =
          let o = but k k.given x v le in
          sym (same_at (coded_by c l k e (rule i) y) 0)
          ∙ first-coded (presents_code (front_of (rule i) k) (logins c) (challenge c) k) (presents_code (front_of (rule i) o) (logins c) (challenge c) o) (presented-same i)
          (agrees (logins c) (challenge c) k) (agrees (logins c) (challenge c) o)
          (stores_if (first (rest_of (rule i) c l k)) (work_stores c (work_by (rule i) c l k))) (stores_if (first (rest_of (rule i) c m o)) (work_stores c (work_by (rule i) c m o)))
          ∙ same_at (coded_by c m o e (rule i) y) 0

-- ---- from bytes
byte-same : (n : ℕ) (cmd other : List ℕ) → take n cmd ≡ take n other → (i : ℕ) → i < n → byte cmd i ≡ byte other i
byte-same n cmd other e i l = sym (get_or-take n cmd i 0 l) ∙ ap (λ (xs : List ℕ). get_or xs i 0) e ∙ get_or-take n other i 0 l

drop-taken : (m n : ℕ) (l : List ℕ) → take n (drop m l) ≡ drop m (take (m + n) l)
drop-taken zero n l = let e : 0 + n ≡ n = omega arith in rw e
drop-taken (suc m) n [] = take-nil n ∙ ap (drop (suc m)) (sym (take-nil (suc m + n)))
drop-taken (suc m) n (x ∷ l) = let e : suc m + n ≡ suc (m + n) = omega arith in rw e (drop-taken m n l)

module _ (cmd other : List ℕ) (h : Alike 5 cmd other) where
  at : (i : ℕ) → i < 5 → byte cmd i ≡ byte other i
  at i l = byte-same 5 cmd other h.1 i l

  before_same : lc_before cmd ≡ lc_before other
  before_same = rw (at 0 (omega arith), at 4 (omega arith))

  case_same : case_of cmd ≡ case_of other
  unfolding case_of
  case_same = rw (h.0, at 4 (omega arith))

  -- the other command, by what it does not share
  other-is : framed other ≡ but (framed cmd) (framed other).given (framed other).code (framed other).covered (framed other).le
  unfolding framed
  other-is = rw (sym (at 0 (omega arith)), sym (at 1 (omega arith)), sym (at 2 (omega arith)), sym (at 3 (omega arith)), sym case_same)

  given-long : length (framed cmd).given ≡ length (framed other).given
  unfolding framed
  given-long =
      let p = length-take (lc_before cmd) (drop 5 cmd) in
      let q = length-take (lc_before other) (drop 5 other) in
      omega (arith, p, q, length-drop 5 cmd, length-drop 5 other, before_same)

  code-long : length (framed cmd).code ≡ length (framed other).code
  unfolding framed
  code-long =
      let p = length-take (byte cmd 4 - lc_before cmd) (drop (5 + lc_before cmd) cmd) in
      let q = length-take (byte other 4 - lc_before other) (drop (5 + lc_before other) other) in
      omega (arith, p, q, length-drop (5 + lc_before cmd) cmd, length-drop (5 + lc_before other) other, before_same, at 4 (omega arith))

  fetches-same : (c : Card) → fetches c (framed cmd) ≡ fetches c (framed other)
  unfolding fetches listed framed
  fetches-same c = rw (at 0 (omega arith), at 1 (omega arith), case_same)

  listed_same : listed (framed cmd) ≡ listed (framed other)
  unfolding listed framed
  listed_same = ap₂ (find rows) (at 0 (omega arith)) (at 1 (omega arith))

  -- neither is a GET RESPONSE of mode 1, or both are
  whole : (c : Card) (area : List ℕ) (i : Ins) → listed (framed cmd) ≡ i
      → store_at (plan_stores i c (record_found c area (framed cmd)) (framed cmd)) 0 ≡ store_at (plan_stores i c (record_found c area (framed other)) (framed other)) 0
      → SameFirst c area cmd other
  unfolding act_of
  whole c area i e s =
      rw (sym listed_same, e, fetches-same c) (go (fetches c (framed other)))
    where
      go : (b : Bool)
          → store_at (stores_for c (cond b (act nothing idle) (planned i c (record_found c area (framed cmd)) (framed cmd)))) 0
          ≡ store_at (stores_for c (cond b (act nothing idle) (planned i c (record_found c area (framed other)) (framed other)))) 0
      go true = refl
      go false = s

pub pin-unseen : PinUnseen
pin-unseen c area cmd other e h d =
    let o = framed other in
    let m = record_found c area (framed other) in
    whole cmd other h c area Verify e
    (verify-first c (record_found c area (framed cmd)) m (framed cmd) o.given o.code o.covered o.le (given-long cmd other h) d
    ∙ ap (λ (k : Command). store_at (plan_stores Verify c m k) 0) (sym (other-is cmd other h)))

pub cryptogram-unseen : CryptogramUnseen
cryptogram-unseen c area cmd other e h =
    let o = framed other in
    let m = record_found c area (framed other) in
    whole cmd other h c area Authenticate e
    (authenticate-first c (record_found c area (framed cmd)) m (framed cmd) o.given o.code o.covered o.le (given-long cmd other h)
    ∙ ap (λ (k : Command). store_at (plan_stores Authenticate c m k) 0) (sym (other-is cmd other h)))

-- the same up to the code, and so in header and Lc
head-alike : (cmd other : List ℕ) → Alike (5 + lc_before cmd) cmd other → Alike 5 cmd other
head-alike cmd other h =
    (h.0, sym (take-take 5 (5 + lc_before cmd) cmd (omega arith)) ∙ ap (take 5) h.1 ∙ take-take 5 (5 + lc_before cmd) other (omega arith))

given-same : (cmd other : List ℕ) → Alike (5 + lc_before cmd) cmd other → (framed cmd).given ≡ (framed other).given
unfolding framed
given-same cmd other h =
    drop-taken 5 (lc_before cmd) cmd ∙ ap (drop 5) h.1 ∙ sym (drop-taken 5 (lc_before cmd) other)
    ∙ ap (λ n. take n (drop 5 other)) (before_same cmd other (head-alike cmd other h))

pub code-unseen : CodeUnseen
code-unseen c area cmd other y e h =
    let a = head-alike cmd other h in
    let o = framed other in
    let i = listed (framed cmd) in
    let m = record_found c area (framed other) in
    whole cmd other a c area i refl
    (code-first c (record_found c area (framed cmd)) m (framed cmd) o.given o.code o.covered o.le (code-long cmd other a) i y e
    ∙ ap (λ (k : Command). store_at (plan_stores i c m k) 0)
    (ap (λ (g : List ℕ). but (framed cmd) g o.code o.covered o.le) (given-same cmd other h) ∙ sym (other-is cmd other a)))
