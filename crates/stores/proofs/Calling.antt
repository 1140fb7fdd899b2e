-- From a command's own stores to the call.
use Prim.Native.Nat.{ℕ, ◌+◌, ◌-◌, ◌≤◌, ◌<◌}
use mathlib.Core.Bool.{Bool, true, false, cond, ◌&&◌}
use mathlib.Core.List.{List, [], ◌∷◌, ◌++◌}
use mathlib.Core.Path.{◌≡◌, refl, sym, ap, ap₂, ◌∙◌}
use native.Mathlib.Omega.{arith}
use lib.Dec.{eqb}
use lib.ListN.{length, take, drop, length-take}
use borrow.Author.Tests.{eqb-true, eq-eqb, ne_eqb}
use Rattle.codes.specs.Code.{mac, code}
use Rattle.files.specs.declared.Located.{Located}
use Rattle.files.proofs.Checks.{both, clash}
use Rattle.rules.specs.declared.Tries.{Tries}
use Rattle.rules.specs.declared.Card.{Card}
use Rattle.rules.specs.declared.Ins.{Ins}
use Rattle.rules.specs.declared.Ins.TheVariants.{Select, ReadBinary, UpdateBinary, ReadRecord, UpdateRecord, AppendRecord, Verify, Authenticate, ChangePin, ReloadPin, CreateFile, GetChallenge, GetResponse, Unlisted}
use Rattle.rules.specs.Words.{unless, or_else, first, same, byte, filled}
use Rattle.rules.specs.State.{transport, value_of, credential, login, logins, login_at, challenge, mode}
use Rattle.rules.specs.Frame.{Command, lc_before, framed, frame_sw, class_sw, coded}
use Rattle.rules.specs.Select.{select_checks}
use Rattle.rules.specs.Binary.{read_count, read_binary_checks, update_binary_checks}
use Rattle.rules.specs.Target.{target}
use Rattle.rules.specs.Record.{record_found, read_record_checks, update_record_checks, append_checks}
use Rattle.rules.specs.Pins.{tries_sw, verify_checks, change_checks, reload_checks}
use Rattle.rules.specs.Device.{challenge_sw, authenticate_checks, get_challenge_checks}
use Rattle.rules.specs.Create.{file_given, folder_given, good_folder_given, create_checks}
use Rattle.rules.specs.List.{Rule, of_files, of_contents, of_credentials, rows, find, listed, rule}
use Rattle.rules.specs.Effect.{Touch, nothing, presents}
use Rattle.rules.specs.Code.{expected, agrees, code_sw, presents_code}
use Rattle.rules.specs.Response.{fetches}
use Rattle.rules.specs.Sound.{sound}
use Rattle.rules.specs.Step.{checks_of, checks}
use Rattle.card.specs.declared.Header.{Header}
use Rattle.card.specs.Carried.{Ready}
use Rattle.card.specs.Head.{head_of, coded_of, command_of}
use Rattle.card.specs.Coded.{takes_code, front_of, rest_of, front, rest, code_given}
use Rattle.card.proofs.Opening.{front-covered, parts_are}
use Rattle.card.proofs.Stepping.{is_fetch, told-fetch}
use Rattle.power.specs.Store.{Store, tries_left}
use Rattle.power.specs.Plan.{Work, idle, Act, act, lowers, restores, present_stores, touch_stores, code_by, work_by, act_of, work_stores, stores_for, stores_of}
use Rattle.power.specs.Address.{no_store, a_store, store_at}
use Rattle.stores.specs.Handing.{stores_if, rest_stores, open_sw, presented, coded_stores, plan_stores, refusal, handed, store}
use Rattle.stores.proofs.Numbers.{store-head, store_tail, store-none}

-- ---- checks in a row let through what the last of them lets through
abbrev gates : List ℕ → List Store → List Store
gates [] xs = xs
gates (a ∷ more) xs = stores_if a (gates more xs)

one-gate : (a b : ℕ) (xs : List Store) → stores_if (or_else a b) xs ≡ stores_if a (stores_if b xs)
unfolding or_else
one-gate a b xs = go (eqb a 0x9000) refl
  where
    go : (t : Bool) → eqb a 0x9000 ≡ t → stores_if (cond (eqb a 0x9000) b a) xs ≡ stores_if a (stores_if b xs)
    go true e = rw e
    go false e = rw (e, e)

all-gates : (l : List ℕ) (xs : List Store) → stores_if (first l) xs ≡ gates l xs
all-gates [] xs = refl
all-gates (a ∷ []) xs = refl
all-gates (a ∷ b ∷ more) xs = one-gate a (first (b ∷ more)) xs ∙ ap (stores_if a) (all-gates (b ∷ more) xs)

-- ---- the stores of a rule, as the plan has them
module _ (c : Card) (l : Located) (k : Command) where
  abbrev sw_by : Rule → ℕ
  sw_by q = first (frame_sw k ∷ class_sw k ∷ first (checks_of q c l k) ∷ [])

  abbrev work : Rule → List Store
  work q = work_stores c (work_by q c l k)

  abbrev plan : Rule → Act
  plan q = act (code_by q c k) (cond (eqb (sw_by q) 0x9000) (work_by q c l k) idle)

  worked : (sw : ℕ) (x : Work) → work_stores c (cond (eqb sw 0x9000) x idle) ≡ stores_if sw (work_stores c x)
  worked sw x = go (eqb sw 0x9000)
    where
      go : (b : Bool) → work_stores c (cond b x idle) ≡ cond b (work_stores c x) []
      go true = refl
      go false = refl

  touched : (b : Bool) (t : Touch) → touch_stores c (cond b t nothing) ≡ cond b (touch_stores c t) []
  touched true t = refl
  touched false t = refl

  -- without a code: framing, class, P and case, and the checks that are left
  no_code : (f : List ℕ) → coded k ≡ false → presents_code f (logins c) (challenge c) k ≡ false
  unfolding presents_code
  no_code f e = rw e

  no-check : coded k ≡ false → code_sw (logins c) (challenge c) k ≡ 0x9000
  unfolding code_sw
  no-check e = rw e

  contents-gates : (f t : List ℕ) (xs : List Store)
      → stores_if (first (frame_sw k ∷ class_sw k ∷ first (first f ∷ code_sw (logins c) (challenge c) k ∷ t) ∷ [])) xs
      ≡ stores_if (frame_sw k) (stores_if (class_sw k) (stores_if (first f) (stores_if (code_sw (logins c) (challenge c) k) (stores_if (first t) xs))))
  contents-gates f t xs =
      all-gates (frame_sw k ∷ class_sw k ∷ first (first f ∷ code_sw (logins c) (challenge c) k ∷ t) ∷ []) xs
      ∙ ap (λ (ys : List Store). stores_if (frame_sw k) (stores_if (class_sw k) ys))
      (all-gates (first f ∷ code_sw (logins c) (challenge c) k ∷ t) xs
      ∙ ap (λ (ys : List Store). stores_if (first f) (stores_if (code_sw (logins c) (challenge c) k) ys)) (sym (all-gates t xs)))

  plain_by : (q : Rule) → (takes_code q && coded k) ≡ false
      → stores_if (first (frame_sw k ∷ class_sw k ∷ first (front_of q k) ∷ [])) (stores_if (first (rest_of q c l k)) (work q)) ≡ stores_for c (plan q)
  plain_by (of_files t d) e =
      all-gates (frame_sw k ∷ class_sw k ∷ 0x9000 ∷ []) (stores_if (first (t c k)) (work (of_files t d)))
      ∙ sym (worked (sw_by (of_files t d)) (work_by (of_files t d) c l k) ∙ all-gates (frame_sw k ∷ class_sw k ∷ first (t c k) ∷ []) (work (of_files t d)))
  plain_by (of_contents f t d) e =
      all-gates (frame_sw k ∷ class_sw k ∷ first (f k) ∷ []) (stores_if (first (t c l k)) (work (of_contents f t d)))
      ∙ ap (λ (sw : ℕ). stores_if (frame_sw k) (stores_if (class_sw k) (stores_if (first (f k)) (stores_if sw (stores_if (first (t c l k)) (work (of_contents f t d))))))) (sym (no-check e))
      ∙ sym (worked (sw_by (of_contents f t d)) (work_by (of_contents f t d) c l k) ∙ contents-gates (f k) (t c l k) (work (of_contents f t d)))
      ∙ rw (no_code (f k) e)
  plain_by (of_credentials t d) e =
      all-gates (frame_sw k ∷ class_sw k ∷ 0x9000 ∷ []) (stores_if (first (t (logins c) (challenge c) k)) (work (of_credentials t d)))
      ∙ sym (worked (sw_by (of_credentials t d)) (work_by (of_credentials t d) c l k) ∙ all-gates (frame_sw k ∷ class_sw k ∷ first (t (logins c) (challenge c) k) ∷ []) (work (of_credentials t d)))

  -- with one: it is presented where every check up to the comparison passes
  abbrev before : List ℕ → ℕ
  before f = first (frame_sw k ∷ class_sw k ∷ first f ∷ tries_sw (login transport c) ∷ challenge_sw (challenge c) ∷ [])

  module _ (e : coded k ≡ true) where
    test-is : (f : List ℕ) → presents_code f (logins c) (challenge c) k ≡ eqb (before f) 0x9000
    unfolding presents_code
    test-is f = rw e

    compared : (xs : List Store) → stores_if (code_sw (logins c) (challenge c) k) xs
        ≡ stores_if (tries_sw (login transport c)) (stores_if (challenge_sw (challenge c)) (cond (agrees (logins c) (challenge c) k) xs []))
    unfolding code_sw
    compared xs =
        rw e (all-gates (tries_sw (login transport c) ∷ challenge_sw (challenge c) ∷ unless (agrees (logins c) (challenge c) k) 0x6988 ∷ []) xs
        ∙ ap (λ (ys : List Store). stores_if (tries_sw (login transport c)) (stores_if (challenge_sw (challenge c)) ys)) (go (agrees (logins c) (challenge c) k)))
      where
        go : (b : Bool) → stores_if (unless b 0x6988) xs ≡ cond b xs []
        go true = refl
        go false = refl

    contents : (f t : List ℕ) (xs : List Store)
        → stores_if (first (frame_sw k ∷ class_sw k ∷ first (first f ∷ code_sw (logins c) (challenge c) k ∷ t) ∷ [])) xs
        ≡ stores_if (before f) (cond (agrees (logins c) (challenge c) k) (stores_if (first t) xs) [])
    contents f t xs =
        contents-gates f t xs
        ∙ ap (λ (ys : List Store). stores_if (frame_sw k) (stores_if (class_sw k) (stores_if (first f) ys))) (compared (stores_if (first t) xs))
        ∙ sym (all-gates (frame_sw k ∷ class_sw k ∷ first f ∷ tries_sw (login transport c) ∷ challenge_sw (challenge c) ∷ []) (cond (agrees (logins c) (challenge c) k) (stores_if (first t) xs) []))

    pub coded_by : (q : Rule) → takes_code q ≡ true
        → cond (presents_code (front_of q k) (logins c) (challenge c) k) (coded_stores c (agrees (logins c) (challenge c) k) (stores_if (first (rest_of q c l k)) (work q))) [] ≡ stores_for c (plan q)
    coded_by (of_files t d) y = clash false y refl
    coded_by (of_contents f t d) y =
        go (presents_code (f k) (logins c) (challenge c) k) (test-is (f k)) (agrees (logins c) (challenge c) k)
        ∙ ap₂ (λ (xs ys : List Store). xs ++ ys)
        (sym (touched (presents_code (f k) (logins c) (challenge c) k) (presents transport (expected (logins c) (challenge c) k) k.code)))
        (sym (worked (sw_by (of_contents f t d)) (work_by (of_contents f t d) c l k) ∙ contents (f k) (t c l k) (work (of_contents f t d))))
      where
        rest-of : List Store
        rest-of = stores_if (first (t c l k)) (work (of_contents f t d))

        go : (p : Bool) → p ≡ eqb (before (f k)) 0x9000 → (a : Bool)
            → cond p (coded_stores c a rest-of) [] ≡ cond p (present_stores c transport a) [] ++ stores_if (before (f k)) (cond a rest-of [])
        go true h true = rw (sym h)
        go true h false = rw (sym h)
        go false h a = rw (sym h)
    coded_by (of_credentials t d) y = clash false y refl

-- ---- by the command's name, from its parts
-- no check behind P and case looks at the code, nor does what is done
module _ (c : Card) (l : Located) (h : Header) (g x v : List ℕ) where
  same_rest : (i : Ins) → rest_stores i c l (command_of h g) ≡ rest_stores i c l (coded_of h g x v)
  unfolding rest rule target select_checks read_binary_checks update_binary_checks read_record_checks update_record_checks append_checks verify_checks change_checks reload_checks authenticate_checks get_challenge_checks create_checks read_count good_folder_given file_given folder_given
  same_rest Select = refl
  same_rest ReadBinary = refl
  same_rest UpdateBinary = refl
  same_rest ReadRecord = refl
  same_rest UpdateRecord = refl
  same_rest AppendRecord = refl
  same_rest Verify = refl
  same_rest Authenticate = refl
  same_rest ChangePin = refl
  same_rest ReloadPin = refl
  same_rest CreateFile = refl
  same_rest GetChallenge = refl
  same_rest GetResponse = refl
  same_rest Unlisted = refl

  plain : (i : Ins) → (takes_code (rule i) && coded (coded_of h g x v)) ≡ false
      → stores_if (open_sw i (coded_of h g x [])) (rest_stores i c l (command_of h g)) ≡ plan_stores i c l (coded_of h g x v)
  unfolding front rest checks
  plain i e =
      ap₂ (λ (n : ℕ) (ys : List Store). stores_if (first (frame_sw (command_of h []) ∷ class_sw (command_of h []) ∷ n ∷ [])) ys) (front-covered h g x v i) (same_rest i)
      ∙ plain_by c l (coded_of h g x v) (rule i) e

  -- under all sixteen bytes of the key
  code_is : value_of (credential c 3) ≡ (credential c 3).value → code_given c v x ≡ agrees (logins c) (challenge c) (coded_of h g x v)
  code_is whole = ap (λ (key : List ℕ). same (code (mac key (filled (challenge c)) v)) x) (sym whole)

  presented-is : (i : Ins) → takes_code (rule i) ≡ true → presented i c (coded_of h g x []) ≡ presents_code (front_of (rule i) (coded_of h g x v)) (logins c) (challenge c) (coded_of h g x v)
  unfolding front presents_code
  presented-is i y =
      rw y (ap (λ (n : ℕ). coded (command_of h []) && eqb (first (frame_sw (command_of h []) ∷ class_sw (command_of h []) ∷ n ∷ tries_sw (login transport c) ∷ challenge_sw (challenge c) ∷ [])) 0x9000) (front-covered h g x v i))

  with : (i : Ins) → (takes_code (rule i) && coded (coded_of h g x v)) ≡ true → value_of (credential c 3) ≡ (credential c 3).value
      → cond (presented i c (coded_of h g x [])) (coded_stores c (code_given c v x) (rest_stores i c l (command_of h g))) [] ≡ plan_stores i c l (coded_of h g x v)
  unfolding rest checks
  with i e whole =
      let y = both (takes_code (rule i)) (coded (coded_of h g x v)) e in
      rw (presented-is i y.0, code_is whole, same_rest i) (coded_by c l (coded_of h g x v) y.1 (rule i) y.0)

-- from its bytes
module _ (c : Card) (area cmd : List ℕ) {h : Header} (is : h ≡ head_of cmd) (i : Ins) {g x : List ℕ}
    (eg : g ≡ take (lc_before cmd) (drop 5 cmd)) (ex : x ≡ take (byte cmd 4 - lc_before cmd) (drop (5 + lc_before cmd) cmd)) where
  pub plain-call : (takes_code (rule i) && eqb h.cla 0x04) ≡ false
      → stores_if (open_sw i (coded_of h g x [])) (rest_stores i c (record_found c area (command_of h [])) (command_of h g)) ≡ plan_stores i c (record_found c area (framed cmd)) (framed cmd)
  unfolding record_found
  plain-call e =
      plain c (record_found c area (command_of h [])) h g x (take (5 + lc_before cmd) cmd) i e
      ∙ ap (λ (k : Command). plan_stores i c (record_found c area k) k) (parts_are cmd h g x (take (5 + lc_before cmd) cmd) is eg ex refl)

  pub coded-call : {v : List ℕ} → v ≡ take (5 + lc_before cmd) cmd → (takes_code (rule i) && eqb h.cla 0x04) ≡ true → value_of (credential c 3) ≡ (credential c 3).value
      → cond (presented i c (coded_of h g x [])) (coded_stores c (code_given c v x) (rest_stores i c (record_found c area (command_of h [])) (command_of h g))) []
      ≡ plan_stores i c (record_found c area (framed cmd)) (framed cmd)
  unfolding record_found
  coded-call {v} ev e whole =
      with c (record_found c area (command_of h [])) h g x v i e whole
      ∙ ap (λ (k : Command). plan_stores i c (record_found c area k) k) (parts_are cmd h g x v is eg ex ev)

-- the data before a code are at most 255 bytes
pub data-few : (cmd : List ℕ) {g : List ℕ} → g ≡ take (lc_before cmd) (drop 5 cmd) → byte cmd 4 < 256 → length g ≤ 255
data-few cmd eg b = omega (arith, ap length eg ∙ length-take (lc_before cmd) (drop 5 cmd), few (eqb (byte cmd 0) 0x04))
  where
    few : (t : Bool) → cond t (byte cmd 4 - 4) (byte cmd 4) ≤ 255
    few true = omega arith
    few false = omega arith

-- ---- a code: store 0 whatever is compared, and then the rest
not-one : (k : ℕ) → (k ≡ 0 → ⊥) → (k ≡ 1 → ⊥) → (1 ≤ k - 1) × (k - 2 ≡ k - 1 - 1)
not-one k o z = (omega (arith, o, z), omega arith)

module _ (p : Bool) (c : Card) (right : Bool) (xs : List Store) (k : ℕ) where
  pub not-presented : p ≡ false → no_store ≡ store_at (cond p (coded_stores c right xs) []) k
  not-presented e = rw e (store-none k)

  module _ (e : p ≡ true) where
    pub code-lowers : {t : Tries} → t ≡ (login_at 3 c).tries → k ≡ 0 → a_store (tries_left 3 (t.left - 1)) ≡ store_at (cond p (coded_stores c right xs) []) k
    code-lowers is z = rw (e, is) (store-head (lowers transport c) (cond right (restores transport c ∷ xs) []) k z)

    module _ (o : k ≡ 0 → ⊥) where
      next : store_at (cond right (restores transport c ∷ xs) []) (k - 1) ≡ store_at (cond p (coded_stores c right xs) []) k
      next = rw e (store_tail (lowers transport c) (cond right (restores transport c ∷ xs) []) k (omega (arith, o)))

      pub code-wrong : right ≡ false → no_store ≡ store_at (cond p (coded_stores c right xs) []) k
      code-wrong w = store-none (k - 1) ∙ ap (λ (b : Bool). store_at (cond b (restores transport c ∷ xs) []) (k - 1)) (sym w) ∙ next

      module _ (w : right ≡ true) where
        behind : store_at (restores transport c ∷ xs) (k - 1) ≡ store_at (cond p (coded_stores c right xs) []) k
        behind = ap (λ (b : Bool). store_at (cond b (restores transport c ∷ xs) []) (k - 1)) (sym w) ∙ next

        pub code-restores : {t : Tries} → t ≡ (login_at 3 c).tries → k ≡ 1 → a_store (tries_left 3 t.limit) ≡ store_at (cond p (coded_stores c right xs) []) k
        code-restores is z = ap (λ (y : Tries). a_store (tries_left 3 y.limit)) is ∙ store-head (restores transport c) xs (k - 1) (omega arith) ∙ behind

        pub code-next : (k ≡ 1 → ⊥) → store_at xs (k - 2) ≡ store_at (cond p (coded_stores c right xs) []) k
        code-next z = let m = not-one k o z in ap (store_at xs) m.1 ∙ store_tail (restores transport c) xs (k - 1) m.0 ∙ behind

-- ---- a served command
module _ (c : Card) (area cmd : List ℕ) {h : Header} (is : h ≡ head_of cmd) {t : Bool} (test : t ≡ (eqb (mode c) 1 && is_fetch (command_of h []))) (k : ℕ) where
  fetching : t ≡ fetches c (framed cmd)
  fetching = told-fetch c area cmd [] h is t test

  pub fetch-none : t ≡ true → no_store ≡ store_at (stores_of c area cmd) k
  unfolding act_of
  fetch-none e = rw (sym fetching ∙ e) (store-none k)

  pub served-store : t ≡ false → {i : Ins} → i ≡ find rows h.cla h.ins
      → store_at (plan_stores i c (record_found c area (framed cmd)) (framed cmd)) k ≡ store_at (stores_of c area cmd) k
  unfolding act_of listed framed head_of
  served-store e {i} ei =
      let named : i ≡ listed (framed cmd) = ei ∙ ap (λ (x : Header). find rows x.cla x.ins) is in
      rw (sym fetching ∙ e) (ap (λ (j : Ins). store_at (plan_stores j c (record_found c area (framed cmd)) (framed cmd)) k) named)

-- ---- the refusals and the service
refused-number : (b : Bool) → ◌≡◌ {A = ℕ} (cond b 4 3) 0 → ⊥
refused-number true q = omega (arith, q)
refused-number false q = omega (arith, q)

module _ (c : Card) (area random : List ℕ) where
  pub refused-area : (length area ≡ 4096 → ⊥) → 2 ≡ refusal c area random
  unfolding refusal
  refused-area o = rw (ne_eqb (length area) 4096 o)

  module _ (sized : length area ≡ 4096) where
    pub refused-random : (length random ≡ 16 → ⊥) → 3 ≡ refusal c area random
    unfolding refusal
    refused-random o = rw (eq-eqb (length area) 4096 sized, ne_eqb (length random) 16 o)

    module _ (fresh : length random ≡ 16) where
      pub refused-state : sound c area ≡ false → 4 ≡ refusal c area random
      unfolding refusal
      refused-state o = rw (eq-eqb (length area) 4096 sized, eq-eqb (length random) 16 fresh, o)

      pub not-refused : sound c area ≡ true → 0 ≡ refusal c area random
      unfolding refusal
      not-refused o = rw (eq-eqb (length area) 4096 sized, eq-eqb (length random) 16 fresh, o)

  -- what a call that is served may rely on
  pub served-ready : {o : ℕ} → o ≡ refusal c area random → o ≡ 0 → Ready c area
  unfolding refusal
  served-ready e z = go (eqb (length area) 4096) (sound c area) refl refl (sym e ∙ z) where
    go : (a s : Bool) → eqb (length area) 4096 ≡ a → sound c area ≡ s → ◌≡◌ {A = ℕ} (cond a (cond (eqb (length random) 16) (cond s 0 4) 3) 2) 0 → Ready c area
    go true true is-sized is-sound q = record { is-sound = is-sound; area-size = eqb-true (length area) 4096 is-sized }
    go false s is-sized is-sound q = absurd (omega (arith, q))
    go true false is-sized is-sound q = absurd (refused-number (eqb (length random) 16) q)

  module _ (cmd : List ℕ) (n : ℕ) {o : ℕ} (e : o ≡ refusal c area random) where
    pub refused-call : (o ≡ 0 → ⊥) → handed o no_store ≡ store c area cmd random n
    unfolding store
    refused-call z = rw (sym e, ne_eqb o 0 z)

    pub served-call : o ≡ 0 → handed 0 (store_at (stores_of c area cmd) n) ≡ store c area cmd random n
    unfolding store
    served-call z = rw (sym e, z)
