-- What a code does to the tries of the transport key; and a command with a code that is not right touches nothing else.
use Prim.Native.Nat.{ℕ, ◌≤◌}
use mathlib.Core.Bool.{Bool, true, false, cond, ◌&&◌}
use mathlib.Core.List.{List, [], ◌∷◌, ◌++◌}
use mathlib.Core.Logic.{◌⊎◌, inl, inr, ⊎_elim}
use mathlib.Core.Path.{◌≡◌, refl, sym, ap, ◌∙◌}
use native.Mathlib.Omega.{arith}
use lib.Dec.{eqb}
use lib.ListN.{length, set}
use lib.Seq.{get_or-set_same, get_or-set_other}
use borrow.Author.Tests.{eqb-true, eq-eqb}
use Rattle.files.specs.declared.Located.{Located}
use Rattle.files.specs.Part.{part, splice}
use Rattle.files.proofs.Checks.{clash, both, split}
use Rattle.rules.specs.declared.Credential.{Credential}
use Rattle.rules.specs.declared.Card.{Card}
use Rattle.rules.specs.declared.Ins.{Ins}
use Rattle.rules.specs.declared.Ins.TheVariants.{Select, ReadBinary, UpdateBinary, ReadRecord, UpdateRecord, AppendRecord, Verify, Authenticate, ChangePin, ReloadPin, CreateFile, GetChallenge, GetResponse, Unlisted}
use Rattle.rules.specs.Words.{unless, or_else, first, same, byte}
use Rattle.rules.specs.State.{admin, user, device, transport, number_of, no_credential, credential, value_of, Login, Logins, login, logins, challenge, with_credentials}
use Rattle.rules.specs.Sound.{sound}
use Rattle.rules.specs.Frame.{Command, framed, coded, frame_sw, class_sw}
use Rattle.rules.specs.Effect.{Effect, answers, Stepped}
use Rattle.rules.specs.Pins.{tries_sw}
use Rattle.rules.specs.Device.{challenge_sw}
use Rattle.rules.specs.Record.{record_found}
use Rattle.rules.specs.Code.{expected, agrees, code_sw, presents_code, key_after, credentials_after}
use Rattle.rules.specs.Response.{wait_sw, waits}
use Rattle.rules.specs.List.{listed, is_get_response, Rule, of_files, of_contents, of_credentials, rule}
use Rattle.demands.specs.Role.{role}
use Rattle.rules.specs.Step.{checks_of, kept_by, effect_by, checks, effect_of, kept, sw_of, ruled, outcome, settled, at_once, step}
use Rattle.rules.proofs.Checks.{passed}
use Rattle.rules.proofs.Good.{sound-good}
use Rattle.demands.specs.Framing.{NamedBy}
use Rattle.demands.specs.Ledger.{Kind, other, right, wrong, changed, reloaded, ended, is_right, is_wrong, passes, presented, cryptogram_of, pin_of, present_asks, key_asks, change_asks, reload_asks, kind}
use Rattle.demands.specs.Held.{left_no}
use Rattle.demands.specs.Codes.{kind_on, Counted, CodeCounted, OnlyTries, Untouched, RefusedAtCode}
use Rattle.demands.proofs.Framing.{listed-by-bytes, response-named}
use Rattle.demands.proofs.Presented.{presented-is}
use Rattle.demands.proofs.Rows.{ruled_by, kind_by, code-right, try-left, kind-same, kind-by}
use Rattle.demands.proofs.Delivered.{fetched-by, step_by}
use Rattle.demands.proofs.Credentials.{act, outcome-login}
use Rattle.demands.proofs.Asked.{not-about, not-pin}
use Rattle.demands.proofs.Bound.{KeyKind, fair-kind}

module _ (c : Card) (places : length c.credentials ≡ 4) where
  only_set : (x : Credential) → value_of x ≡ value_of (credential c (number_of transport)) → x.tries.limit ≡ (credential c (number_of transport)).tries.limit
      → OnlyTries c (with_credentials c (set c.credentials (number_of transport) x))
  only_set x same-value same-limit =
      let there = get_or-set_same c.credentials 3 x no_credential (omega (arith, places)) in
      record {
        directory-is = refl;
        rights-are = refl;
        current-is = refl;
        folder-is = refl;
        mode-is = refl;
        others-are = λ n o. get_or-set_other c.credentials 3 n x no_credential o;
        value-is = ap value_of there ∙ same-value;
        limit_is = ap (λ (y : Credential). y.tries.limit) there ∙ same-limit;
      }

  only_same : OnlyTries c c
  only_same = record {
    directory-is = refl;
    rights-are = refl;
    current-is = refl;
    folder-is = refl;
    mode-is = refl;
    others-are = λ n o. refl;
    value-is = refl;
    limit_is = refl;
  }

  only_kept : (k : Command) (q : Rule) → OnlyTries c (kept_by q c k)
  unfolding credentials_after
  only_kept k (of_files t d) = only_same
  only_kept k (of_contents f t d) =
      split (λ (xs : List Credential). OnlyTries c (with_credentials c xs)) (presents_code (f k) (logins c) (challenge c) k)
      (λ e. only_set (key_after (credential c (number_of transport)) (agrees (logins c) (challenge c) k)) refl (same-limit (agrees (logins c) (challenge c) k)))
      (λ e. only_same)
    where
      same-limit : (b : Bool) → (key_after (credential c (number_of transport)) b).tries.limit ≡ (credential c (number_of transport)).tries.limit
      same-limit true = refl
      same-limit false = refl
  only_kept k (of_credentials t d) = only_same

-- a rule of a file's contents, which may have a code
abbrev OfContents : Rule → Type 0
OfContents (of_files t d) = ⊥
OfContents (of_contents f t d) = Unit
OfContents (of_credentials t d) = ⊥

-- no command with CLA 04 passes all its checks where it is no right presentation of the transport key
module _ (c : Card) (l : Located) (k : Command) (is-coded : k.cla ≡ 0x04) where
  not_plain : {A : Type 0} (b : ℕ) → k.cla ≡ b → (b ≡ 0x04 → ⊥) → A
  not_plain b e n = absurd (n (sym e ∙ is-coded))

  -- past its code it is a right one
  past-code : (r : Rule) → OfContents r → frame_sw k ≡ 0x9000 → class_sw k ≡ 0x9000 → first (checks_of r c l k) ≡ 0x9000
      → kind_by r (logins c) (challenge c) k transport ≡ right
  past-code (of_files t d) o a b e = absurd o
  past-code (of_contents f t d) o a b e =
      let p = passed (checks_of (of_contents f t d) c l k) e in
      code-right (f k) (logins c) (challenge c) k a b p.0 p.1.0 (eq-eqb k.cla 0x04 is-coded)
  past-code (of_credentials t d) o a b e = absurd o

  refused : (i : Ins) → NamedBy i k.cla k.ins → (kind_by (rule i) (logins c) (challenge c) k transport ≡ right → ⊥)
      → frame_sw k ≡ 0x9000 → class_sw k ≡ 0x9000 → first (checks i c l k) ≡ 0x9000 → ⊥
  unfolding checks rule
  refused Select n bad a b e = not_plain 0x00 n.0 (λ z. omega (arith, z))
  refused ReadBinary n bad a b e = bad (past-code (rule ReadBinary) tt a b e)
  refused UpdateBinary n bad a b e = bad (past-code (rule UpdateBinary) tt a b e)
  refused ReadRecord n bad a b e = bad (past-code (rule ReadRecord) tt a b e)
  refused UpdateRecord n bad a b e = bad (past-code (rule UpdateRecord) tt a b e)
  refused AppendRecord n bad a b e = bad (past-code (rule AppendRecord) tt a b e)
  refused Verify n bad a b e = not_plain 0x00 n.0 (λ z. omega (arith, z))
  refused Authenticate n bad a b e = not_plain 0x00 n.0 (λ z. omega (arith, z))
  refused ChangePin n bad a b e = not_plain 0x00 n.0 (λ z. omega (arith, z))
  refused ReloadPin n bad a b e = not_plain 0x00 n.0 (λ z. omega (arith, z))
  refused CreateFile n bad a b e = not_plain 0x80 n.0 (λ z. omega (arith, z))
  refused GetChallenge n bad a b e = not_plain 0x00 n.0 (λ z. omega (arith, z))
  refused GetResponse n bad a b e = not_plain 0x00 n.0 (λ z. omega (arith, z))
  refused Unlisted n bad a b e = omega (arith, e)

  not-fetch : (i : Ins) → NamedBy i k.cla k.ins → is_get_response i ≡ true → ⊥
  not-fetch Select n e = clash false e refl
  not-fetch ReadBinary n e = clash false e refl
  not-fetch UpdateBinary n e = clash false e refl
  not-fetch ReadRecord n e = clash false e refl
  not-fetch UpdateRecord n e = clash false e refl
  not-fetch AppendRecord n e = clash false e refl
  not-fetch Verify n e = clash false e refl
  not-fetch Authenticate n e = clash false e refl
  not-fetch ChangePin n e = clash false e refl
  not-fetch ReloadPin n e = clash false e refl
  not-fetch CreateFile n e = clash false e refl
  not-fetch GetChallenge n e = clash false e refl
  not-fetch GetResponse n e = not_plain 0x00 n.0 (λ z. omega (arith, z))
  not-fetch Unlisted n e = clash false e refl

  stopped : (i : Ins) (random : List ℕ) → NamedBy i k.cla k.ins → (kind_by (rule i) (logins c) (challenge c) k transport ≡ right → ⊥)
      → outcome i c l k random ≡ answers (sw_of i c l k) (kept i c k)
  unfolding outcome
  stopped i random n bad =
      split (λ (e : Effect). e ≡ answers (sw_of i c l k) (kept i c k)) (eqb (sw_of i c l k) 0x9000)
      (λ e. let p = passed (frame_sw k ∷ class_sw k ∷ first (checks i c l k) ∷ []) (eqb-true _ _ e) in absurd (refused i n bad p.0 p.1.0 p.1.1.0))
      (λ e. refl)

module _ (c : Card) (area : List ℕ) (places : length c.credentials ≡ 4) where
  settled-so : (i : Ins) (k : Command) (sw : ℕ) → Untouched c area (settled (answers sw (kept i c k)) area)
  unfolding settled kept part splice
  settled-so i k sw =
      let o = only_kept c places k (rule i) in
      record {
        card-is = record {
          directory-is = o.directory-is;
          rights-are = o.rights-are;
          current-is = o.current-is;
          folder-is = o.folder-is;
          mode-is = o.mode-is;
          others-are = o.others-are;
          value-is = o.value-is;
          limit_is = o.limit_is;
        };
        area-is = refl;
        none-shown = refl;
      }

  waits-so : (s : Stepped) → Untouched c area s → Untouched c area (waits s)
  waits-so s u = record {
    card-is = record {
      directory-is = u.card-is.directory-is;
      rights-are = u.card-is.rights-are;
      current-is = u.card-is.current-is;
      folder-is = u.card-is.folder-is;
      mode-is = u.card-is.mode-is;
      others-are = u.card-is.others-are;
      value-is = u.card-is.value-is;
      limit_is = u.card-is.limit_is;
    };
    area-is = u.area-is;
    none-shown = refl;
  }

-- the class byte is the first
class_of : (cmd : List ℕ) → byte cmd 0 ≡ 0x04 → (framed cmd).cla ≡ 0x04
unfolding framed
class_of cmd e = e

pub refused-at-code : RefusedAtCode
unfolding at_once
refused-at-code c area cmd random h coded bad =
    let k = framed cmd in
    let named = listed-by-bytes k in
    let places = (sound-good c area h).all_there in
    let is-coded = class_of cmd coded in
    let by-rule : kind_by (rule (listed k)) (logins c) (challenge c) k transport ≡ right → ⊥ = λ e. bad (kind-same (listed k) (logins c) (challenge c) cmd transport ∙ e) in
    let at-once : Untouched c area (at_once c area cmd random) =
    rw (stopped c (record_found c area k) k is-coded (listed k) random named by-rule) (settled-so c area places (listed k) k (sw_of (listed k) c (record_found c area k) k)) in
    step_by (Untouched c area) c area cmd random
    (λ f. absurd (not-fetch c (record_found c area k) k is-coded (listed k) named f.by_name))
    (λ m f. waits-so c area places (at_once c area cmd random) at-once) (λ m f. at-once)

-- ---- the tries
-- only a read, update or append is anything to the transport key
only-codes : (i : Ins) (l : Logins) (ch cmd : List ℕ) → (kind (role i) l ch cmd transport ≡ other) ⊎ OfContents (rule i)
unfolding kind rule
only-codes Select l ch cmd = inl refl
only-codes ReadBinary l ch cmd = inr tt
only-codes UpdateBinary l ch cmd = inr tt
only-codes ReadRecord l ch cmd = inr tt
only-codes UpdateRecord l ch cmd = inr tt
only-codes AppendRecord l ch cmd = inr tt
only-codes Verify l ch cmd =
    let k = framed cmd in
    inl (not-about (passes (present_asks (l (pin_of k)) k) k) (pin_of k) (presented (l (pin_of k)).value k.given) (not-pin (eqb k.p2 0x00)))
only-codes Authenticate l ch cmd =
    let k = framed cmd in inl (not-about (passes (key_asks (l device) ch k) k) device (presented (cryptogram_of (l device).value ch) k.given) refl)
only-codes ChangePin l ch cmd =
    let k = framed cmd in inl (not-about (passes (change_asks (l (pin_of k)) k) k) (pin_of k) (changed k.given) (not-pin (eqb k.p2 0x00)))
only-codes ReloadPin l ch cmd = let k = framed cmd in inl (not-about (passes (reload_asks (l admin) k) k) user (reloaded k.given) refl)
only-codes CreateFile l ch cmd = inl refl
only-codes GetChallenge l ch cmd = inl refl
only-codes GetResponse l ch cmd = inl refl
only-codes Unlisted l ch cmd = inl refl

-- a wrong code is 6988, whatever comes behind it
code-sw : (a b : ℕ) (is-coded agree : Bool) → is-coded ≡ true → a ≡ 0x9000 → b ≡ 0x9000 → agree ≡ false
    → cond is-coded (first (a ∷ b ∷ unless agree 0x6988 ∷ [])) 0x9000 ≡ 0x6988
unfolding or_else
code-sw a b is-coded agree d p q r = rw (d, p, q, r)

whole-sw : (a b f s : ℕ) (t : List ℕ) → a ≡ 0x9000 → b ≡ 0x9000 → f ≡ 0x9000 → s ≡ 0x6988 → first (a ∷ b ∷ first (f ∷ s ∷ t) ∷ []) ≡ 0x6988
unfolding or_else
whole-sw a b f s [] p q r e = rw (p, q, r, e)
whole-sw a b f s (x ∷ t) p q r e = rw (p, q, r, e)

disagree : (a b : List ℕ) → presented a b ≡ wrong → same a b ≡ false
disagree a b h = go (same a b) (presented-is a b ∙ h)
  where
    go : (t : Bool) → cond t right wrong ≡ wrong → t ≡ false
    go true e = clash false (ap is_right (sym e)) refl
    go false e = refl

module _ (c : Card) (x : Located) (k : Command) (random : List ℕ) where
  abbrev Wrong : Rule → Type 0
  Wrong r = (1 ≤ (login transport c).tries.left) × (ruled_by r c x k random ≡ answers 0x6988 (kept_by r c k))

  wrong-at : (r : Rule) → OfContents r → kind_by r (logins c) (challenge c) k transport ≡ wrong
      → (1 ≤ (login transport c).tries.left) × (ruled_by r c x k random ≡ answers 0x6988 (kept_by r c k))
  unfolding code_sw
  wrong-at (of_files t d) o = absurd o
  wrong-at (of_contents f t d) o =
      let asked : List ℕ = first (f k) ∷ tries_sw (logins c transport) ∷ challenge_sw (challenge c) ∷ [] in
      split (λ (y : Kind). y ≡ wrong → Wrong (of_contents f t d)) (coded k && passes (first (f k) ∷ tries_sw (logins c transport) ∷ challenge_sw (challenge c) ∷ []) k)
      (λ e h.
      let q = both (coded k) (passes asked k) e in
      let p = passed (frame_sw k ∷ class_sw k ∷ first asked ∷ []) (eqb-true _ _ q.1) in
      let a = passed asked p.1.1.0 in
      let at_code : code_sw (logins c) (challenge c) k ≡ 0x6988 =
      code-sw _ _ (coded k) (agrees (logins c) (challenge c) k) q.0 a.1.0 a.1.1.0 (disagree (expected (logins c) (challenge c) k) k.code h) in
      let sw : first (frame_sw k ∷ class_sw k ∷ first (checks_of (of_contents f t d) c x k) ∷ []) ≡ 0x6988 =
      whole-sw _ _ _ _ (t c x k) p.0 p.1.0 a.0 at_code in
      (try-left (logins c transport) a.1.0, ap (λ (n : ℕ). ruled n (kept_by (of_contents f t d) c k) (effect_by (of_contents f t d) c x k random)) sw))
      (λ e h. clash false (ap is_wrong h) refl)
  wrong-at (of_credentials t d) o = absurd o

-- what a kind of the ledger's does to the tries of the transport key
counts : (c : Card) (y : Kind) (s : Stepped) → login transport s.card ≡ act transport y (login transport c) → KeyKind transport y
    → (y ≡ wrong → (1 ≤ (login transport c).tries.left) × (s.sw ≡ 0x6988)) → Counted y c s
counts c other s e q f = ap (λ (z : Login). z.tries.left) e
counts c right s e q f = ap (λ (z : Login). z.tries.left) e
counts c wrong s e q f =
    let w = f refl in
    let less = ap (λ (z : Login). z.tries.left) e in
    (omega (arith, less, w.0), w.1)
counts c (changed d) s e q f = clash true refl q
counts c (reloaded d) s e q f = absurd (omega (arith, ap number_of q))
counts c ended s e q f = q

module _ (c : Card) (area cmd random : List ℕ) (h : sound c area ≡ true) where
  abbrev k : Command
  k = framed cmd

  abbrev i : Ins
  i = listed (framed cmd)

  abbrev x : Located
  x = record_found c area (framed cmd)

  same_kind : kind_on c cmd transport ≡ kind_by (rule (listed (framed cmd))) (logins c) (challenge c) (framed cmd) transport
  same_kind = kind-same i (logins c) (challenge c) cmd transport

  after : login transport (at_once c area cmd random).card ≡ act transport (kind_on c cmd transport) (login transport c)
  unfolding at_once settled
  after =
      let g = sound-good c area h in
      outcome-login c (record { all_there = g.all_there; all-kept = g.all-kept }) i x k random transport
      ∙ ap (λ (y : Kind). act transport y (login transport c)) (sym same_kind)

  possible : KeyKind transport (kind_on c cmd transport)
  possible = kind-by (KeyKind transport) i (logins c) (challenge c) cmd transport tt (fair-kind (logins c) transport)

  wrong-sw : kind_on c cmd transport ≡ wrong
      → (1 ≤ (login transport c).tries.left) × (((at_once c area cmd random).sw ≡ 0x6988) × ((at_once c area cmd random).bytes ≡ []))
  unfolding at_once settled outcome effect_of checks kept part
  wrong-sw e =
      ⊎_elim (λ n. clash false (ap is_wrong (sym n ∙ e)) refl)
      (λ o. let w = wrong-at c x k random (rule i) o (sym same_kind ∙ e) in
      (w.0, (ap (λ (z : Effect). z.sw) w.1, ap (λ (z : Effect). z.says ++ part z.from z.shows area) w.1)))
      (only-codes i (logins c) (challenge c) cmd)

  fetch-other : is_get_response (listed (framed cmd)) ≡ true → kind_on c cmd transport ≡ other
  unfolding kind
  fetch-other e = rw (response-named (listed (framed cmd)) e)

  counted : Counted (kind_on c cmd transport) c (step c area cmd random)
  unfolding wait_sw
  counted =
      let y : Kind = kind_on c cmd transport in
      step_by (λ (s : Stepped). Counted (kind_on c cmd transport) c s) c area cmd random
      (λ f. rw (fetch-other f.by_name)
      (fetched-by (λ (s : Stepped). left_no s.card 3 ≡ left_no c 3) c area (framed cmd) (λ q. refl) (λ sw. refl)))
      (λ m f. counts c (kind_on c cmd transport) (waits (at_once c area cmd random)) after possible
      (λ e. let w = wrong-sw e in (w.0, ap (λ (d : List ℕ). wait_sw (length d) (at_once c area cmd random).sw) w.1.1 ∙ w.1.0)))
      (λ m f. counts c (kind_on c cmd transport) (at_once c area cmd random) after possible (λ e. let w = wrong-sw e in (w.0, w.1.0)))

pub code-counted : CodeCounted
code-counted c area cmd random h = counted c area cmd random h
