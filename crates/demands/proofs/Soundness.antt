-- The proofs of `specs/Soundness`: of what a command does, and from it of the calls.
use Prim.Native.Nat.{ℕ, ◌+◌, ◌-◌, ◌≤◌, ◌<◌}
use mathlib.Core.Bool.{true, false}
use mathlib.Core.List.{List, [], ◌∷◌, ◌++◌, map}
use mathlib.Core.Logic.{inl, by_cases}
use mathlib.Core.Path.{◌≡◌, refl, sym, ap, ◌∙◌}
use native.Mathlib.Decide.{dec_le}
use native.Mathlib.Nat.{le_refl}
use native.Mathlib.Omega.{arith}
use lib.ListN.{length, drop, length-append, length-take, length-replicate}
use lib.Seq.{length-take-le}
use Rattle.files.specs.declared.File.{File}
use Rattle.files.specs.Words.{every, all_below, is_zero}
use Rattle.files.specs.Part.{part, splice, over, zeros}
use Rattle.files.specs.State.{emptied, with_file}
use Rattle.files.specs.Directory.{start, extent, used}
use Rattle.files.specs.Record.{appended, parted_file}
use Rattle.files.specs.Create.{area_size, created, founded}
use Rattle.files.proofs.Parts.{splice-length, over-length}
use Rattle.files.proofs.Checks.{each, both, split}
use Rattle.files.proofs.Extents.{file-set, used-is, lies}
use Rattle.files.proofs.Making.{makes as made_in}
use Rattle.files.proofs.Kept.{PartedIn, filed, sound-append, sound-created, new-parted, lies-in-area, place-parted, parted-none, parted-in}
use Rattle.rules.specs.declared.Credential.{Credential}
use Rattle.rules.specs.declared.Card.{Card}
use Rattle.rules.specs.declared.Ins.{Ins}
use Rattle.rules.specs.declared.Response.{Response}
use Rattle.rules.specs.Words.{same, byte, sw_bytes}
use Rattle.rules.specs.Tries.{good_limit}
use Rattle.rules.specs.State.{Which, whiches, number_of, marked, login, logins, wait_count, waiting, with_credentials, with_current, with_value}
use Rattle.rules.specs.Sound.{is_key, good_mode, good_pin, good_value, sound_value, sound_credential, sound_state, sound}
use Rattle.rules.specs.Frame.{Command, case_of, le_place, framed}
use Rattle.rules.specs.Effect.{Deed, turns, enters, shows, stores, appends, makes, founds, Touch, nothing, presents, changes, reloads, challenges, Effect, answers, storing, Stepped}
use Rattle.rules.specs.Target.{file_of}
use Rattle.rules.specs.Record.{record_found}
use Rattle.rules.specs.Pins.{compared_at}
use Rattle.rules.specs.List.{listed}
use Rattle.demands.specs.Role.{role}
use Rattle.rules.specs.Response.{fetch_count}
use Rattle.rules.specs.Step.{did, touched, outcome, settled, at_once, step}
use Rattle.rules.specs.Calls.{Order, good_given, good_order, fresh, cleared}
use Rattle.rules.proofs.Checks.{either}
use Rattle.rules.proofs.Good.{Good, for-which, sound-good, sound-parted, sound-both, tried-full, tried-lowered, value-sound, sayable, said-short, placed, turned, entered, founded-good, tried-in, logged, valued, challenged, responded, waited, ended, made}
use Rattle.rules.proofs.Targets.{place-named, place-run, some-lies, lies-there}
use Rattle.demands.specs.Soundness.{Bytes, StepSound, StepArea, StepReply, CommandSound, CommandArea, CommandReply, CommandCount, ResetSound, IssueServed, IssueArea, BlankUnsound}
use Rattle.demands.proofs.Calls.{called-by, reset_by, issued-by}
use Rattle.demands.specs.Ledger.{Label, Kind}
use Rattle.demands.proofs.Labels.{appended-label}
use Rattle.demands.proofs.Rows.{FairStore, Fair, FairTouch, by-rule}
use Rattle.demands.proofs.Delivered.{at-once-response, fetched-by, step_by}
use Rattle.demands.proofs.Files.{treats, treated-parted}

-- what the effect of a command leaves: a sound card, whose new file is parted; a challenge said or nothing; what it shows and what it stores lie in the
-- area
pub record Leaves (c : Card) (k : Command) (random : List ℕ) (e : Effect) : Type 0 where
  pub card : Good e.card
  pub new : (place : ℕ) → c.directory.count < place → place ≤ e.card.directory.count → (x : List ℕ) → parted_file (file_of e.card place) x ≡ true
  pub said : length random ≡ 16 → sayable (length e.says) ≡ true
  pub few : length random ≡ 16 → k.le ≤ 256 → length e.says + e.shows ≤ 256
  pub shown : e.from + e.shows ≤ 4096
  pub stored : e.into + length e.stores ≤ 4096

module _ (c : Card) (area : List ℕ) (h : sound c area ≡ true) (k : Command) (random : List ℕ) where
  abbrev g : Good c
  g = sound-good c area h

  -- no file is new
  none-new : (x : Card) → x.directory.count ≡ c.directory.count → (place : ℕ) → c.directory.count < place → place ≤ x.directory.count
      → (y : List ℕ) → parted_file (file_of x place) y ≡ true
  none-new x e place l m y = absurd (omega arith)

  -- a card alone
  leaves-card : (sw : ℕ) (x : Card) → Good x → x.directory.count ≡ c.directory.count → Leaves c k random (answers sw x)
  leaves-card sw x gx q =
      record { card = gx; new = none-new x q; said = λ l. refl; few = λ l m. omega arith; shown = omega arith; stored = omega arith }

  leaves-stored : (x : Card) → Good x → x.directory.count ≡ c.directory.count → {named place at : ℕ} {f : File} {d : List ℕ}
      → {y : Kind} → FairStore y c area named place at f d → Leaves c k random (storing x (start c.directory place + at) d)
  leaves-stored x gx e {named} {place} {at} {f} {d} {y} q = record {
    card = gx;
    new = none-new x e;
    said = λ l. refl;
    few = λ l m. omega arith;
    shown = omega arith;
    stored = place-run c.directory g.directory place q.entitled.some q.entitled.low at (length d) q.fits;
  }

  deed-leaves : (i : Ins) (xs : List Credential) → Good (with_credentials c xs) → (x : Deed) → Fair i c area k x → Leaves c k random (did (with_credentials c xs) x)
  unfolding created founded
  deed-leaves i xs v (turns place) q = leaves-card _ _ (turned (with_credentials c xs) v place q.low q.lies) refl
  deed-leaves i xs v (enters n) q = leaves-card _ _ (entered (with_credentials c xs) v n q) refl
  deed-leaves i xs v (shows place at n) q = record {
    card = turned (with_credentials c xs) v place q.entitled.low q.entitled.lies;
    new = none-new (with_current (with_credentials c xs) place) refl;
    said = λ l. refl;
    few = λ l m. omega (arith, q.few m);
    shown = place-run c.directory g.directory place q.entitled.some q.entitled.low at n q.fits;
    stored = omega arith;
  }
  deed-leaves i xs v (stores place at d) q = leaves-stored _ (turned (with_credentials c xs) v place q.fair.entitled.low q.fair.entitled.lies) refl q.fair
  deed-leaves i xs v (appends place d) q =
      let who = q.fair.entitled in
      let w = filed c.directory g.directory in
      let named = place-named c.directory g.directory place who.some who.low in
      let f = appended (file_of c place) (length d) in
      let same = file-set c.directory.files (place - 1) f (omega (arith, w.places, w.few, who.some, who.low)) in
      let there = some-lies (with_file c.directory (place - 1) f) place c.session.folder
      (λ l. ap (λ (z : File). z.folder) same ∙ ap (λ (z : Label). z.within) (appended-label (file_of c place) (length d)) ∙ lies-there c.directory place c.session.folder who.lies who.some) in
      let after = sound-append c.directory place (length d) g.directory named q.served in
      leaves-stored _ (placed (with_credentials c xs) v _ place after who.low g.folder there) refl q.fair
  deed-leaves i xs v (makes f) q = record {
    card =
        placed (with_credentials c xs) v _ (c.directory.count + 1) (sound-created c.directory f 4096 g.directory q.served) (le_refl _) g.folder
        (some-lies (created c.directory f) (c.directory.count + 1) c.session.folder (λ l. new-within));
    new = one-new;
    said = λ l. refl;
    few = λ l m. omega arith;
    shown = omega arith;
    stored = simp length-replicate (made_in c.directory f 4096 q.served).fits;
  }
    where
      new-within : (file_of (did c (makes f)).card (c.directory.count + 1)).folder ≡ c.session.folder
      new-within =
          let w = filed c.directory g.directory in
          let few = (made_in c.directory f 4096 q.served).few in
          let e : c.directory.count + 1 - 1 ≡ c.directory.count = omega arith in
          rw (e, file-set c.directory.files c.directory.count (emptied f) (omega (arith, w.places, few))) (ap (λ (x : Label). x.within) q.given)

      one-new : (place : ℕ) → c.directory.count < place → place ≤ c.directory.count + 1 → (x : List ℕ)
          → parted_file (file_of (did (with_credentials c xs) (makes f)).card place) x ≡ true
      one-new place lo hi x =
          let w = filed c.directory g.directory in
          let few = (made_in c.directory f 4096 q.served).few in
          let e : place - 1 ≡ c.directory.count = omega arith in
          rw (e, file-set c.directory.files c.directory.count (emptied f) (omega (arith, w.places, few))) (new-parted f x)
  deed-leaves i xs v (founds x) q = leaves-card _ _ (founded-good (with_credentials c xs) v x q.served) refl

  -- a good PIN for a credential that is no key
  pin-valued : (w : Which) (d : List ℕ) → is_key (number_of w) ≡ false → good_pin d ≡ true → Good (with_value w c d)
  unfolding good_value
  pin-valued w d e p = valued c g w d (rw e p)

  touch-leaves : (t : Touch) → FairTouch (logins c) t → Leaves c k random (touched c t random)
  unfolding compared_at
  touch-leaves nothing q = leaves-card _ c g refl
  touch-leaves (presents w value given) q =
      split (Leaves c k random) (same value given)
      (λ e. leaves-card _ _ (logged c g w _ true (tried-full (login w c).tries.limit true (tried-in c g w).limit)) refl)
      (λ e. leaves-card _ _ (logged c g w _ false (tried-lowered _ _ (tried-in c g w))) refl)
  touch-leaves (changes w d) q = leaves-card _ _ (pin-valued w d q.0 q.2) refl
  touch-leaves (reloads w d) q =
      let value = pin-valued w d (rw q.0 refl) q.2 in
      leaves-card _ _ (logged (with_value w c d) value w _ false (tried-full (login w c).tries.limit false (tried-in c g w).limit)) refl
  touch-leaves (challenges n) q =
      let asked = either (is_zero n) q in
      let short : n ≤ 16 = said-short n asked in
      record {
        card = g;
        new = none-new c refl;
        said = λ l. rw (length-take-le n random (omega arith)) asked;
        few = λ l m. rw (length-take-le n random (omega arith)) (omega arith);
        shown = omega arith;
        stored = omega arith;
      }

  pub leaves : (i : Ins) → Leaves c k random (outcome i c (record_found c area k) k random)
  leaves i = by-rule (Leaves c k random) i c area h k random (deed-leaves i) touch-leaves (λ xs v sw. leaves-card sw (with_credentials c xs) v refl)

-- Le is at most 256
pub le_low : (cmd : List ℕ) → Bytes cmd → (framed cmd).le ≤ 256
unfolding framed
le_low cmd b =
    let at = le_place (case_of cmd) (byte cmd 4) in
    split (λ n. n ≤ 256) (is_zero (byte cmd at)) (λ e. le_refl 256) (λ e. omega (arith, b at))

-- of one step: every file that was there stays parted, and so is a new one
module _ (c : Card) (area cmd random : List ℕ) (h : sound c area ≡ true) (size_is : length area ≡ area_size) where
  abbrev e : Effect
  e = outcome (listed (framed cmd)) c (record_found c area (framed cmd)) (framed cmd) random

  left : Leaves c (framed cmd) random e
  left = leaves c area h (framed cmd) random (listed (framed cmd))

  inside : e.into + length e.stores ≤ length area
  inside = rw size_is left.stored

  step-parted : PartedIn e.card.directory (splice area e.into e.stores)
  step-parted =
      let w = filed e.card.directory left.card.directory in
      let u : used e.card.directory ≡ e.card.directory.count = used-is e.card.directory w.few in
      record {
        room = rw (splice-length area e.into e.stores inside, size_is, u) w.room;
        each-parted = λ place some l. by_cases (dec_le place c.directory.count) (λ m. old place some m) (λ m. left.new place (omega arith) (omega (arith, u)) _);
      }
    where
      old : (place : ℕ) → 1 ≤ place → place ≤ c.directory.count
          → parted_file (file_of e.card place) (extent e.card.directory place (splice area e.into e.stores)) ≡ true
      old place some low =
          let named = place-named c.directory (sound-good c area h).directory place some low in
          let here = lies-in-area c.directory area (sound-parted c area h) place named in
          treated-parted _ c area place (role (listed (framed cmd))) (framed cmd) e (treats (listed (framed cmd)) c area h place some low (framed cmd) random)
          (lies c.directory place (length area) here).fits inside (place-parted c.directory area (sound-parted c area h) place named)

-- of the command at once
module _ (c : Card) (area cmd random : List ℕ) (h : sound c area ≡ true) where
  pub at-once-good : length random ≡ 16 → Good (at_once c area cmd random).card
  unfolding at_once settled
  at-once-good l = let e = leaves c area h (framed cmd) random (listed (framed cmd)) in challenged _ e.card _ (e.said l)

  at-once-parted : length area ≡ area_size → PartedIn (at_once c area cmd random).card.directory (at_once c area cmd random).area
  unfolding at_once settled
  at-once-parted a = step-parted c area cmd random h a

  at-once-area : length area ≡ area_size → length (at_once c area cmd random).area ≡ length area
  unfolding at_once settled
  at-once-area a = splice-length area _ _ (inside c area cmd random h a)

  pub at-once-few : length random ≡ 16 → Bytes cmd → length (at_once c area cmd random).bytes ≤ 256
  unfolding at_once settled part
  at-once-few l b =
      let few = (leaves c area h (framed cmd) random (listed (framed cmd))).few l (le_low cmd b) in
      simp (length-append, length-take) (omega (arith, few))

-- at most 256 bytes wait
pub waiting_few : (c : Card) → Good c → length (waiting c) ≤ 256
waiting_few c g = omega (arith, length-take (wait_count c.response) c.response.bytes, (responded c.response g.response).few)

pub step-sound : StepSound
step-sound c area cmd random h a l =
    let g = sound-good c area h in
    let p = sound-parted c area h in
    let now = at-once-good c area cmd random h l in
    let parted = at-once-parted c area cmd random h a in
    step_by (λ (s : Stepped). sound s.card s.area ≡ true) c area cmd random
    (λ f. fetched-by (λ (s : Stepped). sound s.card s.area ≡ true) c area (framed cmd)
    (λ q. sound-both _ area (waited c g (drop (fetch_count (length (waiting c)) (framed cmd)) (waiting c)) (inl f.in-mode-1)) p) (λ sw. h))
    (λ m f. sound-both _ _ (waited (at_once c area cmd random).card now (at_once c area cmd random).bytes (inl (ap (λ (r : Response). marked r.mode) (at-once-response c area cmd random) ∙ m))) parted)
    (λ m f. sound-both _ _ now parted)

pub step-area : StepArea
step-area c area cmd random h a =
    step_by (λ (s : Stepped). length s.area ≡ length area) c area cmd random
    (λ f. fetched-by (λ (s : Stepped). length s.area ≡ length area) c area (framed cmd) (λ q. refl) (λ sw. refl))
    (λ m f. at-once-area c area cmd random h a) (λ m f. at-once-area c area cmd random h a)

pub step-reply : StepReply
step-reply c area cmd random h l b =
    let w = waiting_few c (sound-good c area h) in
    step_by (λ (s : Stepped). length s.bytes + 2 ≤ 258) c area cmd random
    (λ f. fetched-by (λ (s : Stepped). length s.bytes + 2 ≤ 258) c area (framed cmd)
    (λ q. omega (arith, w, length-take (fetch_count (length (waiting c)) (framed cmd)) (waiting c))) (λ sw. omega arith))
    (λ m f. omega arith) (λ m f. omega (arith, at-once-few c area cmd random h l b))

pub command-sound : CommandSound
command-sound c area cmd random reply h =
    called-by (λ d. sound d.answer.card d.area ≡ true) c area cmd random reply (λ r a l s. step-sound c area cmd random h a l) (λ o n. h)

pub command-area : CommandArea
command-area c area cmd random reply =
    called-by (λ d. length d.area ≡ length area) c area cmd random reply (λ r a l s. step-area c area cmd random s a) (λ o n. refl)

pub command-reply : CommandReply
command-reply c area cmd random reply b =
    called-by (λ d. length d.reply ≡ length reply) c area cmd random reply
    (λ r a l s. over-length ((step c area cmd random).bytes ++ sw_bytes (step c area cmd random).sw) reply
    (simp length-append (omega (arith, step-reply c area cmd random s l b))))
    (λ o n. refl)

pub command-count : CommandCount
command-count c area cmd random reply b =
    called-by (λ d. d.answer.n ≤ 258) c area cmd random reply (λ r a l s. step-reply c area cmd random s l b) (λ o n. omega arith)

cleared-sound : (c : Card) (area : List ℕ) → sound c area ≡ true → sound (cleared c) area ≡ true
cleared-sound c area h = sound-both _ area (ended c (sound-good c area h)) (sound-parted c area h)

pub reset-sound : ResetSound
reset-sound c area h = reset_by (λ a. sound a.card area ≡ true) c area (λ z e. cleared-sound c area h) (λ o n. h)

-- all of the order's credentials, and its mode
order-good : (o : Order) → good_order o ≡ true → (every (map (λ w. good_given (number_of w) (o.given w)) whiches) ≡ true) × (good_mode o.mode ≡ true)
unfolding good_order
order-good o h = both (every (map (λ w. good_given (number_of w) (o.given w)) whiches)) (good_mode o.mode) h

-- each of the order's credentials
given-good : (o : Order) → good_order o ≡ true → (w : Which) → good_given (number_of w) (o.given w) ≡ true
given-good o h w = for-which (λ v. good_given (number_of v) (o.given v)) (order-good o h).0 w

fresh-good : (o : Order) → good_order o ≡ true → Good (fresh o)
fresh-good o h =
    made _ o.mode
    (λ w. let e = each (good_value (number_of w) (o.given w).value ∷ good_limit (o.given w).limit ∷ []) (given-good o h w) in
    record { value = value-sound (o.given w).value (number_of w) e.0 _; tries = tried-full (o.given w).limit false e.1; low = omega arith })
    (order-good o h).1

pub issue-served : IssueServed
issue-served o area =
    issued-by (λ i. i.answer.outcome ≡ 0 → sound i.answer.card i.area ≡ true) o area
    (λ a e z. sound-both _ _ (fresh-good o e) (parted-in _ _ (parted-none (zeros area_size)))) (λ n m z. absurd (omega arith))

pub issue-area : IssueArea
issue-area o area = issued-by (λ i. length i.area ≡ length area) o area (λ a e. length-replicate {A = ℕ} area_size 0 ∙ sym a) (λ n m. refl)

pub blank-unsound : BlankUnsound
unfolding sound sound_state sound_credential sound_value good_value good_pin over all_below
blank-unsound area = refl
