-- Two worlds that are alike, and the same call in both: from the command at once to the step, from the step to the call, and from one call to a list.
use Prim.Native.Nat.{ℕ, zero, suc, ◌+◌}
use mathlib.Core.Bool.{Bool, true, false, cond, ◌&&◌, not}
use mathlib.Core.List.{List, [], ◌∷◌, ◌++◌}
use mathlib.Core.Path.{◌≡◌, refl, ap, ap₂, subst}
use lib.ListN.{length, take, drop}
use lib.Dec.{eqb, leb}
use Rattle.files.specs.Words.{every, is_zero}
use Rattle.files.specs.Part.{over}
use Rattle.rules.specs.declared.Response.{Response}
use Rattle.rules.specs.Words.{first, sw_bytes}
use Rattle.rules.specs.State.{marked, mode, wait_count, waiting, with_waiting}
use Rattle.rules.specs.Frame.{Command, framed}
use Rattle.rules.specs.List.{listed, is_get_response}
use Rattle.rules.specs.Response.{wait_sw, fetch_count, get_response_checks, fetches, waits, delivered, gives, unchanged, fetched}
use Rattle.rules.specs.Step.{at_once, step}
use Rattle.rules.specs.Effect.{Stepped}
use Rattle.rules.specs.Calls.{reply_size, random_size, refused, served, cleared}
use Rattle.demands.specs.Ledger.{Event, sent, resets, servable}
use Rattle.demands.specs.Run.{World, world, SoundWorld, left, called, run}
use Rattle.demands.specs.Outsider.{Heard, hear, heard, hears, Before, Same}
use Rattle.demands.proofs.Live.{call-live, command-served, reset-answers}

-- two steps that tell the same and leave worlds that are alike
pub record StepAlike (Alike : World → World → Type 0) (a b : Stepped) : Type 0 where
  pub bytes-are : a.bytes ≡ b.bytes
  pub sw-is : a.sw ≡ b.sw
  pub worlds : Alike (world a.card a.area) (world b.card b.area)

-- one of two in both
pub picked : {A : Type 0} (R : A → A → Type 0) (b : Bool) {e f n m : A} → (b ≡ true → R e f) → R n m → R (cond b e n) (cond b f m)
picked R true p q = p refl
picked R false p q = q

-- what waits may be set in both
abbrev pub Waited : (World → World → Type 0) → Type 0
Waited Alike =
    (w v : World) (bytes : List ℕ) → Alike w v → Alike (world (with_waiting w.card bytes) w.area) (world (with_waiting v.card bytes) v.area)

-- ---- the step, from the command at once
module _ (Alike : World → World → Type 0) (waited : Waited Alike) where
  waited-same : (w v : World) (x y : List ℕ) → x ≡ y → Alike w v → Alike (world (with_waiting w.card x) w.area) (world (with_waiting v.card y) v.area)
  waited-same w v x y e r = rw (← e) (waited w v x r)

  waits-both : (a b : Stepped) → StepAlike Alike a b → StepAlike Alike (waits a) (waits b)
  waits-both a b k = record {
    bytes-are = refl;
    sw-is = ap₂ (λ (d : List ℕ) (sw : ℕ). wait_sw (length d) sw) k.bytes-are k.sw-is;
    worlds = waited-same (world a.card a.area) (world b.card b.area) a.bytes b.bytes k.bytes-are k.worlds;
  }

  module _ (w v : World) (r : Alike w v) (same : w.card.response ≡ v.card.response) where
    waiting-same : waiting w.card ≡ waiting v.card
    waiting-same = ap (λ (x : Response). take (wait_count x) x.bytes) same

    -- GET RESPONSE gives what waits, which is the same
    gives_both : (n : ℕ) → StepAlike Alike (gives w.card w.area n) (gives v.card v.area n)
    gives_both n = record {
      bytes-are = ap (take n) waiting-same;
      sw-is = ap (λ (d : List ℕ). wait_sw (length (drop n d)) 0x9000) waiting-same;
      worlds = waited-same w v (drop n (waiting w.card)) (drop n (waiting v.card)) (ap (drop n) waiting-same) r;
    }

    fetched-both : (k : Command) → StepAlike Alike (fetched w.card w.area k) (fetched v.card v.area k)
    unfolding fetched
    fetched-both k =
        subst
        (λ (d : List ℕ). StepAlike Alike (fetched w.card w.area k)
        (cond (eqb (first (get_response_checks (length d) k)) 0x9000) (gives v.card v.area (fetch_count (length d) k)) (unchanged v.card v.area (first (get_response_checks (length d) k)))))
        waiting-same
        (picked (StepAlike Alike) (eqb (first (get_response_checks (length (waiting w.card)) k)) 0x9000)
        (λ e. gives_both (fetch_count (length (waiting w.card)) k)) (record { bytes-are = refl; sw-is = refl; worlds = r }))

    pub step_both : (cmd random : List ℕ) → StepAlike Alike (at_once w.card w.area cmd random) (at_once v.card v.area cmd random)
        → StepAlike Alike (step w.card w.area cmd random) (step v.card v.area cmd random)
    unfolding step fetches
    step_both cmd random k =
        subst
        (λ (m : ℕ). StepAlike Alike (step w.card w.area cmd random)
        (cond (every (marked m ∷ not (is_zero (framed cmd).case) ∷ is_get_response (listed (framed cmd)) ∷ [])) (fetched v.card v.area (framed cmd))
        (delivered (marked m) (at_once v.card v.area cmd random))))
        (ap (λ (x : Response). x.mode) same)
        (picked (StepAlike Alike) (every (marked (mode w.card) ∷ not (is_zero (framed cmd).case) ∷ is_get_response (listed (framed cmd)) ∷ []))
        (λ e. fetched-both (framed cmd))
        (picked (StepAlike Alike) (marked (mode w.card)) (λ e. waits-both (at_once w.card w.area cmd random) (at_once v.card v.area cmd random) k) k))

module _ (Alike : World → World → Type 0) where
  -- ---- the call, from its step
  module _ (w v : World) (lw : SoundWorld w) (lv : SoundWorld v) where
    pub command-alike : (cmd random reply : List ℕ) → Alike w v
        → (servable random reply ≡ true → StepAlike Alike (step w.card w.area cmd random) (step v.card v.area cmd random))
        → (heard w (sent cmd random reply) ≡ heard v (sent cmd random reply)) × Alike (called w (sent cmd random reply)) (called v (sent cmd random reply))
    command-alike cmd random reply r k =
        rw (command-served w.card w.area lw cmd random reply, command-served v.card v.area lv cmd random reply)
        (go (leb reply_size (length reply)) (eqb (length random) random_size) k)
      where
        go : (a b : Bool) → ((a && b) ≡ true → StepAlike Alike (step w.card w.area cmd random) (step v.card v.area cmd random))
            → let x = cond a (cond b (served (step w.card w.area cmd random) reply) (refused 3 w.card w.area reply)) (refused 1 w.card w.area reply) in
            let y = cond a (cond b (served (step v.card v.area cmd random) reply) (refused 3 v.card v.area reply)) (refused 1 v.card v.area reply) in
            (hear x.answer x.reply ≡ hear y.answer y.reply) × Alike (left x) (left y)
        go true true k =
            let s = k refl in
            (ap₂ (λ (d : List ℕ) (sw : ℕ). record { outcome = 0; count = length d + 2; reply = over (d ++ sw_bytes sw) reply }) s.bytes-are s.sw-is, s.worlds)
        go true false k = (refl, r)
        go false b k = (refl, r)

    pub reset-alike : Alike (world (cleared w.card) w.area) (world (cleared v.card) v.area)
        → (heard w resets ≡ heard v resets) × Alike (called w resets) (called v resets)
    reset-alike r = rw (reset-answers w.card w.area lw, reset-answers v.card v.area lv) (refl, r)

  -- ---- a list of calls, from one
  module _ (w v : World) (r : Alike w v) where
    after_none : (n : ℕ) → Alike (run w (take n [])) (run v (take n []))
    unfolding run
    after_none zero = r
    after_none (suc n) = r

    after_more : (e : Event) (es : List Event) → ((n : ℕ) → Alike (run (called w e) (take n es)) (run (called v e) (take n es)))
        → (n : ℕ) → Alike (run w (take n (e ∷ es))) (run v (take n (e ∷ es)))
    unfolding run
    after_more e es s zero = r
    after_more e es s (suc n) = s n

  module _ (P : World → World → Event → Type 0)
      (one : (w v : World) (e : Event) → SoundWorld w → SoundWorld v → Alike w v → P w v e → (heard w e ≡ heard v e) × Alike (called w e) (called v e)) where
    pub each-call : (w v : World) (es : List Event) → SoundWorld w → SoundWorld v → Alike w v → Before P w v es → Same Alike w v es
    unfolding hears Before
    each-call w v [] lw lv r p = record { heard-are = refl; alike = after_none w v r }
    each-call w v (e ∷ es) lw lv r p =
        let o = one w v e lw lv r p.0 in
        let s = each-call (called w e) (called v e) es (call-live w e lw) (call-live v e lv) o.1 p.1 in
        record { heard-are = ap₂ (λ (x : Heard) (xs : List Heard). x ∷ xs) o.0 s.heard-are; alike = after_more w v r e es s.alike }

-- what holds before each call holds where it tells less
pub before-less : (P Q : World → World → Event → Type 0) → ((w v : World) (e : Event) → P w v e → Q w v e) → (w v : World) (es : List Event)
    → Before P w v es → Before Q w v es
unfolding Before
before-less P Q f w v [] p = p
before-less P Q f w v (e ∷ es) p = (f w v e p.0, before-less P Q f (called w e) (called v e) es p.1)
