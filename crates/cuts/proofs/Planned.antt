-- How a statement about a command's effect and its stores is proved: of each fair deed and of each refusal behind whatever code was presented, and of each fair
-- touch.
use Prim.Native.Nat.{ℕ}
use mathlib.Core.Bool.{Bool, true, false, cond}
use mathlib.Core.List.{List, [], ◌∷◌}
use mathlib.Core.Path.{◌≡◌, refl, ap}
use native.Mathlib.Omega.{arith}
use lib.ListN.{length}
use lib.Dec.{eqb}
use borrow.Author.Tests.{eqb-true}
use Rattle.files.specs.declared.Located.{Located}
use Rattle.files.proofs.Checks.{both}
use Rattle.rules.specs.declared.Card.{Card}
use Rattle.rules.specs.declared.Ins.{Ins}
use Rattle.rules.specs.Words.{first}
use Rattle.rules.specs.State.{transport, logins, challenge}
use Rattle.rules.specs.Sound.{sound}
use Rattle.rules.specs.Frame.{Command, frame_sw, class_sw, coded}
use Rattle.rules.specs.Effect.{Deed, turns, enters, shows, stores, appends, makes, founds, Touch, nothing, presents, changes, reloads, challenges, Effect, answers}
use Rattle.rules.specs.Record.{record_found}
use Rattle.rules.specs.Pins.{tries_sw}
use Rattle.rules.specs.Device.{challenge_sw}
use Rattle.rules.specs.Code.{expected, presents_code, credentials_after}
use Rattle.rules.specs.List.{Rule, of_files, of_contents, of_credentials, rule}
use Rattle.rules.specs.Step.{checks_of, kept_by, did, touched, effect_by, checks, effect_of, kept, outcome}
use Rattle.rules.proofs.Checks.{passed}
use Rattle.demands.specs.Ledger.{Tree, turned_to}
use Rattle.demands.proofs.Labels.{tree_by}
use Rattle.demands.proofs.Rows.{Fair, FairTouch, Row, contents-fair, try-left}
use Rattle.demands.proofs.Rows as rows
use Rattle.power.specs.Plan.{Act, act, idle, files, credentials, code_by, work_by, planned}
use Rattle.cuts.specs.Cut.{heard}

both_ways : {A B : Type 0} (P : A → B → Type 0) (b : Bool) {x y : A} {u v : B} → (b ≡ true → P x u) → (b ≡ false → P y v) → P (cond b x y) (cond b u v)
both_ways P true f g = f refl
both_ways P false f g = g refl

-- a code is a presentation of the transport key, or there is none
abbrev pub IsCode : Touch → Type 0
IsCode nothing = Unit
IsCode (presents w value given) = w ≡ transport
IsCode (changes w d) = ⊥
IsCode (reloads w d) = ⊥
IsCode (challenges n) = ⊥

-- what is known of the code that is presented
pub record Code (c : Card) (t : Touch) : Type 0 where
  pub is_code : IsCode t
  pub fair : FairTouch (logins c) t

pub no_code : (c : Card) → Code c nothing
no_code c = record { is_code = tt; fair = tt }

-- a deed behind a code makes no file and no directory
abbrev pub MakesNone : Deed → Type 0
MakesNone (turns place) = Unit
MakesNone (enters n) = ⊥
MakesNone (shows place at n) = Unit
MakesNone (stores place at bytes) = Unit
MakesNone (appends place d) = Unit
MakesNone (makes f) = ⊥
MakesNone (founds x) = ⊥

abbrev pub Behind : Touch → Deed → Type 0
Behind nothing d = Unit
Behind (presents w value given) d = MakesNone d
Behind (changes w b) d = Unit
Behind (reloads w b) d = Unit
Behind (challenges n) d = Unit

abbrev no_tree : Tree
no_tree = record { labels = []; tags = []; current = 0 }

makes_none : (d : Deed) → ((w : Tree) → tree_by d w ≡ w) → MakesNone d
makes_none (turns place) h = tt
makes_none (enters n) h =
    let a : n ≡ 0 = ap (λ (t : Tree). t.current) (h no_tree) in
    let b : n ≡ 1 = ap (λ (t : Tree). t.current) (h (turned_to no_tree 1)) in
    absurd (omega (arith, a, b))
makes_none (shows place at n) h = tt
makes_none (stores place at bytes) h = tt
makes_none (appends place d) h = tt
makes_none (makes f) h = absurd (omega (arith, ap (λ (t : Tree). length t.labels) (h no_tree)))
makes_none (founds x) h = absurd (omega (arith, ap (λ (t : Tree). length t.tags) (h no_tree)))

-- a try is left where a code is presented
code-tried : (c : Card) (front : List ℕ) (k : Command) → presents_code front (logins c) (challenge c) k ≡ true → Code c (presents transport (expected (logins c) (challenge c) k) k.code)
unfolding presents_code
code-tried c front k e =
    let l : List ℕ = frame_sw k ∷ class_sw k ∷ first front ∷ tries_sw (logins c transport) ∷ challenge_sw (challenge c) ∷ [] in
    let p = passed l (eqb-true _ _ (both (coded k) (eqb (first l) 0x9000) e).1) in
    record { is_code = refl; fair = try-left (logins c transport) p.1.1.1.0 }

pub plan-by : (P : Effect → Act → Type 0) (i : Ins) (c : Card) (area : List ℕ) → sound c area ≡ true → (k : Command) (random : List ℕ)
    → ((t : Touch) → Code c t → (d : Deed) → Fair i c area k d → Behind t d → P (did (heard c t) d) (act t (files d)))
    → ((t : Touch) → FairTouch (logins c) t → P (touched c t random) (act nothing (credentials t)))
    → ((t : Touch) → Code c t → (sw : ℕ) → P (answers sw (heard c t)) (act t idle))
    → P (outcome i c (record_found c area k) k random) (planned i c (record_found c area k) k)
unfolding outcome checks effect_of kept credentials_after
plan-by P i c area h k random f g n = go (rule i) (rows.row i)
  where
    l : Located
    l = record_found c area k

    sw : Rule → ℕ
    sw r = first (frame_sw k ∷ class_sw k ∷ first (checks_of r c l k) ∷ [])

    Goal : Rule → Type 0
    Goal r = P (cond (eqb (sw r) 0x9000) (effect_by r c l k random) (answers (sw r) (kept_by r c k))) (act (code_by r c k) (cond (eqb (sw r) 0x9000) (work_by r c l k) idle))

    go : (r : Rule) → Row i r → Goal r
    go (of_files t d) q =
        both_ways (λ e w. P e (act nothing w)) (eqb (sw (of_files t d)) 0x9000)
        (λ e. f nothing (no_code c) (d c k) (q.fair c area h k (passed (t c k) (passed (frame_sw k ∷ class_sw k ∷ first (t c k) ∷ []) (eqb-true _ _ e)).1.1.0)) tt)
        (λ e. n nothing (no_code c) (sw (of_files t d)))
    go (of_contents s t d) q = coded-go (presents_code (s k) (logins c) (challenge c) k) refl
      where
        r : Rule
        r = of_contents s t d

        fair : eqb (sw r) 0x9000 ≡ true → Fair i c area k (d c l k)
        fair e =
            let p = passed (frame_sw k ∷ class_sw k ∷ first (checks_of r c l k) ∷ []) (eqb-true _ _ e) in
            contents-fair i c area h k s t d q p.0 p.1.0 (passed (checks_of r c l k) p.1.1.0)

        coded-go : (b : Bool) → presents_code (s k) (logins c) (challenge c) k ≡ b → Goal r
        coded-go true e =
            rw e (both_ways (λ x w. P x (act (presents transport (expected (logins c) (challenge c) k) k.code) w)) (eqb (sw r) 0x9000)
            (λ z. f (presents transport (expected (logins c) (challenge c) k) k.code) (code-tried c (s k) k e) (d c l k) (fair z) (makes_none (d c l k) (q.makes_none c l k)))
            (λ z. n (presents transport (expected (logins c) (challenge c) k) k.code) (code-tried c (s k) k e) (sw r)))
        coded-go false e =
            rw e (both_ways (λ x w. P x (act nothing w)) (eqb (sw r) 0x9000) (λ z. f nothing (no_code c) (d c l k) (fair z) tt) (λ z. n nothing (no_code c) (sw r)))
    go (of_credentials t d) q =
        both_ways (λ e w. P e (act nothing w)) (eqb (sw (of_credentials t d)) 0x9000)
        (λ e. g (d (logins c) (challenge c) k)
        (q.fair (logins c) (challenge c) k (passed (t (logins c) (challenge c) k) (passed (frame_sw k ∷ class_sw k ∷ first (t (logins c) (challenge c) k) ∷ []) (eqb-true _ _ e)).1.1.0)))
        (λ e. n nothing (no_code c) (sw (of_credentials t d)))
