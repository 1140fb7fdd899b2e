use Rattle.std.proofs.Common.{◌≡◌, ℕ, ◌+◌, ◌-◌, ◌≤◌, List, true, false, refl, sym, ap, ◌∙◌, arith, add-one}
use Rattle.std.proofs.lemmas.Grind.{common_steps}
use lib.Dec.{leb}
use Rattle.files.specs.Types.{good_length}
use Rattle.files.specs.Walk.{length_at, stands, walk}
use Rattle.files.proofs.Walks.{stands-as, none-beyond, walk_none, walk-on, walk-stopped}
use Rattle.files.proofs.walk.walk.Invariants.{Good}
use Rattle.files.proofs.walk.walk.Goals as goal
use Rattle.files.proofs.walk.walk.Goals.{After-ends_by, then-next-step+else-turns-eq-MOST_TURNS+else-not-good_length, else-next-step}

-- the walk stays where a test fails
stays : (used : ℕ) (bytes : List ℕ) (at i n : ℕ) → i ≤ n → at ≡ walk used bytes i → stands used bytes at ≡ false → at ≡ walk used bytes n
stays used bytes at i n l e f = e ∙ sym (walk-stopped used bytes i n (ap (stands used bytes) (sym e) ∙ f) l)

-- a step as long as the last one is good too
same_step : (step n : ℕ) → n + 1 ≡ step → Good step → good_length n ≡ true
same_step step n e g = ap good_length (let q : n ≡ step - 1 = omega arith in q) ∙ g (λ z. omega arith)

good-step : (step n : ℕ) → step ≡ n + 1 → good_length n ≡ true → Good step
good-step step n e g z = ap good_length (let q : step - 1 ≡ n = omega arith in q) ∙ g

moves : (used : ℕ) (bytes : List ℕ) (at step i n : ℕ) → at ≡ walk used bytes i → n ≡ length_at bytes at → step ≡ n + 1 → good_length n ≡ true → leb (at + step) used ≡ true
    → at + step ≡ walk used bytes (i + 1)
moves used bytes at step i n e l s g t =
    let f : stands used bytes (walk used bytes i) ≡ true = ap (stands used bytes) (sym e) ∙ stands-as used bytes at n true true l g (rw s at t) in
    let w = walk-on used bytes i f in
    let q : length_at bytes (walk used bytes i) ≡ n = rw e at (sym l) in
    rw (add-one i, w, q, ← e) (omega arith)

-- past the tests of a length the step takes it, and it is good
taken : (c : After-ends_by) → (c.if-next-step.step ≡ c.from-length.result + 1) × (good_length c.from-length.result ≡ true)
taken c = let l = c.loop-i in
    let n = c.from-length.result in
    elim c.if-next-step.branch [
      | then-next-step+else-turns-eq-MOST_TURNS+else-not-good_length q ↦ (q.step-is, grind (arith, common_steps))
      | else-next-step q ↦ (let e : n + 1 ≡ l.step = omega (arith, q.if-next-step.false) in (q.step-is ∙ sym e, same_step l.step n e l.invariant.2))
    ]

pub loop-i-init : goal.loop-i-init
loop-i-init c = (sym (walk_none c.args.used c.args.bytes.now), omega arith, λ z. absurd (z refl))

pub returns-then-bytes-at : goal.returns-then-bytes-at
returns-then-bytes-at c = let a = c.args in
    let l = c.loop-i in
    stays a.used a.bytes.now l.at l.i a.n (omega arith) l.invariant.0 (none-beyond a.used a.bytes.now l.at c.if-bytes-at.true)

pub walk_on-requires : goal.walk_on-requires
walk_on-requires c = (omega arith, c.loop-i.invariant.0)

pub returns-then-not-good_length : goal.returns-then-not-good_length
returns-then-not-good_length c = let a = c.args in
    let l = c.loop-i in
    let n = c.from-length.result in
    let e : n ≡ length_at a.bytes.now l.at = grind (arith, common_steps) in
    let g : good_length n ≡ false = grind (arith, common_steps) in
    stays a.used a.bytes.now l.at l.i a.n (omega arith) l.invariant.0 (stands-as a.used a.bytes.now l.at n false (leb (l.at + (n + 1)) a.used) e g refl)

pub returns-then-not-ends_by : goal.returns-then-not-ends_by
returns-then-not-ends_by c = let a = c.args in
    let l = c.loop-i in
    let n = c.from-length.result in
    let w = taken (goal.at.returns-then-not-ends_by c).After-ends_by in
    let e : n ≡ length_at a.bytes.now l.at = grind (arith, common_steps) in
    let t : leb (l.at + (n + 1)) a.used ≡ false = rw w.0 at (sym c.ends_by.ensures ∙ c.if-not-ends_by.true) in
    stays a.used a.bytes.now l.at l.i a.n (omega arith) l.invariant.0 (stands-as a.used a.bytes.now l.at n true false e w.1 t)

pub loop-i-preserved : goal.loop-i-preserved
loop-i-preserved c = let a = c.args in
    let l = c.loop-i in
    let s = c.if-next-step in
    let n = c.from-length.result in
    let w = taken (goal.at.loop-i-preserved c).After-ends_by in
    let e : n ≡ length_at a.bytes.now l.at = grind (arith, common_steps) in
    let t : leb (l.at + s.step) a.used ≡ true = sym c.ends_by.ensures ∙ c.if-not-ends_by.false in
    (moves a.used a.bytes.now l.at s.step l.i n l.invariant.0 e w.0 w.1 t, grind (arith, common_steps), good-step s.step n w.0 w.1)
