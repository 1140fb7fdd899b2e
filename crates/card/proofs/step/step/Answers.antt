use mathlib.Core.Path.{◌∙◌, ◌≡◌, ap, refl, sym}
use mathlib.Core.List.{List}
use Prim.Native.Nat.{◌+◌, ℕ}
use native.Mathlib.Omega.{arith}
use lib.ListN.{length, take}
use lib.Seq.{length-take-le}
use Rattle.rules.specs.declared.Card.{Card}
use Rattle.rules.specs.declared.Response.{Response}
use Rattle.rules.specs.Words.{byte, filled_to}
use Rattle.rules.specs.State.{mode, response_of, response_size, with_challenge}
use Rattle.rules.specs.Calls.{answer}
use Rattle.rules.specs.Step.{at_once}
use Rattle.card.specs.Carried.{leaves, whole}
use Rattle.card.proofs.Stepping.{carried-out, le-few, served-at-once, served-later, settled-at-once, settled-later, settled-parts, settled_card, step-at-once, step-fetches, step_waits}
use Rattle.rules.specs.Frame.{case_of, le_place}
use lib.Dec.{eqb}
use mathlib.Core.Bool.{true}
use borrow.Author.Tests.{eq-eqb, ne_eqb}
use Rattle.card.proofs.step.step.Goals as goal
use Rattle.card.proofs.step.step.Goals.{then-later, else-later}

pub returns-then-fetches : goal.returns-then-fetches
returns-then-fetches c = let a = c.args in
    step-fetches a.card a.area.now a.cmd.now a.random.now c.head_of-h.result c.head_of-h.ensures c.fetches.result c.fetches.ensures a.reply.now _
    c.fetched.result c.if-fetches.true c.fetched.ensures

pub slice_bounds-filled_response-end-2 : goal.slice_bounds-filled_response-end-2
slice_bounds-filled_response-end-2 c = sym (length-take-le c.hidden.result c.args.reply.now (omega (arith, c.hidden.ensures.low, c.requires.random_len.1)))

pub ruled-done-requires : goal.ruled-done-requires
ruled-done-requires c = let a = c.args in
    let h = c.head_of-h in
    record { h_value = h.ensures; le_bound = (le-few a.cmd.now h.result h.ensures (omega (arith, c.type_inv.cmd (le_place (case_of a.cmd.now) (byte a.cmd.now 4)))), c.requires.random_len.0, omega (arith, c.requires.random_len.1)) }

pub slice_bounds-session_left-end : goal.slice_bounds-session_left-end
slice_bounds-session_left-end c = sym (length-take-le _ c.args.random.now (omega (arith, (c.ruled-done.ensures c.args.card refl refl refl c.requires.ready).said-few, c.requires.random_len.0)))

pub session_left-session-requires : goal.session_left-session-requires
session_left-session-requires c = omega (arith, (c.ruled-done.ensures c.args.card refl refl refl c.requires.ready).said-few, length-take-le c.ruled-done.result.said c.args.random.now (omega (arith, (c.ruled-done.ensures c.args.card refl refl refl c.requires.ready).said-few, c.requires.random_len.0)))

pub overflow_add-size : goal.overflow_add-size
overflow_add-size c = omega (arith, (c.ruled-done.ensures c.args.card refl refl refl c.requires.ready).n-few)

pub slice_bounds-response_of-end : goal.slice_bounds-response_of-end
slice_bounds-response_of-end c = omega (arith, (c.ruled-done.ensures c.args.card refl refl refl c.requires.ready).n-few, c.ruled-done.auto.reply, c.requires.random_len.1)

pub slice_bounds-response_of-end-then-later : goal.slice_bounds-response_of-end-then-later
slice_bounds-response_of-end-then-later c = sym (length-take-le c.ruled-done.result.n _ (omega (arith, (c.ruled-done.ensures c.args.card refl refl refl c.requires.ready).n-few, c.ruled-done.auto.reply, c.requires.random_len.1)))

pub slice_bounds-store-end : goal.slice_bounds-store-end
slice_bounds-store-end c = let n : length c.filled_response-before.result ≡ 256 = c.filled_response-before.type_inv.1.0.1 in sym n

pub put_sw-requires : goal.put_sw-requires
put_sw-requires c = omega (arith, c.store.auto.xs, c.ruled-done.auto.reply, c.requires.random_len.1)

pub put_sw-requires-else-later : goal.put_sw-requires-else-later
put_sw-requires-else-later c = omega (arith, (c.ruled-done.ensures c.args.card refl refl refl c.requires.ready).n-few, c.ruled-done.auto.reply, c.requires.random_len.1)

pub returns : goal.returns
returns c = let a = c.args in
    let h = c.head_of-h in
    let r = c.ruled-done in
    let said = take r.result.said a.random.now in
    let w = r.ensures a.card refl refl refl c.requires.ready in
    let next = with_challenge (whole a.card r.result) said in
    let out = carried-out a.card a.area.now a.cmd.now a.random.now a.reply.now h.result c.listed-ins.result r.result _ _ w h.ensures c.listed-ins.ensures in
    let f = c.fetches in
    elim c.if-later.branch [
      | then-later z ↦
          let taken : eqb (mode a.card) 1 ≡ true = eq-eqb _ _ z.if-later.true in
          let size : c.hidden.result ≡ 256 = c.hidden.ensures.is ∙ rw taken in
          rw (step_waits a.card a.area.now a.cmd.now a.random.now h.result h.ensures f.result f.ensures c.if-fetches.false taken)
          (served-later (at_once a.card a.area.now a.cmd.now a.random.now) a.reply.now next r.result.sw r.result.n _ _ out c.requires.random_len.1 c.filled_response-before.result c.answer.result _ _
          (c.filled_response-before.ensures ∙ ap (λ (n : ℕ). filled_to response_size (take response_size (take n a.reply.now))) size) z.store.ensures.left_is (z.reply-is ∙ z.put_sw.ensures ∙ rw z.wait_sw.ensures)
          (λ (d : List ℕ). settled_card a.card (leaves a.card r.result) r.result.left (response_of (mode a.card) (take response_size d)) said)
          (settled-later a.card a.area.now a.cmd.now a.random.now a.reply.now h.result c.listed-ins.result r.result _ _ w)
          (settled-parts a.card r.result _ _ _ _ _ _ 2 said c.answer.result c.credentials_left-credentials.ensures c.directory_left-directory.ensures c.session_left-session.ensures (ap (λ (p : Response × ℕ). p.0) z.size-is ∙ z.response_of-kept.ensures) (ap (λ (p : Response × ℕ). p.1) z.size-is) c.answer.ensures))
      | else-later z ↦
          rw (step-at-once a.card a.area.now a.cmd.now a.random.now h.result h.ensures f.result f.ensures c.if-fetches.false (ne_eqb _ _ z.if-later.false))
          (served-at-once (at_once a.card a.area.now a.cmd.now a.random.now) a.reply.now next r.result.sw r.result.n _ _ out c.answer.result _ (z.reply-is ∙ z.put_sw-else-later.ensures)
          (settled-parts a.card r.result _ _ _ _ _ _ (r.result.n + 2) said c.answer.result c.credentials_left-credentials.ensures c.directory_left-directory.ensures c.session_left-session.ensures (ap (λ (p : Response × ℕ). p.0) z.size-is) (ap (λ (p : Response × ℕ). p.1) z.size-is) c.answer.ensures
          ∙ ap (λ (x : Card). answer 0 x (r.result.n + 2)) (settled-at-once a.card a.area.now a.cmd.now a.random.now a.reply.now h.result c.listed-ins.result r.result _ _ w)))
    ]
