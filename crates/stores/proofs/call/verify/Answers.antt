use Prim.Native.Nat.{ℕ}
use mathlib.Core.Path.{ap, refl, ◌∙◌}
use Rattle.rules.specs.Words.{same}
use Rattle.rules.specs.State.{login_at, login}
use Rattle.rules.specs.Pins.{pin_named}
use Rattle.card.specs.Head.{command_of}
use Rattle.rules.specs.State.{logins}
use Rattle.rules.specs.Pins.{verify_touch}
use Rattle.power.specs.Plan.{touch_stores}
use Rattle.stores.proofs.Numbers.{same_at}
use Rattle.stores.proofs.Commands.{refused, all-pass, held_back, verify-presents, verify-none, presented-first, presented-next}
use Rattle.stores.proofs.call.verify.Goals as goal

pub returns-then-is_err : goal.returns-then-is_err
returns-then-is_err c = let a = c.args in
    let k = command_of a.h a.given.now in
    c.no_store.ensures ∙ held_back refl (touch_stores a.card (verify_touch (logins a.card) k)) a.k (refused _ c.check_verify.ensures c.is_err.ensures.value c.if-is_err.true)

pub returns-then-h-eq1 : goal.returns-then-h-eq1
returns-then-h-eq1 c = let a = c.args in
    let k = command_of a.h a.given.now in
    c.no_store-then-h-eq1.ensures ∙ verify-none a.card k (all-pass _ c.check_verify.ensures c.is_err.ensures.value c.if-is_err.false) c.if-h-eq1.true a.k

pub returns-then-k-eq0 : goal.returns-then-k-eq0
returns-then-k-eq0 c = let a = c.args in
    let k = command_of a.h a.given.now in
    c.lowered_store.ensures
    ∙ presented-first a.card (pin_named k) (same (login (pin_named k) a.card).value a.given.now) c.pin_named-n.ensures.is c.tries_at-tries.ensures a.k c.if-k-eq0.true
    ∙ same_at (verify-presents a.card k (all-pass _ c.check_verify.ensures c.is_err.ensures.value c.if-is_err.false) c.if-h-eq1.false) a.k

pub returns : goal.returns
returns c = let a = c.args in
    let k = command_of a.h a.given.now in
    c.restored_store.ensures
    ∙ presented-next a.card (pin_named k) (same (login (pin_named k) a.card).value a.given.now) c.pin_named-n.ensures.is c.tries_at-tries.ensures a.k c.if-k-eq0.false
    (c.is_value.ensures ∙ ap (λ (n : ℕ). same (login_at n a.card).value a.given.now) c.pin_named-n.ensures.is)
    ∙ same_at (verify-presents a.card k (all-pass _ c.check_verify.ensures c.is_err.ensures.value c.if-is_err.false) c.if-h-eq1.false) a.k
