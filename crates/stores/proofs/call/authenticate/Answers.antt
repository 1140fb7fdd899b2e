use Prim.Native.Nat.{ℕ}
use mathlib.Core.List.{List}
use mathlib.Core.Path.{ap, refl, sym, ◌∙◌, ◌≡◌}
use native.Mathlib.Omega.{arith}
use lib.ListN.{length}
use lib.Seq.{take_all}
use borrow.Author.Rules.{rules}
use Rattle.rules.specs.Words.{same}
use Rattle.rules.specs.State.{device, login, logins, challenge}
use Rattle.rules.specs.Device.{cryptogram, authenticate_touch}
use Rattle.card.specs.Head.{command_of}
use Rattle.power.specs.Plan.{touch_stores}
use Rattle.stores.proofs.Commands.{held_back, let_through, presented-first, presented-next, refused, all-pass}
use Rattle.stores.proofs.call.authenticate.Goals as goal

pub returns-then-is_err : goal.returns-then-is_err
returns-then-is_err c = let a = c.args in
    let k = command_of a.h a.given.now in
    c.no_store.ensures ∙ held_back refl (touch_stores a.card (authenticate_touch (logins a.card) (challenge a.card) k)) a.k (refused _ c.check_authenticate.ensures c.is_err.ensures.value c.if-is_err.true)

pub returns-then-k-eq0 : goal.returns-then-k-eq0
returns-then-k-eq0 c = let a = c.args in
    let k = command_of a.h a.given.now in
    c.lowered_store.ensures
    ∙ presented-first a.card device (same (cryptogram (login device a.card).value (challenge a.card)) a.given.now) refl c.tries_at-tries.ensures a.k c.if-k-eq0.true
    ∙ let_through refl (touch_stores a.card (authenticate_touch (logins a.card) (challenge a.card) k)) a.k (all-pass _ c.check_authenticate.ensures c.is_err.ensures.value c.if-is_err.false)

pub returns : goal.returns
returns c = let s = c in
    let a = s.args in
    let k = command_of a.h a.given.now in
    let n : length c.cryptogram.result ≡ 16 = search rules in
    c.restored_store.ensures
    ∙ presented-next a.card device (same (cryptogram (login device a.card).value (challenge a.card)) a.given.now) refl c.tries_at-tries.ensures a.k c.if-k-eq0.false
    (c.same-agrees.ensures ∙ ap (λ (x : List ℕ). same x a.given.now) (take_all 16 c.cryptogram.result (omega (arith, n)) ∙ c.cryptogram.ensures ∙ ap (λ (key : List ℕ). cryptogram key (challenge a.card)) (sym s.requires)))
    ∙ let_through refl (touch_stores a.card (authenticate_touch (logins a.card) (challenge a.card) k)) a.k (all-pass _ c.check_authenticate.ensures c.is_err.ensures.value c.if-is_err.false)
