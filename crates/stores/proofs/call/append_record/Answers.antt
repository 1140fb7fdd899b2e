use Prim.Native.Nat.{◌-◌}
use mathlib.Core.Path.{refl, sym, ◌∙◌, ◌≡◌}
use native.Mathlib.Omega.{arith}
use borrow.Author.Rules.{rules}
use Rattle.rules.specs.Record.{append_deed}
use Rattle.card.specs.Head.{command_of}
use Rattle.power.specs.Plan.{deed_stores}
use Rattle.stores.proofs.Numbers.{same_at}
use Rattle.stores.proofs.Commands.{append-place, append-is, held_back, let_through, refused, all-pass}
use Rattle.stores.proofs.call.append_record.Goals as goal

pub returns-then-is_err : goal.returns-then-is_err
returns-then-is_err c = let a = c.args in
    let k = command_of a.h a.given.now in
    c.no_store.ensures ∙ held_back refl (deed_stores a.card (append_deed a.card k)) a.k (refused _ c.check_append.ensures c.is_err.ensures.value c.if-is_err.true)

pub append_store-requires : goal.append_store-requires
append_store-requires c = let s = c in
    let a = s.args in
    let p : c.saturating_sub.result ≡ c.record_target-place.result - 1 = search rules in (
      omega (arith, p, append-place a.card a.area.now s.requires.ready (command_of a.h a.given.now) c.record_target-place.ensures (all-pass _ c.check_append.ensures c.is_err.ensures.value c.if-is_err.false)),
      omega (arith, c.start.ensures.low, c.next_start.ensures.low),
      s.requires.given_len_bound,
    )

pub returns : goal.returns
returns c = let s = c in
    let a = s.args in
    let k = command_of a.h a.given.now in
    c.append_store.ensures
    ∙ same_at (append-is a.card a.area.now s.requires.ready k c.record_target-place.ensures (all-pass _ c.check_append.ensures c.is_err.ensures.value c.if-is_err.false)
    c.file_of-f.ensures c.after_append-next.ensures
    (search rules) c.start.ensures.is c.next_start.ensures.is) a.k
    ∙ let_through refl (deed_stores a.card (append_deed a.card k)) a.k (all-pass _ c.check_append.ensures c.is_err.ensures.value c.if-is_err.false)
