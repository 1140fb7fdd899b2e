use native.Mathlib.Omega.{arith}
use lib.Dec.{eqb}
use borrow.Author.Rules.{rules}
use Rattle.cipher.specs.Field.{x_power}
use Rattle.cipher.specs.KeyExpansion.{key_expansion}
use Rattle.cipher.specs.Words.{columns, state}
use Rattle.cipher.proofs.Keys.{key-itself, as-state, next-round}
use Rattle.cipher.proofs.Halves.{whole-round}
use Rattle.cipher.proofs.Rounds.{up_to, power-more, rounds-more, all-rounds}
use Rattle.cipher.proofs.enciphered.Goals as goal

pub loop-n-init : goal.loop-n-init
unfolding x_power up_to
loop-n-init c = (search rules, key-itself (columns c.args.key), search rules)

pub next_key-k-requires : goal.next_key-k-requires
next_key-k-requires c = c.sub_triple-x.ensures.2

pub loop-n-preserved : goal.loop-n-preserved
loop-n-preserved c =
    let key = state (columns c.args.key) in
    let n = c.loop-n.n in
    let inv = c.loop-n.invariant in
    let next =
    next-round key n (columns c.loop-n.k) (columns c.next_key-k.result) (omega arith) inv.1 (rw inv.0 at c.next_key-k.ensures) in
    let round =
    whole-round (eqb n 9) c.loop-n.s c.next_key-k.result c.shifted-t.result c.mixed_but_last.result c.add_key-s-in-loop-n.result
    c.shifted-t.ensures c.sub_triple-x.ensures.0 c.sub_triple-x.ensures.1 c.mixed_but_last.ensures c.add_key-s-in-loop-n.ensures in (
      power-more n inv.0 c.times_x-rc.ensures,
      next,
      rounds-more n (key_expansion key) _ inv.2 (as-state next) round,
    )

pub returns : goal.returns
returns c =
    all-rounds c.loop-n.n (state (columns c.args.key)) (state (columns c.args.block)) (omega arith)
    (as-state (key-itself (columns c.args.key))) c.add_key-s.ensures c.loop-n.invariant.2
