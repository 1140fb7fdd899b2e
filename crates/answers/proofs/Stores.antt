-- No second answer to any public function of `stores`.
use mathlib.Core.List.{List}
use Prim.Native.Nat.{ℕ}
use Rattle.stores.specs.declared.Counted.{Counted}
use Rattle.stores.specs.Runs.{Run, Hands}
use Rattle.answers.specs.Stores.{Stores}
use Rattle.answers.proofs.Laws.{Same, returned, with-lent}

-- the buffer is lent
hands : {w : Run} {r r' : Counted} {l l' : List ℕ} → Hands w r l → Hands w r' l' → Same r r' l l'
hands p q = with-lent p.counted_is q.counted_is p.out-is q.out-is

-- each answer is written out: the value returned, and a place for each parameter, tt where nothing can change
pub stores : Stores
stores = record {
  call-store = λ κs a x y. returned;
  run-stores = λ κs a x y p q i. let z = hands p q i in (z.0, (tt, (tt, (tt, (tt, (tt, (z.1, tt)))))));
}
