-- No second answer to any public function of `sums`.
use mathlib.Core.Path.{refl}
use Rattle.answers.specs.Sums.{Sums}
use Rattle.answers.proofs.Laws.{returned}

pub sums : Sums
sums = record {
  is-good = λ κs a x y. returned;
  add = λ κs a x y. returned;
  sum = record { claim = _; is-contract = refl; at_most_one = λ κs a x y. returned };
  all = λ κs a x y. returned;
  no-totals = λ κs a x y. returned;
  no-alarm = λ κs a x y. returned;
  no-batch = λ κs a x y. returned;
}
