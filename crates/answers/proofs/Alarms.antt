-- No second answer to any public function of `alarms`.
use Rattle.answers.specs.Alarms.{Alarms}
use Rattle.answers.proofs.Laws.{returned}
use Rattle.answers.proofs.Digits.{drawn}

-- what is told is drawn: the value returned, and a place for each parameter, tt where nothing can change
pub alarms : Alarms
alarms = record {
  scanning-alarm-of = λ κs a x y. returned;
  scanning-scanned = λ κs a x y. returned;
  scanning-is-open = λ κs a x y. returned;
  feeding-start = λ κs a x y. returned;
  feeding-fed = λ κs a x y. returned;
  feeding-closed = λ κs a x y. returned;
  telling-told = λ κs a x y p q i. let z = drawn p.drawn q.drawn i in (z.0, (tt, (z.1, tt)));
}
