-- No second answer to any public function of `codes`.
use Rattle.answers.specs.Codes.{Codes}
use Rattle.answers.proofs.Laws.{returned}

pub codes : Codes
codes = record {
  mac = λ κs a x y. returned;
}
