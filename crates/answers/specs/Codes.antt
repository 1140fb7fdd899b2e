-- No second answer to any public function of `codes`, whose own contract each line cites.
use Rattle.codes.specs.contracts as contracts
use Rattle.codes.proofs as codes
use Rattle.answers.specs.OneAnswer.{OneAnswer}

pub record Codes : Type 0 where
  pub mac : OneAnswer contracts.mac.ended codes.mac.Reads.Learnt
