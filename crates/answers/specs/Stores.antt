-- No second answer to any public function of `stores`, whose own contract each line cites.
use Rattle.stores.specs.contracts as contracts
use Rattle.stores.proofs as stores
use Rattle.answers.specs.OneAnswer.{OneAnswer}

pub record Stores : Type 0 where
  pub call-store : OneAnswer contracts.call.store.ended stores.call.store.Reads.Learnt
  pub run-stores : OneAnswer contracts.run.stores.ended stores.run.stores.Reads.Learnt
