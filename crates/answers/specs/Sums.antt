-- No second answer to any public function of `sums`, whose own contract each line cites.
use Rattle.sums.specs.contracts as contracts
use Rattle.sums.proofs as sums
use Rattle.answers.specs.OneAnswer.{OneAnswer, OneAnswerOf}

pub record Sums : Type 2 where
  pub is-good : OneAnswer contracts.is_good.ended sums.is_good.Reads.Learnt
  pub add : OneAnswer contracts.add.ended sums.add.Reads.Learnt
  -- this one is lent a slice of structs, and is stated on its clauses, the whole contract
  pub sum : OneAnswerOf contracts.sum.ended (λ M 𝓤. contracts.sum.clauses)
  pub all : OneAnswer contracts.all.ended sums.all.Reads.Learnt
  pub no-totals : OneAnswer contracts.no_totals.ended sums.no_totals.Reads.Learnt
  pub no-alarm : OneAnswer contracts.no_alarm.ended sums.no_alarm.Reads.Learnt
  pub no-batch : OneAnswer contracts.no_batch.ended sums.no_batch.Reads.Learnt
