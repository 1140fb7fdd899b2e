-- No second answer to any public function of `alarms`, whose own contract each line cites.
use Rattle.alarms.specs.contracts as contracts
use Rattle.alarms.proofs as alarms
use Rattle.answers.specs.OneAnswer.{OneAnswer}

pub record Alarms : Type 0 where
  pub scanning-alarm-of : OneAnswer contracts.scanning.alarm_of.ended alarms.scanning.alarm_of.Reads.Learnt
  pub scanning-scanned : OneAnswer contracts.scanning.scanned.ended alarms.scanning.scanned.Reads.Learnt
  pub scanning-is-open : OneAnswer contracts.scanning.is_open.ended alarms.scanning.is_open.Reads.Learnt
  pub feeding-start : OneAnswer contracts.feeding.start.ended alarms.feeding.start.Reads.Learnt
  pub feeding-fed : OneAnswer contracts.feeding.fed.ended alarms.feeding.fed.Reads.Learnt
  pub feeding-closed : OneAnswer contracts.feeding.closed.ended alarms.feeding.closed.Reads.Learnt
  pub telling-told : OneAnswer contracts.telling.told.ended alarms.telling.told.Reads.Learnt
