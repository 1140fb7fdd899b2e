-- What a command is to files and credentials, by its name: ledgers go by it.
use Rattle.rules.specs.declared.Ins.{Ins}
use Rattle.rules.specs.declared.Ins.TheVariants.{Select, ReadBinary, UpdateBinary, ReadRecord, UpdateRecord, AppendRecord, Verify, Authenticate, ChangePin, ReloadPin, CreateFile, GetChallenge, GetResponse, Unlisted}

-- what it shows, alters, makes, presents or sets. SELECT makes a file or a directory current, GET RESPONSE gives
-- what waits, and they are nothing else
pub data Role : Type 0 where
  touches_nothing selects : Role
  reads_binary reads_record writes_binary writes_record appends_record makes_file : Role
  presents_pin presents_key changes_pin reloads_pin asks_challenge : Role

abbrev pub role : Ins → Role
role Select = selects
role ReadBinary = reads_binary
role UpdateBinary = writes_binary
role ReadRecord = reads_record
role UpdateRecord = writes_record
role AppendRecord = appends_record
role Verify = presents_pin
role Authenticate = presents_key
role ChangePin = changes_pin
role ReloadPin = reloads_pin
role CreateFile = makes_file
role GetChallenge = asks_challenge
role GetResponse = touches_nothing
role Unlisted = touches_nothing
