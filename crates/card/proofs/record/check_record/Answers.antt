use Rattle.std.proofs.Common.{◌∙◌, sym}
use Rattle.card.proofs.Checking.{goes, stops, raised}
use Rattle.card.proofs.record.check_record.Goals as goal

pub returns-in_err-check_file : goal.returns-in_err-check_file
returns-in_err-check_file c = λ sw h. let k = c.from_residual.ensures in
    raised _ k.0 k.1 ∙ sym (stops _ _ (sym c.check_file.ensures ∙ c.in_err-check_file.was))

pub returns-in_err-unless : goal.returns-in_err-unless
returns-in_err-unless c = λ sw h. let k = c.from_residual-in_err-unless.ensures in
    rw (← c.has_records.ensures)
    (raised _ k.0 k.1 ∙ sym (goes _ _ (sym c.check_file.ensures ∙ c.in_ok-check_file.was) ∙ stops _ _ (sym c.unless.ensures ∙ c.in_err-unless.was)))

pub returns-in_err-check_right : goal.returns-in_err-check_right
returns-in_err-check_right c = λ sw h. let k = c.from_residual-in_err-check_right.ensures in
    rw (← c.has_records.ensures)
    (raised _ k.0 k.1 ∙ sym (goes _ _ (sym c.check_file.ensures ∙ c.in_ok-check_file.was) ∙ goes _ _ (sym c.unless.ensures ∙ c.in_ok-unless.was) ∙ stops _ _ (sym c.check_right.ensures ∙ c.in_err-check_right.was)))

pub returns-in_err-check_code_asked : goal.returns-in_err-check_code_asked
returns-in_err-check_code_asked c = λ sw h. let k = c.from_residual-in_err-check_code_asked.ensures in
    rw (← c.has_records.ensures)
    (raised _ k.0 k.1 ∙ sym (goes _ _ (sym c.check_file.ensures ∙ c.in_ok-check_file.was) ∙ goes _ _ (sym c.unless.ensures ∙ c.in_ok-unless.was) ∙ goes _ _ (sym c.check_right.ensures ∙ c.in_ok-check_right.was) ∙ stops _ _ (sym c.check_code_asked.ensures ∙ c.in_err-check_code_asked.was)))

pub returns-in_err-unless-2 : goal.returns-in_err-unless-2
returns-in_err-unless-2 c = λ sw h. let k = c.from_residual-in_err-unless-2.ensures in
    rw (← c.has_records.ensures)
    (raised _ k.0 k.1 ∙ sym (goes _ _ (sym c.check_file.ensures ∙ c.in_ok-check_file.was) ∙ goes _ _ (sym c.unless.ensures ∙ c.in_ok-unless.was) ∙ goes _ _ (sym c.check_right.ensures ∙ c.in_ok-check_right.was) ∙ goes _ _ (sym c.check_code_asked.ensures ∙ c.in_ok-check_code_asked.was) ∙ stops _ _ (sym c.unless-2.ensures ∙ c.in_err-unless-2.was)))

pub returns : goal.returns
returns c = λ sw h. rw (← c.has_records.ensures)
    (h ∙ sym (goes _ _ (sym c.check_file.ensures ∙ c.in_ok-check_file.was) ∙ goes _ _ (sym c.unless.ensures ∙ c.in_ok-unless.was) ∙ goes _ _ (sym c.check_right.ensures ∙ c.in_ok-check_right.was) ∙ goes _ _ (sym c.check_code_asked.ensures ∙ c.in_ok-check_code_asked.was) ∙ goes _ _ (sym c.unless-2.ensures ∙ c.in_ok-unless-2.was)))
