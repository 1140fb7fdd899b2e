use Rattle.std.proofs.Common.{◌∙◌, sym, [], arith}
use Rattle.rules.specs.List.{rule}
use Rattle.card.specs.Coded.{front}
use Rattle.card.specs.Checks.{checked}
use Rattle.card.specs.Head.{coded_of}
use Rattle.card.proofs.Checking.{goes, stops, raised}
use Rattle.card.proofs.Opening.{no-front}
use Rattle.card.proofs.code.check_front.Goals as goal

pub returns-in_err-check_binary_p-in-ReadBinary : goal.returns-in_err-check_binary_p-in-ReadBinary
unfolding front rule
returns-in_err-check_binary_p-in-ReadBinary c = let k = c.from_residual.ensures in
    rw c.in-ReadBinary.is (raised _ k.0 k.1 ∙ sym (stops _ _ (sym c.check_binary_p.ensures ∙ c.in_err-check_binary_p-in-ReadBinary.was)))

pub returns-in_ok-check_binary_p-in-ReadBinary : goal.returns-in_ok-check_binary_p-in-ReadBinary
unfolding front rule
returns-in_ok-check_binary_p-in-ReadBinary c = rw c.in-ReadBinary.is (c.check_read_case.ensures ∙ sym (goes _ _ (sym c.check_binary_p.ensures ∙ c.in_ok-check_binary_p-in-ReadBinary.was)))

pub returns-in_err-check_binary_p-in-UpdateBinary : goal.returns-in_err-check_binary_p-in-UpdateBinary
unfolding front rule
returns-in_err-check_binary_p-in-UpdateBinary c = let k = c.from_residual-in_err-check_binary_p-in-UpdateBinary.ensures in
    rw c.in-UpdateBinary.is (raised _ k.0 k.1 ∙ sym (stops _ _ (sym c.check_binary_p-in-UpdateBinary.ensures ∙ c.in_err-check_binary_p-in-UpdateBinary.was)))

pub returns-in_ok-check_binary_p-in-UpdateBinary : goal.returns-in_ok-check_binary_p-in-UpdateBinary
unfolding front rule
returns-in_ok-check_binary_p-in-UpdateBinary c = rw c.in-UpdateBinary.is (c.check_write_case.ensures ∙ sym (goes _ _ (sym c.check_binary_p-in-UpdateBinary.ensures ∙ c.in_ok-check_binary_p-in-UpdateBinary.was)))

pub returns-in_err-check_record_p-in-ReadRecord : goal.returns-in_err-check_record_p-in-ReadRecord
unfolding front rule
returns-in_err-check_record_p-in-ReadRecord c = let k = c.from_residual-in_err-check_record_p-in-ReadRecord.ensures in
    rw c.in-ReadRecord.is (raised _ k.0 k.1 ∙ sym (stops _ _ (sym c.check_record_p.ensures ∙ c.in_err-check_record_p-in-ReadRecord.was)))

pub returns-in_ok-check_record_p-in-ReadRecord : goal.returns-in_ok-check_record_p-in-ReadRecord
unfolding front rule
returns-in_ok-check_record_p-in-ReadRecord c = rw c.in-ReadRecord.is (c.check_read_case-in-ReadRecord.ensures ∙ sym (goes _ _ (sym c.check_record_p.ensures ∙ c.in_ok-check_record_p-in-ReadRecord.was)))

pub returns-in_err-check_record_p-in-UpdateRecord : goal.returns-in_err-check_record_p-in-UpdateRecord
unfolding front rule
returns-in_err-check_record_p-in-UpdateRecord c = let k = c.from_residual-in_err-check_record_p-in-UpdateRecord.ensures in
    rw c.in-UpdateRecord.is (raised _ k.0 k.1 ∙ sym (stops _ _ (sym c.check_record_p-in-UpdateRecord.ensures ∙ c.in_err-check_record_p-in-UpdateRecord.was)))

pub returns-in_ok-check_record_p-in-UpdateRecord : goal.returns-in_ok-check_record_p-in-UpdateRecord
unfolding front rule
returns-in_ok-check_record_p-in-UpdateRecord c = rw c.in-UpdateRecord.is (c.check_write_case-in-UpdateRecord.ensures ∙ sym (goes _ _ (sym c.check_record_p-in-UpdateRecord.ensures ∙ c.in_ok-check_record_p-in-UpdateRecord.was)))

pub returns-in_err-check_append_p-in-AppendRecord : goal.returns-in_err-check_append_p-in-AppendRecord
unfolding front rule
returns-in_err-check_append_p-in-AppendRecord c = let k = c.from_residual-in_err-check_append_p-in-AppendRecord.ensures in
    rw c.in-AppendRecord.is (raised _ k.0 k.1 ∙ sym (stops _ _ (sym c.check_append_p.ensures ∙ c.in_err-check_append_p-in-AppendRecord.was)))

pub returns-in_ok-check_append_p-in-AppendRecord : goal.returns-in_ok-check_append_p-in-AppendRecord
unfolding front rule
returns-in_ok-check_append_p-in-AppendRecord c = rw c.in-AppendRecord.is (c.check_write_case-in-AppendRecord.ensures ∙ sym (goes _ _ (sym c.check_append_p.ensures ∙ c.in_ok-check_append_p-in-AppendRecord.was)))

pub returns-in-Select : goal.returns-in-Select
unfolding checked
returns-in-Select c = let a = c.args in
    let s = c.in-Select.is in
    rw (no-front (coded_of a.h a.given.now a.code.now []) a.ins (λ q. grind (arith, s, q)) (λ q. grind (arith, s, q)) (λ q. grind (arith, s, q)) (λ q. grind (arith, s, q)) (λ q. grind (arith, s, q)))
